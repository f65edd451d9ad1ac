-- `mapped::map_answer` meets its contract: the wiring of the pins that are read, or why none are. Assumes nothing.
use native.Mathlib.Omega.{arith}
use Rattle.text.specs.Text.{answer_bytes}
use Rattle.text.proofs.Printing.{held}
use Rattle.printed.specs.Answers.{most_line_bytes}
use Rattle.mapped.proofs.Opening.{read_keeps_rules, answer_refused, answer_wired}
use Rattle.mapped.proofs.map_answer.Goals as goal

pub wire_opened-requires : goal.wire_opened-requires
wire_opened-requires c = read_keeps_rules c.args.map.now c.job_of_map-job.ensures c.read_under.ensures c.in-Ok.pins c.in-Ok.is

pub returns-in-Ok : goal.returns-in-Ok
returns-in-Ok c =
    held c.args.out.now answer_bytes (omega arith)
    (answer_wired c.args.map.now c.job_of_map-job.ensures c.read_under.ensures c.in-Ok.pins c.in-Ok.is c.wire_opened.ensures)
    c.print_map.ensures

pub returns-in-Err : goal.returns-in-Err
returns-in-Err c =
    held c.args.out.now most_line_bytes (omega arith)
    (answer_refused c.args.map.now c.job_of_map-job.ensures c.read_under.ensures c.in-Err.refusal c.in-Err.is)
    c.print_verdict.ensures
