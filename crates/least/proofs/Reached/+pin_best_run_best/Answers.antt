-- `least::Reached::pin_best` and `least::Reached::run_best` meet their contracts: the pin's function asks the runs that lead on from it, a run's the
-- pin at its far end. Assumes nothing.
use mathlib.Core.Path.{refl}
use native.Mathlib.Omega.{arith}
use Rattle.least.proofs.Collecting.{begin, asks, miss, adds, hit, answers, fits_all, pin_answers, fits_lower, fits_upper, run_answer}
use Rattle.least.proofs.Reached.+pin_best_run_best.Goals.{pin_best-then-self-run, pin_best-else-self-run}
use Rattle.least.proofs.Reached.+pin_best_run_best.Goals as goal

pub pin_best-loop-run-init : goal.pin_best-loop-run-init
pin_best-loop-run-init t c =
    let s = c.args.self.now in
    begin _ _ _ _ s.few s.on_board _ c.requires

pub pin_best-run_best-far-requires : goal.pin_best-run_best-far-requires
pin_best-run_best-far-requires t c =
    let s = c.args.self.now in (
      omega (arith, c.decreases, c.loop-run-test.true, c.loop-run.invariant.from),
      asks _ _ _ _ s.few s.on_board _ _ _ _ c.loop-run.invariant c.loop-run-test.true c.if-self-run.true,
    )

pub pin_best-overflow_add-weighed : goal.pin_best-overflow_add-weighed
pin_best-overflow_add-weighed t c =
    let s = c.args.self.now in
    record { fits = adds _ _ _ _ s.few s.on_board _ _ _ _ c.loop-run.invariant c.loop-run-test.true c.if-self-run.true _ c.run_best-far.ensures }

pub pin_best-loop-run-preserved : goal.pin_best-loop-run-preserved
pin_best-loop-run-preserved t c =
    let s = c.args.self.now in
    elim c.if-self-run.branch [
      | pin_best-then-self-run w ↦
          rw (w.asked-is, w.weighed-is)
          (hit _ _ _ _ s.few s.on_board _ _ _ _ c.loop-run.invariant c.loop-run-test.true w.if-self-run.true _ w.run_best-far.ensures)
      | pin_best-else-self-run w ↦
          rw (w.asked-is, w.weighed-is) (miss _ _ _ _ s.few s.on_board _ _ _ _ c.loop-run.invariant c.loop-run-test.true w.if-self-run.false)
    ]

pub pin_best-pin_answer-here-requires : goal.pin_best-pin_answer-here-requires
pin_best-pin_answer-here-requires t c =
    let s = c.args.self.now in
    answers _ _ _ _ s.few s.on_board _ _ _ _ c.loop-run.invariant

pub pin_best-overflow_add-result : goal.pin_best-overflow_add-result
pin_best-overflow_add-result t c =
    let s = c.args.self.now in
    record { fits = omega (arith, fits_all _ _ _ _ s.few s.on_board _ _ _ _ c.loop-run.invariant c.loop-run-test.false _ c.pin_answer-here.ensures) }

pub pin_best-returns : goal.pin_best-returns
pin_best-returns t c =
    let s = c.args.self.now in
    pin_answers _ _ _ _ s.few s.on_board _ _ _ _ c.loop-run.invariant c.loop-run-test.false _ c.pin_answer-here.ensures

pub run_best-pin_best-far-requires : goal.run_best-pin_best-far-requires
run_best-pin_best-far-requires t c = (omega (arith, c.decreases), c.requires)

pub run_best-overflow_add-result : goal.run_best-overflow_add-result
run_best-overflow_add-result t c =
    let s = c.args.self.now in
    record { fits = fits_lower _ _ _ _ s.few s.on_board _ _ refl c.requires _ c.pin_best-far.ensures _ c.mark-low.ensures }

pub run_best-overflow_add-result-2 : goal.run_best-overflow_add-result-2
run_best-overflow_add-result-2 t c =
    let s = c.args.self.now in
    record { fits = fits_upper _ _ _ _ s.few s.on_board _ _ refl c.requires _ c.pin_best-far.ensures _ c.mark-up.ensures }

pub run_best-returns : goal.run_best-returns
run_best-returns t c =
    let s = c.args.self.now in
    run_answer _ _ _ _ s.few s.on_board _ _ refl c.requires _ c.pin_best-far.ensures _ _ c.mark-low.ensures c.mark-up.ensures
