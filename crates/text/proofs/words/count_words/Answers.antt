-- `text::words::count_words` meets its contract. Assumes nothing.
use Rattle.std.proofs.Common.{◌≡◌, ◌<◌, length, arith, rules, tests}
use Rattle.text.proofs.Library.{rest_from}
use Rattle.text.proofs.Cutting.{count_none, count_more, count_done}
use Rattle.text.proofs.words.count_words.Goals as goal

pub loop-rest-init : goal.loop-rest-init
loop-rest-init c = count_none c.args.text.now c.without_spaces-rest.ensures

pub overflow_add-count : goal.overflow_add-count
overflow_add-count c =
    let rest = c.loop-rest.rest.now in
    let some : 0 < length rest = search (rules, tests) in
    omega (arith, c.loop-rest.invariant.bytes)

pub loop-rest-smaller : goal.loop-rest-smaller
loop-rest-smaller c =
    let rest = c.loop-rest.rest.now in
    let some : 0 < length rest = search (rules, tests) in
    (count_more c.args.text.now c.loop-rest.invariant some c.stop_at.ensures (rw (← (rest_from c.stop_at.result rest)) c.without_spaces-rest-in-loop-rest.ensures)).1

pub loop-rest-preserved : goal.loop-rest-preserved
loop-rest-preserved c =
    let rest = c.loop-rest.rest.now in
    let some : 0 < length rest = search (rules, tests) in
    (count_more c.args.text.now c.loop-rest.invariant some c.stop_at.ensures (rw (← (rest_from c.stop_at.result rest)) c.without_spaces-rest-in-loop-rest.ensures)).0

pub returns : goal.returns
returns c =
    let none : length c.loop-rest.rest.now ≡ 0 = search (rules, tests) in
    count_done c.args.text.now c.loop-rest.invariant none
