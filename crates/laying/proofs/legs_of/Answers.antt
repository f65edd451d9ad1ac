-- `laying::legs_of` meets its contract: the legs are put entry by entry. Assumes nothing.
use Rattle.laying.proofs.Filling.{put_none, put_one, put_two, put_all}
use Rattle.laying.proofs.legs_of.Goals.{then-more-eq2, else-more-eq2}
use Rattle.laying.proofs.legs_of.Goals as goal

pub loop-entry-init : goal.loop-entry-init
loop-entry-init c = put_none _ _ c.requires

pub loop-entry-preserved : goal.loop-entry-preserved
loop-entry-preserved c =
    let first = c.first_leg.ensures in
    let count = c.leg_count-more.ensures in
    let near = c.place_at-near.ensures in
    let far = c.place_at-far.ensures in
    elim c.if-more-eq2.branch [
      | then-more-eq2 w ↦
          rw w.list-is
          (put_two _ _ c.requires _ _ _ _ c.loop-entry-test.true c.loop-entry.invariant _ _ _ _ near far count first w.second_leg.ensures w.if-more-eq2.true)
      | else-more-eq2 w ↦
          rw w.list-is (put_one _ _ c.requires _ _ _ _ c.loop-entry-test.true c.loop-entry.invariant _ _ _ near far count first w.if-more-eq2.false)
    ]

pub returns : goal.returns
returns c = put_all _ _ c.requires _ _ _ c.loop-entry-test.false c.loop-entry.invariant
