-- What document 02, [5] says of an accepted list of segments, beside the wiring of the same copper.
use Rattle.std.specs.Prelude.{◌≡◌, List, ◌≤◌, length, take}
use Rattle.copper.specs.declared.Leg.{Leg}
use Rattle.wiring.specs.declared.Laid.{Laid}
use Rattle.laying.specs.Entries.{most_legs}
use Rattle.wiring.specs.Demand.{legs_in}
use Rattle.mill.specs.declared.Cut.{Cut}
use Rattle.mill.specs.Segments.{CleanList, SameSteps, total_length}

-- The segments of an answer: as many as it says.
abbrev pub segments_in : Cut → List Leg
segments_in cut = take cut.milling.segments cut.list

-- THE COPPER OF A WIRING AS SEGMENTS:
pub record CleanCopper (laid : Laid) (cut : Cut) : Type 0 where
  -- they are a clean list,
  pub clean : CleanList (segments_in cut)
  -- so many;
  pub number : cut.milling.segments ≡ length (segments_in cut)
  -- they cover exactly the steps that the legs cover;
  pub covers : SameSteps (segments_in cut) (legs_in laid)
  -- their lengths add up to the reported length;
  pub adds_up : total_length (segments_in cut) ≡ laid.wiring.length
  -- there are at most 62, and no more than legs;
  pub few : (cut.milling.segments ≤ most_legs) × (cut.milling.segments ≤ laid.wiring.legs)
  -- and no other clean list covers these steps.
  pub only : (l : List Leg) → CleanList l → SameSteps l (legs_in laid) → l ≡ segments_in cut
