-- The list that a host lends.
use Rattle.std.specs.Prelude.{List, ◌++◌, take, drop}
use Rattle.copper.specs.declared.Leg.{Leg}
use Rattle.wiring.specs.declared.Laid.{Laid}
use Rattle.laying.specs.declared.Strip.{Strip}

-- The legs of an answer, with their number.
abbrev pub strip_of : Laid → Strip
strip_of laid = record { count = laid.wiring.legs; list = laid.list }

-- The list that was lent: its first entries are those of the strip, and entries after these keep what they held.
unfoldable pub filled_with : Strip → List Leg → List Leg
filled_with strip lent = take strip.count strip.list ++ drop strip.count lent
