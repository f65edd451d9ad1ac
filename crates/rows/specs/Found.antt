-- What a call finds at the seat that it names, and what follows from it.
use Rattle.std.specs.Prelude.{not, List, ℕ, leb, get_or}
use Rattle.basics.specs.Tests.{choose}
use Rattle.refusal.specs.Refusals.{accepted}
use Rattle.refusal.specs.Rows.{Row, first_of}
use Rattle.board.specs.Spots.{Spot}
use Rattle.wiring.specs.declared.Laid.{Laid}
use Rattle.wiring.specs.Answer.{wiring_of, turned_away}
use Rattle.journal.specs.declared.Journal.{Journal}
use Rattle.journal.specs.Journal.{most_seats}
use Rattle.seats.specs.declared.Seat.{Seat}
use Rattle.seats.specs.Seats.{closed_seat, no_seat}
use Rattle.sound.specs.Sound.{sound_all}
use Rattle.rows.specs.declared.Found.{Found}
use Rattle.rows.specs.Refusals.{naming_rows, naming_net_rows}
use Rattle.copper.specs.declared.Favour.{Favour}

-- What a call finds on these seats and this journal: whether they are not sound, and the state of the seat that it names, a closed one's above 7.
abbrev pub found_in : List Seat → Journal → ℕ → Found
found_in l journal s =
    record { broken = not (sound_all l journal); seat = s; state = choose (leb most_seats s) closed_seat (get_or l s no_seat) }

-- 28, 1 and 2 of what is found.
abbrev pub naming_found : Found → List Row
naming_found f = naming_rows f.broken f.seat f.state.opened

-- These, and 21 of the net that the call names.
abbrev pub naming_net : Found → ℕ → List Row
naming_net f net = naming_net_rows f.broken f.seat f.state.opened net

-- Wiring a feed, with room for so many legs, where these rows come first: they turn it away, or it is wired, which 17 or 19 may turn away.
abbrev pub wired_by : List Row → List Spot → ℕ → Favour → Laid
wired_by rows feed room favour = choose (accepted (first_of rows)) (wiring_of feed room favour) (turned_away (first_of rows))
