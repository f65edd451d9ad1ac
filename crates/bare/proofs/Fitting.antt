-- The legs of bare wiring fit: they are never more than 62, and never more than the room that is lent. Assumes nothing.
use mathlib.Core.List.{List}
use Prim.Native.Nat.{ℕ}
use lib.IntN.{ℤ}
use Rattle.refusal.specs.Refusals.{accepted}
use Rattle.refusal.specs.Rows.{first_of}
use Rattle.wiring.specs.Answer.{wiring_of}
use Rattle.lent.proofs.Fitting.{Fits, fits-either, wiring_fits}
use Rattle.bare.specs.Bare.{feed_of_lists, list_rows, bare_of}
use Rattle.bare.proofs.Feeds.{feed_many}
use Rattle.copper.specs.declared.Favour.{Favour}

-- The legs of bare wiring are at most 62, and at most the room.
pub bare_fits : (xs ys : List ℤ) (room : ℕ) (favour : Favour) → Fits room (bare_of xs ys room favour)
unfolding bare_of
bare_fits xs ys room favour =
    let v = first_of (list_rows xs ys) in
    fits-either (accepted v) v room (wiring_of (feed_of_lists xs ys) room favour)
    (λ e. wiring_fits (feed_of_lists xs ys) room favour (feed_many xs ys))
