-- The feed of a net that a call asks for: what is answered where it is given, and where 28, 1, 2 or 21 turns the call away. Assumes nothing.
use mathlib.Core.Path.{◌≡◌, ap, ◌∙◌}
use mathlib.Core.Bool.{true, false}
use mathlib.Core.List.{List}
use Prim.Native.Nat.{ℕ}
use Rattle.std.specs.Prelude.{Ok, Err}
use Rattle.refusal.specs.declared.Refusal.{Refusal}
use Rattle.refusal.specs.Refusals.{accepted}
use Rattle.refusal.specs.Rows.{first_of, granted}
use Rattle.board.specs.Spots.{Spot, all_within, all_apart}
use Rattle.drawing.specs.Pins.{feed_of, lawful}
use Rattle.drawing.proofs.Feeds.{feed_within, feed_apart}
use Rattle.rows.specs.declared.Found.{Found}
use Rattle.rows.specs.Found.{naming_net}
use Rattle.rows.proofs.Rows.{net_open, granted_ok, granted_err}

-- A feed was given: 28, 1, 2 and 21 are passed, and it is that of the net, whose pins are on the board and apart.
pub record Fed (f : Found) (net : ℕ) (feed : List Spot) : Type 0 where
  pub passed : first_of (naming_net f net) ≡ Ok tt
  pub told : feed ≡ feed_of f.state.pins net
  pub board : all_within feed ≡ true
  pub apart : all_apart feed ≡ true

-- What was asked for the feed.
module _ (f : Found) (net : ℕ) where
  -- It was given, since the pins of an open seat of a desk that is not broken keep the rules;
  pub fed : {feed : List Spot} → granted (first_of (naming_net f net)) (feed_of f.state.pins net) ≡ Ok feed
      → (f.broken ≡ false → f.state.opened ≡ true → lawful f.state.pins ≡ true) → Fed f net feed
  unfolding accepted
  fed {feed} e keeps =
      let (y, t) = granted_ok (first_of (naming_net f net)) (feed_of f.state.pins net) e in
      let n = net_open f.broken f.seat f.state.opened net (ap accepted y) in
      let k = keeps n.unbroken n.shown in
      record {
        passed = y;
        told = t;
        board = ap all_within t ∙ feed_within _ net k;
        apart = ap all_apart t ∙ feed_apart _ net k;
      }

  -- or the rows turned the call away.
  pub unfed : {r : Refusal} → granted (first_of (naming_net f net)) (feed_of f.state.pins net) ≡ Err r → first_of (naming_net f net) ≡ Err r
  unfed e = granted_err (first_of (naming_net f net)) (feed_of f.state.pins net) e
