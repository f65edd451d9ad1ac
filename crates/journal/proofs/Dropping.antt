-- The loop that drops a seat's records: what stands so far in front and what is still to come make up the whole. Assumes nothing.
use mathlib.Core.Path.{◌≡◌, refl, ap, sym, ◌∙◌}
use mathlib.Core.List.{List, [], ◌∷◌, ◌++◌, append_assoc, append-nil}
use Prim.Native.Nat.{ℕ, suc, ◌+◌, ◌-◌, ◌<◌, ◌≤◌}
use native.Mathlib.Omega.{arith}
use lib.ListN.{length, take, drop, get_or, set, replicate, length-set, length-take, length-drop, length-replicate, drop_of_length-le}
use lib.Seq.{length-take-le, take_all}
use Rattle.std.proofs.Common.{add-zero}
use Rattle.std.proofs.lemmas.Slice.{put_mid-paste}
use borrow.Rule.Slice.PartMut.{put_mid, mid_of}
use Rattle.std.proofs.lemmas.List.{drop-drop, drop-set-lt, get_or-drop, take_more_set}
use Rattle.basics.proofs.Lists.{front_of, none_left}
use Rattle.journal.specs.declared.Journal.{Journal}
use Rattle.journal.specs.declared.Record.{Record}
use Rattle.journal.specs.Journal.{most_records, blank, kept, filled, compacted}
use Rattle.journal.proofs.Own.{kept_nil, kept_here, kept-none, kept_past}

-- Of the first u of the records j, those before i are looked at: the first w of `out` are what is kept of them, and k of the seat's may still be kept.
-- From i on nothing is changed.
pub record Dropping (j : List Record) (u s keep i : ℕ) (out : List Record) (w k : ℕ) : Type 0 where
  pub before : w ≤ i
  pub sized : length out ≡ length j
  pub rest : drop i out ≡ drop i j
  pub whole : kept s keep (take u j) ≡ take w out ++ kept s k (drop i (take u j))

-- Before the loop nothing is looked at.
pub drop_start : (j : List Record) (u s keep : ℕ) → Dropping j u s keep 0 j 0 keep
drop_start j u s keep = record { before = omega arith; sized = refl; rest = refl; whole = refl }

-- One turn of the loop, at the record i.
module _ {j : List Record} {u s keep i : ℕ} {out : List Record} {w k : ℕ} (p : Dropping j u s keep i out w k) (f : u ≤ length j) (h : i < u) where
  -- It is as it was;
  pub seen : get_or out i blank ≡ get_or j i blank
  seen =
      let z : i + 0 ≡ i = add-zero i in
      ap (λ (n : ℕ). get_or out n blank) (sym z) ∙ sym (get_or-drop i out 0 blank) ∙ ap (λ (l : List Record). get_or l 0 blank) p.rest
      ∙ get_or-drop i j 0 blank ∙ ap (λ (n : ℕ). get_or j n blank) z

  -- so are those after it, whatever is written before.
  after : (m : List Record) → drop (i + 1) m ≡ drop (i + 1) out → drop (i + 1) m ≡ drop (i + 1) j
  after m e = e ∙ sym (drop-drop 1 i out) ∙ ap (drop 1) p.rest ∙ drop-drop 1 i j

  -- It is written after those kept.
  write : (n : ℕ) → kept s k (drop i (take u j)) ≡ get_or out i blank ∷ kept s n (drop (i + 1) (take u j))
      → Dropping j u s keep (i + 1) (set out w (get_or out i blank)) (w + 1) n
  write n e =
      let b : w ≤ i = p.before in
      record {
        before = omega arith;
        sized = length-set out w (get_or out i blank) ∙ p.sized;
        rest = after (set out w (get_or out i blank)) (drop-set-lt (i + 1) out w (get_or out i blank) (omega arith));
        whole = p.whole ∙ rw (e, take_more_set out w (get_or out i blank) (omega (arith, p.sized))) (sym (append_assoc (take w out) (get_or out i blank ∷ []) _));
      }

  left_one : 0 < k → k ≡ suc (k - 1)
  left_one z = omega arith

  -- One of the seat's, within those to keep.
  pub drop_keep : (get_or out i blank).seat ≡ s → 0 < k → Dropping j u s keep (i + 1) (set out w (get_or out i blank)) (w + 1) (k - 1)
  drop_keep e z =
      write (k - 1)
      (rw (front_of blank j u i f h, ← seen) (ap (λ (n : ℕ). kept s n (get_or out i blank ∷ drop (i + 1) (take u j))) (left_one z) ∙ kept_here s (get_or out i blank) _ (k - 1) e))

  -- One of another seat.
  pub drop_other : ((get_or out i blank).seat ≡ s → ⊥) → Dropping j u s keep (i + 1) (set out w (get_or out i blank)) (w + 1) k
  drop_other d = write k (rw (front_of blank j u i f h, ← seen) (kept_past s (get_or out i blank) _ k d))

  -- One of the seat's, beyond those to keep.
  pub drop_past : (get_or out i blank).seat ≡ s → k ≤ 0 → Dropping j u s keep (i + 1) out w k
  drop_past e z =
      let o : k ≡ 0 = omega arith in
      let b : w ≤ i = p.before in
      record {
        before = omega arith;
        sized = p.sized;
        rest = after out refl;
        whole = p.whole ∙ rw (front_of blank j u i f h, ← seen, o, kept-none s (get_or out i blank) (drop (i + 1) (take u j)) e);
      }

-- Blank records stored after the first w are those that fill a journal up.
blanked : (out : List Record) (w : ℕ) (new : List Record) → w ≤ length out → length out ≡ most_records
    → new ≡ replicate (length (mid_of w (most_records - w) out)) blank → put_mid w (most_records - w) out new ≡ filled (take w out)
unfolding filled
blanked out w new b e n =
    let m : length (mid_of w (most_records - w) out) ≡ most_records - w = simp (length-take, length-drop) (omega arith) in
    put_mid-paste w (most_records - w) out new (replicate (most_records - w) blank) (most_records - w) (n ∙ ap (λ (k : ℕ). replicate k blank) m) refl
    (sym (length-replicate (most_records - w) blank))
    ∙ rw (
      take_all (most_records - w) (replicate (most_records - w) blank) (omega (arith, length-replicate (most_records - w) blank)),
      drop_of_length-le out {i = w + (most_records - w)} (omega arith),
      length-take-le w out b,
    )
    (append-nil (take w out ++ replicate (most_records - w) blank))

-- After the loop:
module _ {j : List Record} {u s keep i : ℕ} {out : List Record} {w k : ℕ} (p : Dropping j u s keep i out w k) (f : u ≤ length j) (h : u ≤ i) where
  -- what is kept stands in front,
  whole_kept : kept s keep (take u j) ≡ take w out
  whole_kept = p.whole ∙ rw (none_left j u i h, kept_nil s k) (append-nil (take w out))

  -- and with blank records after it this is the journal.
  pub drop_end : {new : List Record} → i ≤ length j → length j ≡ most_records → new ≡ replicate (length (mid_of w (most_records - w) out)) blank
      → ◌≡◌ {A = Journal} (record { records = put_mid w (most_records - w) out new; used = w }) (compacted (kept s keep (take u j)))
  drop_end {new} g e n =
      let b : w ≤ length out = let b : w ≤ i = p.before in omega (arith, p.sized) in
      rw (whole_kept, blanked out w new b (p.sized ∙ e) n, length-take-le w out b)
