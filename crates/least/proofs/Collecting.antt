-- The runs that lead on from a pin are asked one after the other: what is kept of them on the way, and what the pin and the run answer.
-- From the laws of one step and the bounds of costs. Assumes nothing.
use mathlib.Core.Path.{◌≡◌, refl, sym, ap, ◌∙◌}
use mathlib.Core.Bool.{Bool, true, false, not}
use mathlib.Core.List.{List, [], ◌∷◌}
use Prim.Native.Nat.{ℕ, zero, suc, ◌+◌, ◌-◌, ◌*◌, ◌^◌, ◌≤◌, ◌<◌}
use native.Mathlib.Nat.{mul-le-mul}
use native.Mathlib.Omega.{arith}
use lib.ListN.{length, get_or, set, replicate, length-set}
use lib.Seq.{get_or-set_same, get_or-set_other}
use lib.Dec.{eqb}
use lib.Pow.{pow_mono}
use borrow.Author.Tests.{eqb-true, eqb-false, not-true, not-false}
use Rattle.basics.specs.Tests.{choose}
use Rattle.basics.proofs.Lists.{blank_at}
use Rattle.board.specs.declared.Place.{Place}
use Rattle.board.specs.Place.{is_straight, inside}
use Rattle.board.specs.Spots.{place_in}
use Rattle.tree.specs.Trees.{most_runs}
use Rattle.copper.specs.declared.Tally.{Tally}
use Rattle.copper.specs.Shapes.{shape_of}
use Rattle.copper.specs.Arms.{reached_by}
use Rattle.copper.specs.Least.{is_bent, first_tally}
use Rattle.least.specs.declared.Asked.{Asked}
use Rattle.least.specs.declared.Costs.{Costs}
use Rattle.least.specs.declared.Least.{Least}
use Rattle.least.specs.Asking.{base, near_pin, unasked, kept, mark_of, doubled_if, is_bent_into, pin_best, run_best, choices_from, weighed_from, weighed_below, asked_pin, asked_run, least_kept, asked_kept, size_from, most_kept, KeptFits, Weighable, Answerable, Askable}
use Rattle.least.proofs.Reading.{mark_small}
use Rattle.least.proofs.Modesty.{modest_first}
use Rattle.least.proofs.Stepping.{choices_sum, weighed_split, weighed_on, weighed_past, weighed_end, size_on, size_past, kept_best}
use Rattle.least.proofs.Bounds.{most, each, cost_most, choices_most, doubled_choices, found_few, below_most}
use Rattle.least.proofs.Weighing.{doubled_bent, doubled_straight}

-- At a pin that no bent run reached it does not matter which shape is asked for.
one_shape : (at : ℕ → Place) (near : ℕ → ℕ) (i : ℕ) → is_bent_into at near i ≡ false → first_tally at near i true ≡ first_tally at near i false
unfolding is_bent_into first_tally is_bent reached_by shape_of choose
one_shape at near zero e = refl
one_shape at near (suc r) e = rw (not-false (is_straight (at (near r)) (at (suc r))) e)

-- The runs of pin i before run r were asked; `weighed` choices were weighed for them.
pub record Collecting (places : List Place) (nears : List ℕ) (n i : ℕ) (favoured : Bool) (asked : List Costs) (weighed r : ℕ) : Type 0 where
  pub ask : Askable nears n i
  pub long : length asked ≡ most_runs
  pub fits : KeptFits asked
  pub from : i ≤ r
  pub to : r ≤ n
  pub small : size_from (near_pin nears) (n - r) i r ≤ most_runs
  pub known :
      (q : ℕ) → q < r → i ≤ q → near_pin nears q ≡ i → (u : Bool) → kept asked q u ≡ run_best (place_in places) (near_pin nears) favoured n q u
  pub sum :
      weighed + weighed_from (place_in places) (near_pin nears) (n - r) i r 0 ≡ weighed_from (place_in places) (near_pin nears) (n - i) i i 0

-- A tree of at most 31 runs with all pins on the board, and a pin of it.
module _ (places : List Place) (nears : List ℕ) (n i : ℕ) (few : n ≤ most_runs) (on_board : (j : ℕ) → inside (place_in places j) ≡ true) where
  -- Where its pins stand,
  abbrev at : ℕ → Place
  at = place_in places

  -- and the near pins of its runs.
  abbrev near : ℕ → ℕ
  near = near_pin nears

  -- Once its runs were asked.
  module _ (asked : List Costs) (c : Answerable asked n i) where
    -- What is kept for them.
    abbrev cost : ℕ → Bool → ℕ
    cost = kept asked

    -- The shapes of its runs can be weighed.
    pub weighs : (v : Bool) (s : Tally) → s ≡ first_tally at near i v → Weighable asked s
    weighs v s e = record { fits = c.fits; modest = rw e (modest_first at near on_board i v) }

    module _ (f : Least) (s : Tally) (es : s ≡ first_tally at near i false) (ef : f ≡ least_kept at near cost n i i s) where
      -- A pin that a straight run reached, or none.
      pub answer_straight : (b : Bool) → b ≡ is_bent_into at near i → not b ≡ true
          → record { lower = f.cost; upper = f.cost; weighed = f.weighed } ≡ asked_kept at near cost n i
      unfolding asked_kept least_kept
      answer_straight b eb no' =
          let k : is_bent_into at near i ≡ false = sym eb ∙ not-true b no' in
          rw (ef, es, doubled_straight (is_bent_into at near i) k, one_shape at near i k)

      -- A pin that a bent run reached: the choices for both shapes fit ..
      module _ (g : Least) (v : Tally) (ev : v ≡ first_tally at near i true) (eg : g ≡ least_kept at near cost n i i v) where
        pub fits_two : f.weighed + g.weighed < 18446744073709551616
        fits_two =
            omega (arith, found_few at near cost n i i f s few ef, found_few at near cost n i i g v few eg)

        -- .. and it answers with what either shape costs.
        pub answer_bent : (b : Bool) → b ≡ is_bent_into at near i → not b ≡ false
            → record { lower = f.cost; upper = g.cost; weighed = f.weighed + g.weighed } ≡ asked_kept at near cost n i
        unfolding asked_kept least_kept
        answer_bent b eb yes' =
            let k : is_bent_into at near i ≡ true = sym eb ∙ not-false b yes' in
            rw (ef, es, eg, ev, doubled_bent (is_bent_into at near i) k, choices_sum at near (n - i) i i 1 1)

  -- The choices weighed below a pin are at most those of 31 runs.
  few_below : Askable nears n i → weighed_from at near (n - i) i i 0 ≤ most_runs * base
  few_below a =
      let k : n - i ≤ most_runs = omega (arith, few) in
      let p : 2 ^ (n - i) ≤ 2 ^ most_runs = pow_mono k in
      let q : (n - i) * 2 ^ (n - i) ≤ most_runs * 2 ^ most_runs = mul-le-mul k p in
      omega (arith, below_most at near (n - i) i i, q)

  -- Those at the pin are at most two for each choice of shapes.
  few_here : Askable nears n i → choices_from at near (n - i) i i (doubled_if (is_bent_into at near i) 1) ≤ 2 * base
  few_here a =
      let p : 2 ^ (n - i) ≤ 2 ^ most_runs = pow_mono (let k : n - i ≤ most_runs = omega (arith, few) in k) in
      omega (arith, doubled_choices at near (is_bent_into at near i) (n - i) i i, choices_most at near (n - i) i i, p)

  module _ (favoured : Bool) where
    -- A pin costs at most so much for each of 31 runs, and what it owes itself.
    pin_most : Askable nears n i → (v : Bool) → pin_best at near favoured n i v ≤ most_runs * each + most
    unfolding pin_best
    pin_most a v =
        omega (
          arith,
          a.small,
          cost_most at near favoured on_board (n - i) i i (first_tally at near i v) (modest_first at near on_board i v),
        )

    -- Before the first run of a pin nothing is asked yet.
    pub begin : Askable nears n i → Collecting places nears n i favoured (replicate most_runs unasked) 0 i
    unfolding KeptFits
    begin a =
        record {
          ask = a;
          long = refl;
          fits = λ r u. none r u;
          from = omega arith;
          to = a.upto;
          small = a.small;
          known = λ r l h. absurd (omega arith);
          sum = omega arith;
        }
      where
        blank : (r : ℕ) → get_or (replicate most_runs unasked) r unasked ≡ unasked
        blank r = blank_at most_runs r unasked

        none : (r : ℕ) (u : Bool) → kept (replicate most_runs unasked) r u ≤ most_kept
        none r false = rw (blank r) (omega arith)
        none r true = rw (blank r) (omega arith)

    module _ (l : List Costs) (w r : ℕ) (c : Collecting places nears n i favoured l w r) where
      -- A run to be asked has its entry ..
      pub room : r < n → r < most_runs
      room h = omega (arith, few)

      -- .. and where it leads on from the pin, its far pin can be asked.
      pub asks : r < n → near r ≡ i → Askable nears n (r + 1)
      asks h e = record { upto = omega arith; small = omega (arith, c.small, size_on at near n i r h e) }

      -- A run of another pin is passed by.
      pub miss : r < n → (near r ≡ i → ⊥) → Collecting places nears n i favoured l w (r + 1)
      miss h e =
          record {
            ask = c.ask;
            long = c.long;
            fits = c.fits;
            from = omega (arith, c.from);
            to = omega arith;
            small = omega (arith, c.small, size_past at near n i r h e);
            known = λ q b k z. go q b k z (eqb q r) refl;
            sum = omega (arith, c.sum, weighed_past at near n i r h e);
          }
        where
          go : (q : ℕ) → q < r + 1 → i ≤ q → near q ≡ i → (t : Bool) → eqb q r ≡ t → (v : Bool) → kept l q v ≡ run_best at near favoured n q v
          go q b k z true y = absurd (e (ap near (sym (eqb-true q r y)) ∙ z))
          go q b k z false y = let ne : q ≡ r → ⊥ = eqb-false q r y in c.known q (omega (arith, ne)) k z

      module _ (h : r < n) (e : near r ≡ i) (a : Asked) (g : a ≡ asked_run at near favoured n r) where
        -- Of what the run answers this is kept:
        abbrev costs : Costs
        costs = record { lower = a.lower; upper = a.upper }

        -- its costs in either shape;
        cost_is : (v : Bool) → kept (costs ∷ []) 0 v ≡ run_best at near favoured n r v
        unfolding asked_run
        cost_is false = ap (λ (z : Asked). z.lower) g
        cost_is true = ap (λ (z : Asked). z.upper) g

        -- and these are the choices weighed for it.
        weighed_is : a.weighed ≡ weighed_below at near n (r + 1)
        unfolding asked_run
        weighed_is = ap (λ (z : Asked). z.weighed) g

        -- These still fit with those before ..
        pub adds : w + a.weighed < 18446744073709551616
        adds = omega (arith, weighed_is, c.sum, weighed_on at near n i r h e, few_below c.ask)

        -- .. what it costs may be kept ..
        run_most : (v : Bool) → run_best at near favoured n r v ≤ most_kept
        unfolding run_best pin_best
        run_most v =
            let z = asks h e in
            omega (
              arith,
              z.small,
              mark_small favoured v r,
              cost_most at near favoured on_board (n - (r + 1)) (r + 1) (r + 1) (first_tally at near (r + 1) v) (modest_first at near on_board (r + 1) v),
            )

        -- .. is kept for the run ..
        kept_same : (v : Bool) → kept (set l r costs) r v ≡ run_best at near favoured n r v
        kept_same false = ap (λ (z : Costs). z.lower) (get_or-set_same l r costs unasked (omega (arith, c.long, room h))) ∙ cost_is false
        kept_same true = ap (λ (z : Costs). z.upper) (get_or-set_same l r costs unasked (omega (arith, c.long, room h))) ∙ cost_is true

        -- .. and for no other.
        kept_other : (q : ℕ) → (q ≡ r → ⊥) → (v : Bool) → kept (set l r costs) q v ≡ kept l q v
        kept_other q ne false = ap (λ (z : Costs). z.lower) (get_or-set_other l r q costs unasked ne)
        kept_other q ne true = ap (λ (z : Costs). z.upper) (get_or-set_other l r q costs unasked ne)

        -- The run was asked.
        pub hit : Collecting places nears n i favoured (set l r costs) (w + a.weighed) (r + 1)
        unfolding KeptFits
        hit =
            record {
              ask = c.ask;
              long = length-set l r costs ∙ c.long;
              fits = λ q v. small q v (eqb q r) refl (c.fits q v);
              from = omega (arith, c.from);
              to = omega arith;
              small = omega (arith, c.small, size_on at near n i r h e);
              known = λ q b k z. go q b k z (eqb q r) refl;
              sum = omega (arith, c.sum, weighed_is, weighed_on at near n i r h e);
            }
          where
            small : (q : ℕ) (v : Bool) (t : Bool) → eqb q r ≡ t → kept l q v ≤ most_kept → kept (set l r costs) q v ≤ most_kept
            small q v true y m = rw (eqb-true q r y, kept_same v) (run_most v)
            small q v false y m = rw (kept_other q (eqb-false q r y) v) m

            go : (q : ℕ) → q < r + 1 → i ≤ q → near q ≡ i → (t : Bool) → eqb q r ≡ t → (v : Bool)
                → kept (set l r costs) q v ≡ run_best at near favoured n q v
            go q b k z true y v = rw (eqb-true q r y) (kept_same v)
            go q b k z false y v = let ne : q ≡ r → ⊥ = eqb-false q r y in kept_other q ne v ∙ c.known q (omega (arith, ne)) k z v

      -- All were asked: the pin can answer ..
      pub answers : Answerable l n i
      answers = record { fits = c.fits; upto = c.ask.upto }

      module _ (h : n ≤ r) (a : Asked) (g : a ≡ asked_kept at near (kept l) n i) where
        -- .. the choices at the pin fit with those below it ..
        pub fits_all : w + a.weighed < 18446744073709551616
        unfolding asked_kept
        fits_all =
            let z : a.weighed ≡ choices_from at near (n - i) i i (doubled_if (is_bent_into at near i) 1) = ap (λ (y : Asked). y.weighed) g in
            omega (arith, z, c.sum, few_below c.ask, few_here c.ask)

        -- .. and with them it is what the pin answers.
        pub pin_answers : record { lower = a.lower; upper = a.upper; weighed = w + a.weighed } ≡ asked_pin at near favoured n i
        unfolding asked_pin asked_kept pin_best weighed_below
        pin_answers =
            let known : (q : ℕ) → i ≤ q → q < n → near q ≡ i → (v : Bool) → kept l q v ≡ run_best at near favoured n q v =
            λ q b k z. c.known q (omega arith) b z in
            let d = doubled_if (is_bent_into at near i) 1 in
            let below : w ≡ weighed_from at near (n - i) i i 0 = omega (arith, c.sum, weighed_end at near n i r h) in
            let z : w + choices_from at near (n - i) i i d ≡ weighed_from at near (n - i) i i d = omega (arith, weighed_split at near (n - i) i i d, below) in
            rw (
              g,
              kept_best at near favoured n i (kept l) (n - i) i (first_tally at near i false) refl known,
              kept_best at near favoured n i (kept l) (n - i) i (first_tally at near i true) refl known,
              z,
            )

    -- The run that reaches pin i asks it.
    module _ (r : ℕ) (e : r + 1 ≡ i) (a : Askable nears n i) (f : Asked) (g : f ≡ asked_pin at near favoured n i) where
      -- The pin's cost fits with the mark of the run in the lower shape ..
      pub fits_lower : (m : ℕ) → m ≡ mark_of favoured r false → m + f.lower < 18446744073709551616
      unfolding asked_pin
      fits_lower m em =
          let z : f.lower ≡ pin_best at near favoured n i false = ap (λ (y : Asked). y.lower) g in
          omega (arith, z, pin_most a false, mark_small favoured false r)

      -- .. and in the upper ..
      pub fits_upper : (m : ℕ) → m ≡ mark_of favoured r true → m + f.upper < 18446744073709551616
      unfolding asked_pin
      fits_upper m em =
          let z : f.upper ≡ pin_best at near favoured n i true = ap (λ (y : Asked). y.upper) g in
          omega (arith, z, pin_most a true, mark_small favoured true r)

      -- .. and these are what the run answers.
      pub run_answer : (m o : ℕ) → m ≡ mark_of favoured r false → o ≡ mark_of favoured r true
          → record { lower = m + f.lower; upper = o + f.upper; weighed = f.weighed } ≡ asked_run at near favoured n r
      unfolding asked_run asked_pin run_best
      run_answer m o em eo = rw (em, eo, g, e)
