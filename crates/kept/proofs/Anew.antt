-- Ranked anew: of the segments that stay each has a rank of its own below their number, full ones before the rest. Assumes nothing.
use Prim.Native.Nat.{ℕ, ◌+◌, ◌≤◌, ◌<◌}
use native.Mathlib.Omega.{arith}
use native.Mathlib.Decide.{dec_lt}
use mathlib.Core.Path.{◌≡◌, refl, sym, ap, ◌∙◌}
use mathlib.Core.Logic.{◌≢◌}
use mathlib.Core.Bool.{Bool, true, false, not, ◌&&◌, true≢false}
use mathlib.Core.List.{List}
use lib.Dec.{eqb, ltb}
use borrow.Author.Tests.{eq-eqb, eqb-true, ltb-true, lt-ltb, le-ltb, not-true}
use Rattle.model.specs.Below.{count_below, one_if}
use Rattle.model.specs.View.{segments, class, rank}
use Rattle.model.specs.Standing.{in_pool}
use Rattle.model.specs.Calls.{stays, stays_full, staying, staying_full, ranked_before, new_rank}
use Rattle.laws.proofs.Below.{count_below_le}
use Rattle.soundness.proofs.Tests.{and_left, and_right, and_intro}
use Rattle.soundness.proofs.Facts.{Sound, Member}
use Rattle.soundness.proofs.Ranks.{count_below_parts, rank_apart}
use Rattle.kept.proofs.Counts.{count_below_less}

module _ (ws L : List ℕ) where
  -- the two groups of those that stay
  abbrev rest : ℕ → Bool
  rest s = stays ws L s && not (stays_full ws L s)

  -- a segment of class i in a group
  abbrev grouped : (ℕ → Bool) → ℕ → ℕ → Bool
  grouped group i s = eqb (class ws s) i && group s

  pub full_stays : (s : ℕ) → stays_full ws L s ≡ true → stays ws L s ≡ true
  unfolding stays_full
  full_stays s h = and_left (stays ws L s) _ h

  -- those that stay are the full ones and the rest
  pub staying_parts : (i : ℕ) → staying ws L i ≡ staying_full ws L i + count_below (segments ws) (grouped rest i)
  unfolding staying staying_full
  staying_parts i =
      count_below_parts (segments ws) (grouped (stays ws L) i) (grouped (stays_full ws L) i) (grouped rest i)
      (λ s _. split (eqb (class ws s) i) (stays ws L s) (stays_full ws L s) (full_stays s))
    where
      split : (c a f : Bool) → (f ≡ true → a ≡ true) → one_if (c && a) ≡ one_if (c && f) + one_if (c && (a && not f))
      split true true true h = refl
      split true true false h = refl
      split true false true h = absurd (true≢false (sym (h refl)))
      split true false false h = refl
      split false a f h = refl

  -- ---- within a group

  module _ (group : ℕ → Bool) where
    -- in its group a segment has fewer before it than there are
    before_few : (s : ℕ) → s < segments ws → group s ≡ true
        → ranked_before ws group s < count_below (segments ws) (grouped group (class ws s))
    unfolding ranked_before
    before_few s below h =
        count_below_less (λ t. eqb (class ws t) (class ws s) && (group t && ltb (rank ws t) (rank ws s))) (grouped group (class ws s)) (segments ws) s below
        (own (eqb (class ws s) (class ws s)) (group s) (le-ltb (rank ws s) (rank ws s) (omega arith)))
        (and_intro _ _ (eq-eqb (class ws s) (class ws s) refl) h)
        (λ t _ u. and_intro (eqb (class ws t) (class ws s)) (group t)
        (and_left (eqb (class ws t) (class ws s)) (group t && ltb (rank ws t) (rank ws s)) u)
        (and_left (group t) (ltb (rank ws t) (rank ws s)) (and_right (eqb (class ws t) (class ws s)) (group t && ltb (rank ws t) (rank ws s)) u)))
      where
        own : (c g : Bool) {x : Bool} → x ≡ false → (c && (g && x)) ≡ false
        own true true e = e
        own true false e = refl
        own false g e = refl

    -- and fewer than one of a higher former rank
    before_less : (s t : ℕ) → s < segments ws → group s ≡ true → class ws s ≡ class ws t → rank ws s < rank ws t
        → ranked_before ws group s < ranked_before ws group t
    unfolding ranked_before
    before_less s t below h same lower =
        count_below_less (λ u. eqb (class ws u) (class ws s) && (group u && ltb (rank ws u) (rank ws s)))
        (λ u. eqb (class ws u) (class ws t) && (group u && ltb (rank ws u) (rank ws t))) (segments ws) s below
        (own (eqb (class ws s) (class ws s)) (group s) (le-ltb (rank ws s) (rank ws s) (omega arith)))
        (and_intro (eqb (class ws s) (class ws t)) (group s && ltb (rank ws s) (rank ws t)) (eq-eqb (class ws s) (class ws t) same)
        (and_intro (group s) (ltb (rank ws s) (rank ws t)) h (lt-ltb (rank ws s) (rank ws t) lower)))
        (λ u _ e. onward u (and_left (eqb (class ws u) (class ws s)) (group u && ltb (rank ws u) (rank ws s)) e)
        (and_right (eqb (class ws u) (class ws s)) (group u && ltb (rank ws u) (rank ws s)) e))
      where
        own : (c g : Bool) {x : Bool} → x ≡ false → (c && (g && x)) ≡ false
        own true true e = e
        own true false e = refl
        own false g e = refl

        onward : (u : ℕ) → eqb (class ws u) (class ws s) ≡ true → (group u && ltb (rank ws u) (rank ws s)) ≡ true
            → (eqb (class ws u) (class ws t) && (group u && ltb (rank ws u) (rank ws t))) ≡ true
        onward u c e =
            let under : rank ws u < rank ws s = ltb-true (rank ws u) (rank ws s) (and_right (group u) (ltb (rank ws u) (rank ws s)) e) in
            and_intro (eqb (class ws u) (class ws t)) (group u && ltb (rank ws u) (rank ws t))
            (eq-eqb (class ws u) (class ws t) (eqb-true (class ws u) (class ws s) c ∙ same))
            (and_intro (group u) (ltb (rank ws u) (rank ws t)) (and_left (group u) (ltb (rank ws u) (rank ws s)) e) (lt-ltb (rank ws u) (rank ws t) (omega arith)))

  -- ---- the new ranks

  pub rank_full : (s : ℕ) → stays_full ws L s ≡ true → new_rank ws L s ≡ ranked_before ws (stays_full ws L) s
  unfolding new_rank
  rank_full s h = rw h

  pub rank_rest : (s : ℕ) → stays_full ws L s ≡ false → new_rank ws L s ≡ staying_full ws L (class ws s) + ranked_before ws rest s
  unfolding new_rank
  rank_rest s h = rw h

  rest_is : (s : ℕ) → stays ws L s ≡ true → stays_full ws L s ≡ false → rest s ≡ true
  rest_is s h f = and_intro (stays ws L s) (not (stays_full ws L s)) h (ap not f)

  -- full ones have the ranks below their number
  pub full_below : (s : ℕ) → s < segments ws → stays_full ws L s ≡ true → new_rank ws L s < staying_full ws L (class ws s)
  unfolding staying_full
  full_below s below h = rw (rank_full s h) (before_few (stays_full ws L) s below h)

  -- the rest have those from there on
  pub rest_from : (s : ℕ) → stays_full ws L s ≡ false → staying_full ws L (class ws s) ≤ new_rank ws L s
  rest_from s f = omega (arith, rank_rest s f)

  pub new_rank_below : (s : ℕ) → s < segments ws → stays ws L s ≡ true → new_rank ws L s < staying ws L (class ws s)
  new_rank_below s below h = go (stays_full ws L s) refl
    where
      go : (f : Bool) → stays_full ws L s ≡ f → new_rank ws L s < staying ws L (class ws s)
      go true f = omega (arith, full_below s below f, staying_parts (class ws s))
      go false f = omega (arith, rank_rest s f, before_few rest s below (rest_is s h f), staying_parts (class ws s))

  pub staying_le : (i : ℕ) → staying ws L i ≤ segments ws
  unfolding staying
  staying_le i = count_below_le (segments ws) (grouped (stays ws L) i)

  -- no two of a class have the same
  module _ (sound : Sound ws) where
    member : (s : ℕ) → s < segments ws → stays ws L s ≡ true → Member ws s
    unfolding stays
    member s below h = record { below = below; used = not-true (in_pool ws s) (and_left (not (in_pool ws s)) _ h) }

    pub new_rank_apart : (s t : ℕ) → s < segments ws → t < segments ws → stays ws L s ≡ true → stays ws L t ≡ true → class ws s ≡ class ws t
        → new_rank ws L s ≡ new_rank ws L t → s ≡ t
    new_rank_apart s t sb tb hs ht same e = go (stays_full ws L s) refl (stays_full ws L t) refl
      where
        within : (group : ℕ → Bool) → group s ≡ true → group t ≡ true → ranked_before ws group s ≡ ranked_before ws group t → s ≡ t
        within group gs gt e = pick (dec_lt (rank ws s) (rank ws t)) (dec_lt (rank ws t) (rank ws s))
          where
            pick : Dec (rank ws s < rank ws t) → Dec (rank ws t < rank ws s) → s ≡ t
            pick (yes l) d = absurd (omega (arith, before_less group s t sb gs same l))
            pick (no l) (yes g) = absurd (omega (arith, before_less group t s tb gt (sym same) g))
            pick (no l) (no g) = rank_apart ws sound s t (member s sb hs) (member t tb ht) same (omega arith)

        across : (a b : ℕ) → a < segments ws → stays_full ws L a ≡ true → stays_full ws L b ≡ false → class ws a ≡ class ws b → new_rank ws L a ≢ new_rank ws L b
        across a b ab fa fb same e = omega (arith, full_below a ab fa, rest_from b fb, ap (staying_full ws L) same)

        go : (f : Bool) → stays_full ws L s ≡ f → (g : Bool) → stays_full ws L t ≡ g → s ≡ t
        go true f true g = within (stays_full ws L) f g (sym (rank_full s f) ∙ e ∙ rank_full t g)
        go true f false g = absurd (across s t sb f g same e)
        go false f true g = absurd (across t s tb g f (sym same) (sym e))
        go false f false g =
            within rest (rest_is s hs f) (rest_is t ht g)
            (omega (arith, rank_rest s f, rank_rest t g, e, ap (staying_full ws L) same))
