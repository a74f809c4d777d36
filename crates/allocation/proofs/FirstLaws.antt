-- The first untaken block of a class of a sound arena: none before the place, in the place's own segment the first free one at or after its
-- index, and in the segment behind it the first free one, which there is.
-- Assumes nothing.
use Prim.Native.Nat.{ℕ, ◌-◌, ◌≤◌, ◌<◌, zero-le}
use mathlib.Core.Path.{◌≡◌, sym, ap, ◌∙◌}
use mathlib.Core.Bool.{Bool, true, false, not, ◌||◌}
use mathlib.Core.List.{List}
use native.Mathlib.Nat.{sub-zero}
use native.Mathlib.Omega.{arith}
use native.Mathlib.Decide.{dec_lt}
use lib.Dec.{ltb}
use borrow.Author.Tests.{lt-ltb, le-ltb}
use Rattle.model.specs.Below.{count_below, first_from, first_below}
use Rattle.model.specs.Class.{is_class, blocks}
use Rattle.model.specs.View.{place_rank, place_index, class, rank, bit_of, members, ranked}
use Rattle.model.specs.Standing.{taken_at}
use Rattle.model.specs.Calls.{first_untaken, has_untaken, first_rank, class_has_untaken, given_segment, given_rank, given_index}
use Rattle.laws.proofs.Below.{First, first_is, first_unique, count_below_fails}
use Rattle.soundness.proofs.Tests.{or_left}
use Rattle.soundness.proofs.Facts.{Member, Block, Sound}
use Rattle.soundness.proofs.Ranks.{first_found, ranked_class, ranked_rank, ranked_member}
use Rattle.soundness.proofs.Taken.{taken_earlier, taken_at_place, taken_behind}

-- ---- the first that passes, or none

-- where all below n fail there is none
none_below : (n : ℕ) (p : ℕ → Bool) → ((k : ℕ) → k < n → p k ≡ false) → first_below n p ≡ n
none_below n p h = sym (first_unique (record {
  from = zero-le;
  within = omega arith;
  before = λ k _ l. h k l;
  found = λ l. absurd (omega arith);
}))

first_at : (n : ℕ) (p : ℕ → Bool) (k : ℕ) → k < n → ((j : ℕ) → j < k → p j ≡ false) → p k ≡ true → first_below n p ≡ k
first_at n p k l h t = sym (first_unique (record {
  from = zero-le;
  within = omega arith;
  before = λ j _ u. h j u;
  found = λ _. t;
}))

-- numbers that fail before a place do not matter
first_after : (n a : ℕ) (p q : ℕ → Bool) → a ≤ n → ((k : ℕ) → k < a → p k ≡ false) → ((k : ℕ) → a ≤ k → k < n → p k ≡ q k)
    → first_below n p ≡ first_from a (n - a) q
first_after n a p q l h same = sym (first_unique (go (first_is a (n - a) q)))
  where
    go : {r : ℕ} → First a (n - a) q r → First 0 n p r
    go {r} x = record {
      from = zero-le;
      within = omega arith;
      before = λ k _ u. before k u (dec_lt k a);
      found = λ u. same r x.from (omega arith) ∙ x.found (omega arith);
    }
      where
        before : (k : ℕ) → k < r → Dec (k < a) → p k ≡ false
        before k u (yes low) = h k low
        before k u (no f) =
            let past : a ≤ k = omega (arith, f) in
            same k past (omega arith) ∙ x.before k past u

-- where not all pass, one fails
some_clear : (n : ℕ) (p : ℕ → Bool) → count_below n p < n → first_from 0 (n - 0) (λ k. not (p k)) < n
some_clear n p few =
    let clear = count_below_fails n p few in
    rw sub-zero (first_found n (λ k. not (p k)) clear.0 clear.1 (ap not clear.2)).0

-- ---- the segments of a class, by rank

module _ (ws : List ℕ) (sound : Sound ws) (i : ℕ) (c : is_class i ≡ true) where
  -- block k of the segment of rank q
  block_ranked : (q k : ℕ) → q < members ws i → k < blocks i → Block ws (ranked ws i q) k
  block_ranked q k l u = record {
    member = ranked_member ws sound i q c l;
    inside = omega (arith, ap blocks (ranked_class ws sound i q c l));
  }

  -- every block of a segment before the place is taken
  pub none_earlier : (q : ℕ) → q < members ws i → q < place_rank ws i → has_untaken ws (ranked ws i q) ≡ false
  unfolding has_untaken first_untaken
  none_earlier q l u =
      let s : ℕ = ranked ws i q in
      let e : class ws s ≡ i = ranked_class ws sound i q c l in
      let before : rank ws s < place_rank ws (class ws s) = omega (arith, ranked_rank ws sound i q c l, ap (place_rank ws) e) in
      let none : first_below (blocks (class ws s)) (λ k. not (taken_at ws s k)) ≡ blocks (class ws s) =
      none_below (blocks (class ws s)) (λ k. not (taken_at ws s k))
      (λ k v. ap not (taken_earlier ws s k (block_ranked q k l (omega (arith, ap blocks e))) before)) in
      le-ltb (first_below (blocks (class ws s)) (λ k. not (taken_at ws s k))) (blocks (class ws s)) (omega arith)

  -- in the place's own segment the first untaken block is the first free one at or after the place's index
  pub first_at_place : place_rank ws i < members ws i
      → first_untaken ws (ranked ws i (place_rank ws i))
      ≡ first_from (place_index ws i) (blocks i - place_index ws i) (λ k. not (bit_of ws (ranked ws i (place_rank ws i)) k))
  unfolding first_untaken
  first_at_place l =
      let q : ℕ = place_rank ws i in
      let s : ℕ = ranked ws i q in
      let e : class ws s ≡ i = ranked_class ws sound i q c l in
      let here : rank ws s ≡ place_rank ws (class ws s) = ranked_rank ws sound i q c l ∙ ap (place_rank ws) (sym e) in
      let is : (k : ℕ) → k < blocks i → taken_at ws s k ≡ (ltb k (place_index ws i) || bit_of ws s k) =
      λ k u. taken_at_place ws s k (block_ranked q k l u) here ∙ ap (λ (j : ℕ). ltb k (place_index ws j) || bit_of ws s k) e in
      ap (λ (j : ℕ). first_below (blocks j) (λ k. not (taken_at ws s k))) e
      ∙ first_after (blocks i) (place_index ws i) (λ k. not (taken_at ws s k)) (λ k. not (bit_of ws s k)) (sound.placed i c).index
      (λ k u. ap not (is k (omega (arith, (sound.placed i c).index)) ∙ or_left (ltb k (place_index ws i)) (bit_of ws s k) (lt-ltb k (place_index ws i) u)))
      (λ k u v. ap not (is k v ∙ ap (λ (t : Bool). t || bit_of ws s k) (le-ltb k (place_index ws i) u)))

  -- in a segment behind it, the first free one, which there is
  pub first_behind : (q : ℕ) → q < members ws i → place_rank ws i < q
      → first_untaken ws (ranked ws i q) ≡ first_from 0 (blocks i - 0) (λ k. not (bit_of ws (ranked ws i q) k))
  unfolding first_untaken
  first_behind q l u =
      let s : ℕ = ranked ws i q in
      let e : class ws s ≡ i = ranked_class ws sound i q c l in
      let behind : place_rank ws (class ws s) < rank ws s = omega (arith, ranked_rank ws sound i q c l, ap (place_rank ws) e) in
      ap (λ (j : ℕ). first_below (blocks j) (λ k. not (taken_at ws s k))) e
      ∙ first_after (blocks i) 0 (λ k. not (taken_at ws s k)) (λ k. not (bit_of ws s k)) zero-le (λ k v. absurd (omega arith))
      (λ k _ v. ap not (taken_behind ws s k (block_ranked q k l v) behind))

  pub some_behind : (q : ℕ) → q < members ws i → place_rank ws i < q → first_untaken ws (ranked ws i q) < blocks i
  some_behind q l u =
      let s : ℕ = ranked ws i q in
      let m : Member ws s = ranked_member ws sound i q c l in
      let e : class ws s ≡ i = ranked_class ws sound i q c l in
      let behind : place_rank ws (class ws s) < rank ws s = omega (arith, ranked_rank ws sound i q c l, ap (place_rank ws) e) in
      let few : count_below (blocks i) (bit_of ws s) < blocks i =
      omega (arith, sound.not_full_behind s m behind, sound.counted s m, ap blocks e, ap (λ (j : ℕ). count_below (blocks j) (bit_of ws s)) e) in
      omega (arith, first_behind q l u, some_clear (blocks i) (bit_of ws s) few)

  -- ---- the first rank with an untaken block

  -- where its segment has one and no earlier segment has
  module _ (q : ℕ) (l : q < members ws i) (before : (j : ℕ) → j < q → has_untaken ws (ranked ws i j) ≡ false)
      (some : first_untaken ws (ranked ws i q) < blocks i) where
    first_rank_is : first_rank ws i ≡ q
    unfolding first_rank has_untaken
    first_rank_is =
        first_at (members ws i) (λ j. has_untaken ws (ranked ws i j)) q l before
        (lt-ltb (first_untaken ws (ranked ws i q)) (blocks (class ws (ranked ws i q))) (omega (arith, ap blocks (ranked_class ws sound i q c l))))

    pub has_at : class_has_untaken ws i ≡ true
    unfolding class_has_untaken
    has_at = lt-ltb (first_rank ws i) (members ws i) (omega (arith, first_rank_is))

    pub segment_at : given_segment ws i ≡ ranked ws i q
    unfolding given_segment
    segment_at = rw (has_at, first_rank_is)

    pub rank_at : given_rank ws i ≡ q
    unfolding given_rank
    rank_at = rw (has_at, first_rank_is)

    pub index_at : given_index ws i ≡ first_untaken ws (ranked ws i q)
    unfolding given_index
    index_at = rw (has_at, first_rank_is)

  -- where no segment has one
  pub has_none : ((q : ℕ) → q < members ws i → has_untaken ws (ranked ws i q) ≡ false) → class_has_untaken ws i ≡ false
  unfolding class_has_untaken first_rank
  has_none h = le-ltb (first_rank ws i) (members ws i) (omega (arith, none_below (members ws i) (λ q. has_untaken ws (ranked ws i q)) h))
