-- The block that is given, in the arena before: where a class has an untaken block, the first in rank order, then index order; every block of
-- an earlier rank, and every block before it in its own segment, is taken. Where a class has none, all blocks of its segments are taken.
-- Assumes nothing.
use Prim.Native.Nat.{ℕ, ◌≤◌, ◌<◌, zero-le}
use mathlib.Core.Path.{◌≡◌, refl, sym, ap, ◌∙◌, subst}
use mathlib.Core.Bool.{Bool, true, false, not}
use mathlib.Core.List.{List}
use native.Mathlib.Omega.{arith}
use native.Mathlib.Nat.{le_antisymm}
use native.Mathlib.Decide.{dec_lt}
use borrow.Author.Tests.{ltb-true, ltb-false, not-true, not-false}
use Rattle.model.specs.Class.{is_class, blocks}
use Rattle.model.specs.View.{segments, class, rank, members, ranked}
use Rattle.model.specs.Standing.{in_pool, taken_at}
use Rattle.model.specs.Calls.{first_untaken, has_untaken, first_rank, class_has_untaken, first_pool, has_pool}
use Rattle.laws.proofs.Below.{First, first_is}
use Rattle.soundness.proofs.Tests.{never, not_passed}
use Rattle.soundness.proofs.Facts.{Member, Block, Sound}
use Rattle.soundness.proofs.Ranks.{rank_below, rank_apart, ranked_class, ranked_rank, ranked_member, ranked_unique}

-- ---- the first untaken block of a segment

module _ (ws : List ℕ) (s : ℕ) where
  first_of : First 0 (blocks (class ws s)) (λ k. not (taken_at ws s k)) (first_untaken ws s)
  unfolding first_untaken
  first_of = first_is 0 (blocks (class ws s)) (λ k. not (taken_at ws s k))

  -- before it all are taken
  pub taken_before_first : (k : ℕ) → k < first_untaken ws s → taken_at ws s k ≡ true
  taken_before_first k l = not-false (taken_at ws s k) (first_of.before k zero-le l)

  -- it is a block and untaken, where there is one
  pub first_inside : has_untaken ws s ≡ true → first_untaken ws s < blocks (class ws s)
  unfolding has_untaken
  first_inside t = ltb-true _ _ t

  pub first_is_untaken : has_untaken ws s ≡ true → taken_at ws s (first_untaken ws s) ≡ false
  first_is_untaken t = not-true (taken_at ws s (first_untaken ws s)) (first_of.found (omega (arith, first_inside t)))

  -- where there is none all are taken, and where all are there is none
  pub none_untaken : has_untaken ws s ≡ false → (k : ℕ) → k < blocks (class ws s) → taken_at ws s k ≡ true
  unfolding has_untaken
  none_untaken f k l = let past : blocks (class ws s) ≤ first_untaken ws s = ltb-false _ _ f in taken_before_first k (omega arith)

  pub all_taken : ((k : ℕ) → k < blocks (class ws s) → taken_at ws s k ≡ true) → has_untaken ws s ≡ false
  all_taken h = not_passed (has_untaken ws s) (λ t. never (taken_at ws s (first_untaken ws s)) (h (first_untaken ws s) (first_inside t)) (first_is_untaken t))

  pub untaken_has : (k : ℕ) → k < blocks (class ws s) → taken_at ws s k ≡ false → has_untaken ws s ≡ true
  untaken_has k l f = go (has_untaken ws s) none_untaken
    where
      go : (t : Bool) → (t ≡ false → (k : ℕ) → k < blocks (class ws s) → taken_at ws s k ≡ true) → t ≡ true
      go true h = refl
      go false h = never (taken_at ws s k) (h refl k l) f

-- ---- the first rank of a class with an untaken block

module _ (ws : List ℕ) (i : ℕ) where
  first_rank_of : First 0 (members ws i) (λ q. has_untaken ws (ranked ws i q)) (first_rank ws i)
  unfolding first_rank
  first_rank_of = first_is 0 (members ws i) (λ q. has_untaken ws (ranked ws i q))

  first_rank_below : class_has_untaken ws i ≡ true → first_rank ws i < members ws i
  unfolding class_has_untaken
  first_rank_below t = ltb-true _ _ t

  first_rank_has : class_has_untaken ws i ≡ true → has_untaken ws (ranked ws i (first_rank ws i)) ≡ true
  first_rank_has t = first_rank_of.found (omega (arith, first_rank_below t))

  before_first_rank : (q : ℕ) → q < first_rank ws i → has_untaken ws (ranked ws i q) ≡ false
  before_first_rank q l = first_rank_of.before q zero-le l

  no_rank_has : class_has_untaken ws i ≡ false → (q : ℕ) → q < members ws i → has_untaken ws (ranked ws i q) ≡ false
  unfolding class_has_untaken
  no_rank_has f q l = let past : members ws i ≤ first_rank ws i = ltb-false _ _ f in before_first_rank q (omega arith)

-- ---- the lowest-numbered segment of the pool

module _ (ws : List ℕ) where
  pool_of : First 0 (segments ws) (in_pool ws) (first_pool ws)
  unfolding first_pool
  pool_of = first_is 0 (segments ws) (in_pool ws)

  pub first_pool_below : has_pool ws ≡ true → first_pool ws < segments ws
  unfolding has_pool
  first_pool_below t = ltb-true _ _ t

  pub first_pool_in : has_pool ws ≡ true → in_pool ws (first_pool ws) ≡ true
  first_pool_in t = pool_of.found (omega (arith, first_pool_below t))

  pub before_first_pool : (s : ℕ) → s < first_pool ws → in_pool ws s ≡ false
  before_first_pool s l = pool_of.before s zero-le l

  -- there is one exactly if some segment is in the pool
  pub no_pool : has_pool ws ≡ false → (s : ℕ) → s < segments ws → in_pool ws s ≡ false
  unfolding has_pool
  no_pool f s l = let past : segments ws ≤ first_pool ws = ltb-false _ _ f in before_first_pool s (omega arith)

  pub none_in_pool : ((s : ℕ) → s < segments ws → in_pool ws s ≡ false) → has_pool ws ≡ false
  none_in_pool h = not_passed (has_pool ws) (λ t. never (in_pool ws (first_pool ws)) (first_pool_in t) (h (first_pool ws) (first_pool_below t)))

-- ---- in a sound arena

module _ (ws : List ℕ) (sound : Sound ws) (i : ℕ) (c : is_class i ≡ true) where
  -- a class without an untaken block has all blocks of its segments taken, and so the other way round
  pub class_all_taken : class_has_untaken ws i ≡ false → (s k : ℕ) → Block ws s k → class ws s ≡ i → taken_at ws s k ≡ true
  class_all_taken f s k b e =
      let low : rank ws s < members ws i = omega (arith, rank_below ws sound s b.member, ap (members ws) e) in
      let same : ranked ws i (rank ws s) ≡ s = ranked_unique ws sound i (rank ws s) s b.member e refl in
      none_untaken ws s (ap (has_untaken ws) (sym same) ∙ no_rank_has ws i f (rank ws s) low) k b.inside

  pub all_taken_class : ((s k : ℕ) → Block ws s k → class ws s ≡ i → taken_at ws s k ≡ true) → class_has_untaken ws i ≡ false
  all_taken_class h = not_passed (class_has_untaken ws i) (λ t.
      let q : ℕ = first_rank ws i in
      let s : ℕ = ranked ws i q in
      let low : q < members ws i = first_rank_below ws i t in
      let has : has_untaken ws s ≡ true = first_rank_has ws i t in
      never (taken_at ws s (first_untaken ws s))
      (h s (first_untaken ws s) (record { member = ranked_member ws sound i q c low; inside = first_inside ws s has }) (ranked_class ws sound i q c low))
      (first_is_untaken ws s has))

-- block k of segment s, of class i and rank q, is the first untaken block of its class
pub record FirstUntaken (ws : List ℕ) (i s q k : ℕ) : Type 0 where
  pub member : Member ws s
  pub its_class : class ws s ≡ i
  pub its_rank : rank ws s ≡ q
  pub inside : k < blocks i
  pub untaken : taken_at ws s k ≡ false
  pub earlier : (t j : ℕ) → Block ws t j → class ws t ≡ i → rank ws t < q → taken_at ws t j ≡ true
  pub before : (j : ℕ) → j < k → taken_at ws s j ≡ true

pub first_untaken_is : (ws : List ℕ) → Sound ws → (i : ℕ) → is_class i ≡ true → class_has_untaken ws i ≡ true
    → FirstUntaken ws i (ranked ws i (first_rank ws i)) (first_rank ws i) (first_untaken ws (ranked ws i (first_rank ws i)))
first_untaken_is ws sound i c t =
    let q : ℕ = first_rank ws i in
    let s : ℕ = ranked ws i q in
    let low : q < members ws i = first_rank_below ws i t in
    let has : has_untaken ws s ≡ true = first_rank_has ws i t in
    let e : class ws s ≡ i = ranked_class ws sound i q c low in
    record {
      member = ranked_member ws sound i q c low;
      its_class = e;
      its_rank = ranked_rank ws sound i q c low;
      inside = omega (arith, first_inside ws s has, ap blocks e);
      untaken = first_is_untaken ws s has;
      earlier = λ t j b u l.
          let same : ranked ws i (rank ws t) ≡ t = ranked_unique ws sound i (rank ws t) t b.member u refl in
          none_untaken ws t (ap (has_untaken ws) (sym same) ∙ before_first_rank ws i (rank ws t) l) j b.inside;
      before = taken_before_first ws s;
    }

-- there is one such block, so it is the one that is given; and where there is one the class has an untaken block
pub record SameBlock (s q k s' q' k' : ℕ) : Type 0 where
  pub same_segment : s ≡ s'
  pub same_rank : q ≡ q'
  pub same_index : k ≡ k'

module _ (ws : List ℕ) (sound : Sound ws) (i : ℕ) (c : is_class i ≡ true) where
  -- an untaken block's rank is not below that of the first
  not_earlier : {s q k s' q' k' : ℕ} → FirstUntaken ws i s q k → FirstUntaken ws i s' q' k' → q' ≤ q
  not_earlier {s} {q} {k} {s'} {q'} {k'} x y = go (dec_lt q q')
    where
      go : Dec (q < q') → q' ≤ q
      go (yes l) =
          let b : Block ws s k = record { member = x.member; inside = omega (arith, x.inside, ap blocks x.its_class) } in
          never (taken_at ws s k) (y.earlier s k b x.its_class (omega (arith, x.its_rank))) x.untaken
      go (no f) = omega (arith, f)

  not_before : {s q k k' : ℕ} → FirstUntaken ws i s q k → FirstUntaken ws i s q k' → k' ≤ k
  not_before {s} {q} {k} {k'} x y = go (dec_lt k k')
    where
      go : Dec (k < k') → k' ≤ k
      go (yes l) = never (taken_at ws s k) (y.before k l) x.untaken
      go (no f) = omega (arith, f)

  pub first_untaken_unique : {s q k s' q' k' : ℕ} → FirstUntaken ws i s q k → FirstUntaken ws i s' q' k' → SameBlock s q k s' q' k'
  first_untaken_unique {s} {q} {k} {s'} {q'} {k'} x y =
      let by_rank : q ≡ q' = le_antisymm (not_earlier y x) (not_earlier x y) in
      let by_segment : s ≡ s' = rank_apart ws sound s s' x.member y.member (x.its_class ∙ sym y.its_class) (x.its_rank ∙ by_rank ∙ sym y.its_rank) in
      let z : FirstUntaken ws i s q k' =
      subst (λ (t : ℕ). FirstUntaken ws i t q k') (sym by_segment) (subst (λ (p : ℕ). FirstUntaken ws i s' p k') (sym by_rank) y) in
      record { same_segment = by_segment; same_rank = by_rank; same_index = le_antisymm (not_before z x) (not_before x z) }

  pub first_untaken_has : {s q k : ℕ} → FirstUntaken ws i s q k → class_has_untaken ws i ≡ true
  first_untaken_has {s} {q} {k} x = go (class_has_untaken ws i) refl
    where
      go : (t : Bool) → class_has_untaken ws i ≡ t → t ≡ true
      go true e = refl
      go false e =
          let b : Block ws s k = record { member = x.member; inside = omega (arith, x.inside, ap blocks x.its_class) } in
          never (taken_at ws s k) (class_all_taken ws sound i c e s k b x.its_class) x.untaken
