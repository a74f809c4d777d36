-- Room: how many untaken blocks a class has before and after a granted allocation, and when an allocation is refused for lack of room: no
-- segment of the class has an untaken block, and no segment is in the pool.
-- Assumes nothing.
use Prim.Native.Nat.{ℕ, zero, suc, ◌+◌, ◌≤◌, ◌<◌}
use mathlib.Core.Path.{◌≡◌, refl, sym, ap, ap₂, ◌∙◌}
use mathlib.Core.Logic.{◌⊎◌, inl, inr, ◌≢◌, ◌↔◌}
use mathlib.Core.Bool.{Bool, true, false, not, cond, ◌||◌}
use mathlib.Core.List.{List}
use native.Mathlib.Omega.{arith}
use native.Mathlib.Decide.{dec_lt, ℕ_discrete}
use lib.Dec.{eqb, ltb}
use borrow.Author.Tests.{eqb-true, eq-eqb, ne_eqb, not-true, not-false, ltb-false, le-ltb}
use Rattle.model.specs.Below.{one_if, count_below, sum_below}
use Rattle.model.specs.Class.{is_class, blocks, class_of}
use Rattle.model.specs.View.{segments, class_in, class}
use Rattle.model.specs.Standing.{in_pool, taken_at}
use Rattle.model.specs.Sound.{sound}
use Rattle.model.specs.Numbers.{refuse, granted}
use Rattle.model.specs.Calls.{class_has_untaken, has_pool, given_segment, given_index, allocated, allocate_refusal, room}
use Rattle.laws.proofs.Below.{sum_below_change, count_below_ext, count_below_none, count_below_all, count_below_pos, count_below_change}
use Rattle.words.proofs.ClassLaws.{class_bounds, class_small}
use Rattle.soundness.proofs.Tests.{never, either, or_fails, or_fails_left, or_fails_right}
use Rattle.soundness.proofs.Facts.{Block, Sound, sound_facts, facts_sound, class_member}
use Rattle.soundness.proofs.Taken.{pool_untaken}
use Rattle.growth.proofs.Given.{class_all_taken, all_taken_class, no_pool, none_in_pool}
use Rattle.growth.proofs.After.{Grant, class_right, after_segments, given_below, given_inside, after_class, after_record_other, held_class, joined_pool}
use Rattle.growth.proofs.Taken.{given_untaken, taken_given, taken_other_segment, taken_other_index}

-- ---- a class's untaken blocks, segment by segment

-- how many blocks of segment t are room of class i
abbrev room_in : List ℕ → ℕ → ℕ → ℕ
room_in ws i t = cond (eqb (class ws t) i) (count_below (blocks i) (λ k. not (taken_at ws t k))) 0

-- in a segment of the class its untaken blocks are, in another none
room_own : (ws : List ℕ) (i t : ℕ) → class ws t ≡ i → room_in ws i t ≡ count_below (blocks i) (λ k. not (taken_at ws t k))
room_own ws i t e = ap (λ (b : Bool). cond b (count_below (blocks i) (λ k. not (taken_at ws t k))) 0) (eq-eqb (class ws t) i e)

room_none : (ws : List ℕ) (i t : ℕ) → class ws t ≢ i → room_in ws i t ≡ 0
room_none ws i t f = ap (λ (b : Bool). cond b (count_below (blocks i) (λ k. not (taken_at ws t k))) 0) (ne_eqb (class ws t) i f)

-- sums of none
sum_none : (n : ℕ) (f : ℕ → ℕ) → ((t : ℕ) → t < n → f t ≡ 0) → sum_below n f ≡ 0
unfolding sum_below
sum_none zero f h = refl
sum_none (suc n) f h = omega (arith, sum_none n f (λ t l. h t (omega arith)), h n (omega arith))

part_le : (n : ℕ) (f : ℕ → ℕ) (t : ℕ) → t < n → f t ≤ sum_below n f
unfolding sum_below
part_le zero f t l = absurd (omega arith)
part_le (suc n) f t l = go (dec_lt t n) (λ u. part_le n f t u)
  where
    go : Dec (t < n) → (t < n → f t ≤ sum_below n f) → f t ≤ sum_below n f + f n
    go (yes u) rest = omega (arith, rest u)
    go (no g) rest =
        let last : t ≡ n = omega (arith, g) in
        omega (arith, ap f last)

-- ---- before and after a granted allocation

module _ (ws : List ℕ) (n r tag : ℕ) (g : Grant ws n r tag) where
  abbrev i : ℕ
  i = class_of n

  abbrev s : ℕ
  s = given_segment ws (class_of n)

  abbrev k : ℕ
  k = given_index ws (class_of n)

  abbrev ws' : List ℕ
  ws' = allocated ws n r tag

  -- only the given block's segment has other room
  room_other_segment : (j t : ℕ) → t < segments ws → t ≢ s → room_in ws' j t ≡ room_in ws j t
  room_other_segment j t l f =
      ap₂ (λ (c u : ℕ). cond (eqb c j) u 0) (ap class_in (after_record_other ws n r tag g t l f))
      (count_below_ext (blocks j) (λ x. not (taken_at ws' t x)) (λ x. not (taken_at ws t x)) (λ x _. ap not (taken_other_segment ws n r tag g t x f)))

  room_changes : (j : ℕ) → room ws' j + room_in ws j s ≡ room ws j + room_in ws' j s
  unfolding room
  room_changes j =
      ap (λ (N : ℕ). sum_below N (room_in ws' j) + room_in ws j s) (after_segments ws n r tag g)
      ∙ sum_below_change (segments ws) (room_in ws' j) (room_in ws j) s (given_below ws n r tag g) (room_other_segment j)

  -- in it one block is untaken less
  one_less : count_below (blocks i) (λ x. not (taken_at ws' s x)) + 1 ≡ count_below (blocks i) (λ x. not (taken_at ws s x))
  one_less =
      omega (
        arith,
        count_below_change (blocks i) (λ x. not (taken_at ws' s x)) (λ x. not (taken_at ws s x)) k (given_inside ws n r tag g)
            (λ x _ f. ap not (taken_other_index ws n r tag g x f)),
        ap (λ (b : Bool). one_if (not b)) (taken_given ws n r tag g),
        ap (λ (b : Bool). one_if (not b)) (given_untaken ws n r tag g),
      )

  room_own_after : room_in ws' i s + 1 ≡ count_below (blocks i) (λ x. not (taken_at ws s x))
  room_own_after = omega (arith, room_own ws' i s (after_class ws n r tag g), one_less)

  -- where the class had an untaken block, its room is one less
  pub room_held : class_has_untaken ws i ≡ true → room ws' i + 1 ≡ room ws i
  room_held u = omega (arith, room_changes i, room_own ws i s (held_class ws n r tag g u), room_own_after)

  -- where a segment joined, its room is that segment's blocks less one
  pub room_joined : class_has_untaken ws i ≡ false → room ws' i + 1 ≡ room ws i + blocks i
  room_joined f =
      let pool : in_pool ws s ≡ true = joined_pool ws n r tag g f in
      omega (
        arith,
        room_changes i,
        room_none ws i s (λ e. omega (arith, eqb-true (class ws s) 0 pool, class_bounds i (class_right ws n r tag g))),
        room_own_after,
        count_below_all (blocks i) (λ x. not (taken_at ws s x)) (λ x _. ap not (pool_untaken ws s x pool)),
      )

  -- the room of every other class is as before
  pub room_other : (j : ℕ) → is_class j ≡ true → j ≢ i → room ws' j ≡ room ws j
  room_other j c apart =
      omega (arith, room_changes j, room_none ws' j s (λ e. apart (sym e ∙ after_class ws n r tag g)), room_none ws j s before)
    where
      before : class ws s ≢ j
      before e = go (either (class_has_untaken ws i))
        where
          go : (class_has_untaken ws i ≡ true) ⊎ (class_has_untaken ws i ≡ false) → ⊥
          go (inl u) = apart (sym e ∙ held_class ws n r tag g u)
          go (inr f) = omega (arith, eqb-true (class ws s) 0 (joined_pool ws n r tag g f), class_bounds j c)

-- ---- no room

module _ (ws : List ℕ) (sound_ws : Sound ws) (i : ℕ) (c : is_class i ≡ true) where
  -- a class has no untaken block exactly if its room is 0
  pub full_room : class_has_untaken ws i ≡ false → room ws i ≡ 0
  unfolding room
  full_room f = sum_none (segments ws) (room_in ws i) (λ t l. go t l (ℕ_discrete (class ws t) i))
    where
      go : (t : ℕ) → t < segments ws → Dec (class ws t ≡ i) → room_in ws i t ≡ 0
      go t l (yes e) =
          room_own ws i t e
          ∙ count_below_none (blocks i) (λ k. not (taken_at ws t k)) (λ k u.
          ap not (class_all_taken ws sound_ws i c f t k (record { member = class_member ws t i c l e; inside = omega (arith, ap blocks e) }) e))
      go t l (no h) = room_none ws i t h

  pub room_full : room ws i ≡ 0 → class_has_untaken ws i ≡ false
  unfolding room
  room_full z = all_taken_class ws sound_ws i c (λ t k b e. taken t k b e (taken_at ws t k) refl)
    where
      taken : (t k : ℕ) → Block ws t k → class ws t ≡ i → (u : Bool) → taken_at ws t k ≡ u → u ≡ true
      taken t k b e true u = refl
      taken t k b e false u =
          absurd (
          omega (
            arith,
            part_le (segments ws) (room_in ws i) t b.member.below,
            room_own ws i t e,
            count_below_pos (blocks i) (λ k. not (taken_at ws t k)) k (omega (arith, b.inside, ap blocks e)) (ap not u),
          )
          )

  pub full_iff_room : (class_has_untaken ws i ≡ false) ↔ (room ws i ≡ 0)
  full_iff_room = (full_room, room_full)

  -- and exactly if every block of every segment of the class is taken
  pub full_iff_taken : (class_has_untaken ws i ≡ false) ↔ ((s k : ℕ) → Block ws s k → class ws s ≡ i → taken_at ws s k ≡ true)
  full_iff_taken = (class_all_taken ws sound_ws i c, all_taken_class ws sound_ws i c)

  -- a class with an untaken block has room
  pub room_some : class_has_untaken ws i ≡ true → 0 < room ws i
  room_some t = go (dec_lt 0 (room ws i))
    where
      go : Dec (0 < room ws i) → 0 < room ws i
      go (yes l) = l
      go (no f) = never (class_has_untaken ws i) t (room_full (omega (arith, f)))

-- there is no segment to join exactly if none is in the pool
pub empty_pool : (ws : List ℕ) → (has_pool ws ≡ false) ↔ ((s : ℕ) → s < segments ws → in_pool ws s ≡ false)
empty_pool ws = (no_pool ws, none_in_pool ws)

-- where a segment joined, the room before was 0, so the room after is the new segment's blocks less one
pub room_joined_blocks : (ws : List ℕ) (n r tag : ℕ) → Grant ws n r tag → class_has_untaken ws (class_of n) ≡ false
    → room (allocated ws n r tag) (class_of n) + 1 ≡ blocks (class_of n)
room_joined_blocks ws n r tag g f =
    omega (arith, room_joined ws n r tag g f, full_room ws g.sound_before (class_of n) (class_right ws n r tag g) f)

-- no segment of class i has an untaken block, and no segment is in the pool
pub record NoRoom (ws : List ℕ) (i : ℕ) : Type 0 where
  pub all_taken : (s k : ℕ) → Block ws s k → class ws s ≡ i → taken_at ws s k ≡ true
  pub no_segment : (s : ℕ) → s < segments ws → in_pool ws s ≡ false

module _ (ws : List ℕ) (n r : ℕ) where
  abbrev some : Bool
  some = class_has_untaken ws (class_of n) || has_pool ws

  abbrev shape : Bool
  shape = ltb 1023 n || ltb n r

  refusal_cases : (a b d : Bool) → refuse 2 a (refuse 3 b (refuse 4 d granted)) ≡ 4 → (a ≡ false) × (b ≡ false) × (d ≡ true)
  refusal_cases true b d e = absurd (omega arith)
  refusal_cases false true d e = absurd (omega arith)
  refusal_cases false false true e = (refl, refl, refl)
  refusal_cases false false false e = absurd (omega arith)

  -- refusal 4 is given exactly if the lower ones are not and there is no room
  pub record Refused : Type 0 where
    pub is_sound : Sound ws
    pub small : n ≤ 1023
    pub within : r ≤ n
    pub none : NoRoom ws (class_of n)

  pub refused_facts : allocate_refusal ws n r ≡ 4 → Refused
  unfolding allocate_refusal
  refused_facts e =
      let both = refusal_cases (not (sound ws)) shape (not some) e in
      let z : Sound ws = sound_facts ws (not-false (sound ws) both.0) in
      let low : n ≤ 1023 = ltb-false 1023 n (or_fails_left (ltb 1023 n) (ltb n r) both.1) in
      let nothing : some ≡ false = not-true some both.2 in
      record {
        is_sound = z;
        small = low;
        within = ltb-false n r (or_fails_right (ltb 1023 n) (ltb n r) both.1);
        none = record {
          all_taken = class_all_taken ws z (class_of n) (class_small n low) (or_fails_left (class_has_untaken ws (class_of n)) (has_pool ws) nothing);
          no_segment = no_pool ws (or_fails_right (class_has_untaken ws (class_of n)) (has_pool ws) nothing);
        };
      }

  pub facts_refused : Refused → allocate_refusal ws n r ≡ 4
  unfolding allocate_refusal
  facts_refused x =
      let sound_is : not (sound ws) ≡ false = ap not (facts_sound ws x.is_sound) in
      let shape_is : shape ≡ false = or_fails (ltb 1023 n) (ltb n r) (le-ltb 1023 n x.small) (le-ltb n r x.within) in
      let full : class_has_untaken ws (class_of n) ≡ false = all_taken_class ws x.is_sound (class_of n) (class_small n x.small) x.none.all_taken in
      let nothing : some ≡ false = or_fails (class_has_untaken ws (class_of n)) (has_pool ws) full (none_in_pool ws x.none.no_segment) in
      simp (sound_is, shape_is, nothing)

  pub refused_iff : (allocate_refusal ws n r ≡ 4) ↔ Refused
  refused_iff = (refused_facts, facts_refused)
