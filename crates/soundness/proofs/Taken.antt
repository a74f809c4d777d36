-- Taken: when a block is taken, which handles are those of taken blocks, how many there are, what the standing of a handle is, and that the
-- fields of a taken block of a sound arena lie inside the block.
-- Assumes nothing.
use Prim.Native.Nat.{ℕ, ◌+◌, ◌-◌, ◌≤◌, ◌<◌}
use mathlib.Core.Path.{◌≡◌, refl, sym, ap, ap₂, ◌∙◌}
use mathlib.Core.Logic.{◌⊎◌, inl, inr, ◌≢◌}
use mathlib.Core.Bool.{Bool, true, false, not, ◌&&◌, ◌||◌}
use mathlib.Core.List.{List}
use native.Mathlib.Omega.{arith}
use native.Mathlib.Nat.{add-sub_of_le, add_assoc}
use lib.Dec.{eqb, ltb}
use borrow.Author.Tests.{eqb-true, eqb-false, eq-eqb, ne_eqb, ltb-true, ltb-false, lt-ltb, not-true}
use Rattle.model.specs.Below.{count_below}
use Rattle.model.specs.Word.{part}
use Rattle.model.specs.Class.{is_class, blocks, block_words}
use Rattle.model.specs.Layout.{handle, segment_of, index_of}
use Rattle.model.specs.View.{segments, place_rank, place_index, class, rank, bit_of, block_of, block_offset, n_in, r_in, plain_words_in}
use Rattle.model.specs.Standing.{in_pool, is_block, before_place, taken_at, is_taken, none_or_taken, shape_of, standing_of}
use Rattle.model.specs.declared.Standing.TheVariants.{None, Outside, Free, Taken}
use Rattle.laws.proofs.Below.{count_below_add, count_below_none}
use Rattle.words.proofs.ClassLaws.{blocks_most, class_room}
use Rattle.words.proofs.HandleLaws.{handle_segment, handle_index}
use Rattle.soundness.proofs.Tests.{never, and_left, and_right, and_intro, and_fails_left, or_cases, or_left, or_right, same_test, not_passed}
use Rattle.soundness.proofs.Facts.{Member, Block, facts_block, taken_block, Sound, block_part, pool_or_member}

-- ---- when a block is taken

-- the three grounds: its segment is ranked before the place, it stands before the place in the place's own segment, or its bit is set
pub data Ground (ws : List ℕ) (s k : ℕ) : Type 0 where
  earlier : rank ws s < place_rank ws (class ws s) → Ground ws s k
  before : rank ws s ≡ place_rank ws (class ws s) → k < place_index ws (class ws s) → Ground ws s k
  marked : bit_of ws s k ≡ true → Ground ws s k

-- none of them
pub record NoGround (ws : List ℕ) (s k : ℕ) : Type 0 where
  pub not_earlier : place_rank ws (class ws s) ≤ rank ws s
  pub not_before : rank ws s ≡ place_rank ws (class ws s) → place_index ws (class ws s) ≤ k
  pub not_marked : bit_of ws s k ≡ false

module _ (ws : List ℕ) (s k : ℕ) where
  -- the test's three parts
  abbrev lower : Bool
  lower = ltb (rank ws s) (place_rank ws (class ws s))

  abbrev level : Bool
  level = eqb (rank ws s) (place_rank ws (class ws s))

  abbrev left : Bool
  left = ltb k (place_index ws (class ws s))

  pub taken_ground : taken_at ws s k ≡ true → Ground ws s k
  unfolding taken_at before_place
  taken_ground t = first (or_cases (lower || (level && left)) (bit_of ws s k) (and_right (is_block ws s k) ((lower || (level && left)) || bit_of ws s k) t))
    where
      second : (lower ≡ true) ⊎ ((level && left) ≡ true) → Ground ws s k
      second (inl e) = earlier (ltb-true _ _ e)
      second (inr e) = before (eqb-true _ _ (and_left level left e)) (ltb-true _ _ (and_right level left e))

      first : ((lower || (level && left)) ≡ true) ⊎ (bit_of ws s k ≡ true) → Ground ws s k
      first (inl e) = second (or_cases lower (level && left) e)
      first (inr e) = marked e

  pub ground_taken : Block ws s k → Ground ws s k → taken_at ws s k ≡ true
  unfolding taken_at before_place
  ground_taken b g = and_intro (is_block ws s k) ((lower || (level && left)) || bit_of ws s k) (facts_block ws s k b) (go g)
    where
      go : Ground ws s k → ((lower || (level && left)) || bit_of ws s k) ≡ true
      go (earlier l) = or_left (lower || (level && left)) (bit_of ws s k) (or_left lower (level && left) (lt-ltb _ _ l))
      go (before e l) =
          or_left (lower || (level && left)) (bit_of ws s k) (or_right lower (level && left) (and_intro level left (eq-eqb _ _ e) (lt-ltb _ _ l)))
      go (marked e) = or_right (lower || (level && left)) (bit_of ws s k) e

  no_ground : NoGround ws s k → Ground ws s k → ⊥
  no_ground n (earlier l) = omega arith
  no_ground n (before e l) = omega (arith, n.not_before e)
  no_ground n (marked e) = never (bit_of ws s k) e n.not_marked

  pub no_ground_untaken : NoGround ws s k → taken_at ws s k ≡ false
  no_ground_untaken n = not_passed (taken_at ws s k) (λ t. no_ground n (taken_ground t))

  pub untaken_no_ground : Block ws s k → taken_at ws s k ≡ false → NoGround ws s k
  untaken_no_ground b f = record {
    not_earlier = ltb-false _ _ (not_passed lower (λ e. refuted (earlier (ltb-true _ _ e))));
    not_before = λ e. ltb-false _ _ (not_passed left (λ l. refuted (before e (ltb-true _ _ l))));
    not_marked = not_passed (bit_of ws s k) (λ e. refuted (marked e));
  }
    where
      refuted : Ground ws s k → ⊥
      refuted g = never (taken_at ws s k) (ground_taken b g) f

  -- what is no block is not taken
  pub no_block_untaken : is_block ws s k ≡ false → taken_at ws s k ≡ false
  unfolding taken_at
  no_block_untaken f = and_fails_left (is_block ws s k) (before_place ws s k || bit_of ws s k) f

  -- the test in a segment before the place, at the place, and behind it
  pub taken_earlier : Block ws s k → rank ws s < place_rank ws (class ws s) → taken_at ws s k ≡ true
  taken_earlier b l = ground_taken b (earlier l)

  pub taken_at_place : Block ws s k → rank ws s ≡ place_rank ws (class ws s) → taken_at ws s k ≡ (ltb k (place_index ws (class ws s)) || bit_of ws s k)
  taken_at_place b e = same_test (taken_at ws s k) (left || bit_of ws s k) (λ t. to (taken_ground t)) (λ t. from (or_cases left (bit_of ws s k) t))
    where
      to : Ground ws s k → (left || bit_of ws s k) ≡ true
      to (earlier l) = absurd (omega arith)
      to (before e l) = or_left left (bit_of ws s k) (lt-ltb _ _ l)
      to (marked m) = or_right left (bit_of ws s k) m

      from : (left ≡ true) ⊎ (bit_of ws s k ≡ true) → taken_at ws s k ≡ true
      from (inl l) = ground_taken b (before e (ltb-true _ _ l))
      from (inr m) = ground_taken b (marked m)

  pub taken_behind : Block ws s k → place_rank ws (class ws s) < rank ws s → taken_at ws s k ≡ bit_of ws s k
  taken_behind b l = same_test (taken_at ws s k) (bit_of ws s k) (λ t. to (taken_ground t)) (λ m. ground_taken b (marked m))
    where
      to : Ground ws s k → bit_of ws s k ≡ true
      to (earlier u) = absurd (omega arith)
      to (before e u) = absurd (omega arith)
      to (marked m) = m

  pub pool_untaken : in_pool ws s ≡ true → taken_at ws s k ≡ false
  pool_untaken p = not_passed (taken_at ws s k) (λ t. never (in_pool ws s) p (taken_block ws s k t).member.used)

  pub past_untaken : blocks (class ws s) ≤ k → taken_at ws s k ≡ false
  past_untaken l = not_passed (taken_at ws s k) (λ t. omega (arith, (taken_block ws s k t).inside))

-- ---- handles of taken blocks

pub record TakenHandle (ws : List ℕ) (h : ℕ) : Type 0 where
  pub positive : 0 < h
  pub taken : taken_at ws (segment_of h) (index_of h) ≡ true
  pub its_block : Block ws (segment_of h) (index_of h)

module _ (ws : List ℕ) where
  pub handle_facts : (h : ℕ) → is_taken ws h ≡ true → TakenHandle ws h
  unfolding is_taken
  handle_facts h t =
      let apart : h ≢ 0 = eqb-false h 0 (not-true (eqb h 0) (and_left (not (eqb h 0)) (taken_at ws (segment_of h) (index_of h)) t)) in
      let u : taken_at ws (segment_of h) (index_of h) ≡ true = and_right (not (eqb h 0)) (taken_at ws (segment_of h) (index_of h)) t in
      record { positive = omega arith; taken = u; its_block = taken_block ws (segment_of h) (index_of h) u }

  pub facts_handle : (h : ℕ) → 0 < h → taken_at ws (segment_of h) (index_of h) ≡ true → is_taken ws h ≡ true
  unfolding is_taken
  facts_handle h p t =
      and_intro (not (eqb h 0)) (taken_at ws (segment_of h) (index_of h)) (ap not (ne_eqb h 0 (λ e. omega arith))) t

  -- the handle of a block is that of a taken block if the block is taken; handle 0 is none's
  pub is_taken_handle : (s k : ℕ) → k < 2048 → is_taken ws (handle s k) ≡ taken_at ws s k
  unfolding is_taken
  is_taken_handle s k l =
      ap₂ (λ (a b : Bool). not a && b) (ne_eqb (handle s k) 0 (λ e. omega arith)) (ap₂ (taken_at ws) (handle_segment s k l) (handle_index s k l))

  pub is_taken_zero : is_taken ws 0 ≡ false
  unfolding is_taken
  is_taken_zero = refl

  pub none_zero : none_or_taken ws 0 ≡ true
  none_zero = refl

  -- 0, or the handle of a taken block
  pub none_or_taken_cases : (h : ℕ) → none_or_taken ws h ≡ true → (h ≡ 0) ⊎ (is_taken ws h ≡ true)
  none_or_taken_cases h t = go (or_cases (eqb h 0) (is_taken ws h) t)
    where
      go : (eqb h 0 ≡ true) ⊎ (is_taken ws h ≡ true) → (h ≡ 0) ⊎ (is_taken ws h ≡ true)
      go (inl e) = inl (eqb-true h 0 e)
      go (inr u) = inr u

  pub taken_none_or : (h : ℕ) → is_taken ws h ≡ true → none_or_taken ws h ≡ true
  taken_none_or h t = or_right (eqb h 0) (is_taken ws h) t

  -- ---- how many are taken

  -- only the first of 2,048 indices can be blocks
  count_in : (s : ℕ) → s < segments ws → ((s : ℕ) → Member ws s → is_class (class ws s) ≡ true)
      → count_below 2048 (taken_at ws s) ≡ count_below (blocks (class ws s)) (taken_at ws s)
  count_in s l classed = go (pool_or_member ws s l)
    where
      go : (in_pool ws s ≡ true) ⊎ Member ws s → count_below 2048 (taken_at ws s) ≡ count_below (blocks (class ws s)) (taken_at ws s)
      go (inl p) =
          count_below_none 2048 (taken_at ws s) (λ k _. pool_untaken ws s k p)
          ∙ sym (count_below_none (blocks (class ws s)) (taken_at ws s) (λ k _. pool_untaken ws s k p))
      go (inr m) =
          let most : blocks (class ws s) ≤ 2048 = blocks_most (class ws s) (classed s m) in
          let b : ℕ = blocks (class ws s) in
          omega (
            arith,
            ap (λ (x : ℕ). count_below x (taken_at ws s)) (sym (add-sub_of_le most)) ∙ count_below_add b (2048 - b) (taken_at ws s),
            count_below_none (2048 - b) (λ k. taken_at ws s (b + k)) (λ k _. past_untaken ws s (b + k) (omega arith)),
          )

-- ---- the standing of a handle

pub standing_none : (ws : List ℕ) → standing_of ws 0 ≡ None
unfolding standing_of
standing_none ws = refl

module _ (ws : List ℕ) (h : ℕ) (p : 0 < h) where
  not_zero : eqb h 0 ≡ false
  not_zero = ne_eqb h 0 (λ e. omega arith)

  pub standing_outside : is_block ws (segment_of h) (index_of h) ≡ false → standing_of ws h ≡ Outside
  unfolding standing_of
  standing_outside f = simp (not_zero, f)

  pub standing_free : Block ws (segment_of h) (index_of h) → taken_at ws (segment_of h) (index_of h) ≡ false → standing_of ws h ≡ Free
  unfolding standing_of
  standing_free b f = simp (not_zero, facts_block ws (segment_of h) (index_of h) b, f)

pub standing_taken : (ws : List ℕ) (h : ℕ) → is_taken ws h ≡ true → standing_of ws h ≡ Taken (shape_of ws h)
unfolding standing_of
standing_taken ws h t =
    let x = handle_facts ws h t in
    simp (not_zero ws h x.positive, facts_block ws (segment_of h) (index_of h) x.its_block, x.taken)

-- ---- the fields of a taken block

module _ (ws : List ℕ) (sound : Sound ws) (s k : ℕ) (t : taken_at ws s k ≡ true) where
  pub taken_member : Member ws s
  taken_member = (taken_block ws s k t).member

  pub taken_class : is_class (class ws s) ≡ true
  taken_class = sound.classed s taken_member

  pub taken_n_room : 1 + n_in (block_of ws s k) ≤ block_words (class ws s)
  taken_n_room = omega (arith, class_room (n_in (block_of ws s k)) (class ws s) (sound.right s k t).fits)

  pub taken_r_within : r_in (block_of ws s k) ≤ n_in (block_of ws s k)
  taken_r_within = (sound.right s k t).within

  -- its references and its plain words are words of the block, and so of the arena
  pub reference_inside : (f : ℕ) → f < r_in (block_of ws s k) → 1 + f < block_words (class ws s)
  reference_inside f l = omega (arith, taken_n_room, taken_r_within)

  pub plain_inside : (f : ℕ) → f < n_in (block_of ws s k) - r_in (block_of ws s k) → 1 + r_in (block_of ws s k) + f < block_words (class ws s)
  plain_inside f l = omega (arith, taken_n_room)

  pub plain_words : plain_words_in (block_of ws s k) ≡ part ws (block_offset ws s k + 1 + r_in (block_of ws s k)) (n_in (block_of ws s k) - r_in (block_of ws s k))
  plain_words =
      let r : ℕ = r_in (block_of ws s k) in
      let n : ℕ = n_in (block_of ws s k) in
      block_part ws sound.size s k taken_class (taken_block ws s k t) (1 + r) (n - r) (omega (arith, taken_n_room, taken_r_within))
      ∙ ap (λ (o : ℕ). part ws o (n - r)) (sym (add_assoc (block_offset ws s k) 1 r))
