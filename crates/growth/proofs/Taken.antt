-- What is taken after a granted allocation: the given block, which was not, and all that was. So there is one taken block more, its standing is
-- taken with the n, r and tag asked, and the words, shape and standing of every other block are as before.
-- Assumes nothing.
use Prim.Native.Nat.{ℕ, ◌+◌, ◌*◌, ◌≤◌, ◌<◌}
use mathlib.Core.Path.{◌≡◌, refl, sym, ap, ap₂, ◌∙◌, subst}
use mathlib.Core.Logic.{◌⊎◌, inl, inr, ◌≢◌}
use mathlib.Core.Bool.{Bool, true, false, not, ◌&&◌, ◌||◌}
use mathlib.Core.List.{List}
use native.Mathlib.Omega.{arith}
use native.Mathlib.Decide.{dec_lt, ℕ_discrete}
use lib.Dec.{eqb, ltb}
use borrow.Author.Tests.{eq-eqb, ne_eqb, le-ltb}
use Rattle.model.specs.Below.{count_below}
use Rattle.model.specs.Class.{blocks, class_of}
use Rattle.model.specs.Layout.{handle, segment_of, index_of}
use Rattle.model.specs.View.{segments, class, block_of, block}
use Rattle.model.specs.Standing.{in_pool, is_block, taken_at, is_taken, taken_count, shape_in, shape_of, standing_of}
use Rattle.model.specs.Calls.{class_has_untaken, given_segment, given_index, joined, allocated}
use Rattle.model.specs.declared.Shape.{Shape}
use Rattle.model.specs.declared.Standing.TheVariants.{Outside, Free, Taken}
use Rattle.laws.proofs.Below.{count_below_ext, count_below_one_more}
use Rattle.words.proofs.ClassLaws.{blocks_most}
use Rattle.words.proofs.FieldLaws.{header_word_n, header_word_r, header_word_tag}
use Rattle.words.proofs.HandleLaws.{handle_segment, handle_index, handle_back}
use Rattle.soundness.proofs.Tests.{never, either, not_passed, or_right}
use Rattle.soundness.proofs.Facts.{Block, block_facts, facts_block}
use Rattle.soundness.proofs.Taken.{handle_facts, facts_handle, is_taken_handle, standing_none, standing_outside, standing_free, standing_taken, pool_untaken}
use Rattle.soundness.proofs.Views.{same_is_block}
use Rattle.growth.proofs.Giving.{one_more_taken, one_more_is_taken}
use Rattle.growth.proofs.Joining.{joined_taken}
use Rattle.growth.proofs.After.{Grant, block_given, held_joined, joins_put, class_right, made_ready, gave_block, after_head, after_segments, given_below, given_inside, after_class, after_member, after_block, after_block_other, after_record_other, held_records, had_pool, joined_pool, joined_zero}

-- shapes with the same parts
shape_path : {n r tag n' r' tag' : ℕ} → n ≡ n' → r ≡ r' → tag ≡ tag' → ◌≡◌ {A = Shape} (record { n = n; r = r; tag = tag }) (record { n = n'; r = r'; tag = tag' })
shape_path p q t = λ j. record { n = p j; r = q j; tag = t j }

module _ (ws : List ℕ) (n r tag : ℕ) (g : Grant ws n r tag) where
  abbrev i : ℕ
  i = class_of n

  abbrev s : ℕ
  s = given_segment ws (class_of n)

  abbrev k : ℕ
  k = given_index ws (class_of n)

  abbrev ws' : List ℕ
  ws' = allocated ws n r tag

  -- ---- which blocks are taken

  ready_taken : (t j : ℕ) → taken_at (joined ws i) t j ≡ taken_at ws t j
  ready_taken t j = go (either (class_has_untaken ws i))
    where
      go : (class_has_untaken ws i ≡ true) ⊎ (class_has_untaken ws i ≡ false) → taken_at (joined ws i) t j ≡ taken_at ws t j
      go (inl u) = ap (λ (us : List ℕ). taken_at us t j) (held_joined ws i u)
      go (inr f) =
          ap (λ (us : List ℕ). taken_at us t j) (joins_put ws g.sound_before i (class_right ws n r tag g) f (had_pool ws n r tag g f))
          ∙ joined_taken ws g.sound_before i s (class_right ws n r tag g) (given_below ws n r tag g) (joined_pool ws n r tag g f) t j

  -- the given block was not
  pub given_untaken : taken_at ws s k ≡ false
  given_untaken = sym (ready_taken s k) ∙ (made_ready ws n r tag g).first.untaken

  -- it is now, and every other block as before
  pub taken_after : (t j : ℕ) → taken_at ws' t j ≡ ((eqb t s && eqb j k) || taken_at ws t j)
  taken_after t j =
      one_more_taken ws' (joined ws i) i s _ k (block_given n r tag) (made_ready ws n r tag g).sound_ready (class_right ws n r tag g)
      (made_ready ws n r tag g).first (gave_block ws n r tag g) t j
      ∙ ap (λ (u : Bool). (eqb t s && eqb j k) || u) (ready_taken t j)

  pub taken_given : taken_at ws' s k ≡ true
  taken_given = taken_after s k ∙ ap₂ (λ (a b : Bool). (a && b) || taken_at ws s k) (eq-eqb s s refl) (eq-eqb k k refl)

  pub taken_other_segment : (t j : ℕ) → t ≢ s → taken_at ws' t j ≡ taken_at ws t j
  taken_other_segment t j f = taken_after t j ∙ ap (λ (a : Bool). (a && eqb j k) || taken_at ws t j) (ne_eqb t s f)

  pub taken_other_index : (j : ℕ) → j ≢ k → taken_at ws' s j ≡ taken_at ws s j
  taken_other_index j f = taken_after s j ∙ ap₂ (λ (a b : Bool). (a && b) || taken_at ws s j) (eq-eqb s s refl) (ne_eqb j k f)

  pub taken_other : (t j : ℕ) → (t ≡ s → j ≢ k) → taken_at ws' t j ≡ taken_at ws t j
  taken_other t j apart = go (ℕ_discrete t s)
    where
      go : Dec (t ≡ s) → taken_at ws' t j ≡ taken_at ws t j
      go (yes e) = ap (λ (x : ℕ). taken_at ws' x j) e ∙ taken_other_index j (apart e) ∙ ap (λ (x : ℕ). taken_at ws x j) (sym e)
      go (no f) = taken_other_segment t j f

  -- the same of handles
  index_inside : k < 2048
  index_inside = omega (arith, given_inside ws n r tag g, blocks_most i (class_right ws n r tag g))

  pub handle_untaken : is_taken ws (handle s k) ≡ false
  handle_untaken = is_taken_handle ws s k index_inside ∙ given_untaken

  pub handle_taken : is_taken ws' (handle s k) ≡ true
  handle_taken = is_taken_handle ws' s k index_inside ∙ taken_given

  pub is_taken_after : (h : ℕ) → is_taken ws' h ≡ (eqb h (handle s k) || is_taken ws h)
  unfolding is_taken
  is_taken_after h =
      one_more_is_taken ws' (joined ws i) i s _ k (block_given n r tag) (made_ready ws n r tag g).sound_ready (class_right ws n r tag g)
      (made_ready ws n r tag g).first (gave_block ws n r tag g) h
      ∙ ap (λ (u : Bool). eqb h (handle s k) || (not (eqb h 0) && u)) (ready_taken (segment_of h) (index_of h))

  pub still_taken : (h : ℕ) → is_taken ws h ≡ true → is_taken ws' h ≡ true
  still_taken h t = is_taken_after h ∙ or_right (eqb h (handle s k)) (is_taken ws h) t

  pub taken_not_given : (h : ℕ) → is_taken ws h ≡ true → h ≢ handle s k
  taken_not_given h t e = never (is_taken ws h) t (ap (is_taken ws) e ∙ handle_untaken)

  -- ---- how many are taken

  pub taken_count_after : taken_count ws' ≡ taken_count ws + 1
  unfolding taken_count
  taken_count_after =
      let at : ℕ = s * 2048 + k in
      let low : at < 2048 * segments ws = omega (arith, given_below ws n r tag g, index_inside) in
      let same : (x : ℕ) → x < 2048 * segments ws → is_taken ws' (x + 1) ≡ (eqb x at || is_taken ws (x + 1)) =
      λ x _. is_taken_after (x + 1) ∙ ap (λ (a : Bool). a || is_taken ws (x + 1)) (shifted x at) in
      ap (λ (N : ℕ). count_below (2048 * N) (λ x. is_taken ws' (x + 1))) (after_segments ws n r tag g)
      ∙ count_below_ext (2048 * segments ws) (λ x. is_taken ws' (x + 1)) (λ x. eqb x at || is_taken ws (x + 1)) same
      ∙ count_below_one_more (2048 * segments ws) (λ x. is_taken ws (x + 1)) at low handle_untaken
      ∙ omega arith
    where
      shifted : (x at : ℕ) → eqb (x + 1) (at + 1) ≡ eqb x at
      shifted x at = go (ℕ_discrete x at)
        where
          go : Dec (x ≡ at) → eqb (x + 1) (at + 1) ≡ eqb x at
          go (yes e) = eq-eqb (x + 1) (at + 1) (omega arith) ∙ sym (eq-eqb x at e)
          go (no f) = ne_eqb (x + 1) (at + 1) (λ e. f (omega arith)) ∙ sym (ne_eqb x at f)

  -- ---- the given block's shape and standing

  pub block_of_given : block ws' (handle s k) ≡ block_given n r tag
  block_of_given = ap₂ (block_of ws') (handle_segment s k index_inside) (handle_index s k index_inside) ∙ after_block ws n r tag g

  pub shape_given : shape_of ws' (handle s k) ≡ record { n = n; r = r; tag = tag }
  shape_given =
      let few : n < 4096 = omega (arith, g.small) in
      let fewer : r < 4096 = omega (arith, g.small, g.within) in
      ap shape_in block_of_given ∙ shape_path (header_word_n n r tag few fewer g.byte) (header_word_r n r tag few fewer g.byte) (header_word_tag n r tag few fewer g.byte)

  pub standing_given : standing_of ws' (handle s k) ≡ Taken (record { n = n; r = r; tag = tag })
  standing_given = standing_taken ws' (handle s k) handle_taken ∙ ap Taken shape_given

  -- ---- every other block's words, shape and standing

  not_its_block : (h : ℕ) → 0 < h → h ≢ handle s k → segment_of h ≡ s → index_of h ≢ k
  not_its_block h p f e u = f (sym (handle_back h p) ∙ ap₂ handle e u)

  pub block_after : (h : ℕ) → 0 < h → is_block ws (segment_of h) (index_of h) ≡ true → h ≢ handle s k → block ws' h ≡ block ws h
  block_after h p b f = after_block_other ws n r tag g (segment_of h) (index_of h) (block_facts ws (segment_of h) (index_of h) b) (not_its_block h p f)

  pub block_taken_after : (h : ℕ) → is_taken ws h ≡ true → block ws' h ≡ block ws h
  block_taken_after h t =
      let x = handle_facts ws h t in
      block_after h x.positive (facts_block ws (segment_of h) (index_of h) x.its_block) (taken_not_given h t)

  pub shape_after : (h : ℕ) → is_taken ws h ≡ true → shape_of ws' h ≡ shape_of ws h
  shape_after h t = ap shape_in (block_taken_after h t)

  -- the same blocks are there, but for those of a segment that joined
  pub is_block_after : (t j : ℕ) → (class_has_untaken ws i ≡ false → t ≢ s) → is_block ws' t j ≡ is_block ws t j
  unfolding is_block
  is_block_after t j apart = go (either (class_has_untaken ws i)) (dec_lt t (segments ws))
    where
      go : (class_has_untaken ws i ≡ true) ⊎ (class_has_untaken ws i ≡ false) → Dec (t < segments ws) → is_block ws' t j ≡ is_block ws t j
      go (inl u) d = same_is_block ws' ws (held_records ws n r tag g u) t j
      go (inr f) (yes l) = rw (after_record_other ws n r tag g t l (apart f), after_head ws n r tag g)
      go (inr f) (no past) =
          let out : ltb t (segments ws) ≡ false = le-ltb t (segments ws) (omega (arith, past)) in
          let out' : ltb t (segments ws') ≡ false = ap (ltb t) (after_segments ws n r tag g) ∙ out in
          simp (out, out')

  pub standing_after : (h : ℕ) → h ≢ handle s k → (class_has_untaken ws i ≡ false → segment_of h ≢ s) → standing_of ws' h ≡ standing_of ws h
  standing_after h f apart = first (dec_lt 0 h)
    where
      same : is_block ws' (segment_of h) (index_of h) ≡ is_block ws (segment_of h) (index_of h)
      same = is_block_after (segment_of h) (index_of h) apart

      third : 0 < h → (b : is_block ws (segment_of h) (index_of h) ≡ true) → (t : Bool) → taken_at ws (segment_of h) (index_of h) ≡ t → standing_of ws' h ≡ standing_of ws h
      third p b true u =
          let was : is_taken ws h ≡ true = facts_handle ws h p u in
          standing_taken ws' h (still_taken h was) ∙ ap Taken (shape_after h was) ∙ sym (standing_taken ws h was)
      third p b false u =
          standing_free ws' h p (block_facts ws' (segment_of h) (index_of h) (same ∙ b))
          (taken_other (segment_of h) (index_of h) (not_its_block h p f) ∙ u)
          ∙ sym (standing_free ws h p (block_facts ws (segment_of h) (index_of h) b) u)

      second : 0 < h → (b : Bool) → is_block ws (segment_of h) (index_of h) ≡ b → standing_of ws' h ≡ standing_of ws h
      second p true e = third p e (taken_at ws (segment_of h) (index_of h)) refl
      second p false e = standing_outside ws' h p (same ∙ e) ∙ sym (standing_outside ws h p e)

      first : Dec (0 < h) → standing_of ws' h ≡ standing_of ws h
      first (yes p) = second p (is_block ws (segment_of h) (index_of h)) refl
      first (no z) =
          let none : h ≡ 0 = omega (arith, z) in
          ap (standing_of ws') none ∙ standing_none ws' ∙ sym (standing_none ws) ∙ ap (standing_of ws) (sym none)

  -- every other block's
  pub standing_block_after : (h : ℕ) → is_block ws (segment_of h) (index_of h) ≡ true → h ≢ handle s k → standing_of ws' h ≡ standing_of ws h
  standing_block_after h b f = standing_after h f (λ none e.
      never (in_pool ws (segment_of h)) (ap (in_pool ws) e ∙ joined_pool ws n r tag g none)
      (block_facts ws (segment_of h) (index_of h) b).member.used)

  pub standing_taken_after : (h : ℕ) → is_taken ws h ≡ true → standing_of ws' h ≡ standing_of ws h
  standing_taken_after h t = standing_block_after h (facts_block ws (segment_of h) (index_of h) (handle_facts ws h t).its_block) (taken_not_given h t)

  -- ---- the other blocks of a segment that joined: outside before, free now

  module _ (none : class_has_untaken ws i ≡ false) (j : ℕ) (low : j < 2048) where
    its_segment : segment_of (handle s j) ≡ s
    its_segment = handle_segment s j low

    its_index : index_of (handle s j) ≡ j
    its_index = handle_index s j low

    pub joined_outside : standing_of ws (handle s j) ≡ Outside
    joined_outside = standing_outside ws (handle s j) (omega arith) (not_passed (is_block ws (segment_of (handle s j)) (index_of (handle s j))) (λ b.
        never (in_pool ws (segment_of (handle s j))) (ap (in_pool ws) its_segment ∙ joined_pool ws n r tag g none)
        (block_facts ws (segment_of (handle s j)) (index_of (handle s j)) b).member.used))

    pub joined_free : j < blocks i → 0 < j → standing_of ws' (handle s j) ≡ Free
    joined_free u p =
        standing_free ws' (handle s j) (omega arith)
        (subst (λ (x : ℕ). Block ws' x (index_of (handle s j))) (sym its_segment)
        (subst (λ (x : ℕ). Block ws' s x) (sym its_index)
        (record { member = after_member ws n r tag g; inside = omega (arith, ap blocks (after_class ws n r tag g)) })))
        (ap₂ (taken_at ws') its_segment its_index ∙ taken_other_index j (λ e. omega (arith, joined_zero ws n r tag g none))
        ∙ pool_untaken ws s j (joined_pool ws n r tag g none))

    pub joined_past : blocks i ≤ j → standing_of ws' (handle s j) ≡ Outside
    joined_past u = standing_outside ws' (handle s j) (omega arith) (not_passed (is_block ws' (segment_of (handle s j)) (index_of (handle s j))) (λ b.
        omega (
          arith,
          (block_facts ws' (segment_of (handle s j)) (index_of (handle s j)) b).inside,
          ap (λ (x : ℕ). blocks (class ws' x)) its_segment,
          ap blocks (after_class ws n r tag g),
          its_index,
        )))
