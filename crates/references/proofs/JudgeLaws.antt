-- Laws of the judge: with right headers, all is right with a segment's taken blocks where the gathered references are each 0 or a taken block.
-- Assumes nothing.
use Prim.Native.Nat.{ℕ, zero, suc, ◌+◌, ◌*◌, ◌<◌}
use mathlib.Core.Path.{◌≡◌, refl, sym, ap, ap₂, ◌∙◌}
use mathlib.Core.Bool.{Bool, true, false, not, ◌&&◌, ◌||◌, and_assoc}
use mathlib.Core.List.{List}
use native.Mathlib.Omega.{arith}
use lib.Dec.{eqb, leb}
use borrow.Author.Tests.{ne_eqb}
use Rattle.std.specs.List.{list_all, range_with_len}
use Rattle.model.specs.Below.{all_below}
use Rattle.model.specs.Word.{part}
use Rattle.model.specs.Class.{blocks, class_of}
use Rattle.model.specs.View.{segments, class, block_of, n_in, r_in, reference_in}
use Rattle.model.specs.Standing.{in_pool, taken_at, none_or_taken}
use Rattle.model.specs.Sound.{block_right, taken_right}
use Rattle.laws.proofs.Below.{all_below_at, all_below_ext, all_below_add, all_below_fails, all_below_finds}
use Rattle.words.proofs.ClassLaws.{bounds_class, blocks_most}
use Rattle.taken.specs.Row.{all_words, TakenRow, row_taken, row_none_or_taken}
use Rattle.references.specs.Gather.{references_in, header_right, headed, references_of, right_at, segment_right, Gathered, Of}
use Rattle.taken.proofs.RowLaws.{row_none_or_taken_is, row_taken_is, is_taken_at}
use Rattle.references.proofs.GatherLaws.{all_words_ext, all_words_part, header_room, headed_free, headed_taken, references_free, references_taken, block_long, taken_inside}

-- ---- one block

-- a block with a right header is right if its references are
right_header : (ws : List ℕ) (i : ℕ) (b : List ℕ) → header_right i b ≡ true → block_right ws i b ≡ all_below (r_in b) (λ f. none_or_taken ws (reference_in b f))
unfolding header_right block_right
right_header ws i b t =
    sym (and_assoc (eqb (class_of (n_in b)) i) (leb (r_in b) (n_in b)) (all_below (r_in b) (λ f. none_or_taken ws (reference_in b f))))
    ∙ ap (λ (u : Bool). u && all_below (r_in b) (λ f. none_or_taken ws (reference_in b f))) t

wrong_header : (ws : List ℕ) (i : ℕ) (b : List ℕ) → header_right i b ≡ false → block_right ws i b ≡ false
unfolding header_right block_right
wrong_header ws i b t =
    sym (and_assoc (eqb (class_of (n_in b)) i) (leb (r_in b) (n_in b)) (all_below (r_in b) (λ f. none_or_taken ws (reference_in b f))))
    ∙ ap (λ (u : Bool). u && all_below (r_in b) (λ f. none_or_taken ws (reference_in b f))) t

-- ---- of all numbers of a range

range_all : (p : ℕ → Bool) (a n : ℕ) → list_all p (range_with_len a n) ≡ all_below n (λ k. p (a + k))
unfolding all_below
range_all p a zero = refl
range_all p a (suc n) =
    let first : a + 0 ≡ a = omega arith in
    let more : 1 + n ≡ suc n = omega arith in
    ap (λ (t : Bool). p a && t)
    (range_all p (a + 1) n ∙ all_below_ext n (λ k. p (a + 1 + k)) (λ k. p (a + (1 + k))) (λ k _. ap p (omega arith)))
    ∙ ap (λ (x : ℕ). p x && all_below n (λ k. p (a + (1 + k)))) (sym first)
    ∙ sym (all_below_add 1 n (λ k. p (a + k))) ∙ ap (λ (m : ℕ). all_below m (λ k. p (a + k))) more

-- what `(0..n).all(p)` answers
pub range_all_below : (p : ℕ → Bool) (n : ℕ) → list_all p (range_with_len 0 n) ≡ all_below n p
range_all_below p n = range_all p 0 n ∙ all_below_ext n (λ k. p (0 + k)) p (λ k _. ap p (omega arith))

-- ---- one segment

module _ {ws : List ℕ} {N s i : ℕ} (o : Of ws N s i) where
  -- a segment of a class is not in the pool
  pub of_used : in_pool ws s ≡ false
  of_used = ne_eqb (class ws s) 0 (λ z. omega (arith, o.member.class, o.member.low))

  -- a wrong header is enough
  wrong_at : (k : ℕ) → headed ws s k ≡ false → right_at ws s k ≡ false
  unfolding right_at
  wrong_at k h = go (taken_at ws s k) refl
    where
      go : (t : Bool) → taken_at ws s k ≡ t → (not t || block_right ws (class ws s) (block_of ws s k)) ≡ false
      go true e = wrong_header ws (class ws s) (block_of ws s k) (sym (headed_taken ws s k e) ∙ h)
      go false e = sym (headed_free ws s k e) ∙ h

  -- otherwise it depends on the references
  right_references : (k : ℕ) → k < blocks (class ws s) → headed ws s k ≡ true → all_words (none_or_taken ws) (references_of ws s k) ≡ right_at ws s k
  unfolding all_below right_at
  right_references k l h = go (taken_at ws s k) refl
    where
      b : List ℕ
      b = block_of ws s k

      go : (t : Bool) → taken_at ws s k ≡ t → all_words (none_or_taken ws) (references_of ws s k) ≡ (not t || block_right ws (class ws s) b)
      go true e =
          let header = sym (headed_taken ws s k e) ∙ h in
          ap (all_words (none_or_taken ws)) (references_taken ws s k e)
          ∙ all_words_part (none_or_taken ws) b 1 (r_in b) (omega (arith, block_long o k l, header_room (class ws s) b header))
          ∙ sym (right_header ws (class ws s) b header)
      go false e = ap (all_words (none_or_taken ws)) (references_free ws s k e)

  pub judged_wrong : all_below (blocks i) (headed ws s) ≡ false → segment_right ws s ≡ false
  unfolding segment_right
  judged_wrong wrong =
      let found = all_below_finds (blocks i) (headed ws s) wrong in
      rw of_used (all_below_fails (blocks (class ws s)) (right_at ws s) found.0 (omega (arith, found.1, ap blocks o.member.class)) (wrong_at found.0 found.2))

  pub judged_right : {refs : List ℕ} {row : List ℕ} {r : Bool} → Gathered ws s (blocks i) refs → TakenRow ws row
      → r ≡ all_words (row_none_or_taken row) refs → r ≡ segment_right ws s
  unfolding segment_right
  judged_right {refs} {row} g t tested =
      tested
      ∙ all_words_ext (row_none_or_taken row) (none_or_taken ws) refs (row_none_or_taken_is t)
      ∙ g.tests (none_or_taken ws) refl
      ∙ ap (λ (n : ℕ). all_below n (λ k. all_words (none_or_taken ws) (references_of ws s k))) same
      ∙ all_below_ext (blocks (class ws s)) (λ k. all_words (none_or_taken ws) (references_of ws s k)) (right_at ws s)
      (λ k l. right_references k l (all_below_at (blocks i) (headed ws s) g.headers k (omega (arith, same))))
      ∙ ap (λ (u : Bool). u || all_below (blocks (class ws s)) (right_at ws s)) (sym of_used)
    where
      same : blocks i ≡ blocks (class ws s)
      same = ap blocks o.member.class

  -- ---- a large block, tested where it stands

  -- a row tells of each block of the segment whether it is taken
  pub taken_by_row : {row : List ℕ} {t : Bool} (k : ℕ) → TakenRow ws row → k < blocks i → t ≡ row_taken row (2048 * s + k + 1) → t ≡ taken_at ws s k
  taken_by_row {row} k r l e =
      let few : k < 2048 = omega (arith, l, blocks_most i (bounds_class i o.member.low o.member.high)) in
      e ∙ row_taken_is r (2048 * s + k + 1) ∙ is_taken_at ws (2048 * s + k) ∙ ap₂ (taken_at ws) (omega arith) (omega arith)

  pub free_right : (k : ℕ) → taken_at ws s k ≡ false → true ≡ right_at ws s k
  unfolding right_at
  free_right k e = rw e

  pub header_wrong : {b : List ℕ} {right : Bool} (k : ℕ) → b ≡ block_of ws s k → right ≡ header_right i b → right ≡ false
      → taken_at ws s k ≡ true → false ≡ right_at ws s k
  unfolding right_at
  header_wrong {b} {right} k e h wrong t =
      rw t (sym (wrong_header ws (class ws s) (block_of ws s k) (ap₂ header_right (sym o.member.class) (sym e) ∙ sym h ∙ wrong)))

  pub references_right : {b : List ℕ} {right answer : Bool} {row : List ℕ} (k : ℕ) → b ≡ block_of ws s k → right ≡ header_right i b
      → right ≡ true → taken_at ws s k ≡ true → TakenRow ws row → answer ≡ all_words (row_none_or_taken row) (references_in b) → answer ≡ right_at ws s k
  references_right {b} {right} {answer} {row} k e h right_one t r a =
      let header = ap₂ header_right (sym o.member.class) (sym e) ∙ sym h ∙ right_one in
      a
      ∙ all_words_ext (row_none_or_taken row) (none_or_taken ws) (part b 1 (r_in b)) (row_none_or_taken_is r)
      ∙ ap (λ (x : List ℕ). all_words (none_or_taken ws) (part x 1 (r_in x))) e
      ∙ ap (all_words (none_or_taken ws)) (sym (references_taken ws s k t))
      ∙ right_references k (taken_inside ws s k t) (headed_taken ws s k t ∙ header)

  pub large_judged : {answer : Bool} → answer ≡ all_below (blocks i) (right_at ws s) → answer ≡ segment_right ws s
  unfolding segment_right
  large_judged a =
      a ∙ ap (λ (n : ℕ). all_below n (right_at ws s)) (ap blocks o.member.class) ∙ ap (λ (u : Bool). u || all_below (blocks (class ws s)) (right_at ws s)) (sym of_used)

-- ---- the whole

pub judged_pool : (ws : List ℕ) (s : ℕ) → in_pool ws s ≡ true → segment_right ws s ≡ true
unfolding segment_right
judged_pool ws s p = rw p

pub every_segment_right : (ws : List ℕ) → taken_right ws ≡ all_below (segments ws) (segment_right ws)
unfolding taken_right segment_right right_at
every_segment_right ws = refl
