-- Gathering: copies of words, and the references of a taken block.
-- Assumes nothing.
use Prim.Native.Nat.{ℕ, suc, ◌+◌, ◌-◌, ◌/◌, ◌^◌, ◌≤◌, ◌<◌}
use mathlib.Core.Path.{◌≡◌, refl, sym, ap, ◌∙◌, subst}
use mathlib.Core.Logic.{◌≢◌}
use mathlib.Core.Bool.{Bool, true, not}
use mathlib.Core.List.{List, ◌++◌}
use native.Mathlib.Nat.{mod-eq_of_lt, mul-div_cancel}
use native.Mathlib.Omega.{arith}
use native.Mathlib.Decide.{dec_le}
use native.Mathlib.Numerals.{add-one}
use lib.Bits.{bit_and, and_mask}
use lib.Pow.{pow-add}
use lib.Dec.{eqb}
use lib.ListN.{length, get_or, take, drop, set, length-drop}
use lib.Seq.{length-take-le, take-append-add, take-append-le, take_at, take-set-le, take-suc-set, ext_get_or}
use borrow.Author.Tests.{eqb-false, not-true}
use Rattle.model.specs.Below.{words_below, lists_below}
use Rattle.model.specs.Word.{word, part, put}
use Rattle.model.specs.Class.{block_words}
use Rattle.model.specs.Layout.{segment_of, index_of, block_at}
use Rattle.model.specs.View.{segments, class, block, block_of, n_in, r_in, reference_in}
use Rattle.model.specs.Standing.{taken_at, is_taken, none_or_taken}
use Rattle.model.specs.Sound.{sound}
use Rattle.laws.proofs.Below.{length_words_below, word_words_below}
use Rattle.laws.proofs.Splice.{length_part, word_part, put_mid_is}
use Rattle.words.proofs.ClassLaws.{class_bounds, class_high, class_room, block_least}
use Rattle.arena.specs.Inside.{Segment, Block}
use Rattle.soundness.proofs.Tests.{and_left, and_right}
use Rattle.soundness.proofs.Facts.{sound_facts, taken_block, block_length}
use Rattle.trace.specs.Gather.{Masked, Begins, First, references_of, references_of_all}

-- ---- a copy

-- a part of a row after as many words have been copied there
pub part_copied : (row from part : List ℕ) (at to : ℕ) → at ≤ to → to ≤ length row → length part ≡ length (take (to - at) (drop at row)) → part ≡ from →
    take at row ++ (part ++ drop (to - at) (drop at row)) ≡ put row at from
part_copied row from part at to l u size e =
    put_mid_is at (to - at) row part (size ∙ length-take-le (to - at) (drop at row) (rw (length-drop at row) (omega arith))) ∙ ap (put row at) e

-- words in a row, one by one
pub part_words : (ws : List ℕ) (o n : ℕ) → o + n ≤ length ws → part ws o n ≡ words_below n (λ k. word ws (o + k))
part_words ws o n h =
    let f : ℕ → ℕ = λ k. word ws (o + k) in
    ext_get_or 0 (part ws o n) (words_below n f) (length_part ws o n h ∙ sym (length_words_below n f))
    (λ k l. let u : k < n = omega (arith, length_part ws o n h) in word_part ws o n k u ∙ sym (word_words_below n f k u))

-- the words that were copied, before what stands behind them
pub copied : (block row part : List ℕ) (r : ℕ) → r < length block → part ≡ take (1 + r - 1) (drop 1 block) → Begins (words_below r (reference_in block)) r (part ++ row)
copied block row part r h e =
    let f : ℕ → ℕ = reference_in block in
    let size : 1 + r - 1 ≡ r = omega arith in
    let words : part ≡ words_below r f = e ∙ ap (λ (n : ℕ). take n (drop 1 block)) size ∙ part_words block 1 r (omega arith) in
    record {
      count = sym (length_words_below r f);
      words = rw words (take_at (words_below r f) row r (length_words_below r f));
    }

-- ---- the first references, one by one

pub first_none : (block row : List ℕ) → First block 0 row
unfolding lists_below
first_none block row r l u =
    let e : r ≡ 0 = omega arith in
    rw e (record { count = refl; words = refl })

pub first_more : (block : List ℕ) (n : ℕ) (row : List ℕ) (v : ℕ) → n < length row → (1 + n < length block → v ≡ word block (1 + n)) →
    First block n row → First block (n + 1) (set row n v)
unfolding lists_below
first_more block n row v l is_v before r u w = go (dec_le r n)
  where
    f : ℕ → ℕ
    f = reference_in block

    go : Dec (r ≤ n) → Begins (words_below r f) r (set row n v)
    go (yes a) = record { count = (before r a w).count; words = take-set-le r row n v (omega arith) ∙ (before r a w).words }
    go (no a) =
        let last : r ≡ suc n = omega arith in
        let b = before n (omega arith) (omega arith) in
        subst (λ (k : ℕ). Begins (words_below k f) k (set row n v)) (sym last) (record {
          count = sym (length_words_below (suc n) f);
          words = rw (take-suc-set row n v l, b.words, is_v (omega arith));
        })

-- the first r are all of them
pub all_references : (block : List ℕ) (r : ℕ) (row : List ℕ) → r ≡ r_in block → Begins (words_below r (reference_in block)) r row →
    Begins (words_below (r_in block) (reference_in block)) r row
all_references block r row e b = subst (λ (n : ℕ). Begins (words_below n (reference_in block)) r row) e b

-- ---- a run

-- one block more
pub one_more : (ws queue : List ℕ) (n end count : ℕ) (row rest behind : List ℕ) → end ≤ length row → count ≤ length rest →
    take end row ≡ references_of_all ws queue n → Begins (references_of ws (get_or queue n 0)) count rest →
    take (end + count) (take end row ++ (rest ++ behind)) ≡ references_of_all ws queue (n + 1)
unfolding lists_below
one_more ws queue n end count row rest behind l u e b =
    let whole : take (end + count) (take end row ++ (rest ++ behind)) ≡ take end row ++ take count (rest ++ behind) =
    ap (λ (k : ℕ). take (k + count) (take end row ++ (rest ++ behind))) (sym (length-take-le end row l)) ∙ take-append-add (take end row) (rest ++ behind) count in
    rw (add-one, whole, take-append-le count rest behind u, b.words, e)

-- ---- a taken block

-- what is known of the taken block of handle h in a sound arena: where it lies, and what references it has
pub record Inside (ws : List ℕ) (h : ℕ) : Type 0 where
  pub some : 0 < h
  pub its_segment : Segment ws (segment_of h)
  pub its_block : Block ws (segments ws) (segment_of h) (class ws (segment_of h)) (index_of h)
  pub room : r_in (block ws h) < length (block ws h)
  pub most : r_in (block ws h) ≤ 1023
  pub masked : Masked (block ws h)
  pub references : (f : ℕ) → f < r_in (block ws h) → none_or_taken ws (reference_in (block ws h) f) ≡ true

taken_there : (ws : List ℕ) (h : ℕ) → is_taken ws h ≡ true → (h ≢ 0) × (taken_at ws (segment_of h) (index_of h) ≡ true)
unfolding is_taken
taken_there ws h t =
    let at : Bool = taken_at ws (segment_of h) (index_of h) in
    (eqb-false h 0 (not-true (eqb h 0) (and_left (not (eqb h 0)) at t)), and_right (not (eqb h 0)) at t)

-- the words of a block are a power of two
class_mask : (i : ℕ) → 3 ≤ i → (o : ℕ) → o < block_words i → bit_and o (block_words i - 1) ≡ o
class_mask i low o l = rw whole (and_mask o (i - 2) ∙ mod-eq_of_lt (rw whole at l))
  where
    whole : 2 ^ i / 4 ≡ 2 ^ (i - 2)
    whole =
        let e : i ≡ i - 2 + 2 = omega arith in
        ap (λ (k : ℕ). 2 ^ k / 4) e ∙ ap (λ (x : ℕ). x / 4) (pow-add 2 (i - 2) 2) ∙ mul-div_cancel (2 ^ (i - 2)) (omega arith)

pub taken_inside : (ws : List ℕ) (h : ℕ) → sound ws ≡ true → is_taken ws h ≡ true → Inside ws h
taken_inside ws h right taken =
    let s : ℕ = segment_of h in
    let k : ℕ = index_of h in
    let facts = sound_facts ws right in
    let z = facts.size in
    let there = taken_there ws h taken in
    let n : h ≢ 0 = there.0 in
    let b = taken_block ws s k there.1 in
    let c = facts.classed s b.member in
    let bounds = class_bounds (class ws s) c in
    let shape = facts.right s k there.1 in
    let long = block_length ws z s k c b in
    let small : n_in (block ws h) ≤ 1023 = (class_high (n_in (block ws h))).0 (rw shape.fits bounds.1) in
    record {
      some = omega arith;
      its_segment = record { few = z.few; long = z.long; there = b.member.below };
      its_block = record { few = z.few; long = z.long; there = b.member.below; low = bounds.0; high = bounds.1; inside = b.inside };
      room = omega (arith, shape.within, class_room (n_in (block ws h)) (class ws s) shape.fits);
      most = omega (arith, shape.within);
      masked = record {
        some = omega (arith, block_least (class ws s) c);
        kept = λ o l. rw long (class_mask (class ws s) bounds.0 o (rw long at l));
      };
      references = shape.references;
    }

-- the part that is cut out is the block
pub block_is : (ws : List ℕ) (N s i k h : ℕ) (b : List ℕ) → N ≡ segments ws → s ≡ segment_of h → i ≡ class ws s → k ≡ index_of h →
    b ≡ part ws (block_at N s i k) (block_words i) → b ≡ block ws h
unfolding block_of
block_is ws N s i k h b eN es ei ek eb = cc
