-- Laws of blocks that stand side by side: their references field by field pass a test that 0 passes exactly if all their references do.
-- Assumes nothing.
use Prim.Native.Nat.{ℕ, zero, suc, ◌+◌, ◌-◌, ◌*◌, ◌≤◌, ◌<◌}
use mathlib.Core.Path.{◌≡◌, refl, sym, ap, ap₂, ◌∙◌}
use mathlib.Core.Bool.{Bool, true, false, not, ◌&&◌, cond, and-true, and-false}
use mathlib.Core.List.{List, ◌++◌}
use native.Mathlib.Nat.{mul-add, mul-suc, add-zero, mul-le-mul_left, mul-le-mul_right}
use native.Mathlib.Omega.{arith}
use Rattle.std.proofs.Common.{Option, Some, None}
use lib.Dec.{eqb}
use native.Mathlib.Decide.{dec_lt}
use lib.ListN.{length, take, drop, length-append, length-drop}
use lib.Seq.{length-take-le, take-append_seam, drop-append_seam, drop-drop}
use borrow.Author.Count.{below_more}
use borrow.Author.Tests.{lt-ltb, le-ltb, ne_eqb}
use Rattle.model.specs.Below.{one_if, all_below}
use Rattle.model.specs.Word.{word, part}
use Rattle.model.specs.Class.{is_class, block_words}
use Rattle.model.specs.Layout.{arena_length, block_at}
use Rattle.model.specs.View.{class, block_of, r_in}
use Rattle.laws.proofs.Below.{all_below_at, all_below_intro, all_below_ext, all_below_step, all_below_add, all_below_split}
use Rattle.laws.proofs.Splice.{length_part, part_part}
use Rattle.words.proofs.ClassLaws.{bounds_class, blocks_fill}
use Rattle.words.proofs.HandleLaws.{block_in_arena}
use Rattle.taken.specs.Row.{all_words}
use Rattle.references.specs.Gather.{header_right, references_in, headed, references_of, GatheredBelow, Of, AtFull}
use Rattle.references.specs.Beside.{Beside, beside, reference_or_none, FieldsPut, InColumns, AddedBeside}
use Rattle.taken.proofs.RowLaws.{all_words_append}
use Rattle.references.proofs.GatherLaws.{all_words_take, all_words_part, header_room, headed_taken, references_taken, block_handed}

-- ---- tests, field by field and block by block

same_test : (a b : Bool) → (a ≡ true → b ≡ true) → (b ≡ true → a ≡ true) → a ≡ b
same_test true b f g = sym (f refl)
same_test false true f g = g refl
same_test false false f g = refl

exchanged : (m n : ℕ) (q : ℕ → ℕ → Bool) → all_below m (λ f. all_below n (q f)) ≡ all_below n (λ k. all_below m (λ f. q f k))
exchanged m n q =
    same_test (all_below m (λ f. all_below n (q f))) (all_below n (λ k. all_below m (λ f. q f k)))
    (λ t. all_below_intro n (λ k. all_below m (λ f. q f k)) (λ k u. all_below_intro m (λ f. q f k) (λ f l. all_below_at n (q f) (all_below_at m (λ f. all_below n (q f)) t f l) k u)))
    (λ t. all_below_intro m (λ f. all_below n (q f)) (λ f l. all_below_intro n (q f) (λ k u. all_below_at m (λ f. q f k) (all_below_at n (λ k. all_below m (λ f. q f k)) t k u) f l)))

by_rows : (n : ℕ) (q : ℕ → Bool) → all_below (32 * n) q ≡ all_below n (λ f. all_below 32 (λ k. q (32 * f + k)))
unfolding all_below
by_rows zero q = refl
by_rows (suc n) q =
    let more : 32 * suc n ≡ 32 * n + 32 = omega arith in
    ap (λ (m : ℕ). all_below m q) more ∙ all_below_add (32 * n) 32 q
    ∙ ap (λ (t : Bool). t && all_below 32 (λ k. q (32 * n + k))) (by_rows n q)

-- ---- one block: its references, and zeros

one_block : (b : List ℕ) → r_in b < length b → (p : ℕ → Bool) → p 0 ≡ true
    → all_below (length b - 1) (λ f. p (reference_or_none b f)) ≡ all_words p (references_in b)
unfolding reference_or_none
one_block b few p none =
    all_below_split r (length b - 1) (λ f. p (reference_or_none b f)) (omega arith)
    ∙ ap₂ ◌&&◌ (all_below_ext r (λ f. p (reference_or_none b f)) (λ f. p (word b (1 + f))) (λ f u. ap p (has f u)))
    (all_below_intro (length b - 1 - r) (λ f. p (reference_or_none b (r + f))) (λ f u. ap p (has_not (r + f) (omega arith)) ∙ none))
    ∙ and-true (all_below r (λ f. p (word b (1 + f))))
    ∙ sym (all_words_part p b 1 r (omega arith))
  where
    r : ℕ
    r = r_in b

    has : (f : ℕ) → f < r → reference_or_none b f ≡ word b (1 + f)
    has f u = ap (λ (t : Bool). cond t (word b (1 + f)) 0) (lt-ltb f r u)

    has_not : (f : ℕ) → r ≤ f → reference_or_none b f ≡ 0
    has_not f u = ap (λ (t : Bool). cond t (word b (1 + f)) 0) (le-ltb f r u)

module _ {words : List ℕ} {size : ℕ} (b : Beside words size) where
  pub within : (k : ℕ) → k < 32 → size * k + size ≤ 32 * size
  within k l = omega (arith, mul-le-mul_left size l, mul-suc size k)

  pub beside_long : (k : ℕ) → k < 32 → length (beside words size k) ≡ size
  beside_long k l = length_part words (size * k) size (omega (arith, within k l, b.long))

  -- the chunk behind k of them, and what is left behind it
  module _ {rest : List ℕ} (rest' block : List ℕ) (k : ℕ) (here : rest ≡ drop (size * k) words) (cut : rest ≡ block ++ rest') (own : length block ≡ size) where
    pub chunk_beside : block ≡ beside words size k
    chunk_beside = sym (take-append_seam block rest') ∙ ap₂ (λ (n : ℕ) (xs : List ℕ). take n xs) own (sym cut ∙ here)

    pub chunk_left : rest' ≡ drop (size * (k + 1)) words
    chunk_left =
        sym (drop-append_seam block rest') ∙ ap₂ (λ (n : ℕ) (xs : List ℕ). drop n xs) own (sym cut ∙ here)
        ∙ drop-drop size (size * k) words ∙ ap (λ (n : ℕ). drop n words) (omega (arith, mul-add size k 1))

    pub chunk_inside : k < 32
    chunk_inside = go (dec_lt k 32)
      where
        go : Dec (k < 32) → k < 32
        go (yes l) = l
        go (no l) =
            let past : 32 ≤ k = omega arith in
            omega (arith, mul-le-mul_left size past, ap length here, ap length cut, length-append block rest', length-drop (size * k) words, b.long, b.some, own)

  -- there is none behind the 32nd
  pub chunks_end : {rest : List ℕ} {k : ℕ} → rest ≡ drop (size * k) words → length rest < size → k ≤ 32 → k ≡ 32
  chunks_end {rest} {k} here short most = go (dec_lt k 32)
    where
      go : Dec (k < 32) → k ≡ 32
      go (yes l) = absurd (omega (arith, within k l, ap length here, length-drop (size * k) words, b.long, short))
      go (no l) = omega arith

  -- one header more: `wrong` counts those that are not right
  wrong_step : (i wrong k v : ℕ) → eqb wrong 0 ≡ all_below k (λ k. header_right i (beside words size k))
      → v ≡ one_if (not (header_right i (beside words size k))) → eqb (wrong + v) 0 ≡ all_below (k + 1) (λ k. header_right i (beside words size k))
  wrong_step i wrong k v h e =
      ap (λ (x : ℕ). eqb (wrong + x) 0) e
      ∙ go (header_right i (beside words size k))
      ∙ ap (λ (t : Bool). t && header_right i (beside words size k)) h
      ∙ sym (all_below_step k (λ k. header_right i (beside words size k)))
    where
      go : (t : Bool) → eqb (wrong + one_if (not t)) 0 ≡ (eqb wrong 0 && t)
      go true = ap (λ (x : ℕ). eqb x 0) (add-zero wrong) ∙ sym (and-true (eqb wrong 0))
      go false = ne_eqb (wrong + 1) 0 (λ z. omega arith) ∙ sym (and-false (eqb wrong 0))

  pub columns_none : (i : ℕ) (rest : List ℕ) → InColumns i words size 0 rest 0
  unfolding all_below
  columns_none i rest = record { fields = λ f k l u. absurd (omega arith); headers = refl }

  pub columns_step : {i : ℕ} {block rest rest' : List ℕ} {n wrong v : ℕ} → InColumns i words size n rest wrong → block ≡ beside words size n
      → FieldsPut block n (size - 1) rest rest' → n < 32 → v ≡ one_if (not (header_right i block)) → InColumns i words size (n + 1) rest' (wrong + v)
  columns_step {i} {block} {rest} {rest'} {n} {wrong} {v} h own g l e = record {
    fields = λ f k u.
        below_more (λ (k : ℕ). word rest' (32 * f + k) ≡ reference_or_none (beside words size k) f) n
        (λ k q. g.others (32 * f + k) (λ f' _ z. omega arith) ∙ h.fields f k u q)
        (g.fields f (omega arith) ∙ ap (λ (x : List ℕ). reference_or_none x f) own) k;
    headers = wrong_step i wrong n v h.headers (e ∙ ap (λ (x : List ℕ). one_if (not (header_right i x))) own);
  }

  pub added_beside : (refs rest : List ℕ) (i wrong : ℕ) → block_words i ≡ size → 32 * (size - 1) ≤ length rest → InColumns i words size 32 rest wrong
      → AddedBeside i words size refs (cond (eqb wrong 0) (Some (refs ++ take (32 * (size - 1)) rest)) None)
  added_beside refs rest i wrong own room c = go (eqb wrong 0) c.headers
    where
      n : ℕ
      n = size - 1

      right : ℕ → Bool
      right k = header_right i (beside words size k)

      go : (t : Bool) → t ≡ all_below 32 right → AddedBeside i words size refs (cond t (Some (refs ++ take (32 * n) rest)) None)
      go false e = sym e
      go true e = record {
        headers = sym e;
        counted = length-append refs (take (32 * n) rest) ∙ ap (λ (x : ℕ). length refs + x) (length-take-le (32 * n) rest room);
        tests = λ p none.
            all_words_append p refs (take (32 * n) rest)
            ∙ ap (λ (t : Bool). all_words p refs && t)
            (all_words_take p (32 * n) rest room
            ∙ by_rows n (λ o. p (word rest o))
            ∙ all_below_ext n (λ f. all_below 32 (λ k. p (word rest (32 * f + k)))) (λ f. all_below 32 (λ k. p (reference_or_none (beside words size k) f)))
            (λ f l. all_below_ext 32 (λ k. p (word rest (32 * f + k))) (λ k. p (reference_or_none (beside words size k) f)) (λ k u. ap p (c.fields f k (omega arith) u)))
            ∙ exchanged n 32 (λ f k. p (reference_or_none (beside words size k) f))
            ∙ all_below_ext 32 (λ k. all_below n (λ f. p (reference_or_none (beside words size k) f))) (λ k. all_words p (references_in (beside words size k)))
            (λ k u.
            ap (λ (z : ℕ). all_below (z - 1) (λ f. p (reference_or_none (beside words size k) f))) (sym (beside_long k u))
            ∙ one_block (beside words size k)
            (omega (arith, own, beside_long k u, header_room i (beside words size k) (all_below_at 32 right (sym e) k u)))
            p none));
      }

-- ---- 32 blocks of a segment

less : (z : ℕ) → z - 1 ≤ z
less z = omega arith

module _ {ws : List ℕ} {N s i j : ℕ} {refs : List ℕ} (of : Of ws N s i) (a : AtFull ws s i j refs) where
  own : block_words (class ws s) ≡ block_words i
  own = ap block_words (sym of.member.class)

  pub full_class : is_class i ≡ true
  full_class = bounds_class i of.member.low of.member.high

  pub full_room : length refs + 32 * (block_words i - 1) ≤ 4096
  full_room =
      omega (
        arith,
        a.gathered.few,
        own,
        blocks_fill i full_class,
        mul-le-mul_left (block_words i) a.inside,
        mul-add (block_words i) (32 * j) 32,
        fewer,
      )
    where
      fewer : (block_words (class ws s) - 1) * (32 * j) ≤ block_words i * (32 * j)
      fewer = omega (arith, ap (λ (z : ℕ). z * (32 * j)) own, mul-le-mul_right (32 * j) (less (block_words (class ws s))))

  -- they stand in the arena
  pub full_within : block_at N s i (32 * j) + 32 * block_words i ≤ length ws
  full_within =
      omega (
        arith,
        of.member.long,
        of.all,
        ap arena_length of.all,
        block_in_arena N s i (32 * j + 31) (omega (arith, of.member.there, of.all)) full_class (omega (arith, a.inside)),
        mul-add (block_words i) (32 * j) 31,
      )

  pub full_gathered : {words : List ℕ} {size : ℕ} (added : Option (List ℕ)) → size ≡ block_words i → words ≡ part ws (block_at N s i (32 * j)) (32 * size)
      → AddedBeside i words size refs added → GatheredBelow ws s (32 * j + 32) added
  full_gathered {words} {size} added big e d = go added d
    where
      its_block : (k : ℕ) → k < 32 → beside words size k ≡ block_of ws s (32 * j + k)
      its_block k l =
          let place : block_at N s i (32 * j) + size * k ≡ block_at N s i (32 * j + k) = omega (arith, mul-add (block_words i) (32 * j) k, ap (λ (z : ℕ). z * k) big) in
          block_handed of (32 * j + k)
          (ap (λ (xs : List ℕ). part xs (size * k) size) e
          ∙ part_part ws (block_at N s i (32 * j)) (32 * size) (size * k) size (omega (arith, big, full_within)) (omega (arith, mul-le-mul_left size l, mul-suc size k))
          ∙ ap₂ (part ws) place big)

      -- the headers of all blocks up to there
      headers : all_below (32 * j + 32) (headed ws s) ≡ all_below 32 (λ k. header_right i (beside words size k))
      headers =
          all_below_add (32 * j) 32 (headed ws s)
          ∙ ap₂ ◌&&◌ a.gathered.headers
          (all_below_ext 32 (λ k. headed ws s (32 * j + k)) (λ k. header_right i (beside words size k))
          (λ k l. headed_taken ws s (32 * j + k) (a.taken k l) ∙ sym (ap₂ header_right of.member.class (its_block k l))))

      go : (added : Option (List ℕ)) → AddedBeside i words size refs added → GatheredBelow ws s (32 * j + 32) added
      go None wrong = headers ∙ wrong
      go (Some refs') d = record {
        headers = headers ∙ d.headers;
        room = omega (arith, d.counted, big, full_room);
        few = omega (arith, d.counted, big, own, a.gathered.few, mul-add (block_words (class ws s) - 1) (32 * j) 32);
        tests = λ p none.
            d.tests p none
            ∙ ap₂ ◌&&◌ (a.gathered.tests p none)
            (all_below_ext 32 (λ k. all_words p (references_in (beside words size k))) (λ k. all_words p (references_of ws s (32 * j + k)))
            (λ k l. ap (all_words p) (ap references_in (its_block k l) ∙ sym (references_taken ws s (32 * j + k) (a.taken k l)))))
            ∙ sym (all_below_add (32 * j) 32 (λ k. all_words p (references_of ws s k)));
      }
