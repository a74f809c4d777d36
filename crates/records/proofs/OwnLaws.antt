-- The levels of a record are right exactly if each of them is the one that the record's own words make of the level below.
-- Assumes nothing.
use Prim.Native.Nat.{ℕ, zero, suc, ◌+◌, ◌-◌, ◌*◌, ◌/◌, ◌%◌, ◌^◌, ◌≤◌, ◌<◌, min, zero-le}
use mathlib.Core.Path.{◌≡◌, refl, sym, ap, ap₂, ◌∙◌}
use mathlib.Core.Bool.{Bool, true, false, cond, ◌&&◌, ◌||◌, or-true, or-false}
use mathlib.Core.List.{List}
use native.Mathlib.Decide.{dec_lt}
use native.Mathlib.Omega.{arith}
use lib.ListN.{length, get_or-eq_default}
use lib.Bits.{bit_or, or_lt}
use lib.Dec.{eqb, leb, ltb}
use borrow.Author.Tests.{eqb-true, leb-true, eq-eqb, ne_eqb, le-leb, lt-leb, lt-ltb, le-ltb}
use Rattle.model.specs.Below.{all_below}
use Rattle.model.specs.Word.{word, part, bit, full, word_of_bits}
use Rattle.model.specs.Class.{is_class, blocks, words_for, level_words, level_end}
use Rattle.model.specs.Layout.{level_at, level_room, padded_word, level_word}
use Rattle.model.specs.View.{bit_in}
use Rattle.model.specs.Sound.{levels_right}
use Rattle.laws.proofs.Below.{all_below_step, all_below_at, all_below_intro, all_below_ext, all_below_split}
use Rattle.laws.proofs.Bits.{bit_zero, bit_of_or, bit_word_of_bits, word_of_bits_lt, word_of_bits_ext, word_of_its_bits, word_ext}
use Rattle.laws.proofs.Splice.{length_part, word_part}
use Rattle.words.proofs.ClassLaws.{class_rule, blocks_most}
use Rattle.bitmap.specs.Tree.{OfClass}
use Rattle.bitmap.proofs.LevelLaws.{level_set, level_word_is, padded_used, padded_unused, padded_ext, words_room}
use Rattle.soundness.proofs.Tests.{Order, is_below, is_same, is_above, order}
use Rattle.records.specs.Own.{own_set, own_word, word_right, level_right, LowestOf}

-- ---- words by their bits

-- a word is the one that has these bits
word_is : (w : ℕ) (f : ℕ → Bool) → w < 2 ^ 32 → ((b : ℕ) → b < 32 → bit w b ≡ f b) → w ≡ word_of_bits f
word_is w f h e = word_ext w (word_of_bits f) h (word_of_bits_lt f) (λ b l. e b l ∙ sym (bit_word_of_bits f b l))

-- ---- which words are full, one after the other

-- of the words ws those before b have told
pub record Told (ws : List ℕ) (b w : ℕ) : Type 0 where
  pub fits : w < 2 ^ 32
  pub bits : (k : ℕ) → k < 32 → bit w k ≡ (ltb k b && full (word ws k))

pub none_told : (ws : List ℕ) → Told ws 0 0
none_told ws = record { fits = omega arith; bits = λ k l. bit_zero k ∙ sym (ap (λ (t : Bool). t && full (word ws k)) (le-ltb k 0 zero-le)) }

pub one_told : {ws : List ℕ} {b w r : ℕ} → Told ws b w → r ≡ word_of_bits (λ k. (eqb k b && full (word ws b)) || bit w k) → Told ws (b + 1) r
one_told {ws} {b} {w} {r} h e = record {
  fits = rw e (word_of_bits_lt (λ k. (eqb k b && full (word ws b)) || bit w k));
  bits = λ k l. ap (λ (x : ℕ). bit x k) e ∙ bit_word_of_bits (λ k. (eqb k b && full (word ws b)) || bit w k) k l
      ∙ ap (λ (t : Bool). (eqb k b && full (word ws b)) || t) (h.bits k l) ∙ step k (order k b);
}
  where
    step : (k : ℕ) → Order k b → ((eqb k b && full (word ws b)) || (ltb k b && full (word ws k))) ≡ (ltb k (b + 1) && full (word ws k))
    step k (is_below l) = rw (ne_eqb k b (omega arith), lt-ltb k b l, lt-ltb k (b + 1) (omega arith))
    step k (is_same e) = rw (eq-eqb k b e, le-ltb k b (omega arith), lt-ltb k (b + 1) (omega arith), or-false) (ap (λ (x : ℕ). full (word ws x)) (sym e))
    step k (is_above l) = rw (ne_eqb k b (omega arith), le-ltb k b (omega arith), le-ltb k (b + 1) (omega arith))

pub all_told : {ws : List ℕ} {b w : ℕ} → Told ws b w → length ws ≤ b → w ≡ word_of_bits (λ k. full (word ws k))
all_told {ws} {b} {w} h e = word_is w (λ k. full (word ws k)) h.fits (λ k l. h.bits k l ∙ rest k (dec_lt k b))
  where
    rest : (k : ℕ) → Dec (k < b) → (ltb k b && full (word ws k)) ≡ full (word ws k)
    rest k (yes l) = rw (lt-ltb k b l)
    rest k (no l) = rw (le-ltb k b (omega arith), get_or-eq_default ws 0 {n = k} (omega arith))

-- ---- a word of a level, made of bits and padding

pub padded_is : (words end : ℕ) (set : ℕ → Bool) (j n w pad : ℕ) → j < words → n ≡ min 32 (end - 32 * j) → w < 2 ^ 32
    → ((b : ℕ) → b < n → bit w b ≡ set (32 * j + b)) → pad ≡ word_of_bits (λ b. leb n b) → bit_or w pad ≡ padded_word words end set j
padded_is words end set j n w pad used count fits tell e =
    word_is (bit_or w pad) (λ b. leb end (32 * j + b) || set (32 * j + b))
    (or_lt 32 w pad fits (rw e (word_of_bits_lt (λ b. leb n b))))
    (λ b l. bit_of_or w pad b ∙ ap (λ (t : Bool). bit w b || t) (ap (λ (x : ℕ). bit x b) e ∙ bit_word_of_bits (λ b. leb n b) b l) ∙ each b l (dec_lt b n))
    ∙ sym (padded_used words end set j used)
  where
    each : (b : ℕ) → b < 32 → Dec (b < n) → (bit w b || leb n b) ≡ (leb end (32 * j + b) || set (32 * j + b))
    each b l (yes h) = rw (lt-leb n b h, lt-leb end (32 * j + b) (omega arith), or-false) (tell b h)
    each b l (no h) = rw (le-leb n b (omega arith), le-leb end (32 * j + b) (omega arith), or-true)

-- level 0 of its own bits, and a level above of the words below
own_bit : (rec : List ℕ) (j b : ℕ) → b < 32 → bit_in rec (32 * j + b) ≡ bit (word rec (level_at 0 + j)) b
own_bit rec j b l =
    let word_at : (32 * j + b) / 32 ≡ j = omega arith in
    let bit_at : (32 * j + b) % 32 ≡ b = omega arith in
    rw (word_at, bit_at)

pub own_lowest : (words end : ℕ) (rec : List ℕ) (j n w pad : ℕ) → j < words → n ≡ min 32 (end - 32 * j) → w < 2 ^ 32
    → w ≡ word rec (level_at 0 + j) → pad ≡ word_of_bits (λ b. leb n b) → bit_or w pad ≡ own_word words end rec 0 j
own_lowest words end rec j n w pad used count fits e p =
    padded_is words end (bit_in rec) j n w pad used count fits (λ b l. ap (λ (x : ℕ). bit x b) e ∙ sym (own_bit rec j b (omega arith))) p

pub own_above : (words end : ℕ) (rec : List ℕ) (l j n w pad : ℕ) → 1 ≤ l → j < words → n ≡ min 32 (end - 32 * j)
    → w ≡ word_of_bits (λ b. full (word (part rec (level_at (l - 1) + 32 * j) n) b)) → pad ≡ word_of_bits (λ b. leb n b)
    → bit_or w pad ≡ own_word words end rec l j
own_above words end rec zero j n w pad up used count e p = absurd (omega arith)
own_above words end rec (suc l) j n w pad up used count e p =
    padded_is words end (own_set rec (suc l)) j n w pad used count
    (rw below (word_of_bits_lt (λ b. full (word (part rec (level_at l + 32 * j) n) b)))) at p
  where
    below : w ≡ word_of_bits (λ b. full (word (part rec (level_at l + 32 * j) n) b))
    below = let back : suc l - 1 ≡ l = omega arith in rw back at e

    at : (b : ℕ) → b < n → bit w b ≡ full (word rec (level_at l + (32 * j + b)))
    at b h =
        let there : level_at l + 32 * j + b ≡ level_at l + (32 * j + b) = omega arith in
        ap (λ (x : ℕ). bit x b) below ∙ bit_word_of_bits (λ b. full (word (part rec (level_at l + 32 * j) n) b)) b (omega arith)
        ∙ ap full (word_part rec (level_at l + 32 * j) n b h ∙ ap (word rec) there)

-- ---- level 0

-- all of n words are 0
abbrev zeros : ℕ → List ℕ → Bool
zeros n ws = all_below n (λ k. eqb (word ws k) 0)

-- a used word before the last has no padding and is right, and an unused word is right if it is 0
module _ (rec : List ℕ) (words end : ℕ) (h : LowestOf rec words end) (fits : (o : ℕ) → word rec o < 2 ^ 32) where
  before_last : (j : ℕ) → j < words - 1 → word_right words end rec 0 j ≡ true
  before_last j l =
      eq-eqb _ _
      (sym (padded_used words end (bit_in rec) j (omega arith)
      ∙ word_of_bits_ext (λ b. leb end (32 * j + b) || bit_in rec (32 * j + b)) (bit (word rec (level_at 0 + j))) (λ b b<32. rw (lt-leb end (32 * j + b) (omega (arith, h.begin))) (own_bit rec j b b<32))
      ∙ word_of_its_bits (word rec (level_at 0 + j)) (fits (level_at 0 + j))))

  used : all_below words (word_right words end rec 0) ≡ word_right words end rec 0 (words - 1)
  used =
      let back : words - 1 + 1 ≡ words = omega (arith, h.some) in
      ap (λ (n : ℕ). all_below n (word_right words end rec 0)) (sym back) ∙ all_below_step (words - 1) (word_right words end rec 0)
      ∙ ap (λ (t : Bool). t && word_right words end rec 0 (words - 1)) (all_below_intro (words - 1) (word_right words end rec 0) before_last)

  unused : (k : ℕ) → k < 64 - words → word_right words end rec 0 (words + k) ≡ eqb (word (part rec (1 + words) (64 - words)) k) 0
  unused k l =
      let there : 1 + words + k ≡ level_at 0 + (words + k) = omega arith in
      ap₂ eqb (sym (word_part rec (1 + words) (64 - words) k l ∙ ap (word rec) there)) (padded_unused words end (bit_in rec) (words + k) (omega arith))

  lowest_is : level_right words end rec 0 ≡ (word_right words end rec 0 (words - 1) && zeros (64 - words) (part rec (1 + words) (64 - words)))
  unfolding level_right
  lowest_is =
      all_below_split words 64 (word_right words end rec 0) h.room
      ∙ ap₂ ◌&&◌ used (all_below_ext (64 - words) (λ k. word_right words end rec 0 (words + k)) (λ k. eqb (word (part rec (1 + words) (64 - words)) k) 0) unused)

  -- so the last used word decides, or the words behind it do
  pub last_fails : word_right words end rec 0 (words - 1) ≡ false → false ≡ level_right words end rec 0
  last_fails e =
      sym (lowest_is ∙ ap (λ (t : Bool). t && zeros (64 - words) (part rec (1 + words) (64 - words))) e)

  pub last_passes : (ws : List ℕ) → ws ≡ part rec (1 + words) (64 - words) → word_right words end rec 0 (words - 1) ≡ true
      → zeros (length ws) ws ≡ level_right words end rec 0
  last_passes ws behind e =
      let long : length ws ≡ 64 - words = ap length behind ∙ length_part rec (1 + words) (64 - words) (omega (arith, h.long, h.room)) in
      ap₂ zeros long behind
      ∙ sym (lowest_is ∙ ap (λ (t : Bool). t && zeros (64 - words) (part rec (1 + words) (64 - words))) e)

-- ---- levels

-- the room of the levels above level 0
pub room_is : (l : ℕ) → 1 ≤ l → l < 3 → 3 - l ≡ level_room l
room_is zero up few = absurd (omega arith)
room_is (suc zero) up few = refl
room_is (suc (suc zero)) up few = refl
room_is (suc (suc (suc l))) up few = absurd (omega arith)

-- level 0 of a class ends inside a record, and not before it has begun
pub blocks_bounds : (i : ℕ) → is_class i ≡ true → (1 ≤ blocks i) × (blocks i ≤ 2048)
unfolding all_below
blocks_bounds i class = (leb-true _ _ (class_rule (λ i. leb 1 (blocks i)) refl i class), blocks_most i class)

-- level l by the record's own words, and by the class and the level-0 bits
abbrev own_right : ℕ → List ℕ → ℕ → Bool
own_right i rec l = level_right (level_words i l) (level_end i l) rec l

abbrev model_right : ℕ → List ℕ → ℕ → Bool
model_right i rec l = all_below (level_room l) (λ j. eqb (word rec (level_at l + j)) (level_word i (bit_in rec) l j))

lowest_same : (i : ℕ) (rec : List ℕ) → own_right i rec 0 ≡ model_right i rec 0
unfolding level_right level_word
lowest_same i rec = refl

above_same : (i : ℕ) (rec : List ℕ) (l : ℕ) → is_class i ≡ true → l < 3 → model_right i rec l ≡ true → own_right i rec (suc l) ≡ model_right i rec (suc l)
unfolding level_right level_end
above_same i rec l class l<3 right =
    all_below_ext (level_room (suc l)) (word_right (level_words i (suc l)) (level_end i (suc l)) rec (suc l)) (λ j. eqb (word rec (level_at (suc l) + j)) (level_word i (bit_in rec) (suc l) j))
    (λ j _. ap (eqb (word rec (level_at (suc l) + j))) (same j))
  where
    below : (k : ℕ) → k < level_words i l → word rec (level_at l + k) ≡ level_word i (bit_in rec) l k
    below k h =
        eqb-true _ _
        (all_below_at (level_room l) (λ j. eqb (word rec (level_at l + j)) (level_word i (bit_in rec) l j)) right k (omega (arith, words_room i l class l<3)))

    same : (j : ℕ) → own_word (level_words i (suc l)) (level_end i (suc l)) rec (suc l) j ≡ level_word i (bit_in rec) (suc l) j
    same j =
        padded_ext (level_words i (suc l)) (level_end i (suc l)) (own_set rec (suc l)) (level_set i (bit_in rec) (suc l)) (λ k h. ap full (below k h)) j
        ∙ sym (level_word_is i (bit_in rec) (suc l) j)

three : (a x y m n : Bool) → (a ≡ true → x ≡ m) → (m ≡ true → y ≡ n) → (a && (x && y)) ≡ ((a && m) && n)
three false x y m n f g = refl
three true x y m n f g = ap (λ (t : Bool). t && y) (f refl) ∙ then m g
  where
    then : (m : Bool) → (m ≡ true → y ≡ n) → (m && y) ≡ (m && n)
    then false g = refl
    then true g = g refl

all_three : (p : ℕ → Bool) → all_below 3 p ≡ ((p 0 && p 1) && p 2)
unfolding all_below
all_three p = refl

own_levels : (i : ℕ) (rec : List ℕ) → is_class i ≡ true → (own_right i rec 0 && (own_right i rec 1 && own_right i rec 2)) ≡ levels_right i rec
unfolding levels_right
own_levels i rec class =
    three (own_right i rec 0) (own_right i rec 1) (own_right i rec 2) (model_right i rec 1) (model_right i rec 2)
    (λ t. above_same i rec 0 class (omega arith) (sym (lowest_same i rec) ∙ t)) (above_same i rec 1 class (omega arith))
    ∙ ap (λ (t : Bool). (t && model_right i rec 1) && model_right i rec 2) (lowest_same i rec) ∙ sym (all_three (model_right i rec))

-- level 0 by so many words and bits, and the levels above it by theirs
abbrev pub by_own : List ℕ → ℕ → ℕ → ℕ → ℕ → Bool
by_own rec end words above top = level_right words end rec 0 && (level_right above words rec 1 && level_right top above rec 2)

pub levels_own : (i : ℕ) (rec : List ℕ) {end words above top : ℕ} → is_class i ≡ true → end ≡ blocks i → words ≡ level_words i 0
    → above ≡ level_words i 1 → top ≡ level_words i 2 → by_own rec end words above top ≡ levels_right i rec
unfolding level_end
levels_own i rec {end} {words} {above} {top} class ends at_0 at_1 at_2 = rw (at_2, at_1, at_0, ends) (own_levels i rec class)

-- a level has words for its bits, and each of them begins before its end
round_up : (n : ℕ) → 32 * words_for n < n + 32
round_up n = omega arith

above_begin : (i l : ℕ) → 32 * level_words i (suc l) < level_words i l + 32
unfolding level_words
above_begin i l = go (level_words i l) (ltb 1 (level_words i l))
  where
    go : (n : ℕ) (t : Bool) → 32 * cond t (words_for n) 0 < n + 32
    go n true = round_up n
    go n false = omega arith

pub lowest_asked : (i : ℕ) (rec : List ℕ) {end words : ℕ} → OfClass rec i → end ≡ blocks i → words ≡ level_words i 0 → LowestOf rec words end
unfolding level_words
lowest_asked i rec h ends at_0 = record {
  long = h.long;
  some = omega (arith, at_0, (blocks_bounds i h.class).0);
  room = omega (arith, at_0, (blocks_bounds i h.class).1);
  begin = omega (arith, at_0, ends, round_up (blocks i));
}

-- of level l + 1: where its words begin, and for how many bits the level below has room
pub above_asked : (i l : ℕ) {words above : ℕ} → is_class i ≡ true → l < 3 → words ≡ level_words i l → above ≡ level_words i (suc l)
    → (32 * above < words + 32) × (words ≤ level_room l)
above_asked i l class l<3 below own = (omega (arith, below, own, above_begin i l), omega (arith, below, words_room i l class l<3))
