-- A record is its head and its levels; its levels are right exactly if they are those of its class and its level-0 bits, so head, class and
-- level-0 bits determine a record. Assumes nothing.
use Prim.Native.Nat.{ℕ, zero, suc, ◌+◌, ◌-◌, ◌*◌, ◌/◌, ◌%◌, ◌<◌, zero-le}
use native.Mathlib.Omega.{arith}
use native.Mathlib.Decide.{dec_lt}
use mathlib.Core.Path.{◌≡◌, refl, sym, ap, ap₂, ◌∙◌}
use mathlib.Core.Bool.{Bool, true, ◌||◌}
use mathlib.Core.List.{List, ◌∷◌, ◌++◌}
use lib.ListN.{length, length-append, get_or-append}
use lib.Seq.{get_or-append-add, ext_get_or}
use lib.Dec.{eqb, leb}
use borrow.Author.Tests.{eq-eqb, eqb-true, lt-leb}
use Rattle.model.specs.Below.{all_below, words_below}
use Rattle.model.specs.Word.{word, bit}
use Rattle.model.specs.Class.{is_class, blocks, level_words, level_end, levels}
use Rattle.model.specs.Layout.{level_at, level_room, level_word, level_rows}
use Rattle.model.specs.View.{bit_in}
use Rattle.model.specs.Sound.{levels_right}
use Rattle.laws.proofs.Below.{all_below_at, all_below_intro, length_words_below, word_words_below, words_below_ext}
use Rattle.bitmap.specs.Tree.{SetBit, level_bit, climbed}
use Rattle.bitmap.proofs.LevelLaws.{level_set, used_level, levels_pos, level_word_is, level_ext, padded_bit, words_hold, words_room}
use Rattle.bitmap.proofs.ClimbLaws.{Level, climbed_length, climbed_head, climbed_right}

-- ---- the words of a record that is made of a head and a set

module _ (head i : ℕ) (set : ℕ → Bool) where
  row : ℕ → List ℕ
  row l = words_below (level_room l) (level_word i set l)

  row_length : (l : ℕ) → length (row l) ≡ level_room l
  unfolding row
  row_length l = length_words_below (level_room l) (level_word i set l)

  pub record_length : length (head ∷ level_rows i set) ≡ 68
  unfolding level_rows row
  record_length =
      ap suc
      (length-append (row 0) (row 1 ++ row 2)
      ∙ omega (arith, row_length 0, length-append (row 1) (row 2), row_length 1, row_length 2))

  pub record_word : (l : ℕ) → l < 3 → Level i set (head ∷ level_rows i set) l
  unfolding level_rows row
  record_word zero h j r =
      let at : 1 + j ≡ suc j = omega arith in
      ap (λ (o : ℕ). word (head ∷ level_rows i set) o) at
      ∙ get_or-append (row 0) (row 1 ++ row 2) 0 j (rw (row_length 0) r)
      ∙ word_words_below 64 (level_word i set 0) j r
  record_word (suc zero) h j r =
      let at : 65 + j ≡ suc (length (row 0) + j) = omega (arith, row_length 0) in
      ap (λ (o : ℕ). word (head ∷ level_rows i set) o) at
      ∙ get_or-append-add (row 0) (row 1 ++ row 2) j 0
      ∙ get_or-append (row 1) (row 2) 0 j (rw (row_length 1) r)
      ∙ word_words_below 2 (level_word i set 1) j r
  record_word (suc (suc zero)) h j r =
      let at : 67 + j ≡ suc (length (row 0) + (length (row 1) + j)) = omega (arith, row_length 0, row_length 1) in
      ap (λ (o : ℕ). word (head ∷ level_rows i set) o) at
      ∙ get_or-append-add (row 0) (row 1 ++ row 2) (length (row 1) + j) 0
      ∙ get_or-append-add (row 1) (row 2) j 0
      ∙ word_words_below 1 (level_word i set 2) j r
  record_word (suc (suc (suc l))) h j r = absurd (omega arith)

-- which of the three levels has the word at o, and where in it
place_of : (o : ℕ) → 0 < o → o < 68 → (l : ℕ) × (l < 3) × ((j : ℕ) × (j < level_room l) × (level_at l + j ≡ o))
place_of o low high = go (dec_lt o 65) (dec_lt o 67)
  where
    go : Dec (o < 65) → Dec (o < 67) → (l : ℕ) × (l < 3) × ((j : ℕ) × (j < level_room l) × (level_at l + j ≡ o))
    go (yes h) d = (0, omega arith, (o - 1, omega arith, omega arith))
    go (no h) (yes g) = (1, omega arith, (o - 65, omega arith, omega arith))
    go (no h) (no g) = (2, omega arith, (o - 67, omega arith, omega arith))

-- 68 words with that head and those levels are that record
pub record_is : (rec : List ℕ) (head i : ℕ) (set : ℕ → Bool) → length rec ≡ 68 → word rec 0 ≡ head
    → ((l : ℕ) → l < 3 → Level i set rec l) → rec ≡ head ∷ level_rows i set
record_is rec head i set long first levels = ext_get_or 0 rec (head ∷ level_rows i set) (long ∙ sym (record_length head i set)) at
  where
    at : (o : ℕ) → o < length rec → word rec o ≡ word (head ∷ level_rows i set) o
    at zero h = first
    at (suc o) h =
        let p = place_of (suc o) (omega arith) (rw long at h) in
        let q = p.2 in
        rw (sym q.2) (levels p.0 p.1 q.0 q.1 ∙ sym (record_word head i set p.0 p.1 q.0 q.1))

-- ---- right levels

pub right_level : (i : ℕ) (rec : List ℕ) → levels_right i rec ≡ true → (l : ℕ) → l < 3 → Level i (bit_in rec) rec l
unfolding levels_right
right_level i rec right l h j r =
    eqb-true _ _
    (all_below_at (level_room l) (λ j. eqb (word rec (level_at l + j)) (level_word i (bit_in rec) l j))
    (all_below_at 3 (λ l. all_below (level_room l) (λ j. eqb (word rec (level_at l + j)) (level_word i (bit_in rec) l j))) right l h) j r)

pub level_right : (i : ℕ) (rec : List ℕ) → ((l : ℕ) → l < 3 → Level i (bit_in rec) rec l) → levels_right i rec ≡ true
unfolding levels_right
level_right i rec levels =
    all_below_intro 3 (λ l. all_below (level_room l) (λ j. eqb (word rec (level_at l + j)) (level_word i (bit_in rec) l j)))
    (λ l h. all_below_intro (level_room l) (λ j. eqb (word rec (level_at l + j)) (level_word i (bit_in rec) l j)) (λ j r. eq-eqb _ _ (levels l h j r)))

pub right_is : (i : ℕ) (rec : List ℕ) → length rec ≡ 68 → levels_right i rec ≡ true → rec ≡ word rec 0 ∷ level_rows i (bit_in rec)
right_is i rec long right = record_is rec (word rec 0) i (bit_in rec) long refl (right_level i rec right)

-- bit k of level l of a record whose levels are those of a set, past the level's end too
pub level_bit_is : (i : ℕ) (set : ℕ → Bool) (rec : List ℕ) (l : ℕ) → is_class i ≡ true → l < 3 → Level i set rec l → (k : ℕ) → k < 32 * level_words i l
    → level_bit rec l k ≡ (leb (level_end i l) k || level_set i set l k)
level_bit_is i set rec l class h levels k used =
    ap (λ (w : ℕ). bit w (k % 32)) (levels (k / 32) (omega (arith, words_room i l class h)) ∙ level_word_is i set l (k / 32))
    ∙ padded_bit (level_words i l) (level_end i l) (level_set i set l) k used

-- the blocks of a record that is made of a set are those of the set
pub set_of_record : (head i : ℕ) (set : ℕ → Bool) → is_class i ≡ true → (k : ℕ) → k < blocks i → bit_in (head ∷ level_rows i set) k ≡ set k
unfolding level_end
set_of_record head i set class k h =
    level_bit_is i set (head ∷ level_rows i set) 0 class (omega arith) (record_word head i set 0 (omega arith)) k
    (omega (arith, words_hold i 0 class (omega arith) (used_level i 0 class (levels_pos i class))))
    ∙ ap (λ (t : Bool). t || set k) (lt-leb (blocks i) k h)

-- sets that agree on a class's blocks make the same levels
pub rows_ext : (i : ℕ) (f g : ℕ → Bool) → ((k : ℕ) → k < blocks i → f k ≡ g k) → level_rows i f ≡ level_rows i g
unfolding level_rows level_end
rows_ext i f g e =
    let same : (l : ℕ) → (n : ℕ) → words_below n (level_word i f l) ≡ words_below n (level_word i g l) =
    λ l n. words_below_ext n (level_word i f l) (level_word i g l) (λ j _. level_ext i f g 0 e l zero-le j) in
    ap₂ ◌++◌ (same 0 64) (ap₂ ◌++◌ (same 1 2) (same 2 1))

-- such a record's levels are right
pub record_right : (head i : ℕ) (set : ℕ → Bool) → is_class i ≡ true → levels_right i (head ∷ level_rows i set) ≡ true
unfolding level_end
record_right head i set class =
    level_right i (head ∷ level_rows i set)
    (λ l h j r. record_word head i set l h j r
    ∙ level_ext i set (bit_in (head ∷ level_rows i set)) 0 (λ k u. sym (set_of_record head i set class k u)) l zero-le j)

-- a record is determined by its class, its head and its level-0 bits
pub determined : (i : ℕ) (rec other : List ℕ) → length rec ≡ 68 → length other ≡ 68 → levels_right i rec ≡ true → levels_right i other ≡ true
    → word rec 0 ≡ word other 0 → ((k : ℕ) → k < blocks i → bit_in rec k ≡ bit_in other k) → rec ≡ other
determined i rec other long long' right right' head bits =
    right_is i rec long right ∙ ap₂ ◌∷◌ head (rows_ext i (bit_in rec) (bit_in other) bits) ∙ sym (right_is i other long' right')

-- ---- setting a bit

pub set_bit_is : (rec : List ℕ) (i k : ℕ) → SetBit rec i k
    → climbed (levels i - 1) 0 k rec ≡ word rec 0 ∷ level_rows i (λ j. eqb j k || bit_in rec j)
unfolding level_end
set_bit_is rec i k s =
    record_is (climbed (levels i - 1) 0 k rec) (word rec 0) i (λ j. eqb j k || bit_in rec j)
    (climbed_length (levels i - 1) 0 k rec ∙ s.long) (climbed_head (levels i - 1) 0 k rec)
    (climbed_right i (bit_in rec) (λ j. eqb j k || bit_in rec j) s.class (levels i - 1) 0 k rec (omega (arith, levels_pos i s.class))
    (record {
      long = s.long;
      below = λ m h. absurd (omega arith);
      above = λ m _ h. right_level i rec s.right m h;
      used = λ _. used_level i 0 s.class (levels_pos i s.class);
      inside = λ _. s.block;
      more = λ x _. refl;
    }))
