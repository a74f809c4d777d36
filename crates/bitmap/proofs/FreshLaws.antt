-- A record whose levels are padded, and 0 otherwise, is that of a segment without any block taken.
-- Assumes nothing.
use Prim.Native.Nat.{ℕ, zero, suc, ◌+◌, ◌-◌, ◌*◌, ◌<◌}
use native.Mathlib.Omega.{arith}
use native.Mathlib.Decide.{dec_lt}
use mathlib.Core.Path.{◌≡◌, refl, sym, ◌∙◌}
use mathlib.Core.Logic.{◌≢◌}
use mathlib.Core.Bool.{Bool, true, false, cond, ◌||◌}
use mathlib.Core.List.{List, ◌∷◌}
use lib.ListN.{length, set, replicate, length-set, get_or-replicate}
use lib.Seq.{get_or-set_same, get_or-set_other}
use lib.Dec.{eqb, leb, ltb}
use borrow.Author.Tests.{lt-ltb, lt-leb, ltb-true, eqb-true, eqb-false}
use Rattle.model.specs.Below.{all_below, sum_below}
use Rattle.model.specs.Word.{word, word_of_bits}
use Rattle.model.specs.Class.{is_class, level_words, level_end}
use Rattle.model.specs.Layout.{level_at, level_room, level_word, level_rows}
use Rattle.laws.proofs.Below.{all_below_at}
use Rattle.bitmap.specs.Tree.{padding_word, padded_level}
use Rattle.bitmap.proofs.LevelLaws.{or_right, at_level, words_room, level_inside, levels_apart}
use Rattle.bitmap.proofs.RecordLaws.{record_is}

-- the words of a level without any bit set: 0, but for the padding in the last that is used
abbrev empty_level_word : ℕ → ℕ → ℕ → ℕ
empty_level_word i l j = cond (eqb (j + 1) (level_words i l)) (padding_word (level_end i l)) 0

empty_word : (i l j : ℕ) → is_class i ≡ true → l < 3 → j < level_room l → level_word i (λ k. false) l j ≡ empty_level_word i l j
unfolding all_below level_words level_end level_word word_of_bits sum_below
empty_word i l j h m r =
    eqb-true _ _
    (all_below_at (level_room l) (λ j. eqb (level_word i (λ k. false) l j) (empty_level_word i l j))
    (at_level (λ i l. all_below (level_room l) (λ j. eqb (level_word i (λ k. false) l j) (empty_level_word i l j))) refl i l h m) j r)

-- ones from where the level's end stands in the last word
pub padding_is : (i l : ℕ) → is_class i ≡ true → l < 3 → 0 < level_words i l
    → word_of_bits (λ b. leb (level_end i l - 32 * (level_words i l - 1)) b) ≡ padding_word (level_end i l)
unfolding all_below level_words level_end word_of_bits sum_below
padding_is i l h m used =
    eqb-true _ _
    (or_right (leb (level_words i l) 0) (eqb (word_of_bits (λ b. leb (level_end i l - 32 * (level_words i l - 1)) b)) (padding_word (level_end i l)))
    (at_level (λ i l. leb (level_words i l) 0 || eqb (word_of_bits (λ b. leb (level_end i l - 32 * (level_words i l - 1)) b)) (padding_word (level_end i l))) refl i l h m)
    (lt-leb _ _ used))

-- ---- padding one level

pub padded_length : (i l : ℕ) (rec : List ℕ) → length (padded_level i l rec) ≡ length rec
padded_length i l rec = go (ltb 0 (level_words i l))
  where
    go : (used : Bool) → length (cond used (set rec (level_at l + (level_words i l - 1)) (padding_word (level_end i l))) rec) ≡ length rec
    go true = length-set rec _ _
    go false = refl

module _ (i l : ℕ) (rec : List ℕ) (class : is_class i ≡ true) (l<3 : l < 3) where
  -- every place but that of the last used word keeps its word
  padded_else : (o : ℕ) → (0 < level_words i l → o ≢ level_at l + (level_words i l - 1)) → word (padded_level i l rec) o ≡ word rec o
  padded_else o apart = go (ltb 0 (level_words i l)) refl
    where
      go : (used : Bool) → ltb 0 (level_words i l) ≡ used
          → word (cond used (set rec (level_at l + (level_words i l - 1)) (padding_word (level_end i l))) rec) o ≡ word rec o
      go true e = get_or-set_other rec _ o _ 0 (apart (ltb-true _ _ e))
      go false e = refl

  padded_head : word (padded_level i l rec) 0 ≡ word rec 0
  padded_head = padded_else 0 (λ u. omega (arith, level_inside l (level_words i l - 1) l<3 (omega (arith, words_room i l class l<3))))

  padded_other_level : (m j : ℕ) → m < 3 → m ≢ l → j < level_room m → word (padded_level i l rec) (level_at m + j) ≡ word rec (level_at m + j)
  padded_other_level m j m<3 apart r = padded_else (level_at m + j) (λ u. go u (dec_lt m l))
    where
      go : 0 < level_words i l → Dec (m < l) → level_at m + j ≢ level_at l + (level_words i l - 1)
      go u (yes h) = omega (arith, levels_apart m l j (level_words i l - 1) h l<3 r (omega (arith, words_room i l class l<3)))
      go u (no h) = omega (arith, levels_apart l m (level_words i l - 1) j (omega arith) m<3 (omega (arith, words_room i l class l<3)) r)

  -- a level of zeros becomes an empty level
  padded_zeros : (j : ℕ) → length rec ≡ 68 → j < level_room l → word rec (level_at l + j) ≡ 0
      → word (padded_level i l rec) (level_at l + j) ≡ empty_level_word i l j
  padded_zeros j long r zeros = go (eqb (j + 1) (level_words i l)) refl
    where
      go : (last : Bool) → eqb (j + 1) (level_words i l) ≡ last
          → word (padded_level i l rec) (level_at l + j) ≡ cond last (padding_word (level_end i l)) 0
      go true e =
          let last : j + 1 ≡ level_words i l = eqb-true _ _ e in
          let at : level_at l + (level_words i l - 1) ≡ level_at l + j = omega arith in
          rw (lt-ltb 0 (level_words i l) (omega arith), at) (get_or-set_same rec (level_at l + j) _ 0 (omega (arith, level_inside l j l<3 r)))
      go false e = padded_else (level_at l + j) (λ u p. eqb-false (j + 1) (level_words i l) e (omega arith)) ∙ zeros

-- ---- padding all three

module _ (i head : ℕ) (class : is_class i ≡ true) where
  abbrev blank : List ℕ
  blank = head ∷ replicate 67 0

  abbrev pad_0 : List ℕ
  pad_0 = padded_level i 0 blank

  abbrev pad_1 : List ℕ
  pad_1 = padded_level i 1 pad_0

  abbrev pad_2 : List ℕ
  pad_2 = padded_level i 2 pad_1

  blank_zeros : (l j : ℕ) → l < 3 → j < level_room l → word blank (level_at l + j) ≡ 0
  blank_zeros l j h r = go (level_at l + j) (level_inside l j h r).0 (level_inside l j h r).1
    where
      go : (o : ℕ) → 0 < o → o < 68 → word blank o ≡ 0
      go zero low high = absurd (omega arith)
      go (suc o) low high = get_or-replicate 67 o 0 0 (omega arith)

  long_0 : length pad_0 ≡ 68
  long_0 = padded_length i 0 blank

  long_1 : length pad_1 ≡ 68
  long_1 = padded_length i 1 pad_0 ∙ long_0

  pub fresh_is : pad_2 ≡ head ∷ level_rows i (λ k. false)
  fresh_is =
      record_is pad_2 head i (λ k. false) (padded_length i 2 pad_1 ∙ long_1)
      (padded_head i 2 pad_1 class (omega arith) ∙ padded_head i 1 pad_0 class (omega arith) ∙ padded_head i 0 blank class (omega arith))
      (λ l h j r. at l h j r ∙ sym (empty_word i l j class h r))
    where
      at : (l : ℕ) → l < 3 → (j : ℕ) → j < level_room l → word pad_2 (level_at l + j) ≡ empty_level_word i l j
      at zero h j r =
          padded_other_level i 2 pad_1 class (omega arith) 0 j h (omega arith) r
          ∙ padded_other_level i 1 pad_0 class (omega arith) 0 j h (omega arith) r
          ∙ padded_zeros i 0 blank class h j refl r (blank_zeros 0 j h r)
      at (suc zero) h j r =
          padded_other_level i 2 pad_1 class (omega arith) 1 j h (omega arith) r
          ∙ padded_zeros i 1 pad_0 class h j long_0 r
          (padded_other_level i 0 blank class (omega arith) 1 j h (omega arith) r ∙ blank_zeros 1 j h r)
      at (suc (suc zero)) h j r =
          padded_zeros i 2 pad_1 class h j long_1 r
          (padded_other_level i 1 pad_0 class (omega arith) 2 j h (omega arith) r
          ∙ padded_other_level i 0 blank class (omega arith) 2 j h (omega arith) r ∙ blank_zeros 2 j h r)
      at (suc (suc (suc l))) h j r = absurd (omega arith)
