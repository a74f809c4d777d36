-- Laws of the levels of a record: of which words they consist, which bits these have, and that class and level-0 bits determine them all.
-- Assumes nothing.
use Prim.Native.Nat.{ℕ, zero, suc, ◌+◌, ◌*◌, ◌/◌, ◌%◌, ◌^◌, ◌≤◌, ◌<◌}
use native.Mathlib.Omega.{arith}
use native.Mathlib.Decide.{le_ind}
use mathlib.Core.Path.{◌≡◌, refl, sym, ap, ap₂, ◌∙◌}
use mathlib.Core.Logic.{◌≢◌}
use mathlib.Core.Bool.{Bool, true, false, cond, ◌||◌, or-true}
use lib.ListN.{set}
use lib.Dec.{eqb, leb, ltb}
use borrow.Author.Tests.{lt-ltb, le-ltb, lt-leb, ltb-true, leb-true, leb-false, eq-eqb, ne_eqb, eqb-true, eqb-false}
use Rattle.model.specs.Below.{all_below, count_below}
use Rattle.model.specs.Word.{bit, full, word_of_bits}
use Rattle.model.specs.Class.{is_class, every_class, level_words, level_end, levels}
use Rattle.model.specs.Layout.{level_at, level_room, padded_word, level_word}
use Rattle.laws.proofs.Below.{all_below_at}
use Rattle.laws.proofs.Bits.{bit_word_of_bits, word_of_bits_lt, word_of_bits_ext}
use Rattle.words.proofs.ClassLaws.{class_rule}

-- ---- the ten classes: a test that is computed for all of them, at each of three levels, holds at each

pub or_right : (a b : Bool) → (a || b) ≡ true → a ≡ false → b ≡ true
or_right true b e f = cc
or_right false b e f = e

pub at_level : (p : ℕ → ℕ → Bool) → every_class (λ i. all_below 3 (p i)) ≡ true → (i l : ℕ) → is_class i ≡ true → l < 3 → p i l ≡ true
at_level p t i l h m = all_below_at 3 (p i) (class_rule (λ i. all_below 3 (p i)) t i h) l m

-- the words of a level have room
pub words_room : (i l : ℕ) → is_class i ≡ true → l < 3 → level_words i l ≤ level_room l
unfolding all_below level_words
words_room i l h m = leb-true _ _ (at_level (λ i l. leb (level_words i l) (level_room l)) refl i l h m)

-- the words of a used level hold its bits
pub words_hold : (i l : ℕ) → is_class i ≡ true → l < 3 → 0 < level_words i l → level_end i l ≤ 32 * level_words i l
unfolding all_below level_words level_end
words_hold i l h m u =
    leb-true _ _
    (or_right (leb (level_words i l) 0) (leb (level_end i l) (32 * level_words i l))
    (at_level (λ i l. leb (level_words i l) 0 || leb (level_end i l) (32 * level_words i l)) refl i l h m)
    (lt-leb _ _ u))

-- each of them begins before the level's end
pub words_begin : (i l j : ℕ) → is_class i ≡ true → l < 3 → j < level_words i l → 32 * j < level_end i l
unfolding all_below level_words level_end
words_begin i l j h m u =
    ltb-true _ _
    (all_below_at (level_words i l) (λ j. ltb (32 * j) (level_end i l))
    (at_level (λ i l. all_below (level_words i l) (λ j. ltb (32 * j) (level_end i l))) refl i l h m) j u)

-- a level of more than one word has a next level
pub words_next : (i l : ℕ) → is_class i ≡ true → l < 3 → 1 < level_words i l → 0 < level_words i (suc l)
unfolding all_below level_words
words_next i l h m u =
    ltb-true _ _
    (or_right (leb (level_words i l) 1) (ltb 0 (level_words i (suc l)))
    (at_level (λ i l. leb (level_words i l) 1 || ltb 0 (level_words i (suc l))) refl i l h m)
    (lt-leb _ _ u))

-- a class uses one to three levels: those below that number, and no other
pub levels_le : (i : ℕ) → is_class i ≡ true → levels i ≤ 3
unfolding all_below count_below level_words
levels_le i h = leb-true _ _ (class_rule (λ i. leb (levels i) 3) refl i h)

pub used_one : (i l : ℕ) → is_class i ≡ true → l < levels i → l < 3
used_one i l h u = omega (arith, levels_le i h)

pub levels_pos : (i : ℕ) → is_class i ≡ true → 0 < levels i
unfolding all_below count_below level_words
levels_pos i h = ltb-true _ _ (class_rule (λ i. ltb 0 (levels i)) refl i h)

pub used_level : (i l : ℕ) → is_class i ≡ true → l < levels i → 0 < level_words i l
unfolding all_below count_below level_words
used_level i l h u =
    ltb-true _ _
    (all_below_at (levels i) (λ l. ltb 0 (level_words i l)) (class_rule (λ i. all_below (levels i) (λ l. ltb 0 (level_words i l))) refl i h) l u)

pub unused_level : (i l : ℕ) → is_class i ≡ true → l ≤ 3 → levels i ≤ l → level_words i l ≡ 0
unfolding all_below count_below level_words
unused_level i l h three u =
    eqb-true _ _
    (or_right (ltb l (levels i)) (eqb (level_words i l) 0)
    (all_below_at 4 (λ l. ltb l (levels i) || eqb (level_words i l) 0)
    (class_rule (λ i. all_below 4 (λ l. ltb l (levels i) || eqb (level_words i l) 0)) refl i h) l (omega arith))
    (le-ltb _ _ u))

-- how many, class by class
pub class_levels : (i : ℕ) → is_class i ≡ true → levels i ≡ cond (eqb i 3) 3 (cond (ltb i 9) 2 1)
unfolding all_below count_below level_words
class_levels i h = eqb-true _ _ (class_rule (λ i. eqb (levels i) (cond (eqb i 3) 3 (cond (ltb i 9) 2 1))) refl i h)

-- two tests of equality agree
eqb_iff : (a b c d : ℕ) → (a ≡ b → c ≡ d) → (c ≡ d → a ≡ b) → eqb a b ≡ eqb c d
eqb_iff a b c d f g = go (eqb c d) refl
  where
    go : (t : Bool) → eqb c d ≡ t → eqb a b ≡ t
    go true e = eq-eqb a b (g (eqb-true c d e))
    go false e = ne_eqb a b (λ q. eqb-false c d e (f q))

-- ---- the words of one level

pub padded_used : (words end : ℕ) (set : ℕ → Bool) (j : ℕ) → j < words
    → padded_word words end set j ≡ word_of_bits (λ b. leb end (32 * j + b) || set (32 * j + b))
padded_used words end set j h = simp (lt-ltb j words h)

pub padded_unused : (words end : ℕ) (set : ℕ → Bool) (j : ℕ) → words ≤ j → padded_word words end set j ≡ 0
padded_unused words end set j h = simp (le-ltb j words h)

pub padded_lt : (words end : ℕ) (set : ℕ → Bool) (j : ℕ) → padded_word words end set j < 2 ^ 32
padded_lt words end set j = go (ltb j words)
  where
    go : (used : Bool) → cond used (word_of_bits (λ b. leb end (32 * j + b) || set (32 * j + b))) 0 < 2 ^ 32
    go true = word_of_bits_lt _
    go false = omega arith

-- bit k of a level, past its end too
pub padded_bit : (words end : ℕ) (set : ℕ → Bool) (k : ℕ) → k < 32 * words
    → bit (padded_word words end set (k / 32)) (k % 32) ≡ (leb end k || set k)
padded_bit words end set k h =
    let used : k / 32 < words = omega arith in
    let back : 32 * (k / 32) + k % 32 ≡ k = omega arith in
    rw (padded_used words end set (k / 32) used)
    (bit_word_of_bits (λ b. leb end (32 * (k / 32) + b) || set (32 * (k / 32) + b)) (k % 32) (omega arith) ∙ ap (λ (x : ℕ). leb end x || set x) back)

past_or : (end k : ℕ) (a b : Bool) → (k < end → a ≡ b) → (leb end k || a) ≡ (leb end k || b)
past_or end k a b e = go (leb end k) refl
  where
    go : (past : Bool) → leb end k ≡ past → (past || a) ≡ (past || b)
    go true p = refl
    go false p = e (leb-false end k p)

-- only the bits below the end tell
pub padded_ext : (words end : ℕ) (f g : ℕ → Bool) → ((k : ℕ) → k < end → f k ≡ g k) → (j : ℕ)
    → padded_word words end f j ≡ padded_word words end g j
padded_ext words end f g e j =
    ap (λ (w : ℕ). cond (ltb j words) w 0)
    (word_of_bits_ext (λ b. leb end (32 * j + b) || f (32 * j + b)) (λ b. leb end (32 * j + b) || g (32 * j + b))
    (λ b h. past_or end (32 * j + b) (f (32 * j + b)) (g (32 * j + b)) (e (32 * j + b))))

-- one bit more: its word has one bit more, and every other word is as it was
module _ (words end : ℕ) (f g : ℕ → Bool) (k : ℕ) (h : k < end) (more : (x : ℕ) → x < end → g x ≡ (eqb x k || f x)) where
  past_more : (x : ℕ) → (leb end x || g x) ≡ (eqb x k || (leb end x || f x))
  past_more x = go (leb end x) refl
    where
      go : (past : Bool) → leb end x ≡ past → (past || g x) ≡ (eqb x k || (past || f x))
      go true p = sym (or-true (eqb x k))
      go false p = more x (leb-false end x p)

  pub padded_more : k / 32 < words
      → padded_word words end g (k / 32) ≡ word_of_bits (λ b. eqb b (k % 32) || bit (padded_word words end f (k / 32)) b)
  padded_more used =
      let at : ℕ → ℕ = λ b. 32 * (k / 32) + b in
      padded_used words end g (k / 32) used
      ∙ word_of_bits_ext (λ b. leb end (at b) || g (at b)) (λ b. eqb b (k % 32) || bit (padded_word words end f (k / 32)) b)
      (λ b b<32. past_more (at b)
      ∙ ap₂ ◌||◌ (eqb_iff (at b) k b (k % 32) (λ e. omega arith) (λ e. omega arith))
      (sym (ap (λ (w : ℕ). bit w b) (padded_used words end f (k / 32) used) ∙ bit_word_of_bits (λ b. leb end (at b) || f (at b)) b b<32)))

  pub padded_other : (j : ℕ) → j ≢ k / 32 → padded_word words end g j ≡ padded_word words end f j
  padded_other j apart =
      let at : ℕ → ℕ = λ b. 32 * j + b in
      ap (λ (w : ℕ). cond (ltb j words) w 0)
      (word_of_bits_ext (λ b. leb end (at b) || g (at b)) (λ b. leb end (at b) || f (at b))
      (λ b b<32. past_more (at b) ∙ ap (λ (c : Bool). c || (leb end (at b) || f (at b))) (ne_eqb (at b) k (λ e. apart (omega arith)))))

-- ---- the levels of a segment

-- which bits of level l are 1, up to its end
abbrev pub level_set : ℕ → (ℕ → Bool) → ℕ → ℕ → Bool
level_set i set zero k = set k
level_set i set (suc l) k = full (level_word i set l k)

pub level_word_is : (i : ℕ) (set : ℕ → Bool) (l j : ℕ)
    → level_word i set l j ≡ padded_word (level_words i l) (level_end i l) (level_set i set l) j
unfolding level_word
level_word_is i set zero j = refl
level_word_is i set (suc l) j = refl

pub level_word_lt : (i : ℕ) (set : ℕ → Bool) (l j : ℕ) → level_word i set l j < 2 ^ 32
level_word_lt i set l j = rw (level_word_is i set l j) (padded_lt (level_words i l) (level_end i l) (level_set i set l) j)

-- sets that agree at a level make the same words there and above
pub level_ext : (i : ℕ) (f g : ℕ → Bool) (l : ℕ) → ((k : ℕ) → k < level_end i l → level_set i f l k ≡ level_set i g l k)
    → (m : ℕ) → l ≤ m → (j : ℕ) → level_word i f m j ≡ level_word i g m j
level_ext i f g l e =
    le_ind (λ (m : ℕ). (j : ℕ) → level_word i f m j ≡ level_word i g m j)
    (λ j. level_word_is i f l j ∙ padded_ext (level_words i l) (level_end i l) (level_set i f l) (level_set i g l) e j ∙ sym (level_word_is i g l j))
    (λ m h same j. level_word_is i f (suc m) j
    ∙ padded_ext (level_words i (suc m)) (level_end i (suc m)) (level_set i f (suc m)) (level_set i g (suc m)) (λ k _. ap full (same k)) j
    ∙ sym (level_word_is i g (suc m) j))

-- above a level that is not used none is
pub unused_above : (i l : ℕ) → level_words i l ≡ 0 → (m : ℕ) → l ≤ m → level_words i m ≡ 0
unfolding level_words
unused_above i l e = le_ind (λ (m : ℕ). level_words i m ≡ 0) e (λ m h z. ap (λ (n : ℕ). cond (ltb 1 n) ((n + 31) / 32) 0) z)

pub unused_word : (i : ℕ) (set : ℕ → Bool) (l j : ℕ) → level_words i l ≡ 0 → level_word i set l j ≡ 0
unused_word i set l j z =
    level_word_is i set l j ∙ padded_unused (level_words i l) (level_end i l) (level_set i set l) j (omega arith)

-- where levels stand in a record
pub level_inside : (l j : ℕ) → l < 3 → j < level_room l → (0 < level_at l + j) × (level_at l + j < 68)
level_inside zero j h r = omega arith
level_inside (suc zero) j h r = omega arith
level_inside (suc (suc l)) j h r = omega arith

-- the words of a level that has a next one are bits of words for which that has room
pub room_next : (l j : ℕ) → l + 1 < 3 → j < level_room l → j / 32 < level_room (l + 1)
room_next zero j h r = omega arith
room_next (suc zero) j h r = omega arith
room_next (suc (suc l)) j h r = absurd (omega arith)

pub levels_apart : (l m j k : ℕ) → l < m → m < 3 → j < level_room l → k < level_room m → level_at l + j < level_at m + k
levels_apart zero zero j k h b r s = absurd (omega arith)
levels_apart zero (suc zero) j k h b r s = omega arith
levels_apart zero (suc (suc m)) j k h b r s = omega arith
levels_apart (suc zero) zero j k h b r s = absurd (omega arith)
levels_apart (suc zero) (suc zero) j k h b r s = absurd (omega arith)
levels_apart (suc zero) (suc (suc m)) j k h b r s = omega arith
levels_apart (suc (suc l)) zero j k h b r s = absurd (omega arith)
levels_apart (suc (suc l)) (suc zero) j k h b r s = absurd (omega arith)
levels_apart (suc (suc l)) (suc (suc m)) j k h b r s = absurd (omega arith)
