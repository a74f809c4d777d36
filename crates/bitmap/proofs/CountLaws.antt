-- The set bits of a class's blocks: those among the first bits of one word, or all of whole words.
-- Assumes nothing.
use Prim.Native.Nat.{ℕ, ◌+◌, ◌*◌, ◌/◌, ◌%◌, ◌^◌, ◌≤◌, ◌<◌}
use native.Mathlib.Omega.{arith}
use native.Mathlib.Nat.{lt_of_lt_of_le, mod-lt}
use mathlib.Core.Path.{◌≡◌, refl, sym, ◌∙◌}
use mathlib.Core.Bool.{true, ◌||◌}
use mathlib.Core.List.{List}
use lib.ListN.{length}
use lib.Dec.{eqb, ltb}
use lib.Pow.{pow_pos, pow_mono}
use borrow.Author.Tests.{eqb-true, le-ltb}
use Rattle.model.specs.Below.{all_below, count_below, sum_below}
use Rattle.model.specs.Word.{word, bit, part}
use Rattle.model.specs.Class.{is_class, blocks}
use Rattle.model.specs.View.{bit_in}
use Rattle.laws.proofs.Below.{count_below_ext}
use Rattle.laws.proofs.Bits.{ones_mod, ones_count}
use Rattle.words.proofs.ClassLaws.{class_rule}
use Rattle.words.proofs.OnesLaws.{ones_of_part}
use Rattle.bitmap.proofs.LevelLaws.{or_right}

-- a class of 32 blocks or more fills whole words with them
pub whole_words : (i : ℕ) → is_class i ≡ true → 32 ≤ blocks i → blocks i ≡ blocks i / 32 * 32
unfolding all_below
whole_words i h many =
    eqb-true _ _
    (or_right (ltb (blocks i) 32) (eqb (blocks i) (blocks i / 32 * 32))
    (class_rule (λ i. ltb (blocks i) 32 || eqb (blocks i) (blocks i / 32 * 32)) refl i h) (le-ltb _ _ many))

-- the bits of one word
pub count_in_word : (rec : List ℕ) (n : ℕ) → n < 32 → count_below 32 (bit (word rec 1 % 2 ^ n)) ≡ count_below n (bit_in rec)
count_in_word rec n h =
    let small : word rec 1 % 2 ^ n < 2 ^ 32 = lt_of_lt_of_le (mod-lt (word rec 1) (pow_pos n)) (pow_mono {i = n} {j = 32} (omega arith)) in
    sym (ones_count 32 (word rec 1 % 2 ^ n) small)
    ∙ ones_mod n (word rec 1)
    ∙ count_below_ext n (bit (word rec 1)) (bit_in rec) (λ k u. same k u)
  where
    same : (k : ℕ) → k < n → bit (word rec 1) k ≡ bit_in rec k
    same k u =
        let first : 1 + k / 32 ≡ 1 = omega arith in
        let place : k % 32 ≡ k = omega arith in
        rw (first, place)

-- the bits of m whole words
pub count_in_part : (rec : List ℕ) (m : ℕ) → 1 + m ≤ length rec
    → sum_below (length (part rec 1 m)) (λ j. count_below 32 (bit (word (part rec 1 m) j))) ≡ count_below (m * 32) (bit_in rec)
count_in_part rec m h =
    ones_of_part rec 1 m (bit_in rec) h
    (λ j b u l.
    let own : (j * 32 + b) / 32 ≡ j = omega arith in
    let place : (j * 32 + b) % 32 ≡ b = omega arith in
    rw (own, place))
