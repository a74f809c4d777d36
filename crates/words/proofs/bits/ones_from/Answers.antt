-- `words::bits::ones_from` meets its contract: what the shift leaves is all but the ones before bit n, and from 32 on nothing.
-- Assumes nothing.
use Prim.Native.Nat.{ℕ, ◌+◌, ◌-◌, ◌*◌, ◌/◌, ◌%◌, ◌^◌, ◌≤◌, ◌<◌}
use mathlib.Core.Path.{◌≡◌, refl, sym, ap, ◌∙◌}
use mathlib.Core.Bool.{Bool, true, false, not}
use native.Mathlib.Decide.{dec_lt}
use native.Mathlib.Omega.{arith}
use lib.Dec.{leb, ltb}
use lib.Pow.{pow_pos, pow_mono, shr_le}
use borrow.Author.Tests.{le-leb, lt-leb, ltb-true, ltb-false}
use Rattle.std.proofs.lemmas.Nat.Bits.{ones_shl, ones_shr}
use Rattle.std.specs.Bool.{if◌then◌else◌}
use Rattle.model.specs.Word.{bit, ones, word_of_bits}
use Rattle.laws.proofs.Bits.{bit_zero, bit_shift, bit_not, bit_ones, bit_past, word_ext, bit_word_of_bits, word_of_bits_lt}
use Rattle.words.proofs.bits.ones_from.Goals as goal

-- a word that has these bits is the one that is 1 from bit n on
from_is : (n w : ℕ) → w < 2 ^ 32 → ((b : ℕ) → b < 32 → bit w b ≡ leb n b) → w ≡ word_of_bits (λ b. leb n b)
from_is n w h e = word_ext w _ h (word_of_bits_lt (λ b. leb n b)) (λ b l. e b l ∙ sym (bit_word_of_bits (λ b. leb n b) b l))

none : (n : ℕ) → 32 ≤ n → 0 ≡ word_of_bits (λ b. leb n b)
none n h = from_is n 0 (omega arith) (λ b l. bit_zero b ∙ sym (lt-leb n b (omega arith)))

shifted : (n : ℕ) → n < 32 → ones * 2 ^ n % 2 ^ 32 ≡ word_of_bits (λ b. leb n b)
shifted n h =
    let back : 32 - (32 - n) ≡ n = omega arith in
    let before : ones / 2 ^ (32 - n) ≡ 2 ^ n - 1 = rw back at (ones_shr 32 (32 - n) (omega arith)) in
    let flipped : ones * 2 ^ n % 2 ^ 32 ≡ ones - ones / 2 ^ (32 - n) = omega (arith, ones_shl 32 n (omega arith), pow_pos n, pow_mono {i = n} {j = 32} (omega arith)) in
    rw flipped (from_is n (ones - ones / 2 ^ (32 - n)) (omega arith)
    (λ b l. bit_not (ones / 2 ^ (32 - n)) b (omega (arith, shr_le ones (32 - n))) l ∙ ap not (bit_shift ones (32 - n) b) ∙ past b l (dec_lt b n)))
  where
    past : (b : ℕ) → b < 32 → Dec (b < n) → not (bit ones (32 - n + b)) ≡ leb n b
    past b l (yes h) = rw (bit_ones (32 - n + b) (omega arith)) (sym (lt-leb n b h))
    past b l (no h) = rw (bit_past 32 ones (32 - n + b) (omega arith) (omega arith)) (sym (le-leb n b (omega arith)))

pub returns : goal.returns
returns c = c.unbounded_shl.ensures ∙ go (ltb c.args.n 32) refl
  where
    go : (t : Bool) → ltb c.args.n 32 ≡ t → (if t then ones * 2 ^ c.args.n % 2 ^ 32 else 0) ≡ word_of_bits (λ b. leb c.args.n b)
    go true e = shifted c.args.n (ltb-true _ _ e)
    go false e = none c.args.n (ltb-false _ _ e)
