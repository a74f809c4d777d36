-- `words::bits::with_bit` meets its contract: the two words have the same bits.
-- Assumes nothing.
use Prim.Native.Nat.{ℕ}
use mathlib.Core.Path.{sym, ◌∙◌}
use mathlib.Core.Bool.{Bool, ◌||◌}
use lib.Dec.{eqb}
use borrow.Author.Rules.{rules}
use Rattle.model.specs.Word.{bit}
use Rattle.laws.proofs.Bits.{bit_or_shift, bit_word_of_bits, or_shift_lt, word_ext, word_of_bits_lt}
use Rattle.words.proofs.bits.with_bit.Goals as goal

pub returns : goal.returns
returns c =
    let w = c.args.w in
    let b = c.args.b in
    let f : ℕ → Bool = λ j. eqb j b || bit w j in
    word_ext _ _ (or_shift_lt w b (search rules)) (word_of_bits_lt f) (λ j l. bit_or_shift w b j c.requires ∙ sym (bit_word_of_bits f j l))
