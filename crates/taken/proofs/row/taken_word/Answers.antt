-- `taken::row::taken_word` meets its contract: the two words have the same bits.
-- Assumes nothing.
use Prim.Native.Nat.{ℕ}
use mathlib.Core.Path.{ap₂, ◌∙◌}
use lib.Bits.{bit_and, bit_or}
use borrow.Author.Rules.{rules}
use Rattle.taken.proofs.RowLaws.{taken_word_is}
use Rattle.taken.proofs.row.taken_word.Goals as goal

pub returns : goal.returns
returns c =
    let a = c.args in
    ap₂ (λ (v u : ℕ). bit_and (bit_or v a.w) u) c.below.ensures c.below-2.ensures
    ∙ taken_word_is a.w a.limit a.blocks a.j (search rules)
