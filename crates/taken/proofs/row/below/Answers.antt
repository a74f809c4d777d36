-- `taken::row::below` meets its contract: what is below the limit is not from it on.
-- Assumes nothing.
use Prim.Native.Nat.{ℕ, ◌-◌, ◌*◌}
use mathlib.Core.Path.{ap, ◌∙◌}
use lib.Dec.{leb}
use Rattle.model.specs.Word.{ones, word_of_bits}
use Rattle.taken.proofs.RowLaws.{below_is}
use Rattle.taken.proofs.row.below.Goals as goal

pub returns : goal.returns
returns c =
    let a = c.args in
    ap (λ (w : ℕ). ones - w) (c.ones_from.ensures ∙ ap (λ (n : ℕ). word_of_bits (λ b. leb n b)) c.saturating_sub.ensures)
    ∙ below_is (32 * a.j) a.limit
