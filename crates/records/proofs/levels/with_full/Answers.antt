-- `records::levels::with_full` meets its contract: a full word sets the bit, and any other leaves the word as it is.
-- Assumes nothing.
use mathlib.Core.Path.{sym, ◌∙◌}
use mathlib.Core.Bool.{◌&&◌, ◌||◌, and-false}
use lib.Dec.{eqb}
use borrow.Author.Tests.{ne_eqb}
use borrow.Author.Rules.{rules}
use Rattle.model.specs.Word.{bit, full, ones}
use Rattle.laws.proofs.Bits.{word_of_its_bits, word_of_bits_ext}
use Rattle.records.proofs.levels.with_full.Goals as goal

pub returns-else-below-eq4294967295 : goal.returns-else-below-eq4294967295
returns-else-below-eq4294967295 c =
    let a = c.args in
    let not_full = ne_eqb a.below ones c.if-below-eq4294967295.false in
    sym (word_of_its_bits a.w (search rules))
    ∙ word_of_bits_ext (bit a.w) (λ k. (eqb k a.b && full a.below) || bit a.w k) (λ k _. rw (not_full, and-false))
