-- `words::handles::words_before` meets its contract: a block lies inside its area, so the product fits.
-- Assumes nothing.
use native.Mathlib.Omega.{arith}
use borrow.Author.Rules.{rules}
use Rattle.words.proofs.ClassLaws.{bounds_class}
use Rattle.words.proofs.HandleLaws.{block_inside}
use Rattle.words.proofs.handles.words_before.Goals as goal

pub returns : goal.returns
returns c =
    let i = c.args.class in
    let k = c.args.index.0 in
    let inside = block_inside i k (bounds_class i (search rules) (search rules)) (search rules) in
    rw c.block_words.ensures (search rules, omega arith)
