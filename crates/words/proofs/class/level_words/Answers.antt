-- `words::class::level_words` meets its contract: antt computes the rule of the table at each of its entries.
-- Assumes nothing.
use Rattle.model.specs.Below.{all_below}
use Rattle.model.specs.Class.{level_words}
use Rattle.words.proofs.ClassLaws.{bounds_class, row_rule}
use Rattle.words.proofs.class.level_words.Goals as goal

pub returns : goal.returns
unfolding all_below level_words
returns c =
    let class = bounds_class c.args.class c.requires.0 c.requires.1 in
    let level = c.requires.2 in
    rw row_rule
