-- `records::ranks::ranks` meets its contract: each class is asked.
-- Assumes nothing.
use Rattle.std.proofs.Common.{rules}
use Rattle.records.specs.Judged.{class_ranked}
use Rattle.model.specs.Sound.{ranks}
use Rattle.records.proofs.ChainLaws.{classes_passed}
use Rattle.records.proofs.ranks.ranks.Goals as goal

pub returns : goal.returns
unfolding ranks
returns c =
    classes_passed (class_ranked c.args.arena.now) _ c.new.ensures.start c.new.ensures.end c.new.ensures.exhausted c.all.ensures.runs
    (λ x t q k. search rules)
