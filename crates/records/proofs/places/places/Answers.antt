-- `records::places::places` meets its contract: each class is asked.
-- Assumes nothing.
use Rattle.std.proofs.Common.{rules}
use Rattle.model.specs.Sound.{place_right}
use Rattle.model.specs.Sound.{places}
use Rattle.records.proofs.ChainLaws.{classes_passed}
use Rattle.records.proofs.places.places.Goals as goal

pub returns : goal.returns
unfolding places
returns c =
    classes_passed (place_right c.args.arena.now) _ c.new.ensures.start c.new.ensures.end c.new.ensures.exhausted c.all.ensures.runs
    (λ x t q k. search rules)
