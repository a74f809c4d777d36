-- `records::heads::places_named` meets its contract: each class is asked.
-- Assumes nothing.
use Rattle.std.proofs.Common.{rules}
use Rattle.records.specs.Judged.{place_named}
use Rattle.records.proofs.ChainLaws.{classes_passed}
use Rattle.records.proofs.heads.places_named.Goals as goal

pub returns : goal.returns
returns c =
    classes_passed (place_named c.args.arena.now) _ c.new.ensures.start c.new.ensures.end c.new.ensures.exhausted c.all.ensures.runs
    (λ x t q k. search rules)
