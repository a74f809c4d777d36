-- `records::heads::classes` meets its contract: each segment is asked, with both tests of it at once (RecordsLaws).
-- Assumes nothing.
use mathlib.Core.Path.{refl, ◌∙◌}
use Rattle.std.proofs.Common.{rules}
use Rattle.records.specs.Judged.{segment_classed}
use Rattle.records.proofs.ChainLaws.{all_passed}
use Rattle.records.proofs.RecordsLaws.{classes_is}
use Rattle.records.proofs.heads.classes.Goals as goal

pub returns : goal.returns
returns c =
    all_passed _ (segment_classed c.args.arena.now) _ refl c.segments.ensures c.all.ensures.runs (λ x t q k. search rules) ∙ classes_is _
