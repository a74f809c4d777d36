-- `records::ranks::class_ranked` meets its contract: each rank is asked.
-- Assumes nothing.
use mathlib.Core.Path.{refl}
use Rattle.std.proofs.Common.{rules}
use Rattle.records.proofs.ChainLaws.{all_passed}
use Rattle.records.proofs.ranks.class_ranked.Goals as goal

pub returns : goal.returns
returns c = all_passed _ _ _ refl c.members.ensures c.all.ensures.runs (λ x t q k. search rules)
