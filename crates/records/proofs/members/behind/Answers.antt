-- `records::members::behind` meets its contract: each segment is asked.
-- Assumes nothing.
use mathlib.Core.Path.{refl}
use Rattle.std.proofs.Common.{rules}
use Rattle.model.specs.Sound.{behind}
use Rattle.records.proofs.ChainLaws.{all_passed}
use Rattle.records.proofs.members.behind.Goals as goal

pub returns : goal.returns
unfolding behind
returns c = all_passed _ _ _ refl c.segments.ensures c.all.ensures.runs (λ x t q k. search rules)
