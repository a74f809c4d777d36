-- `records::heads::heads_named` meets its contract: each segment is asked.
-- Assumes nothing.
use mathlib.Core.Path.{refl}
use Rattle.std.proofs.Common.{rules}
use Rattle.records.proofs.ChainLaws.{all_passed}
use Rattle.records.proofs.heads.heads_named.Goals as goal

pub returns : goal.returns
returns c = all_passed _ _ _ refl c.segments.ensures c.all.ensures.runs (λ x t q k. search rules)
