-- `ranking::keys::SegmentKeys::new_rank` meets its contract. Assumes nothing.
use native.Mathlib.Omega.{arith}
use Rattle.ranking.specs.Heads.{rank_by}
use Rattle.ranking.proofs.keys.SegmentKeys.new_rank.Goals as goal

pub returns : goal.returns
unfolding rank_by
returns c = ((cc), omega arith)
