-- `ranking::keys::SegmentKeys::new_heads` meets its contract. Assumes nothing.
use Rattle.std.proofs.Common.{rules}
use Rattle.ranking.proofs.keys.SegmentKeys.new_heads.Goals as goal

pub returns : goal.returns
returns c = record { long = search rules; headed = λ s l. let e = c.by_segment.ensures s l in search rules }
