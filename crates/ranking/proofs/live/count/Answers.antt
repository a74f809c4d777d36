-- `ranking::live::count` meets its contract. Assumes nothing.
use Rattle.std.proofs.Common.{rules}
use Rattle.ranking.proofs.live.count.Goals as goal

pub returns : goal.returns
returns c = record { long = search rules; counted = λ s l. let e = c.by_segment.ensures s l in search rules }
