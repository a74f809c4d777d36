-- `ranking::keys::SegmentKeys::of` meets its contract. Assumes nothing.
use native.Mathlib.Omega.{arith}
use Rattle.std.proofs.Common.{rules}
use Rattle.ranking.proofs.keys.SegmentKeys.of.Goals as goal

pub returns-clause-keys : goal.returns-clause-keys
returns-clause-keys c = record { long = search rules; keyed = λ s l. let e = c.by_segment-keys.ensures s (omega (arith, c.segments-n.ensures)) in search rules }
