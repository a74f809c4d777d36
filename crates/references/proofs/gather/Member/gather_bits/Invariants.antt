-- `references::gather::Member::gather_bits` meets its contract. The loop's invariant: the blocks before the lowest bit that is left are gathered.
-- Assumes nothing.
use Rattle.references.proofs.GatherLaws.{Left}
use Rattle.references.proofs.gather.Member.gather_bits.Given as goal

abbrev pub invariant-loop-left : goal.invariant-loop-left
invariant-loop-left l = Left l.self.arena.now l.self.s l.j l.w l.left l.refs

abbrev pub decreases-loop-left : goal.decreases-loop-left
decreases-loop-left l = l.left
