-- `references::gather::Member::gather` meets its contract. The loop's invariant: the blocks of the first j words are gathered.
-- Assumes nothing.
use Prim.Native.Nat.{◌*◌}
use Rattle.references.specs.Gather.{Gathered}
use Rattle.references.proofs.gather.Member.gather.Given as goal

abbrev pub invariant-loop-j : goal.invariant-loop-j
invariant-loop-j l = Gathered l.self.arena.now l.self.s (32 * l.j) l.refs
