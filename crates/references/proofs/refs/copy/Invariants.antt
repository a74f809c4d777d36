-- `references::refs::copy` meets its contract. The loop's invariant: the first f of the words are put.
-- Assumes nothing.
use Rattle.references.specs.Gather.{Copied}
use Rattle.references.proofs.refs.copy.Given as goal

abbrev pub invariant-loop-f : goal.invariant-loop-f
invariant-loop-f l = Copied l.block l.f l.rest
