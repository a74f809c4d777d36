-- The invariant of `trace::gather::first`'s loop: the first f references, if there are as many, have been copied. Assumes nothing.
use Rattle.trace.specs.Gather.{First}
use Rattle.trace.proofs.gather.first.Given as goal

abbrev pub invariant-loop-f : goal.invariant-loop-f
invariant-loop-f l = First l.block l.f l.row
