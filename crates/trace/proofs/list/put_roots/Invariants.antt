-- The invariant of `trace::list::put_roots`'s loop: the roots so far have been put on an empty list. Assumes nothing.
use mathlib.Core.List.{[]}
use lib.ListN.{take}
use Rattle.ways.proofs.Put.{put_all}
use Rattle.trace.specs.List.{On}
use Rattle.trace.proofs.list.put_roots.Given as goal

abbrev pub invariant-loop-p : goal.invariant-loop-p
invariant-loop-p l = On l.n (put_all [] (take l.p l.roots)) l.initial.list l.c l.list l.marks
