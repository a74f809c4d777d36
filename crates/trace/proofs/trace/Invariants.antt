-- The invariant of `trace::trace`'s loop: the list so far is that of the order of demand 3 up to the head, and its later words are as they were. The
-- measure is what the head has left of the list. Assumes nothing.
use Prim.Native.Nat.{◌-◌, ◌≤◌}
use lib.ListN.{length}
use Rattle.trace.proofs.TraceLaws.{SoFar}
use Rattle.trace.proofs.trace.Given as goal

abbrev pub invariant-loop-row : goal.invariant-loop-row
invariant-loop-row l =
    (l.initial.queue.tail ≤ l.queue.tail) × SoFar l.arena l.roots l.initial.list l.queue.head l.queue.tail l.list l.marks

abbrev pub decreases-loop-row : goal.decreases-loop-row
decreases-loop-row l = length l.initial.list - l.queue.head
