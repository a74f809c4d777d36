-- The invariant of `trace::list::keep_new`'s loop: of the first k words those that are put on are kept, and the words from k on are as they were.
-- Assumes nothing.
use Prim.Native.Nat.{ℕ, ◌≤◌}
use mathlib.Core.Path.{◌≡◌}
use lib.ListN.{get_or}
use Rattle.trace.specs.List.{Kept}
use Rattle.trace.proofs.list.keep_new.Given as goal

abbrev pub invariant-loop-k : goal.invariant-loop-k
invariant-loop-k l =
    ((j : ℕ) → l.k ≤ j → get_or l.row j 0 ≡ get_or l.initial.row j 0) × Kept l.initial.row l.k l.initial.marks l.kept l.row l.marks
