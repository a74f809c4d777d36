-- The invariant of `trace::gather::gather`'s loop: the row begins with the references of the blocks taken off, at most 1,023 of each.
-- Assumes nothing.
use Prim.Native.Nat.{◌*◌, ◌≤◌}
use mathlib.Core.Path.{◌≡◌}
use lib.ListN.{length, take}
use Rattle.trace.specs.Gather.{references_of_all}
use Rattle.trace.proofs.gather.gather.Given as goal

abbrev pub invariant-loop-blocks : goal.invariant-loop-blocks
invariant-loop-blocks l =
    (l.end ≤ length l.row) × (l.end ≤ 1023 * l.blocks) × (take l.end l.row ≡ references_of_all l.arena l.queue l.blocks)
