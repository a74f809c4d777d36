-- `taken::row::fill_row` meets its contract. The loop's invariant: the words of the first s segments are filled.
-- Assumes nothing.
use Prim.Native.Nat.{◌*◌}
use Rattle.taken.specs.Row.{Filled}
use Rattle.taken.proofs.row.fill_row.Given as goal

abbrev pub invariant-loop-s : goal.invariant-loop-s
invariant-loop-s l = Filled l.arena l.row (64 * l.s)
