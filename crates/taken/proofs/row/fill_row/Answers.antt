-- `taken::row::fill_row` meets its contract.
-- Assumes nothing.
use Prim.Native.Nat.{◌*◌}
use native.Mathlib.Omega.{arith}
use mathlib.Core.Path.{◌≡◌}
use Rattle.model.specs.View.{segments}
use Rattle.taken.proofs.RowLaws.{filled_taken}
use Rattle.taken.proofs.row.fill_row.Goals as goal

pub returns : goal.returns
returns c =
    let all : 64 * c.loop-s.s ≡ 64 * segments c.args.arena.now = omega arith in
    filled_taken c.requires.classed.few (rw all at c.loop-s.invariant)
