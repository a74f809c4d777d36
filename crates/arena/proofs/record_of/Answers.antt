-- `arena::record_of` meets its contract: the part that is cut out is the record. Assumes nothing.
use Prim.Native.Nat.{◌+◌, ◌*◌, ◌-◌}
use mathlib.Core.Path.{◌≡◌}
use native.Mathlib.Omega.{arith}
use Rattle.model.specs.View.{record_of}
use Rattle.arena.proofs.record_of.Goals as goal

pub returns : goal.returns
unfolding record_of
returns c =
    let at = 11 + 68 * c.args.segment in
    let size : at + 68 - at ≡ 68 = omega arith in
    rw size
