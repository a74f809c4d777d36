-- `allocation::give::take` meets its contract: the block, and then the place. Assumes nothing.
use native.Mathlib.Omega.{arith}
use Rattle.allocation.proofs.GiveLaws.{index_fits}
use Rattle.allocation.proofs.give.take.Goals as goal

pub put_place-requires : goal.put_place-requires
put_place-requires c =
    let a = c.args in
    omega (
      arith,
      index_fits a.arena.now a.segments a.class a.spot a.shape c.requires,
      c.requires.long,
      c.put_block.auto.arena,
    )
