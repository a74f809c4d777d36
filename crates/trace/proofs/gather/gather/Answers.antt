-- `trace::gather::gather` meets its contract. Assumes nothing.
use Prim.Native.Nat.{◌≤◌}
use mathlib.Core.Path.{refl}
use lib.ListN.{length}
use native.Mathlib.Omega.{arith}
use Rattle.model.specs.Below.{lists_below}
use Rattle.trace.proofs.GatherLaws.{one_more}
use Rattle.trace.proofs.gather.gather.Goals as goal

pub loop-blocks-init : goal.loop-blocks-init
unfolding lists_below
loop-blocks-init c = (omega arith, omega arith, refl)

pub loop-blocks-preserved : goal.loop-blocks-preserved
loop-blocks-preserved c =
    let l = c.loop-blocks in
    let g = c.gather_block-end in
    let room : g.result ≤ length g.new.row = omega (arith, g.ensures.1, g.auto.row, c.if-rest-lt1023.false) in
    (omega arith, omega arith, one_more c.args.arena.now c.args.queue.now l.blocks l.end g.result l.row g.new.row _ l.invariant.0 room l.invariant.2 g.ensures.0)
