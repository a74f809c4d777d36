-- `trace::gather::first` meets its contract. Assumes nothing.
use native.Mathlib.Omega.{arith}
use Rattle.trace.proofs.GatherLaws.{first_none, first_more}
use Rattle.trace.proofs.gather.first.Goals as goal

pub loop-f-init : goal.loop-f-init
loop-f-init c = first_none c.args.block.now c.args.row.now

pub loop-f-preserved : goal.loop-f-preserved
loop-f-preserved c =
    let a = c.args in
    let l = c.loop-f in
    first_more a.block.now l.f l.row c.reference.result (omega arith) c.reference.ensures l.invariant
