-- `trace::gather::references` meets its contract: four or eight words hold all references of a block that has no more, and else each is copied.
-- Assumes nothing.
use native.Mathlib.Omega.{arith}
use Rattle.trace.proofs.GatherLaws.{copied, all_references}
use Rattle.trace.proofs.gather.references.Goals as goal

pub returns-then-r-le4 : goal.returns-then-r-le4
returns-then-r-le4 c =
    let r = c.header_r-r.result in
    all_references c.args.block.now r c.first.new.row c.header_r-r.ensures (c.first.ensures r (omega arith) (omega arith))

pub returns-then-r-le8 : goal.returns-then-r-le8
returns-then-r-le8 c =
    let r = c.header_r-r.result in
    all_references c.args.block.now r c.first-then-r-le8.new.row c.header_r-r.ensures (c.first-then-r-le8.ensures r (omega arith) (omega arith))

pub returns-else-r-le8 : goal.returns-else-r-le8
returns-else-r-le8 c =
    let r = c.header_r-r.result in
    all_references c.args.block.now r _ c.header_r-r.ensures
    (copied c.args.block.now _ c.copy_from_slice.new.self r (omega arith) c.copy_from_slice.ensures.after)
