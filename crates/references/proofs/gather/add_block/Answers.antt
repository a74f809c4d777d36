-- `references::gather::add_block` meets its contract: a right header leaves room for itself, so that the references fit.
-- Assumes nothing.
use native.Mathlib.Omega.{arith}
use mathlib.Core.Path.{sym}
use Rattle.references.proofs.GatherLaws.{header_room}
use Rattle.references.proofs.gather.add_block.Goals as goal

pub put-requires : goal.put-requires
put-requires c =
    let p = c.requires in
    let room = header_room c.args.class c.args.block.now (sym c.if-not-header_right.ensures) in
    record {
      some = omega (arith, p.some, p.block);
      inside = omega (arith, p.block, room, c.header_r.ensures);
      enough = omega (arith, p.room, p.block);
    }
