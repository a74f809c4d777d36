-- `references::gather::Member::gather_block` meets its contract: there is room for the block's references.
-- Assumes nothing.
use native.Mathlib.Omega.{arith}
use mathlib.Core.Path.{ap}
use Rattle.model.specs.Class.{block_words}
use Rattle.model.specs.View.{class}
use Rattle.words.proofs.ClassLaws.{block_least}
use Rattle.references.proofs.GatherLaws.{gathered_room, gathered_step, taken_inside, of_class, handed_long}
use Rattle.references.proofs.gather.Member.gather_block.Goals as goal

pub block-requires : goal.block-requires
block-requires c =
    let m = c.args.self in
    rw m.of.member.class (taken_inside m.arena.now m.s c.args.k c.requires.taken)

pub add_block-requires : goal.add_block-requires
add_block-requires c =
    let p = c.requires in
    let m = c.args.self in
    let inside = taken_inside m.arena.now m.s c.args.k p.taken in
    let same = ap block_words m.of.member.class in
    record {
      block = handed_long m.of c.args.k c.block.ensures inside;
      some = omega (arith, same, block_least (class m.arena.now m.s) (of_class m.of));
      room = omega (arith, same, gathered_room p.gathered (of_class m.of) inside);
    }

pub returns : goal.returns
returns c =
    let p = c.requires in
    let m = c.args.self in
    gathered_step c.add_block.result p.gathered p.taken m.of.member.class c.block.ensures c.add_block.ensures
