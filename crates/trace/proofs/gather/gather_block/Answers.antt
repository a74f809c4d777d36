-- `trace::gather::gather_block` meets its contract: a taken block of a sound arena lies in the arena and has room for its references.
-- Assumes nothing.
use mathlib.Core.Path.{◌≡◌}
use native.Mathlib.Omega.{arith}
use Rattle.model.specs.View.{block, r_in, reference_in}
use Rattle.laws.proofs.Below.{length_words_below}
use Rattle.trace.specs.Gather.{Begins, references_of}
use Rattle.trace.proofs.GatherLaws.{taken_inside, block_is}
use Rattle.trace.proofs.gather.gather_block.Goals as goal
use Rattle.trace.proofs.gather.gather_block.Goals.{After-block_of}

-- the part that was cut out is the block of the handle
the_block : (c : After-block_of) →
    let a = c.args in c.block_of.result.now ≡ block a.arena.now a.h
the_block c =
    block_is c.args.arena.now c.args.n c.segment-s.result c.class-i.result c.index.result.0
    c.args.h c.block_of.result.now c.requires.0.all c.segment-s.ensures c.class-i.ensures
    c.index.ensures c.block_of.ensures

pub segment-s-requires : goal.segment-s-requires
segment-s-requires c =
    let t = c.requires.0 in
    (taken_inside c.args.arena.now c.args.h t.right t.taken).some

pub class-i-requires : goal.class-i-requires
class-i-requires c =
    let t = c.requires.0 in
    rw c.segment-s.ensures (taken_inside c.args.arena.now c.args.h t.right t.taken).its_segment

pub index-requires : goal.index-requires
index-requires c =
    let t = c.requires.0 in
    (taken_inside c.args.arena.now c.args.h t.right t.taken).some

pub block_of-requires : goal.block_of-requires
block_of-requires c =
    let t = c.requires.0 in
    rw (c.class-i.ensures, c.segment-s.ensures, c.index.ensures, t.all)
    (taken_inside c.args.arena.now c.args.h t.right t.taken).its_block

pub references-requires : goal.references-requires
references-requires c =
    let inside = taken_inside c.args.arena.now c.args.h c.requires.0.right c.requires.0.taken in
    rw (the_block (goal.at.references-requires c).After-block_of)
    (record { masked = inside.masked; within = inside.room; room = omega (arith, inside.most, c.requires.1); eight = omega (arith, c.requires.1) })

pub returns : goal.returns
returns c =
    let ws = c.args.arena.now in
    let inside = taken_inside ws c.args.h c.requires.0.right c.requires.0.taken in
    let begins : Begins (references_of ws c.args.h) c.references.result c.references.new.row
    = rw (the_block (goal.at.returns c).After-block_of) at c.references.ensures in
    (begins, omega (arith, begins.count, inside.most, length_words_below (r_in (block ws c.args.h)) (reference_in (block ws c.args.h))))
