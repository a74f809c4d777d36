-- `trace::turn` meets its contract: what the queue's blocks refer to has its place in the marks, what is new of it fits the list, and it is put on.
-- Assumes nothing.
use Prim.Native.Nat.{◌+◌}
use native.Mathlib.Omega.{arith}
use lib.ListN.{take}
use Rattle.soundness.proofs.Facts.{sound_facts}
use Rattle.trace.proofs.GatherLaws.{part_copied}
use Rattle.trace.proofs.TraceLaws.{turn_queue, turn_handles, turn_room, turn_done}
use Rattle.trace.proofs.turn.Goals as goal

pub gather-run-requires : goal.gather-run-requires
gather-run-requires c = let t = c.requires in (turn_queue t c.segments.ensures, t.wide)

pub segments-requires : goal.segments-requires
segments-requires c = omega (arith, (sound_facts c.args.arena.now c.requires.right).size.long)

pub keep_new-kept-requires : goal.keep_new-kept-requires
keep_new-kept-requires c = turn_handles c.requires c.gather-run.ensures

pub slice_bounds-copy_from_slice-end : goal.slice_bounds-copy_from_slice-end
slice_bounds-copy_from_slice-end c = let k = c.keep_new-kept in
    omega (arith, turn_room c.requires c.gather-run.ensures k.auto.row k.ensures, c.requires.some)

pub returns : goal.returns
returns c =
    let k = c.keep_new-kept in
    let copy = c.copy_from_slice in
    let room = turn_room c.requires c.gather-run.ensures k.auto.row k.ensures in
    let tail = c.args.queue.tail in
    turn_done c.requires c.gather-run.ensures k.auto.row k.ensures
    (part_copied c.args.list.now (take k.result k.new.row) copy.new.self tail (tail + k.result) (omega arith) room copy.ensures.len copy.ensures.after)
