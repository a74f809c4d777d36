-- `trace::trace` meets its contract. Assumes nothing.
use native.Mathlib.Omega.{arith}
use Rattle.soundness.proofs.Facts.{sound_facts}
use Rattle.trace.proofs.TraceLaws.{trace_roots, trace_start, so_far_tail, so_far_longer, so_far_on, so_far_done, ended}
use Rattle.trace.proofs.trace.Goals as goal

pub segments-requires : goal.segments-requires
segments-requires c = omega (arith, (sound_facts c.args.arena.now c.requires.right).size.long)

pub put_roots-tail-requires : goal.put_roots-tail-requires
put_roots-tail-requires c = trace_roots c.requires c.segments.ensures

pub loop-row-init : goal.loop-row-init
loop-row-init c = (omega arith, trace_start c.requires (rw c.segments.ensures at c.put_roots-tail.ensures))

pub loop-row-preserved : goal.loop-row-preserved
loop-row-preserved c =
    let l = c.loop-row in
    let t = c.turn-queue in
    let right = c.requires.right in
    (omega (arith, l.invariant.0, so_far_longer right l.invariant.1 t.ensures), so_far_on right l.invariant.1 t.ensures)

pub overflow_cast-result : goal.overflow_cast-result
overflow_cast-result c = omega (arith, so_far_tail c.requires.right c.loop-row.invariant.1)

pub returns : goal.returns
returns c =
    let l = c.loop-row in
    let p = c.put_roots-tail in
    so_far_done c.requires.right l.invariant.1 (rw c.segments.ensures at p.ensures) l.invariant.0
    (rw c.requires.all at (ended l.queue.head l.queue.tail c.args.most c.goes_on.result c.goes_on.ensures c.loop-row-test.false)) (omega (arith, p.auto))
