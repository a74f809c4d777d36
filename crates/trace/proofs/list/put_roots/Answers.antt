-- `trace::list::put_roots` meets its contract. Assumes nothing.
use Prim.Native.Nat.{◌+◌}
use native.Mathlib.Omega.{arith}
use Rattle.trace.proofs.ListLaws.{roots_none, root_room, root_on}
use Rattle.trace.proofs.list.put_roots.Goals as goal

pub loop-p-init : goal.loop-p-init
loop-p-init c = roots_none c.args.n c.args.roots.now c.args.list.now c.clear.new.marks c.clear.ensures

pub put_root-c-requires : goal.put_root-c-requires
put_root-c-requires c =
    let l = c.loop-p in
    let small = c.requires.inside l.p (omega arith) in
    rw c.root_at.ensures (record {
      row = record { inside = omega arith };
      within = l.invariant.within;
      room = root_room c.args.n c.args.roots.now c.args.list.now l.c l.list l.marks l.p (omega arith) small l.invariant
          (omega (arith, c.requires.room (l.p + 1) (omega arith)));
    })

pub loop-p-preserved : goal.loop-p-preserved
loop-p-preserved c =
    let l = c.loop-p in
    root_on c.args.n c.args.roots.now c.args.list.now l.c l.list l.marks l.p (omega arith) (c.requires.inside l.p (omega arith)) l.invariant
    (rw c.root_at.ensures at c.put_root-c.ensures)
