-- `trace::list::keep_new` meets its contract. Assumes nothing.
use mathlib.Core.Path.{refl, ◌∙◌}
use native.Mathlib.Omega.{arith}
use native.Mathlib.Nat.{le_refl}
use lib.ListN.{get_or}
use lib.Seq.{get_or-set_other}
use Rattle.trace.proofs.ListLaws.{kept_none, kept_more}
use Rattle.trace.proofs.list.keep_new.Goals as goal

pub loop-k-init : goal.loop-k-init
loop-k-init c = (λ j l. refl, kept_none c.args.row.now c.args.marks.now)

pub loop-k-preserved : goal.loop-k-preserved
loop-k-preserved c =
    let a = c.args in
    let l = c.loop-k in
    let h = get_or l.row l.k 0 in (
      λ j v. get_or-set_other l.row l.kept j h 0 (omega (arith, l.invariant.1.within)) ∙ l.invariant.0 j (omega arith),
      rw c.from-kept.ensures (kept_more a.row.now l.k a.marks.now l.kept l.row l.marks h c.mark.result c.mark.new.marks l.invariant.1 (omega arith)
          (omega (arith, l.invariant.1.within)) (l.invariant.0 l.k (le_refl l.k)) c.mark.ensures),
    )
