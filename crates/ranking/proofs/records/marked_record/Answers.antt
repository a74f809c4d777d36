-- `ranking::records::marked_record` meets its contract. Assumes nothing.
use Prim.Native.Nat.{ℕ}
use mathlib.Core.Path.{ap, ap₂, ◌∙◌}
use mathlib.Core.List.{◌∷◌}
use native.Mathlib.Omega.{arith}
use lib.ListN.{replicate}
use lib.Seq.{get_or-set_same}
use borrow.Author.Tests.{eq-eqb, ne_eqb}
use Rattle.model.specs.Layout.{level_rows}
use Rattle.ranking.specs.Live.{mark_in}
use Rattle.ranking.specs.Records.{marked_record}
use Rattle.ranking.proofs.records.marked_record.Goals as goal

pub returns-then-head-eq0 : goal.returns-then-head-eq0
unfolding marked_record
returns-then-head-eq0 c =
    c.fill.ensures.after (λ y e. e) ∙ ap (λ (n : ℕ). replicate n 0) c.requires.long ∙ simp (eq-eqb _ _ c.if-head-eq0.true)

pub returns-else-head-eq0 : goal.returns-else-head-eq0
unfolding marked_record
returns-else-head-eq0 c =
    c.write_levels.ensures
    ∙ ap₂ ◌∷◌ (get_or-set_same c.args.rec.now 0 c.args.head 0 (omega (arith, c.requires.long)))
    (ap (λ (i : ℕ). level_rows i (mark_in c.args.marks.now)) c.record_class.ensures) ∙ simp (ne_eqb _ _ c.if-head-eq0.false)
