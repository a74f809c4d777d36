-- `references::judge::segment_right` meets its contract: a segment in the pool has no taken block.
-- Assumes nothing.
use mathlib.Core.Path.{sym, ◌∙◌}
use borrow.Author.Tests.{eq-eqb}
use Rattle.references.proofs.JudgeLaws.{judged_pool}
use Rattle.references.proofs.judge.segment_right.Goals as goal

pub returns-then-class-eq0 : goal.returns-then-class-eq0
returns-then-class-eq0 c = sym (judged_pool c.args.arena.now c.args.s (eq-eqb _ 0 (sym c.class-class.ensures ∙ c.if-class-eq0.true)))
