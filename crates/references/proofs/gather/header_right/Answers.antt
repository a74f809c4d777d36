-- `references::gather::header_right` meets its contract: the class for n is another, or it is this one and r decides.
-- Assumes nothing.
use mathlib.Core.Path.{sym, ap, ap₂, ◌∙◌}
use lib.Dec.{leb}
use borrow.Author.Tests.{eq-eqb, ne_eqb}
use Rattle.model.specs.Class.{class_of}
use Rattle.references.specs.Gather.{header_right}
use Rattle.references.proofs.gather.header_right.Goals as goal

pub returns-then-class_of-class : goal.returns-then-class_of-class
unfolding header_right
returns-then-class_of-class c =
    let n = c.header_n-n.ensures in
    rw (eq-eqb _ _ (sym (c.class_of.ensures ∙ ap class_of n) ∙ c.if-class_of-class.true)) (ap₂ leb c.header_r.ensures n)

pub returns-else-class_of-class : goal.returns-else-class_of-class
unfolding header_right
returns-else-class_of-class c = rw (ne_eqb _ _ (λ e. c.if-class_of-class.false (c.class_of.ensures ∙ ap class_of c.header_n-n.ensures ∙ e))) (ne_eqb _ _ c.if-class_of-class.false)
