-- `references::beside::reference_or_none` meets its contract. Assumes nothing.
use native.Mathlib.Omega.{arith}
use mathlib.Core.Path.{sym, ap}
use mathlib.Core.Bool.{Bool, cond}
use borrow.Author.Tests.{lt-ltb, le-ltb}
use Rattle.model.specs.View.{r_in, reference_in}
use Rattle.references.specs.Beside.{reference_or_none}
use Rattle.references.proofs.beside.reference_or_none.Goals as goal

pub returns-then-f-header_r : goal.returns-then-f-header_r
unfolding reference_or_none
returns-then-f-header_r c =
    let a = c.args in
    ap (λ (t : Bool). cond t (reference_in a.block.now a.f) 0)
    (sym (lt-ltb a.f (r_in a.block.now) (omega (arith, c.header_r.ensures))))

pub returns-else-f-header_r : goal.returns-else-f-header_r
unfolding reference_or_none
returns-else-f-header_r c =
    let a = c.args in
    ap (λ (t : Bool). cond t (reference_in a.block.now a.f) 0)
    (sym (le-ltb a.f (r_in a.block.now) (omega (arith, c.header_r.ensures))))
