-- `allocation::find::joining` meets its contract. Assumes nothing.
use mathlib.Core.Path.{refl, sym, ◌∙◌}
use Rattle.allocation.proofs.FindLaws.{pool_joins, pool_empty}
use Rattle.allocation.proofs.find.joining.Goals as goal

pub returns-in_err-segment : goal.returns-in_err-segment
returns-in_err-segment c =
    let a = c.args in
    rw c.from_residual.ensures (pool_empty a.arena.now a.class a.rank c.requires (sym c.first_pool.ensures ∙ c.in_err-segment.was))

pub returns : goal.returns
returns c =
    let a = c.args in
    pool_joins a.arena.now a.class a.rank _ c.requires (sym c.first_pool.ensures ∙ c.in_ok-segment.was) refl refl
