-- `references::gather::Member::large_right` meets its contract. Assumes nothing.
use Rattle.std.proofs.Common.{rules, tests, arith, refl, ap, ◌∙◌, ℕ}
use Rattle.std.proofs.lemmas.Iterator.{YieldsList-from_range}
use Rattle.std.proofs.lemmas.Iterator.Search.{all_from_yields_List}
use Rattle.model.specs.Below.{all_below}
use Rattle.references.specs.Gather.{right_at}
use Rattle.references.proofs.JudgeLaws.{range_all_below, large_judged}
use Rattle.references.proofs.gather.Member.large_right.Goals as goal

pub returns : goal.returns
returns c =
    let m = c.args.self in
    let p = right_at m.arena.now m.s in
    let n = c.blocks-2.result in
    large_judged m.of
    (all_from_yields_List p _ _ _ c.all.ensures.ran (YieldsList-from_range 0 n n refl (omega arith)) (λ x b q k. search (rules, tests))
    ∙ range_all_below p n ∙ ap (λ (x : ℕ). all_below x p) c.blocks-2.ensures)
