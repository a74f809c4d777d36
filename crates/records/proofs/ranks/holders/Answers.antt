-- `records::ranks::holders` meets its contract: of the segments those are counted that pass.
-- Assumes nothing.
use Prim.Native.Nat.{ℕ, ◌^◌}
use mathlib.Core.Path.{ap, ◌∙◌}
use native.Mathlib.Omega.{arith}
use Rattle.std.proofs.Common.{rules, tests}
use Rattle.std.specs.declared.ops.Range.{Range}
use Rattle.model.specs.View.{segments, members}
use Rattle.records.specs.Judged.{has_rank}
use Rattle.records.proofs.ChainLaws.{counted, count_fits}
use Rattle.records.proofs.ranks.holders.Goals as goal

pub sum-requires-clause-fits : goal.sum-requires-clause-fits
sum-requires-clause-fits c =
    let a = c.args in
    count_fits (segments a.arena.now) (has_rank a.arena.now a.class a.rank) (ap (λ (s : Range ℕ). s.start) c.map.ensures.source)
    (ap (λ (s : Range ℕ). s.end) c.map.ensures.source ∙ c.segments.ensures) c.map.ensures.closure (λ x t q k. search (rules, tests)) (2 ^ 32) (omega (arith, c.requires.few))

pub returns : goal.returns
unfolding members
returns c =
    let a = c.args in
    counted (segments a.arena.now) (has_rank a.arena.now a.class a.rank) (ap (λ (s : Range ℕ). s.start) c.map.ensures.source)
    (ap (λ (s : Range ℕ). s.end) c.map.ensures.source ∙ c.segments.ensures) c.map.ensures.closure (λ x t q k. search (rules, tests)) _ c.sum.ensures.ran
