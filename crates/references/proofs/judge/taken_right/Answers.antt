-- `references::judge::taken_right` meets its contract. Assumes nothing.
use Prim.Native.Nat.{ℕ, ◌<◌}
use native.Mathlib.Omega.{arith}
use mathlib.Core.Path.{◌≡◌, refl, ap, ap₂, sym, ◌∙◌}
use mathlib.Core.Bool.{◌&&◌}
use Rattle.model.specs.Below.{all_below}
use Rattle.model.specs.View.{segments}
use Rattle.laws.proofs.Below.{all_below_step, all_below_fails}
use Rattle.references.specs.Gather.{segment_right}
use Rattle.references.proofs.JudgeLaws.{every_segment_right}
use Rattle.references.proofs.judge.taken_right.Goals as goal

pub loop-s-init : goal.loop-s-init
unfolding all_below
loop-s-init c = refl

pub returns-then-not-segment_right : goal.returns-then-not-segment_right
returns-then-not-segment_right c =
    let ws = c.args.arena.now in
    let s = c.loop-s.s in
    let inside : s < segments ws = omega (arith, c.segments-n.ensures, c.loop-s-test.true) in
    sym (every_segment_right ws ∙ all_below_fails (segments ws) (segment_right ws) s inside (sym c.segment_right.ensures ∙ c.if-not-segment_right.true))

pub loop-s-preserved : goal.loop-s-preserved
loop-s-preserved c =
    let ws = c.args.arena.now in
    let loop = c.loop-s in
    all_below_step loop.s (segment_right ws) ∙ ap₂ ◌&&◌ loop.invariant (sym c.segment_right.ensures ∙ c.if-not-segment_right.false)

pub returns : goal.returns
returns c =
    let ws = c.args.arena.now in
    let loop = c.loop-s in
    let end : loop.s ≡ segments ws = omega (arith, c.segments-n.ensures, c.loop-s-test.false) in
    sym (every_segment_right ws ∙ ap (λ (n : ℕ). all_below n (segment_right ws)) (sym end) ∙ loop.invariant)
