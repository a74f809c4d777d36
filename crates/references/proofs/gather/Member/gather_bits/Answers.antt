-- `references::gather::Member::gather_bits` meets its contract.
-- Assumes nothing.
use native.Mathlib.Omega.{arith}
use borrow.Author.Rules.{rules}
use Rattle.references.proofs.GatherLaws.{left_all, left_step, left_taken, left_none, trailing_lt, gathered_wrong}
use Rattle.references.proofs.gather.Member.gather_bits.Goals as goal

pub loop-left-init : goal.loop-left-init
loop-left-init c = left_all c.requires (search rules)

pub gather_block-requires : goal.gather_block-requires
gather_block-requires c =
    let inv = c.loop-left.invariant in
    record { taken = left_taken c.requires inv c.loop-left-test.true; gathered = inv.gathered }

pub returns-in_err-refs : goal.returns-in_err-refs
returns-in_err-refs c =
    let small = trailing_lt _ c.loop-left.invariant.small c.loop-left-test.true in
    rw c.from_residual.ensures (gathered_wrong c.args.self.arena.now c.args.self.s _ _ c.in_err-refs.ensures (omega (arith, small)))

pub loop-left-preserved : goal.loop-left-preserved
loop-left-preserved c = left_step c.requires c.loop-left.invariant c.loop-left-test.true c.in_ok-refs.ensures

pub returns : goal.returns
returns c = left_none c.loop-left.invariant c.loop-left-test.false
