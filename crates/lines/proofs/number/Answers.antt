-- `lines::number` meets its contract: the bytes passed are digits, with the value so far. Assumes nothing.
use Rattle.std.proofs.Common.{◌≡◌, ◌+◌, take, take_all, sym, ap, ◌∙◌, arith, refl}
use Rattle.std.proofs.lemmas.Bool.{eqb-true, eqb-false}
use Rattle.lines.specs.Line.{value, all_digits, value_after}
use Rattle.lines.proofs.NumberLaws.{value_more, digits_more, no_bytes, no_digit, too_large, one_number}
use Rattle.lines.proofs.number.Goals as goal

pub returns-then-is_empty : goal.returns-then-is_empty
returns-then-is_empty c = no_bytes c.args.field.now (eqb-true _ _ (sym c.if-is_empty.ensures))

pub loop-byte-init : goal.loop-byte-init
unfolding all_digits value_after
loop-byte-init c = (refl, refl, omega arith)

pub returns-in_err-digit : goal.returns-in_err-digit
returns-in_err-digit c = rw c.from_residual.ensures (no_digit c.args.field.now c.loop-byte.byte-index c.loop-byte-test.true c.in_err-digit.ensures)

pub returns-in_err-v : goal.returns-in_err-v
returns-in_err-v c =
    let at = c.loop-byte.byte-index in
    let more = value_more c.args.field.now at c.loop-byte-test.true in
    let d = c.in_ok-digit.ensures in
    rw c.from_residual-in_err-v.ensures
    (too_large c.args.field.now (at + 1) (λ h. c.in_err-v.ensures (omega (arith, c.loop-byte.invariant.1))))

pub loop-byte-preserved : goal.loop-byte-preserved
loop-byte-preserved c =
    let at = c.loop-byte.byte-index in
    let more = value_more c.args.field.now at c.loop-byte-test.true in
    let v = c.in_ok-v.ensures in
    let d = c.in_ok-digit.ensures in
    (digits_more c.args.field.now at c.loop-byte-test.true c.loop-byte.invariant.0 d.0, omega (arith, c.loop-byte.invariant.1), omega arith)

pub returns : goal.returns
returns c =
    let all : take c.loop-byte.byte-index c.args.field.now ≡ c.args.field.now = take_all c.loop-byte.byte-index c.args.field.now (omega arith) in
    let v : c.loop-byte.v ≡ value c.args.field.now = c.loop-byte.invariant.1 ∙ ap value all in
    let some = eqb-false _ _ (sym c.if-is_empty.ensures) in
    (one_number c.args.field.now (omega arith) (rw all at c.loop-byte.invariant.0) (omega (arith, c.loop-byte.invariant.2)), v)
