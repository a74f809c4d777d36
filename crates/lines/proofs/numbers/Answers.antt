-- `lines::numbers` meets its contract: the fields passed are numbers, and these stand in the row. Assumes nothing.
use Rattle.std.proofs.Common.{rules, ◌≡◌, map, length, ℕ, List, [], ◌∷◌, ◌++◌, refl, arith, eqb, tests, Bor}
use Rattle.std.proofs.lemmas.List.{map-append}
use Rattle.std.proofs.Math.ListN.{length-map}
use Rattle.std.proofs.lemmas.Bool.{and_right, lt-leb}
use Rattle.std.proofs.lemmas.Iterator.Splits.{YieldsList-from_slice_split}
use Rattle.std.proofs.lemmas.Iterator.Consumers.{YieldsList-turn, YieldsList-end}
use Rattle.lines.specs.Line.{fields, all_numbers}
use Rattle.lines.proofs.NumberLaws.{fields_are, no_number, numbers_more, at_some, at_none}
use Rattle.lines.proofs.numbers.Goals as goal

pub loop-field-init : goal.loop-field-init
unfolding all_numbers
loop-field-init c = (refl, c.new-all.ensures)

pub returns-in_err-number : goal.returns-in_err-number
returns-in_err-number c =
    let turn = YieldsList-turn (YieldsList-from_slice_split _ (λ b. eqb b 32) c.args.text.now (cc) (cc) (cc) (λ x r q k. search (rules, tests)))
    c.loop-field.yielded _ c.loop-field.yielded_by _ _ c.in-Some.field c.in-Some.is c.next.ensures.steps in
    let at = rw fields_are at turn in
    rw c.from_residual.ensures (no_number (fields c.args.text.now) (length c.loop-field.yielded) c.in-Some.field.now at c.in_err-number.ensures)

pub loop-field-preserved : goal.loop-field-preserved
loop-field-preserved c =
    let n = c.in_ok-number.ensures in
    let fs = map (λ (f : Bor (List ℕ)). f.now) c.loop-field.yielded in
    let pushed : c.try_push.new.self.items ≡ c.loop-field.all.items ++ c.in_ok-number.field-0 ∷ [] =
    at_some c.try_push.result c.ok.result _ c.ok.ensures.value c.in_ok-ok.was c.try_push.ensures.ok in
    (rw map-append (numbers_more fs c.in-Some.field.now c.loop-field.invariant.0 n.0), rw (map-append, map-append, ← n.1, ← c.loop-field.invariant.1) pushed)

pub returns-in_err-ok : goal.returns-in_err-ok
returns-in_err-ok c =
    let turn = YieldsList-turn (YieldsList-from_slice_split _ (λ b. eqb b 32) c.args.text.now (cc) (cc) (cc) (λ x r q k. search (rules, tests)))
    c.loop-field.yielded _ c.loop-field.yielded_by _ _ c.in-Some.field c.in-Some.is c.next.ensures.steps in
    let at = rw fields_are at turn in
    let full : length c.loop-field.all.items ≡ 16 =
    at_none c.try_push.result c.ok.result c.ok.ensures.value c.in_err-ok.was c.try_push.ensures.full in
    let passed : length c.loop-field.all.items ≡ length c.loop-field.yielded = rw c.loop-field.invariant.1 (simp length-map) in
    rw c.from_residual-in_err-ok.ensures
    (and_right (all_numbers (fields c.args.text.now)) _ (lt-leb (length (fields c.args.text.now)) 16 (omega (arith, at.0))))

pub returns : goal.returns
returns c =
    let end = YieldsList-end (YieldsList-from_slice_split _ (λ b. eqb b 32) c.args.text.now (cc) (cc) (cc) (λ x r q k. search (rules, tests)))
    c.loop-field.yielded _ c.loop-field.yielded_by _ _ c.in-None.is c.next.ensures.steps in
    let all = rw fields_are at end in
    (rw all.0 at c.loop-field.invariant.0, rw all.0 at c.loop-field.invariant.1)
