-- `lines::order_of` meets its contract: each arm is a case of what a letter and numbers mean. Assumes nothing.
use Rattle.std.proofs.Common.{◌≡◌, length, ◌<◌, get_or, ap, arith}
use Rattle.lines.proofs.OrderLaws.{said_allocates, said_tag, said_links, said_collects, said_count, said_other}
use Rattle.lines.proofs.order_of.Goals as goal
use Rattle.std.proofs.lemmas.Bool.{ltb-true, ltb-false}
use Rattle.lines.proofs.NumberLaws.{none_iff, some_iff}
use Rattle.lines.proofs.order_of.Goals.{in_default-via-in-78+then-as_slice-lt3, in_default-via-in-78+else-as_slice-lt3+else-this-lt4, in_default-via-in-76+then-this-lt3, in_default-via-in-76+else-this-lt3+else-this-lt4-2, in_default-via-in_default}

pub returns-in_err-ok-in-78-len3 : goal.returns-in_err-ok-in-78-len3
returns-in_err-ok-in-78-len3 c =
    let tag : get_or c.as_slice.result.now 2 0 < 256 → ⊥ =
    none_iff c.try_from.result c.ok.result _ c.try_from.ensures c.ok.ensures.value c.in_err-ok-in-78-len3.was in
    rw (c.from_residual.ensures, ← c.as_slice.ensures.value) (said_tag c.args.letter c.as_slice.result.now c.in-78-len3.is-0 (omega arith) (omega (arith, tag)))

pub returns-in_ok-ok-in-78-len3 : goal.returns-in_ok-ok-in-78-len3
returns-in_ok-ok-in-78-len3 c =
    let ns = c.as_slice.result.now in
    let tag : (get_or ns 2 0 < 256) × (c.in_ok-ok-in-78-len3.field-0 ≡ get_or ns 2 0) =
    some_iff c.try_from.result c.ok.result _ _ c.try_from.ensures c.ok.ensures.value c.in_ok-ok-in-78-len3.was in
    rw (← c.as_slice.ensures.value, tag.1) (said_allocates c.args.letter ns c.in-78-len3.is-0 (omega arith) (omega (arith, tag.0)))

pub returns-in-76-len3 : goal.returns-in-76-len3
returns-in-76-len3 c = rw (← c.as_slice.ensures.value) (said_links c.args.letter c.as_slice.result.now c.in-76-len3.is-0 (omega arith))

pub returns-in-75-default : goal.returns-in-75-default
returns-in-75-default c = rw (c.of.ensures, c.deref.ensures.0) (said_collects c.args.letter c.args.numbers.items c.in-75-default.is-0 (omega (arith, ap length c.as_slice.ensures.value)))

pub returns-in_default : goal.returns-in_default
returns-in_default c =
    rw (← c.as_slice.ensures.value)
    (elim c.in_default.branch [
      | in_default-via-in-78+then-as_slice-lt3 w ↦ said_count c.args.letter c.as_slice.result.now (λ k. omega arith) (λ n. omega (arith, ltb-true, ltb-false))
      | in_default-via-in-78+else-as_slice-lt3+else-this-lt4 w ↦ said_count c.args.letter c.as_slice.result.now (λ k. omega arith) (λ n. omega (arith, ltb-true, ltb-false))
      | in_default-via-in-76+then-this-lt3 w ↦ said_count c.args.letter c.as_slice.result.now (λ k. omega arith) (λ n. omega (arith, ltb-true, ltb-false))
      | in_default-via-in-76+else-this-lt3+else-this-lt4-2 w ↦ said_count c.args.letter c.as_slice.result.now (λ k. omega arith) (λ n. omega (arith, ltb-true, ltb-false))
      | in_default-via-in_default w ↦ said_other c.args.letter c.as_slice.result.now (λ n. omega arith) (λ l. omega arith) (λ k. omega arith)
    ])
