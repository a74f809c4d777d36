-- `references::beside::put_fields` meets its contract. The loop's invariant: the first f references are put.
-- Assumes nothing.
use Rattle.references.specs.Beside.{FieldsPut}
use Rattle.references.proofs.beside.put_fields.Given as goal

abbrev pub invariant-loop-f : goal.invariant-loop-f
invariant-loop-f l = FieldsPut l.block l.k l.f l.initial.rest l.rest
