-- `trace::marks::mark` meets its contract: one word is stored, with the bit of the handle set. Assumes nothing.
use mathlib.Core.Path.{ap}
use mathlib.Core.Bool.{not}
use Rattle.trace.proofs.MarkLaws.{mark_row}
use Rattle.trace.proofs.marks.mark.Goals as goal

pub returns : goal.returns
returns c =
    let a = c.args in
    record { tells = ap not c.bit.ensures; bits = rw c.with_bit.ensures (mark_row a.marks.now a.h c.requires.inside) }
