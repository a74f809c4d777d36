-- `drawing::look::judged` tells whether an arena is sound. Assumes nothing.
use Rattle.taken.proofs.RowLaws.{zero_row}
use Rattle.drawing.proofs.LookLaws.{ruled}
use Rattle.drawing.proofs.look.judged.Goals as goal

pub judge-requires : goal.judge-requires
judge-requires c = rw c.requires zero_row

pub invariant_of-result : goal.invariant_of-result
invariant_of-result c = record { ruled = ruled c.judge.ensures c.if-judge.true }
