-- `judge::judge` meets its contract. Assumes nothing.
use mathlib.Core.Path.{sym}
use mathlib.Core.Bool.{true≢false}
use Rattle.judge.proofs.Joining.{classed, refused, joined}
use Rattle.judge.proofs.judge.Goals as goal

pub returns-then-not-records_right : goal.returns-then-not-records_right
returns-then-not-records_right c = record { answered = refused _ c.if-not-records_right.ensures; taken = λ e. absurd (true≢false (sym e)) }

pub fill_row-requires : goal.fill_row-requires
fill_row-requires c = record { classed = classed _ c.if-not-records_right.ensures; zero_row = c.requires }

pub taken_right-requires : goal.taken_right-requires
taken_right-requires c = record { classed = classed _ c.if-not-records_right.ensures; taken_row = c.fill_row.ensures }

pub returns : goal.returns
returns c = record { answered = joined _ _ c.if-not-records_right.ensures c.taken_right.ensures; taken = λ _. c.fill_row.ensures }
