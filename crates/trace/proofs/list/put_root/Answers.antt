-- `trace::list::put_root` meets its contract: a root that `mark` tells is new goes on the list's end, and any other changes nothing.
-- Assumes nothing.
use mathlib.Core.Path.{sym, ◌∙◌}
use borrow.Author.Tests.{not-true}
use Rattle.arena.specs.Rows.{row_bit}
use Rattle.trace.proofs.ListLaws.{root_new, root_old}
use Rattle.trace.proofs.list.put_root.Goals as goal

pub returns-then-mark : goal.returns-then-mark
returns-then-mark c = λ N l m.
    let room = c.requires.room (not-true (row_bit c.args.marks.now c.args.h) (sym c.mark.ensures.tells ∙ c.if-mark.true)) in
    root_new c.args.h c.args.list.now c.args.c c.mark.ensures N l m room c.if-mark.true

pub returns : goal.returns
returns c = λ N l m.
    root_old c.args.h c.args.list.now c.args.c c.mark.ensures N l m c.requires.within c.if-mark.false
