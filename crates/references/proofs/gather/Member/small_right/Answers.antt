-- `references::gather::Member::small_right` meets its contract. Assumes nothing.
use mathlib.Core.Path.{sym, ap, ◌∙◌}
use Rattle.taken.specs.Row.{all_words, row_none_or_taken}
use Rattle.references.proofs.JudgeLaws.{judged_wrong, judged_right}
use Rattle.references.proofs.gather.Member.small_right.Goals as goal

pub returns-in-Some : goal.returns-in-Some
returns-in-Some c =
    let m = c.args.self in
    judged_right m.of c.in-Some.ensures m.taken (c.all_none_or_taken.ensures ∙ ap (all_words (row_none_or_taken m.row.now)) c.as_slice.ensures)

pub returns-in-None : goal.returns-in-None
returns-in-None c = sym (judged_wrong c.args.self.of c.in-None.ensures)
