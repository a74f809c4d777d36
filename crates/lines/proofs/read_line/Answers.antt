-- `lines::read_line` meets its contract: a text is told by its first two bytes. Assumes nothing.
use Rattle.std.proofs.Common.{◌∙◌, arith}
use Rattle.lines.proofs.OrderLaws.{long_means, empty_means, letter_means, other_means, numbers_mean, bad_means, cut_off}
use Rattle.lines.proofs.read_line.Goals as goal
use Rattle.std.proofs.lemmas.Bool.{ltb-true, ltb-false}
use Rattle.lines.proofs.read_line.Goals.{in_default-via-then-text-lt1, in_default-via-else-text-lt1+else-text-lt2+in_default-1}

pub returns-then-text-gt80 : goal.returns-then-text-gt80
returns-then-text-gt80 c = long_means c.args.text.now (omega arith)

pub returns-in_err-numbers-in-32 : goal.returns-in_err-numbers-in-32
returns-in_err-numbers-in-32 c =
    let text = c.args.text.now in
    rw c.from_residual.ensures
    (bad_means text c.in-32.len_at_least (omega arith) (omega arith) (rw cut_off at c.in_err-numbers-in-32.ensures))

pub returns-in-len1 : goal.returns-in-len1
returns-in-len1 c = rw c.new.ensures at c.order_of.ensures ∙ letter_means c.args.text.now (omega arith)

pub returns-in_ok-numbers-in-32 : goal.returns-in_ok-numbers-in-32
returns-in_ok-numbers-in-32 c =
    let text = c.args.text.now in
    let read = rw cut_off at c.in_ok-numbers-in-32.ensures in
    rw read.1 at c.order_of-in-32.ensures ∙ numbers_mean text c.in-32.len_at_least (omega arith) (omega arith) read.0

pub returns-in_default : goal.returns-in_default
returns-in_default c =
    elim c.in_default.branch [
      | in_default-via-then-text-lt1 w ↦ empty_means c.args.text.now (omega (arith, ltb-true))
      | in_default-via-else-text-lt1+else-text-lt2+in_default-1 w ↦ other_means c.args.text.now (omega (arith, ltb-false)) (λ e. omega arith)
    ]
