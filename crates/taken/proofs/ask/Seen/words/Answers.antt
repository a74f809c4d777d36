-- `taken::ask::Seen::words` meets its contract. Assumes nothing.
use mathlib.Core.Path.{sym, ap, ◌∙◌}
use mathlib.Core.Bool.{Bool, ◌&&◌, and-true, and_assoc}
use lib.ListN.{get_or}
use Rattle.model.specs.Below.{all_below}
use Rattle.laws.proofs.Below.{all_below_step}
use Rattle.taken.specs.Row.{row_none_or_taken, seen_right}
use Rattle.taken.proofs.ask.Seen.words.Goals as goal

pub loop-h-init : goal.loop-h-init
unfolding all_below
loop-h-init c = sym (and-true (seen_right c.args.self.all c.args.self.over))

pub loop-h-preserved : goal.loop-h-preserved
loop-h-preserved c =
    let row = c.args.row.now in
    let words = c.args.words.now in
    let n = c.loop-h.h-index in
    let asked = row_none_or_taken row (get_or words n 0) in
    let before = all_below n (λ p. row_none_or_taken row (get_or words p 0)) in
    let seen = seen_right c.args.self.all c.args.self.over in
    c.word-seen.ensures ∙ ap (λ (t : Bool). t && asked) c.loop-h.invariant ∙ and_assoc seen before asked
    ∙ ap (λ (t : Bool). seen && t) (sym (all_below_step n (λ p. row_none_or_taken row (get_or words p 0))))
