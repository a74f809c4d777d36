-- `taken::ask::ask_all` meets its contract. Assumes nothing.
use Prim.Native.Nat.{ℕ}
use mathlib.Core.Path.{sym, ap, ap₂, ◌∙◌}
use mathlib.Core.Bool.{Bool, ◌&&◌, and_assoc}
use mathlib.Core.List.{List, ◌++◌}
use lib.ListN.{take-append-drop}
use Rattle.taken.specs.Row.{row_none_or_taken, all_words, seen_right}
use Rattle.taken.proofs.RowLaws.{all_words_append}
use Rattle.taken.proofs.ask.ask_all.Goals as goal

pub loop-four-preserved : goal.loop-four-preserved
loop-four-preserved c =
    let p = row_none_or_taken c.args.row.now in
    let four = c.in-Some.four.now in
    let tail = c.in-Some.tail.now in
    let seen = seen_right c.loop-four.seen.all c.loop-four.seen.over in
    ap (λ (t : Bool). t && all_words p tail) c.words-seen.ensures ∙ and_assoc seen (all_words p four) (all_words p tail)
    ∙ ap (λ (t : Bool). seen && t) (sym (all_words_append p four tail))
    ∙ ap (λ (xs : List ℕ). seen && all_words p xs) (ap₂ ◌++◌ c.in-Some.ensures.cases.0 c.in-Some.ensures.cases.1 ∙ take-append-drop 4 c.loop-four.rest.now)
    ∙ c.loop-four.invariant
