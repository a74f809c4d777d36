-- `taken::ask::Seen::words` meets its contract. The loop's invariant: the words before this one have been asked. Assumes nothing.
use Rattle.std.proofs.Common.{◌≡◌, ◌&&◌, get_or}
use Rattle.model.specs.Below.{all_below}
use Rattle.taken.specs.Row.{row_none_or_taken, seen_right}
use Rattle.taken.proofs.ask.Seen.words.Given as goal

abbrev pub invariant-loop-h : goal.invariant-loop-h
invariant-loop-h l =
    seen_right l.seen.all l.seen.over
    ≡ (seen_right l.initial.seen.all l.initial.seen.over && all_below l.h-index (λ p. row_none_or_taken l.row (get_or l.words p 0)))
