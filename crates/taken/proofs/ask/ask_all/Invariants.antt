-- `taken::ask::ask_all` meets its contract. The loop's invariant: the words before the rest have been asked. Assumes nothing.
use Rattle.std.proofs.Common.{◌≡◌, ◌&&◌, length}
use Rattle.taken.specs.Row.{row_none_or_taken, all_words, seen_right}
use Rattle.taken.proofs.ask.ask_all.Given as goal

abbrev pub invariant-loop-four : goal.invariant-loop-four
invariant-loop-four l = (seen_right l.seen.all l.seen.over && all_words (row_none_or_taken l.row) l.rest) ≡ all_words (row_none_or_taken l.row) l.words

abbrev pub decreases-loop-four : goal.decreases-loop-four
decreases-loop-four l = length l.rest
