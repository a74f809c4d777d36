-- `taken::row::fill_words` meets its contract. The loop's invariant: the first j words are filled.
-- Assumes nothing.
use mathlib.Core.Path.{◌≡◌}
use Rattle.model.specs.Class.{words_for}
use Rattle.taken.specs.Row.{Segment}
use Rattle.taken.proofs.row.fill_words.Given as goal

abbrev pub invariant-loop-j : goal.invariant-loop-j
invariant-loop-j l = (l.words ≡ words_for l.blocks) × Segment l.rec l.limit l.blocks l.initial.out-items l.out-items l.j
