-- The invariant of `ranking::levels::write_levels`'s loop: the levels are those of the marks of the words passed (LevelLaws). Assumes nothing.
use mathlib.Core.Path.{◌≡◌}
use mathlib.Core.List.{◌∷◌}
use Rattle.model.specs.Word.{word}
use Rattle.model.specs.Layout.{level_rows}
use Rattle.ranking.proofs.LevelLaws.{passed}
use Rattle.ranking.proofs.levels.write_levels.Given as goal

abbrev pub invariant-loop-j : goal.invariant-loop-j
invariant-loop-j l = l.rec ≡ word l.initial.rec 0 ∷ level_rows l.class (passed l.marks l.j)
