-- The invariant of `typed::say::pieces`'s loop: of the handles those before the rest have been written. The measure is the rest. Assumes nothing.
use Rattle.std.proofs.Common.{◌≡◌, ℕ, List, ◌++◌, length}
use Rattle.std.specs.Io.KnownBytes.{Appends}
use Rattle.typed.specs.Answers.{spelled}
use Rattle.typed.proofs.say.pieces.Given as goal

abbrev pub invariant-loop-rest : goal.invariant-loop-rest
invariant-loop-rest g l =
    (before : List ℕ) × (l.handles ≡ before ++ l.rest) × Appends (g.W.Write.contents l.initial.output) (g.W.Write.contents l.output) (spelled before)

abbrev pub decreases-loop-rest : goal.decreases-loop-rest
decreases-loop-rest g l = length l.rest
