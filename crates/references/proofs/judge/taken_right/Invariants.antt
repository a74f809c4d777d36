-- `references::judge::taken_right` meets its contract. The loop's invariant: the first s segments are right.
-- Assumes nothing.
use mathlib.Core.Path.{◌≡◌}
use mathlib.Core.Bool.{true}
use Rattle.model.specs.Below.{all_below}
use Rattle.references.specs.Gather.{segment_right}
use Rattle.references.proofs.judge.taken_right.Given as goal

abbrev pub invariant-loop-s : goal.invariant-loop-s
invariant-loop-s l = all_below l.s (segment_right l.arena) ≡ true
