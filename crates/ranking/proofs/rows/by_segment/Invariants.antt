-- The invariant of `ranking::rows::by_segment`'s loop: what f gives for the segments passed stands in the row. Assumes nothing.
use Prim.Native.Nat.{ℕ, ◌<◌}
use mathlib.Core.Path.{◌≡◌}
use lib.ListN.{length}
use Rattle.model.specs.Word.{word}
use Rattle.ranking.proofs.rows.by_segment.Given as goal

abbrev pub invariant-loop-s : goal.invariant-loop-s
invariant-loop-s g l = (length l.row ≡ 64) × ((t : ℕ) → t < l.s → goal.F-post g l.f t (word l.row t))
