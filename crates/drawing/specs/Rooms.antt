-- Room of a class, segment by segment.
-- Assumes nothing.
use Rattle.std.specs.Prelude.{ℕ, ◌≤◌, ◌<◌, not, cond, List, eqb}
use Rattle.model.specs.Below.{count_below}
use Rattle.model.specs.Class.{blocks}
use Rattle.model.specs.View.{segments, class}
use Rattle.model.specs.Standing.{taken_at}

-- a segment that is asked for its room of one of the ten classes
pub record SegmentOf (ws : List ℕ) (s i : ℕ) : Type 0 where
  pub there : s < segments ws
  pub low : 3 ≤ i
  pub high : i ≤ 12

-- what a segment gives to the room of class i
abbrev pub room_in : List ℕ → ℕ → ℕ → ℕ
room_in ws i s = cond (eqb (class ws s) i) (count_below (blocks i) (λ k. not (taken_at ws s k))) 0
