-- What reading an arena asks: that its length is that of its segments, and that there is such a segment, or such a block, or that all segments have a
-- class.
-- Assumes nothing.
use Rattle.std.specs.Prelude.{ℕ, ◌≤◌, ◌<◌, ◌≡◌, true, false, List, length}
use Rattle.model.specs.Class.{is_class, blocks}
use Rattle.model.specs.Layout.{arena_length}
use Rattle.model.specs.View.{segments, class}
use Rattle.model.specs.Standing.{in_pool}

pub record Segment (ws : List ℕ) (s : ℕ) : Type 0 where
  pub few : segments ws ≤ 64
  pub long : length ws ≡ arena_length (segments ws)
  pub there : s < segments ws

-- block k of a segment of class i, in an arena of N segments
pub record Block (ws : List ℕ) (N s i k : ℕ) : Type 0 where
  pub few : N ≤ 64
  pub long : length ws ≡ arena_length N
  pub there : s < N
  pub low : 3 ≤ i
  pub high : i ≤ 12
  pub inside : k < blocks i

-- each segment that is not in the pool has a class
pub record Classed (ws : List ℕ) : Type 0 where
  pub some : 1 ≤ segments ws
  pub few : segments ws ≤ 64
  pub long : length ws ≡ arena_length (segments ws)
  pub classed : (s : ℕ) → s < segments ws → in_pool ws s ≡ false → is_class (class ws s) ≡ true
