-- How many marks of a row belong to each segment.
-- Assumes nothing.
use Rattle.std.specs.Prelude.{ℕ, ◌+◌, ◌*◌, ◌/◌, ◌%◌, ◌≤◌, ◌<◌, ◌≡◌, Bool, List, length}
use Rattle.model.specs.Below.{count_below}
use Rattle.model.specs.Word.{word, part, bit}

-- the 64 words of segment s, and the mark of its block k in them
abbrev pub marks_of : List ℕ → ℕ → List ℕ
marks_of marks s = part marks (1 + 64 * s) 64

abbrev pub mark_in : List ℕ → ℕ → Bool
mark_in m k = bit (word m (k / 32)) (k % 32)

-- the row has the words of n segments, or of segment s
pub record Row (marks : List ℕ) (n : ℕ) : Type 0 where
  pub few : n ≤ 64
  pub long : 1 + 64 * n ≤ length marks

pub record RowOf (marks : List ℕ) (s : ℕ) : Type 0 where
  pub few : s < 64
  pub long : 1 + 64 * s + 64 ≤ length marks

-- how many of the 2,048 blocks that a segment can have are marked
unfoldable pub live_in : List ℕ → ℕ → ℕ
live_in marks s = count_below 2048 (mark_in (marks_of marks s))

-- a word for each of 64 segments: how many blocks of the first n are marked
pub record Live (marks : List ℕ) (n : ℕ) (lives : List ℕ) : Type 0 where
  pub long : length lives ≡ 64
  pub counted : (s : ℕ) → s < n → word lives s ≡ live_in marks s
