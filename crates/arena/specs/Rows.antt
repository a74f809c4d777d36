-- A row of bits, one for each handle. Its word 0 ends with the bit of handle 0. Behind it stand 64 words for each segment, which line up with the
-- level-0 words of the segment's record. So the bit of handle h is bit h + 31 of the row.
-- Assumes nothing.
use Rattle.std.specs.Prelude.{ℕ, ◌+◌, ◌*◌, ◌/◌, ◌%◌, ◌≤◌, ◌≡◌, Bool, ◌||◌, List, eqb}
use Rattle.model.specs.Word.{word, bit}
use Rattle.model.specs.Ways.{listed}

abbrev pub row_bit : List ℕ → ℕ → Bool
row_bit row h = bit (word row ((h + 31) / 32)) ((h + 31) % 32)

-- the marks of an arena of N segments are those of handle 0 and of the blocks of a list
pub record Marked (N : ℕ) (marks L : List ℕ) : Type 0 where
  pub at : (h : ℕ) → h ≤ 2048 * N → row_bit marks h ≡ (eqb h 0 || listed L h)
