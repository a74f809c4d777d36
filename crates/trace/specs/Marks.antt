-- One mark in the row of marks (crate arena, Rows).
-- Assumes nothing.
use Rattle.std.specs.Prelude.{ℕ, ◌+◌, ◌/◌, ◌<◌, ◌≡◌, Bool, not, ◌||◌, List, length, eqb}
use Rattle.arena.specs.Rows.{row_bit}

-- a row of marks has a place for handle h
pub record Row (marks : List ℕ) (h : ℕ) : Type 0 where
  pub inside : (h + 31) / 32 < length marks

-- handle h is marked: `new` tells whether it was not
pub record Mark (marks : List ℕ) (h : ℕ) (new : Bool) (marks' : List ℕ) : Type 0 where
  pub tells : new ≡ not (row_bit marks h)
  pub bits : (g : ℕ) → row_bit marks' g ≡ (row_bit marks g || eqb g h)
