-- What the calls ask and tell inside, once an arena has been judged: that it is sound, and what follows of a taken block of it.
-- Assumes nothing.
use Rattle.std.specs.Prelude.{ℕ, ◌+◌, ◌≤◌, true, List, ◌≡◌, length}
use Rattle.model.specs.Layout.{arena_length}
use Rattle.model.specs.View.{segments, offset, block, n_in, r_in}
use Rattle.model.specs.Sound.{sound}
use Rattle.taken.specs.Row.{TakenRow}

-- a sound arena with its taken row
pub record Ruled (ws row : List ℕ) : Type 0 where
  pub is_sound : sound ws ≡ true
  pub some : 1 ≤ segments ws
  pub few : segments ws ≤ 64
  pub long : length ws ≡ arena_length (segments ws)
  pub row_right : TakenRow ws row

-- a block's own words have room for all that its header names
pub record Fitting (b : List ℕ) : Type 0 where
  pub within : r_in b ≤ n_in b
  pub room : 1 + n_in b ≤ length b

-- the words of a handle's block, and where they begin, which end within the arena
pub record BlockOf (ws : List ℕ) (h : ℕ) (b : List ℕ) (at : ℕ) : Type 0 where
  pub own : b ≡ block ws h
  pub first : at ≡ offset ws h
  pub ends : at + length b ≤ length ws
