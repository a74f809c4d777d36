-- What ranking anew asks and leaves.
-- Assumes nothing.
use Rattle.std.specs.Prelude.{ℕ, ◌+◌, ◌*◌, ◌≤◌, ◌<◌, ◌≡◌, true, List, length}
use Rattle.model.specs.View.{segments}
use Rattle.model.specs.Standing.{is_taken}
use Rattle.model.specs.Sound.{sound}
use Rattle.model.specs.Calls.{collected}
use Rattle.arena.specs.Rows.{row_bit, Marked}

-- a sound arena, and marks of taken blocks alone
pub record Reached (ws marks : List ℕ) : Type 0 where
  pub is_sound : sound ws ≡ true
  pub long : 1 + 64 * segments ws ≤ length marks
  pub taken : (h : ℕ) → 0 < h → h ≤ 2048 * segments ws → row_bit marks h ≡ true → is_taken ws h ≡ true

-- the arena is that of a collection with any list whose marks these are
abbrev pub Anew : List ℕ → List ℕ → List ℕ → Type 0
Anew ws marks ws' = (L : List ℕ) → Marked (segments ws) marks L → ws' ≡ collected ws L
