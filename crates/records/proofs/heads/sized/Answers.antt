-- `records::heads::sized` meets its contract: a slice without words has no segments, and the three tests are those of the definition.
-- Assumes nothing.
use Prim.Native.Nat.{ℕ, ◌≤◌}
use mathlib.Core.Path.{◌≡◌, refl}
use mathlib.Core.Bool.{false}
use mathlib.Core.List.{List, [], ◌∷◌}
use Rattle.std.proofs.Common.{rules}
use native.Mathlib.Omega.{arith}
use lib.ListN.{length}
use borrow.Author.Tests.{le-leb}
use Rattle.model.specs.View.{segments}
use Rattle.model.specs.Sound.{sized}
use Rattle.records.proofs.heads.sized.Goals as goal

-- a slice that has no words has no segments
no_words : (ws : List ℕ) → length ws ≡ 0 → segments ws ≡ 0
no_words [] e = refl
no_words (w ∷ ws) e = absurd (omega arith)

none : (ws : List ℕ) → segments ws ≡ 0 → false ≡ sized ws
unfolding sized
none ws e = rw e

pub returns-then-is_empty : goal.returns-then-is_empty
returns-then-is_empty c = none c.args.arena.now (no_words c.args.arena.now (search rules))

pub returns-then-contains : goal.returns-then-contains
unfolding sized
returns-then-contains c =
    let ws = c.args.arena.now in
    let inside : (1 ≤ segments ws) × (segments ws ≤ 64) = search rules in
    simp (le-leb 1 (segments ws) inside.0, le-leb (segments ws) 64 inside.1, c.segments.ensures)

pub returns-else-contains : goal.returns-else-contains
unfolding sized
returns-else-contains c = search rules
