-- Ways, their order, and the list of a collection (demand 3). "A way is a root position (zeros and doubles count as positions) and then
-- reference field positions, all from 0."
-- Assumes nothing.
use Rattle.std.specs.Prelude.{ℕ, suc, ◌<◌, ◌≡◌, ◌⊎◌, ◌≢◌, Bool, cond, ◌&&◌, ◌||◌, false, List, [], ◌∷◌, ◌++◌, length, get_or, ltb, eqb}
use Rattle.model.specs.View.{block, r_in, reference_in}
use Rattle.model.specs.Standing.{is_taken}

-- a root position, or a way and one field position more
pub data Way : Type 0 where
  root : ℕ → Way
  step : Way → ℕ → Way

-- how many steps it takes from its root
abbrev pub steps : Way → ℕ
steps (root p) = 0
steps (step w f) = suc (steps w)

-- its positions in turn: the root's, then the fields'
abbrev pub positions : Way → List ℕ
positions (root p) = p ∷ []
positions (step w f) = positions w ++ (f ∷ [])

-- of two rows of positions the one that has the smaller number where they first differ
abbrev pub Smaller : List ℕ → List ℕ → Type 0
Smaller [] ys = ⊥
Smaller (x ∷ xs) [] = ⊥
Smaller (x ∷ xs) (y ∷ ys) = (x < y) ⊎ ((x ≡ y) × Smaller xs ys)

-- "Fewest steps from a root first; among equals the way that comes first by root position, then by field position at each step."
abbrev pub Earlier : Way → Way → Type 0
Earlier v w = (steps v < steps w) ⊎ ((steps v ≡ steps w) × Smaller (positions v) (positions w))

-- a drawing: its roots, and for a handle and a field position the handle that is referred to, 0 for none
pub record Drawing : Type 0 where
  pub roots : List ℕ
  pub refers : ℕ → ℕ → ℕ

-- the handle to which a way leads, 0 where it leads nowhere
abbrev pub leads : Drawing → Way → ℕ
leads D (root p) = get_or D.roots p 0
leads D (step w f) = D.refers (leads D w) f

-- a block is reachable if some way leads there
abbrev pub Reachable : Drawing → ℕ → Type 0
Reachable D h = (h ≢ 0) × ((w : Way) × (leads D w ≡ h))

-- g comes before h: some way to g is earlier than every way to h
abbrev pub Before : Drawing → ℕ → ℕ → Type 0
Before D g h = (v : Way) × (leads D v ≡ g) × ((w : Way) → leads D w ≡ h → Earlier v w)

-- h stands in the list
abbrev pub In : ℕ → List ℕ → Type 0
In h L = (k : ℕ) × (k < length L) × (get_or L k 0 ≡ h)

-- "A granted collection lists every reachable block, each once, nothing else, in this order."
pub record Listing (D : Drawing) (L : List ℕ) : Type 0 where
  pub every : (h : ℕ) → Reachable D h → In h L
  pub once : (j k : ℕ) → j < k → k < length L → get_or L j 0 ≢ get_or L k 0
  pub nothing_else : (k : ℕ) → k < length L → Reachable D (get_or L k 0)
  pub order : (j k : ℕ) → j < k → k < length L → Before D (get_or L j 0) (get_or L k 0)

-- the drawing that an arena and a list of roots hold: only a taken block refers to anything, and only in its r references
abbrev pub refers_in : List ℕ → ℕ → ℕ → ℕ
refers_in ws h f = cond (is_taken ws h && ltb f (r_in (block ws h))) (reference_in (block ws h) f) 0

abbrev pub drawing : List ℕ → List ℕ → Drawing
drawing ws roots = record { roots = roots; refers = refers_in ws }

-- h is one of the list's handles
unfoldable pub listed : List ℕ → ℕ → Bool
listed [] h = false
listed (g ∷ L) h = eqb g h || listed L h
