-- The order of demand 3 on ways. `Sooner` is the order by recursion on both ways; it is the plain order `Earlier` (fewest steps first, then the
-- positions where they first differ). The order is strict and total, and a step more keeps it.
-- Assumes nothing.
use Prim.Native.Nat.{ℕ, ◌<◌}
use mathlib.Core.Path.{◌≡◌, refl, sym, ◌∙◌, ap, subst}
use mathlib.Core.Logic.{◌⊎◌, inl, inr}
use mathlib.Core.List.{List, [], ◌∷◌, ◌++◌}
use native.Mathlib.Omega.{arith}
use native.Mathlib.Decide.{dec_lt}
use Rattle.model.specs.Ways.{Way, root, step, positions, Smaller, Earlier}

-- two roots by position; a root before any longer way; of two longer ways the one whose shorter part comes first, or with one shorter part
-- the one with the smaller field
abbrev pub Sooner : Way → Way → Type 0
Sooner (root p) (root q) = p < q
Sooner (root p) (step w g) = Unit {0}
Sooner (step v f) (root q) = ⊥
Sooner (step v f) (step w g) = Sooner v w ⊎ ((v ≡ w) × (f < g))

-- of two things one comes before the other, or they are one thing
abbrev pub Compared : {A : Type 0} → (A → A → Type 0) → A → A → Type 0
Compared R a b = R a b ⊎ ((a ≡ b) ⊎ R b a)

pub compared : (m n : ℕ) → Compared ◌<◌ m n
compared m n = go (dec_lt m n) (dec_lt n m)
  where
    go : Dec (m < n) → Dec (n < m) → Compared ◌<◌ m n
    go (yes l) d = inl l
    go (no l) (yes g) = inr (inr g)
    go (no l) (no g) = inr (inl (omega arith))

sooner_or : (v w : Way) → Compared Sooner v w
sooner_or (root p) (root q) = go (compared p q)
  where
    go : Compared ◌<◌ p q → Compared Sooner (root p) (root q)
    go (inl l) = inl l
    go (inr (inl e)) = inr (inl (ap root e))
    go (inr (inr g)) = inr (inr g)
sooner_or (root p) (step w g) = inl tt
sooner_or (step v f) (root q) = inr (inr tt)
sooner_or (step v f) (step w g) = go (sooner_or v w) (compared f g)
  where
    go : Compared Sooner v w → Compared ◌<◌ f g → Compared Sooner (step v f) (step w g)
    go (inl l) c = inl (inl l)
    go (inr (inl e)) (inl l) = inl (inr (e, l))
    go (inr (inl e)) (inr (inl k)) = inr (inl (cc))
    go (inr (inl e)) (inr (inr l)) = inr (inr (inr (sym e, l)))
    go (inr (inr l)) c = inr (inr (inl l))

-- the row of positions: what the first difference decides
smaller_append : (xs ys s t : List ℕ) → Smaller xs ys → Smaller (xs ++ s) (ys ++ t)
smaller_append [] ys s t h = absurd h
smaller_append (x ∷ xs) [] s t h = absurd h
smaller_append (x ∷ xs) (y ∷ ys) s t (inl l) = inl l
smaller_append (x ∷ xs) (y ∷ ys) s t (inr h) = inr (h.0, smaller_append xs ys s t h.1)

smaller_last : (xs : List ℕ) (f g : ℕ) → f < g → Smaller (xs ++ (f ∷ [])) (xs ++ (g ∷ []))
smaller_last [] f g l = inl l
smaller_last (x ∷ xs) f g l = inr (refl, smaller_last xs f g l)

smaller_asym : (xs ys : List ℕ) → Smaller xs ys → Smaller ys xs → ⊥
smaller_asym [] ys h k = h
smaller_asym (x ∷ xs) [] h k = h
smaller_asym (x ∷ xs) (y ∷ ys) (inl l) (inl g) = omega arith
smaller_asym (x ∷ xs) (y ∷ ys) (inl l) (inr k) = omega arith
smaller_asym (x ∷ xs) (y ∷ ys) (inr h) (inl g) = omega arith
smaller_asym (x ∷ xs) (y ∷ ys) (inr h) (inr k) = smaller_asym xs ys h.1 k.1

-- the plain order is strict
pub earlier_asym : (v w : Way) → Earlier v w → Earlier w v → ⊥
earlier_asym v w (inl l) (inl g) = omega arith
earlier_asym v w (inl l) (inr k) = omega arith
earlier_asym v w (inr h) (inl g) = omega arith
earlier_asym v w (inr h) (inr k) = smaller_asym (positions v) (positions w) h.1 k.1

pub earlier_irrefl : (w : Way) → Earlier w w → ⊥
earlier_irrefl w h = earlier_asym w w h h

-- a step more keeps the order, and of two steps from one way the smaller field is earlier
pub earlier_step : (v w : Way) (f g : ℕ) → Earlier v w → Earlier (step v f) (step w g)
earlier_step v w f g (inl l) = inl (omega arith)
earlier_step v w f g (inr h) = inr (omega arith, smaller_append (positions v) (positions w) (f ∷ []) (g ∷ []) h.1)

pub earlier_field : (w : Way) (f g : ℕ) → f < g → Earlier (step w f) (step w g)
earlier_field w f g l = inr (refl, smaller_last (positions w) f g l)

-- the recursive order is the plain one
pub sooner_earlier : (v w : Way) → Sooner v w → Earlier v w
sooner_earlier (root p) (root q) l = inr (refl, inl l)
sooner_earlier (root p) (step w g) l = inl (omega arith)
sooner_earlier (step v f) (root q) l = absurd l
sooner_earlier (step v f) (step w g) (inl l) = earlier_step v w f g (sooner_earlier v w l)
sooner_earlier (step v f) (step w g) (inr h) = subst (λ (u : Way). Earlier (step v f) (step u g)) h.0 (earlier_field v f g h.1)

pub earlier_sooner : (v w : Way) → Earlier v w → Sooner v w
earlier_sooner v w h = go (sooner_or v w)
  where
    go : Compared Sooner v w → Sooner v w
    go (inl l) = l
    go (inr (inl e)) = absurd (earlier_irrefl w (subst (λ (u : Way). Earlier u w) e h))
    go (inr (inr l)) = absurd (earlier_asym v w h (sooner_earlier w v l))

-- the order is total
pub earlier_or : (v w : Way) → Compared Earlier v w
earlier_or v w = go (sooner_or v w)
  where
    go : Compared Sooner v w → Compared Earlier v w
    go (inl l) = inl (sooner_earlier v w l)
    go (inr (inl e)) = inr (inl e)
    go (inr (inr l)) = inr (inr (sooner_earlier w v l))

sooner_trans : (u v w : Way) → Sooner u v → Sooner v w → Sooner u w
sooner_trans (root p) (root q) (root r) h k = omega arith
sooner_trans (root p) (root q) (step w g) h k = tt
sooner_trans (root p) (step v f) (root r) h k = absurd k
sooner_trans (root p) (step v f) (step w g) h k = tt
sooner_trans (step u e) (root q) w h k = absurd h
sooner_trans (step u e) (step v f) (root r) h k = absurd k
sooner_trans (step u e) (step v f) (step w g) (inl h) (inl k) = inl (sooner_trans u v w h k)
sooner_trans (step u e) (step v f) (step w g) (inl h) (inr k) = inl (subst (λ (x : Way). Sooner u x) k.0 h)
sooner_trans (step u e) (step v f) (step w g) (inr h) (inl k) = inl (subst (λ (x : Way). Sooner x w) (sym h.0) k)
sooner_trans (step u e) (step v f) (step w g) (inr h) (inr k) = inr (h.0 ∙ k.0, omega arith)

pub earlier_trans : (u v w : Way) → Earlier u v → Earlier v w → Earlier u w
earlier_trans u v w h k = sooner_earlier u w (sooner_trans u v w (earlier_sooner u v h) (earlier_sooner v w k))

-- a root is earlier than any longer way and than any root behind it, and a way earlier than each that goes on from it
pub earlier_roots : (p q : ℕ) → p < q → Earlier (root p) (root q)
earlier_roots p q l = inr (refl, inl l)

pub earlier_root : (p : ℕ) (w : Way) (f : ℕ) → Earlier (root p) (step w f)
earlier_root p w f = inl (omega arith)

pub earlier_shorter : (w : Way) (f : ℕ) → Earlier w (step w f)
earlier_shorter w f = inl (omega arith)
