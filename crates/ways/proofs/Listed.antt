-- A list of handles: the test `listed` and standing in the list are one; and what stands in a list with one more.
-- Assumes nothing.
use Prim.Native.Nat.{ℕ, zero, suc, ◌<◌}
use mathlib.Core.Path.{◌≡◌, refl, sym, ◌∙◌}
use mathlib.Core.Logic.{◌⊎◌, inl, inr, ◌≢◌}
use mathlib.Core.Bool.{Bool, true, false, ◌||◌, false≢true}
use mathlib.Core.List.{List, [], ◌∷◌, ◌++◌}
use native.Mathlib.Omega.{arith}
use native.Mathlib.Decide.{dec_lt}
use lib.ListN.{length, get_or, length-append, get_or-append}
use lib.Seq.{get_or_at}
use lib.Dec.{eqb}
use borrow.Author.Tests.{eqb-true, eq-eqb}
use Rattle.model.specs.Ways.{In, listed}

-- no handle stands there twice
abbrev pub Distinct : List ℕ → Type 0
Distinct L = (j k : ℕ) → j < k → k < length L → get_or L j 0 ≢ get_or L k 0

-- the test

pub listed_in : (L : List ℕ) (h : ℕ) → listed L h ≡ true → In h L
unfolding listed
listed_in [] h e = absurd (false≢true e)
listed_in (g ∷ L) h e = go (eqb g h) refl e (listed_in L h)
  where
    go : (b : Bool) → eqb g h ≡ b → (b || listed L h) ≡ true → (listed L h ≡ true → In h L) → In h (g ∷ L)
    go true q _ ih = (0, omega arith, eqb-true g h q)
    go false q r ih = let i = ih r in (suc i.0, omega arith, i.2)

or_true : (b c : Bool) → c ≡ true → (b || c) ≡ true
or_true true c e = refl
or_true false c e = e

at_listed : (L : List ℕ) (h k : ℕ) → k < length L → get_or L k 0 ≡ h → listed L h ≡ true
unfolding listed
at_listed [] h k l e = absurd (omega arith)
at_listed (g ∷ L) h zero l e = rw (eq-eqb g h e)
at_listed (g ∷ L) h (suc k) l e = or_true (eqb g h) (listed L h) (at_listed L h k (omega arith) e)

pub in_listed : (L : List ℕ) (h : ℕ) → In h L → listed L h ≡ true
in_listed L h i = at_listed L h i.0 i.1 i.2

-- a place of a list with one more is one of before or the last

abbrev pub LastOr : List ℕ → ℕ → ℕ → Type 0
LastOr L g k = ((k < length L) × (get_or (L ++ (g ∷ [])) k 0 ≡ get_or L k 0)) ⊎ ((k ≡ length L) × (get_or (L ++ (g ∷ [])) k 0 ≡ g))

pub last_or : (L : List ℕ) (g k : ℕ) → k < length (L ++ (g ∷ [])) → LastOr L g k
last_or L g k l = go (dec_lt k (length L))
  where
    go : Dec (k < length L) → LastOr L g k
    go (yes m) = inl (m, get_or-append L (g ∷ []) 0 k m)
    go (no m) = let e : length L ≡ k = omega (arith, length-append L (g ∷ [])) in inr (sym e, get_or_at L g [] 0 k e)

pub in_last : (L : List ℕ) (g : ℕ) → In g (L ++ (g ∷ []))
in_last L g = (length L, omega (arith, length-append L (g ∷ [])), get_or_at L g [] 0 (length L) refl)

pub in_left : (L R : List ℕ) (h : ℕ) → In h L → In h (L ++ R)
in_left L R h i = (i.0, omega (arith, length-append L R), get_or-append L R 0 i.0 i.1 ∙ i.2)

pub in_or : (L : List ℕ) (g h : ℕ) → In h (L ++ (g ∷ [])) → In h L ⊎ (h ≡ g)
in_or L g h i = go (last_or L g i.0 i.1)
  where
    go : LastOr L g i.0 → In h L ⊎ (h ≡ g)
    go (inl a) = inl (i.0, a.0, sym a.1 ∙ i.2)
    go (inr b) = inr (sym i.2 ∙ b.1)
