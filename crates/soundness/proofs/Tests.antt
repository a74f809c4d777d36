-- Tests joined by and, or and not, as facts: what a joined test that passes tells, and what it takes for one to pass.
-- Assumes nothing.
use Prim.Native.Nat.{ℕ, ◌+◌, ◌<◌}
use mathlib.Core.Path.{◌≡◌, refl, sym, ◌∙◌}
use mathlib.Core.Logic.{◌⊎◌, inl, inr}
use mathlib.Core.Bool.{Bool, true, false, not, ◌&&◌, ◌||◌, false≢true}
use native.Mathlib.Omega.{arith}
use native.Mathlib.Decide.{dec_lt}
use Rattle.model.specs.Class.{is_class, every_class}
use Rattle.laws.proofs.Below.{all_below_intro}
use Rattle.words.proofs.ClassLaws.{bounds_class}

-- no test both passes and fails
pub never : {A : Type 0} (a : Bool) → a ≡ true → a ≡ false → A
never a t f = absurd (false≢true (sym f ∙ t))

-- ---- and

pub and_left : (a b : Bool) → (a && b) ≡ true → a ≡ true
and_left true b e = refl
and_left false b e = e

pub and_right : (a b : Bool) → (a && b) ≡ true → b ≡ true
and_right true b e = e
and_right false b e = absurd (false≢true e)

pub and_intro : (a b : Bool) → a ≡ true → b ≡ true → (a && b) ≡ true
and_intro true b s t = t
and_intro false b s t = s

pub and_fails_left : (a b : Bool) → a ≡ false → (a && b) ≡ false
and_fails_left true b e = absurd (false≢true (sym e))
and_fails_left false b e = refl

pub and_fails_right : (a b : Bool) → b ≡ false → (a && b) ≡ false
and_fails_right true b e = e
and_fails_right false b e = refl

-- ---- or

pub or_cases : (a b : Bool) → (a || b) ≡ true → (a ≡ true) ⊎ (b ≡ true)
or_cases true b e = inl refl
or_cases false b e = inr e

pub or_left : (a b : Bool) → a ≡ true → (a || b) ≡ true
or_left true b e = refl
or_left false b e = absurd (false≢true e)

pub or_right : (a b : Bool) → b ≡ true → (a || b) ≡ true
or_right true b e = refl
or_right false b e = e

-- an or as an implication: the second passes where the first fails
pub or_else : (a b : Bool) → (a || b) ≡ true → a ≡ false → b ≡ true
or_else true b e f = absurd (false≢true (sym f))
or_else false b e f = e

pub else_or : (a b : Bool) → (a ≡ false → b ≡ true) → (a || b) ≡ true
else_or true b h = refl
else_or false b h = h refl

pub or_fails : (a b : Bool) → a ≡ false → b ≡ false → (a || b) ≡ false
or_fails true b s t = s
or_fails false b s t = t

pub or_fails_left : (a b : Bool) → (a || b) ≡ false → a ≡ false
or_fails_left true b e = e
or_fails_left false b e = refl

pub or_fails_right : (a b : Bool) → (a || b) ≡ false → b ≡ false
or_fails_right true b e = absurd (false≢true (sym e))
or_fails_right false b e = e

-- ---- if .. then, which is written: not .. or ..

pub if_then : (a b : Bool) → (not a || b) ≡ true → a ≡ true → b ≡ true
if_then true b e t = e
if_then false b e t = absurd (false≢true t)

pub then_if : (a b : Bool) → (a ≡ true → b ≡ true) → (not a || b) ≡ true
then_if true b h = h refl
then_if false b h = refl

-- ---- two tests

-- they agree where each passes if the other does
pub same_test : (a b : Bool) → (a ≡ true → b ≡ true) → (b ≡ true → a ≡ true) → a ≡ b
same_test true b f g = sym (f refl)
same_test false true f g = g refl
same_test false false f g = refl

-- a test that does not pass fails
pub not_passed : (a : Bool) → (a ≡ true → ⊥) → a ≡ false
not_passed true h = absurd (h refl)
not_passed false h = refl

-- a test passes or fails
pub either : (a : Bool) → (a ≡ true) ⊎ (a ≡ false)
either true = inl refl
either false = inr refl

-- ---- two numbers

pub data Order (a b : ℕ) : Type 0 where
  is_below : a < b → Order a b
  is_same : a ≡ b → Order a b
  is_above : b < a → Order a b

pub order : (a b : ℕ) → Order a b
order a b = go (dec_lt a b) (dec_lt b a)
  where
    go : Dec (a < b) → Dec (b < a) → Order a b
    go (yes l) d = is_below l
    go (no f) (yes l) = is_above l
    go (no f) (no g) = is_same (omega (arith, f, g))

-- ---- the ten classes

-- what passes at every class passes at each of the ten
pub every_class_intro : (p : ℕ → Bool) → ((i : ℕ) → is_class i ≡ true → p i ≡ true) → every_class p ≡ true
every_class_intro p h = all_below_intro 10 (λ c. p (c + 3)) (λ c l. h (c + 3) (bounds_class (c + 3) (omega arith) (omega arith)))
