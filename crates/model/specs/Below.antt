-- Numbers below a bound: whether all pass a test, how many do, a sum over them, a list over them, and the first that passes.
-- Assumes nothing.
use Rattle.std.specs.Prelude.{ℕ, zero, suc, ◌+◌, Bool, true, false, cond, ◌&&◌, List, [], ◌∷◌, ◌++◌}

-- 1 for true, 0 for false
abbrev pub one_if : Bool → ℕ
one_if true = 1
one_if false = 0

-- every number below n passes p
unfoldable pub all_below : ℕ → (ℕ → Bool) → Bool
all_below zero p = true
all_below (suc n) p = all_below n p && p n

-- how many numbers below n pass p
unfoldable pub count_below : ℕ → (ℕ → Bool) → ℕ
count_below zero p = 0
count_below (suc n) p = count_below n p + one_if (p n)

-- f 0 + f 1 + .. + f (n - 1)
unfoldable pub sum_below : ℕ → (ℕ → ℕ) → ℕ
sum_below zero f = 0
sum_below (suc n) f = sum_below n f + f n

-- f 0, f 1, .., f (n - 1), one after the other
unfoldable pub lists_below : ℕ → (ℕ → List ℕ) → List ℕ
lists_below zero f = []
lists_below (suc n) f = lists_below n f ++ f n

-- the words f 0, f 1, .., f (n - 1)
abbrev pub words_below : ℕ → (ℕ → ℕ) → List ℕ
words_below n f = lists_below n (λ k. f k ∷ [])

-- of the n numbers from a on the first that passes p, and a + n where none does
unfoldable pub first_from : ℕ → ℕ → (ℕ → Bool) → ℕ
first_from a zero p = a
first_from a (suc n) p = let later = first_from (suc a) n p in cond (p a) a later

-- the first number below n that passes p, and n where none does
abbrev pub first_below : ℕ → (ℕ → Bool) → ℕ
first_below n p = first_from 0 n p
