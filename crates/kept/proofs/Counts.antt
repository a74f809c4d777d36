-- Of two tests the one that passes less counts less. Assumes nothing.
use Prim.Native.Nat.{ℕ, zero, suc, ◌+◌, ◌≤◌, ◌<◌}
use native.Mathlib.Omega.{arith}
use native.Mathlib.Decide.{ℕ_discrete}
use mathlib.Core.Path.{◌≡◌, refl, sym, ap, ◌∙◌}
use mathlib.Core.Bool.{Bool, true, false, true≢false}
use Rattle.model.specs.Below.{count_below, one_if}

one_if_le : (a b : Bool) → (a ≡ true → b ≡ true) → one_if a ≤ one_if b
one_if_le true true h = omega arith
one_if_le true false h = absurd (true≢false (sym (h refl)))
one_if_le false b h = zero≤ (one_if b)
  where
    zero≤ : (n : ℕ) → 0 ≤ n
    zero≤ n = omega arith

module _ (p q : ℕ → Bool) where
  pub count_below_imp : (n : ℕ) → ((k : ℕ) → k < n → p k ≡ true → q k ≡ true) → count_below n p ≤ count_below n q
  unfolding count_below
  count_below_imp zero h = omega arith
  count_below_imp (suc n) h =
      omega (arith, count_below_imp n (λ k l. h k (omega arith)), one_if_le (p n) (q n) (h n (omega arith)))

  pub count_below_less : (n j : ℕ) → j < n → p j ≡ false → q j ≡ true → ((k : ℕ) → k < n → p k ≡ true → q k ≡ true) → count_below n p < count_below n q
  unfolding count_below
  count_below_less zero j l fails passes h = absurd (omega arith)
  count_below_less (suc n) j l fails passes h = go (ℕ_discrete j n) (λ l. count_below_less n j l fails passes (λ k u. h k (omega arith)))
    where
      go : Dec (j ≡ n) → (j < n → count_below n p < count_below n q) → count_below n p + one_if (p n) < count_below n q + one_if (q n)
      go (yes e) ih =
          let at_p : one_if (p n) ≡ 0 = ap (λ (k : ℕ). one_if (p k)) (sym e) ∙ ap one_if fails in
          let at_q : one_if (q n) ≡ 1 = ap (λ (k : ℕ). one_if (q k)) (sym e) ∙ ap one_if passes in
          omega (arith, count_below_imp n (λ k u. h k (omega arith)))
      go (no e) ih = omega (arith, ih (omega arith), one_if_le (p n) (q n) (h n (omega arith)))
