-- Distinct handles that all pass a test, each on the number one less, below a bound: they are at most as many as the numbers that pass.
-- Assumes nothing.
use Prim.Native.Nat.{ℕ, zero, suc, ◌+◌, ◌-◌, ◌<◌, ◌≤◌}
use mathlib.Core.Path.{◌≡◌, refl, sym, ◌∙◌}
use mathlib.Core.Logic.{◌⊎◌, inl, inr, ◌≢◌}
use mathlib.Core.Bool.{Bool, true, false, cond, true≢false}
use mathlib.Core.List.{List}
use native.Mathlib.Omega.{arith}
use lib.ListN.{length, get_or}
use lib.Dec.{eqb}
use borrow.Author.Tests.{eqb-true, eqb-false}
use Rattle.model.specs.Below.{count_below, one_if}
use Rattle.ways.proofs.Listed.{Distinct}

-- f 0, .., f (n - 1) are distinct numbers below B that pass p
record Fits (B : ℕ) (p : ℕ → Bool) (n : ℕ) (f : ℕ → ℕ) : Type 0 where
  below : (k : ℕ) → k < n → f k < B
  passes : (k : ℕ) → k < n → p (f k) ≡ true
  apart : (j k : ℕ) → j < k → k < n → f j ≢ f k

-- f, with y in the place of B
instead : ℕ → ℕ → (ℕ → ℕ) → ℕ → ℕ
instead B y f k = cond (eqb (f k) B) y (f k)

instead_or : (B y : ℕ) (f : ℕ → ℕ) (k : ℕ) → ((f k ≡ B) × (instead B y f k ≡ y)) ⊎ ((f k ≢ B) × (instead B y f k ≡ f k))
unfolding instead
instead_or B y f k = go (eqb (f k) B) refl
  where
    go : (b : Bool) → eqb (f k) B ≡ b → ((f k ≡ B) × (cond (eqb (f k) B) y (f k) ≡ y)) ⊎ ((f k ≢ B) × (cond (eqb (f k) B) y (f k) ≡ f k))
    go true e = inl (eqb-true (f k) B e, rw e)
    go false e = inr (eqb-false (f k) B e, rw e)

-- where B does not pass, it is none of them
none_there : (B : ℕ) (p : ℕ → Bool) (n : ℕ) (f : ℕ → ℕ) → p B ≡ false → Fits (suc B) p n f → Fits B p n f
none_there B p n f e c = record {
  below = λ k l. let other : f k ≢ B = λ q. true≢false (sym (c.passes k l) ∙ rw q e) in omega (arith, c.below k l);
  passes = c.passes;
  apart = c.apart;
}

-- without the last, which takes the place of B where B is one of them
one_there : (B : ℕ) (p : ℕ → Bool) (n : ℕ) (f : ℕ → ℕ) → Fits (suc B) p (suc n) f → Fits B p n (instead B (f n) f)
one_there B p n f c = record {
  below = λ k l. low k l (instead_or B (f n) f k);
  passes = λ k l. pass k l (instead_or B (f n) f k);
  apart = λ j k l m. two j k l m (instead_or B (f n) f j) (instead_or B (f n) f k);
}
  where
    Or : ℕ → Type 0
    Or k = ((f k ≡ B) × (instead B (f n) f k ≡ f n)) ⊎ ((f k ≢ B) × (instead B (f n) f k ≡ f k))

    low : (k : ℕ) → k < n → Or k → instead B (f n) f k < B
    low k l (inl h) = omega (arith, c.below n (omega arith), c.apart k n l (omega arith))
    low k l (inr h) = omega (arith, c.below k (omega arith))

    pass : (k : ℕ) → k < n → Or k → p (instead B (f n) f k) ≡ true
    pass k l (inl h) = rw h.1 (c.passes n (omega arith))
    pass k l (inr h) = rw h.1 (c.passes k (omega arith))

    two : (j k : ℕ) → j < k → k < n → Or j → Or k → instead B (f n) f j ≢ instead B (f n) f k
    two j k l m (inl g) (inl h) = omega (arith, c.apart j k l (omega arith))
    two j k l m (inl g) (inr h) = omega (arith, c.apart k n m (omega arith))
    two j k l m (inr g) (inl h) = omega (arith, c.apart j n (omega arith) (omega arith))
    two j k l m (inr g) (inr h) = omega (arith, c.apart j k l (omega arith))

pigeonhole : (B : ℕ) (p : ℕ → Bool) (n : ℕ) (f : ℕ → ℕ) → Fits B p n f → n ≤ count_below B p
unfolding count_below
pigeonhole zero p zero f c = omega arith
pigeonhole zero p (suc n) f c = omega (arith, c.below 0 (omega arith))
pigeonhole (suc B) p zero f c = omega arith
pigeonhole (suc B) p (suc n) f c = go (p B) refl (λ e. pigeonhole B p (suc n) f (none_there B p (suc n) f e c)) (pigeonhole B p n (instead B (f n) f) (one_there B p n f c))
  where
    go : (b : Bool) → p B ≡ b → (p B ≡ false → suc n ≤ count_below B p) → n ≤ count_below B p → suc n ≤ count_below B p + one_if (p B)
    go true e _ r = rw e (omega arith)
    go false e r _ = rw e (omega (arith, r e))

-- a list of distinct handles, each of them x + 1 for an x below B that passes p
pub distinct_count : (L : List ℕ) (B : ℕ) (p : ℕ → Bool) → Distinct L →
    ((k : ℕ) → k < length L → (x : ℕ) × (x < B) × (get_or L k 0 ≡ x + 1) × (p x ≡ true)) → length L ≤ count_below B p
distinct_count L B p apart at = pigeonhole B p (length L) (λ k. get_or L k 0 - 1) (record {
  below = λ k l. let x = at k l in omega (arith, x);
  passes = λ k l. let x = at k l in let e : get_or L k 0 - 1 ≡ x.0 = omega (arith, x) in rw e x.3;
  apart = λ j k l m. omega (arith, at j (omega arith), at k m, apart j k l m);
})
