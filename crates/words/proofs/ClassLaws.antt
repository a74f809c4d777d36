-- Classes: a rule that antt computes at each of the ten holds of every class; the class for n is the smallest that holds n.
-- Assumes nothing.
use Prim.Native.Nat.{ℕ, zero, suc, ◌+◌, ◌-◌, ◌*◌, ◌^◌, ◌≤◌, ◌<◌}
use mathlib.Core.Path.{◌≡◌, refl, sym, ap}
use mathlib.Core.Logic.{◌↔◌, ◌⊎◌, inl, inr, ⊎_elim}
use mathlib.Core.Bool.{Bool, true, false, and-eq-true_iff}
use mathlib.Core.List.{List, []}
use native.Mathlib.Nat.{eq-or-lt_of_le, le_of_suc-le-suc, lt_of_le_of_lt, lt_of_not-le, sub-add_cancel, two-pow-succ}
use native.Mathlib.Omega.{arith}
use lib.Dec.{eqb, leb}
use lib.ListN.{get_or}
use lib.Pow.{pow-add, pow_mono}
use borrow.Author.Tests.{eqb-true, leb-true, leb-false, le-leb, lt-leb}
use Rattle.model.specs.Below.{all_below}
use Rattle.model.specs.Class.{is_class, every_class, blocks, block_words, level_words, holds, class_of}
use Rattle.laws.proofs.Below.{all_below_at, First, first_is, first_unique}

pub class_bounds : (i : ℕ) → is_class i ≡ true → (3 ≤ i) × (i ≤ 12)
class_bounds i h = let both = (and-eq-true_iff (leb 3 i) (leb i 12)).0 h in (leb-true 3 i both.0, leb-true i 12 both.1)

pub bounds_class : (i : ℕ) → 3 ≤ i → i ≤ 12 → is_class i ≡ true
bounds_class i l u = (and-eq-true_iff (leb 3 i) (leb i 12)).1 (le-leb 3 i l, le-leb i 12 u)

-- a test that each of the ten classes passes is passed by any class
pub class_rule : (p : ℕ → Bool) → every_class p ≡ true → (i : ℕ) → is_class i ≡ true → p i ≡ true
class_rule p t i h =
    let bounds = class_bounds i h in
    let low = bounds.0 in
    rw sub-add_cancel at (all_below_at 10 (λ c. p (c + 3)) t (i - 3) (omega arith))

-- the blocks of a segment fill its area, there are at most as many as a handle can number, and each has room for a header and a word
pub blocks_fill : (i : ℕ) → is_class i ≡ true → blocks i * block_words i ≡ 4096
unfolding all_below
blocks_fill i h = eqb-true _ _ (class_rule (λ i. eqb (blocks i * block_words i) 4096) refl i h)

pub blocks_most : (i : ℕ) → is_class i ≡ true → blocks i ≤ 2048
unfolding all_below
blocks_most i h = leb-true _ _ (class_rule (λ i. leb (blocks i) 2048) refl i h)

pub block_least : (i : ℕ) → is_class i ≡ true → 2 ≤ block_words i
unfolding all_below
block_least i h = leb-true _ _ (class_rule (λ i. leb 2 (block_words i)) refl i h)

-- rows of numbers, a row for each class from 3 on, that are the class's words at each level
abbrev pub rows_right : List (List ℕ) → Bool
rows_right rows = every_class (λ i. all_below 3 (λ l. eqb (get_or (get_or rows (i - 3) []) l 0) (level_words i l)))

pub row_rule : (rows : List (List ℕ)) → rows_right rows ≡ true → (i l : ℕ) → is_class i ≡ true → l < 3 → get_or (get_or rows (i - 3) []) l 0 ≡ level_words i l
row_rule rows t i l h u =
    let right : ℕ → ℕ → Bool = λ i l. eqb (get_or (get_or rows (i - 3) []) l 0) (level_words i l) in
    eqb-true _ _ (all_below_at 3 (right i) (class_rule (λ i. all_below 3 (right i)) t i h) l u)

-- ---- the class for n

-- whether a block of a class holds n, as an order
pub holds_room : (n i : ℕ) → holds n i ≡ true → 4 * (n + 1) ≤ 2 ^ i
holds_room n i = leb-true (4 * (n + 1)) (2 ^ i)

pub room_holds : (n i : ℕ) → 4 * (n + 1) ≤ 2 ^ i → holds n i ≡ true
room_holds n i = le-leb (4 * (n + 1)) (2 ^ i)

pub lacks_room : (n i : ℕ) → holds n i ≡ false → 2 ^ i < 4 * (n + 1)
lacks_room n i = leb-false (4 * (n + 1)) (2 ^ i)

pub room_lacks : (n i : ℕ) → 2 ^ i < 4 * (n + 1) → holds n i ≡ false
room_lacks n i = lt-leb (4 * (n + 1)) (2 ^ i)

below_pow : (k : ℕ) → k < 2 ^ k
below_pow zero = omega arith
below_pow (suc k) = omega (arith, below_pow k, two-pow-succ k)

quadruple : {i : ℕ} (k : ℕ) → i ≡ k + 2 → 2 ^ i ≡ 4 * 2 ^ k
quadruple k e = omega (arith, ap (λ (x : ℕ). 2 ^ x) e, pow-add 2 k 2)

-- a class of at least 3 that holds n is the class for n, if it is 3 or the class below it does not hold n
pub class_is : (n i : ℕ) → 3 ≤ i → holds n i ≡ true → (i ≡ 3) ⊎ (holds n (i - 1) ≡ false) → class_of n ≡ i
unfolding class_of
class_is n i low h lowest = sym (first_unique (record {
  from = low;
  within = ⊎_elim (λ e. omega arith) within lowest;
  before = λ j l u. ⊎_elim (λ e. absurd (omega arith)) (before j (omega arith)) lowest;
  found = λ u. h;
}))
  where
    within : holds n (i - 1) ≡ false → i ≤ 3 + (n + 1)
    within f = omega (arith, quadruple {i = i - 1} (i - 3) (omega arith), below_pow (i - 3), lacks_room n (i - 1) f)

    before : (j : ℕ) → j ≤ i - 1 → holds n (i - 1) ≡ false → holds n j ≡ false
    before j l f = room_lacks n j (lt_of_le_of_lt (pow_mono l) (lacks_room n (i - 1) f))

-- so of an n that is not 0 the class is 2 more than its length m in bits
pub class_length : (n m : ℕ) → 0 < n → n < 2 ^ m → 2 ^ m ≤ 2 * n + 1 → class_of n ≡ m + 2
class_length n zero p h l = absurd (omega arith)
class_length n (suc m) p h l =
    let this : 2 ^ (suc m + 2) ≡ 4 * 2 ^ suc m = quadruple (suc m) refl in
    let lower : 2 ^ (suc m + 2 - 1) ≡ 4 * 2 ^ m = quadruple m (omega arith) in
    class_is n (suc m + 2) (omega arith) (room_holds n (suc m + 2) (omega arith))
    (inr (room_lacks n (suc m + 2 - 1) (omega (arith, two-pow-succ m))))

-- the class for n is the smallest from 3 on that holds n
pub class_low : (n : ℕ) → 3 ≤ class_of n
unfolding class_of
class_low n = (first_is 3 (n + 1) (holds n)).from

pub class_before : (n j : ℕ) → 3 ≤ j → j < class_of n → holds n j ≡ false
unfolding class_of
class_before n = (first_is 3 (n + 1) (holds n)).before

pub class_holds : (n : ℕ) → holds n (class_of n) ≡ true
unfolding class_of
class_holds n = go (first_is 3 (n + 1) (holds n))
  where
    last : holds n (n + 3) ≡ false → ⊥
    last f = omega (arith, quadruple {i = n + 3} (n + 1) (omega arith), below_pow (n + 1), lacks_room n (n + 3) f)

    go : {i : ℕ} → First 3 (n + 1) (holds n) i → holds n i ≡ true
    go f = elim (eq-or-lt_of_le f.within) [
      | inl e ↦ absurd (last (f.before (n + 3) (omega arith) (omega arith)))
      | inr l ↦ f.found l
    ]

-- blocks of class 12 are the largest, and hold 1,023 words
pub class_high : (n : ℕ) → (class_of n ≤ 12) ↔ (n ≤ 1023)
class_high n = (
  λ h. omega (arith, pow_mono h, holds_room n (class_of n) (class_holds n)),
  λ h. le_of_suc-le-suc (lt_of_not-le (λ (past : 13 ≤ class_of n). omega (arith, lacks_room n 12 (class_before n 12 (omega arith) past)))),
)

pub class_small : (n : ℕ) → n ≤ 1023 → is_class (class_of n) ≡ true
class_small n h = bounds_class (class_of n) (class_low n) ((class_high n).1 h)

-- a block of its class has room for a header and n words
pub class_room : (n i : ℕ) → class_of n ≡ i → n + 1 ≤ block_words i
class_room n i e = omega (arith, holds_room n (class_of n) (class_holds n), ap (λ (x : ℕ). 2 ^ x) e)
