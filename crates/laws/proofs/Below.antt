-- Laws of tests, counts, sums and lists over the numbers below a bound, and of the first number that passes a test.
-- Assumes nothing.
use Prim.Native.Nat.{ℕ, zero, suc, ◌+◌, ◌-◌, ◌*◌, ◌≤◌, ◌<◌}
use mathlib.Core.Path.{◌≡◌, refl, sym, ap, ap₂, ◌∙◌, subst}
use mathlib.Core.Logic.{◌⊎◌, inl, inr, ◌≢◌}
use mathlib.Core.List.{List, [], ◌∷◌, ◌++◌}
use mathlib.Core.Bool.{Bool, true, false, not, cond, ◌||◌, ◌&&◌, and-eq-true_iff, and-true, and_assoc, false≢true}
use native.Mathlib.Nat.{eq-or-lt_of_le, le_of_suc-le-suc, le_refl, le_antisymm, lt_of_not-le, add-suc, add-zero, add-sub_of_le, add_assoc, zero-mul, suc-mul, mul-zero, mul-suc, one-mul, mul-le-mul_left, le_of_eq}
use native.Mathlib.Decide.{dec_le}
use native.Mathlib.Omega.{arith}
use native.Mathlib.Numerals.{add-one}
use lib.Dec.{eqb}
use lib.ListN.{length, length-append}
use Rattle.laws.proofs.Splice.{part_append, word_part}
use lib.Seq.{take_all, drop_at}
use borrow.Author.Tests.{eq-eqb, ne_eqb, not-true, not-false}
use Rattle.model.specs.Word.{word, part}
use Rattle.model.specs.Below.{one_if, count_below, lists_below, words_below, all_below, sum_below, first_from}

-- what holds of n and below n holds below n + 1
pub up_to : (P : ℕ → Type 0) {n : ℕ} → P n → ((k : ℕ) → k < n → P k) → (k : ℕ) → k < suc n → P k
up_to P {n} last rest k h = go (eq-or-lt_of_le (le_of_suc-le-suc h))
  where
    go : (k ≡ n) ⊎ (k < n) → P k
    go (inl e) = subst P (sym e) last
    go (inr l) = rest k l

-- ---- all_below

pub all_below_step : (n : ℕ) (p : ℕ → Bool) → all_below (n + 1) p ≡ (all_below n p && p n)
unfolding all_below
all_below_step n p = rw add-one

pub all_below_at : (n : ℕ) (p : ℕ → Bool) → all_below n p ≡ true → (k : ℕ) → k < n → p k ≡ true
unfolding all_below
all_below_at zero p t k h = absurd (omega arith)
all_below_at (suc n) p t k h =
    let both = (and-eq-true_iff (all_below n p) (p n)).0 t in
    up_to (λ (k : ℕ). p k ≡ true) both.1 (all_below_at n p both.0) k h

pub all_below_intro : (n : ℕ) (p : ℕ → Bool) → ((k : ℕ) → k < n → p k ≡ true) → all_below n p ≡ true
unfolding all_below
all_below_intro zero p h = refl
all_below_intro (suc n) p h = (and-eq-true_iff (all_below n p) (p n)).1 (all_below_intro n p (λ k l. h k (omega arith)), h n (le_refl (suc n)))

pub all_below_ext : (n : ℕ) (p q : ℕ → Bool) → ((k : ℕ) → k < n → p k ≡ q k) → all_below n p ≡ all_below n q
unfolding all_below
all_below_ext zero p q h = refl
all_below_ext (suc n) p q h = ap₂ ◌&&◌ (all_below_ext n p q (λ k l. h k (omega arith))) (h n (le_refl (suc n)))

pub all_below_fails : (n : ℕ) (p : ℕ → Bool) (k : ℕ) → k < n → p k ≡ false → all_below n p ≡ false
all_below_fails n p k h e = go (all_below n p) refl
  where
    go : (t : Bool) → all_below n p ≡ t → t ≡ false
    go true t = sym (all_below_at n p t k h) ∙ e
    go false t = refl

-- a test that fails fails somewhere
pub all_below_finds : (n : ℕ) (p : ℕ → Bool) → all_below n p ≡ false → (k : ℕ) × (k < n) × (p k ≡ false)
unfolding all_below
all_below_finds zero p e = absurd (false≢true (sym e))
all_below_finds (suc n) p e = go (all_below n p) refl (all_below_finds n p)
  where
    go : (t : Bool) → all_below n p ≡ t → (t ≡ false → (k : ℕ) × (k < n) × (p k ≡ false)) → (k : ℕ) × (k < suc n) × (p k ≡ false)
    go true t rest = (n, le_refl (suc n), ap (λ (b : Bool). b && p n) (sym t) ∙ e)
    go false t rest = let found = rest refl in (found.0, omega arith, found.2)

-- the first a numbers, and those after them
pub all_below_add : (a n : ℕ) (p : ℕ → Bool) → all_below (a + n) p ≡ (all_below a p && all_below n (λ k. p (a + k)))
unfolding all_below
all_below_add a zero p = rw (add-zero, and-true)
all_below_add a (suc n) p = rw (add-suc, ← and_assoc) (ap (λ (t : Bool). t && p (a + n)) (all_below_add a n p))

pub all_below_split : (a n : ℕ) (p : ℕ → Bool) → a ≤ n → all_below n p ≡ (all_below a p && all_below (n - a) (λ k. p (a + k)))
all_below_split a n p h = rw (← all_below_add a (n - a) p, add-sub_of_le)

-- ---- first_from

-- r is the first of the n numbers from a on that passes p, or a + n where none does
pub record First (a n : ℕ) (p : ℕ → Bool) (r : ℕ) : Type 0 where
  pub from : a ≤ r
  pub within : r ≤ a + n
  pub before : (k : ℕ) → a ≤ k → k < r → p k ≡ false
  pub found : r < a + n → p r ≡ true

pub first_is : (a n : ℕ) (p : ℕ → Bool) → First a n p (first_from a n p)
unfolding first_from
first_is a zero p = record { from = le_refl a; within = omega arith; before = λ k l h. absurd (omega arith); found = λ h. absurd (omega arith) }
first_is a (suc n) p = go (p a) refl (first_from (suc a) n p) (first_is (suc a) n p)
  where
    go : (t : Bool) → p a ≡ t → (r : ℕ) → First (suc a) n p r → First a (suc n) p (cond t a r)
    go true e r later = record { from = le_refl a; within = omega arith; before = λ k l h. absurd (omega arith); found = λ h. e }
    go false e r later = record {
      from = omega arith;
      within = omega arith;
      before = λ k l h. elim (eq-or-lt_of_le l) [ inl same ↦ ap p (sym same) ∙ e | inr past ↦ later.before k past h ];
      found = λ h. later.found (omega arith);
    }

-- there is one such number
first_le : {a n : ℕ} {p : ℕ → Bool} {r s : ℕ} → First a n p r → First a n p s → r ≤ s
first_le {a} {n} {p} {r} {s} x y = go (dec_le r s)
  where
    go : Dec (r ≤ s) → r ≤ s
    go (yes l) = l
    go (no f) = absurd (false≢true (sym (x.before s y.from (lt_of_not-le f)) ∙ y.found (omega (arith, lt_of_not-le f))))

pub first_unique : {a n : ℕ} {p : ℕ → Bool} {r : ℕ} → First a n p r → r ≡ first_from a n p
first_unique {a} {n} {p} x = le_antisymm (first_le x (first_is a n p)) (first_le (first_is a n p) x)

pub first_ext : (a n : ℕ) (p q : ℕ → Bool) → ((k : ℕ) → a ≤ k → k < a + n → p k ≡ q k) → first_from a n p ≡ first_from a n q
unfolding first_from
first_ext a zero p q h = refl
first_ext a (suc n) p q h =
    ap₂ (λ (t : Bool) (r : ℕ). cond t a r) (h a (le_refl a) (omega arith)) (first_ext (suc a) n p q (λ k l u. h k (omega arith) (omega arith)))

-- to count from another place
pub first_shift : (b a n : ℕ) (p : ℕ → Bool) → b + first_from a n (λ k. p (b + k)) ≡ first_from (b + a) n p
unfolding first_from
first_shift b a zero p = refl
first_shift b a (suc n) p = go (p (b + a)) (first_from (suc a) n (λ k. p (b + k))) (first_shift b (suc a) n p ∙ ap (λ (x : ℕ). first_from x n p) (add-suc b a))
  where
    go : (t : Bool) (r : ℕ) {s : ℕ} → b + r ≡ s → b + cond t a r ≡ cond t (b + a) s
    go true r e = refl
    go false r e = e

-- numbers past one that passes do not matter
pub first_shorter : (a m n : ℕ) (p : ℕ → Bool) → m ≤ n → (m < n → p (a + m) ≡ true) → first_from a m p ≡ first_from a n p
first_shorter a m n p l h = first_unique (longer (first_is a m p))
  where
    longer : {r : ℕ} → First a m p r → First a n p r
    longer {r} x = record {
      from = x.from;
      within = omega arith;
      before = x.before;
      found = λ u. elim (eq-or-lt_of_le x.within) [ inl e ↦ ap p e ∙ h (omega arith) | inr s ↦ x.found s ];
    }

-- ---- sum_below

pub sum_below_step : (n : ℕ) (f : ℕ → ℕ) → sum_below (n + 1) f ≡ sum_below n f + f n
unfolding sum_below
sum_below_step n f = rw add-one

pub sum_below_ext : (n : ℕ) (f g : ℕ → ℕ) → ((k : ℕ) → k < n → f k ≡ g k) → sum_below n f ≡ sum_below n g
unfolding sum_below
sum_below_ext zero f g h = refl
sum_below_ext (suc n) f g h = ap₂ ◌+◌ (sum_below_ext n f g (λ k l. h k (omega arith))) (h n (le_refl (suc n)))

-- two functions that agree but at j
pub sum_below_change : (n : ℕ) (f g : ℕ → ℕ) (j : ℕ) → j < n → ((k : ℕ) → k < n → k ≢ j → f k ≡ g k)
    → sum_below n f + g j ≡ sum_below n g + f j
unfolding sum_below
sum_below_change zero f g j l h = absurd (omega arith)
sum_below_change (suc n) f g j l h = go (eq-or-lt_of_le (le_of_suc-le-suc l)) (λ u. sum_below_change n f g j u (λ k v. h k (omega arith)))
  where
    go : (j ≡ n) ⊎ (j < n) → (j < n → sum_below n f + g j ≡ sum_below n g + f j)
        → sum_below n f + f n + g j ≡ sum_below n g + g n + f j
    go (inl e) rest = rw e (omega (arith, sum_below_ext n f g (λ k u. h k (omega arith) (omega arith))))
    go (inr u) rest = omega (arith, rest u, h n (le_refl (suc n)) (omega arith))

-- ---- count_below

pub count_below_step : (n : ℕ) (p : ℕ → Bool) → count_below (n + 1) p ≡ count_below n p + one_if (p n)
unfolding count_below
count_below_step n p = rw add-one

-- a count is a sum
pub count_below_sum : (n : ℕ) (p : ℕ → Bool) → sum_below n (λ k. one_if (p k)) ≡ count_below n p
unfolding count_below sum_below
count_below_sum zero p = refl
count_below_sum (suc n) p = ap (λ (c : ℕ). c + one_if (p n)) (count_below_sum n p)

pub count_below_ext : (n : ℕ) (p q : ℕ → Bool) → ((k : ℕ) → k < n → p k ≡ q k) → count_below n p ≡ count_below n q
count_below_ext n p q h =
    sym (count_below_sum n p) ∙ sum_below_ext n (λ k. one_if (p k)) (λ k. one_if (q k)) (λ k l. ap one_if (h k l)) ∙ count_below_sum n q

-- the first a numbers, and those after them
pub count_below_add : (a n : ℕ) (p : ℕ → Bool) → count_below (a + n) p ≡ count_below a p + count_below n (λ k. p (a + k))
unfolding count_below
count_below_add a zero p = rw (add-zero a, add-zero)
count_below_add a (suc n) p = rw (add-suc, ← add_assoc) (ap (λ (c : ℕ). c + one_if (p (a + n))) (count_below_add a n p))

pub count_below_mono : (m n : ℕ) (p : ℕ → Bool) → m ≤ n → count_below m p ≤ count_below n p
count_below_mono m n p h = omega (arith, ap (λ (x : ℕ). count_below x p) (sym (add-sub_of_le h)) ∙ count_below_add m (n - m) p)

-- each number passes or fails
pub count_below_not : (n : ℕ) (p : ℕ → Bool) → count_below n p + count_below n (λ k. not (p k)) ≡ n
unfolding count_below
count_below_not zero p = refl
count_below_not (suc n) p = omega (arith, count_below_not n p, either (p n))
  where
    either : (t : Bool) → one_if t + one_if (not t) ≡ 1
    either true = refl
    either false = refl

pub count_below_le : (n : ℕ) (p : ℕ → Bool) → count_below n p ≤ n
count_below_le n p = omega (arith, count_below_not n p)

pub count_below_none : (n : ℕ) (p : ℕ → Bool) → ((k : ℕ) → k < n → p k ≡ false) → count_below n p ≡ 0
unfolding count_below
count_below_none zero p h = refl
count_below_none (suc n) p h = omega (arith, count_below_none n p (λ k l. h k (omega arith)), ap one_if (h n (le_refl (suc n))))

pub count_below_all : (n : ℕ) (p : ℕ → Bool) → ((k : ℕ) → k < n → p k ≡ true) → count_below n p ≡ n
count_below_all n p h = omega (arith, count_below_not n p, count_below_none n (λ k. not (p k)) (λ k l. ap not (h k l)))

-- some number passes where the count is not 0, and then it is not
pub count_below_finds : (n : ℕ) (p : ℕ → Bool) → 0 < count_below n p → (k : ℕ) × (k < n) × (p k ≡ true)
count_below_finds n p h = go (all_below n (λ k. not (p k))) refl
  where
    go : (t : Bool) → all_below n (λ k. not (p k)) ≡ t → (k : ℕ) × (k < n) × (p k ≡ true)
    go true e = absurd (omega (arith, count_below_none n p (λ k l. not-true (p k) (all_below_at n (λ k. not (p k)) e k l))))
    go false e = let found = all_below_finds n (λ k. not (p k)) e in (found.0, found.1, not-false (p found.0) found.2)

pub count_below_pos : (n : ℕ) (p : ℕ → Bool) (k : ℕ) → k < n → p k ≡ true → 0 < count_below n p
count_below_pos n p k l e = omega (arith, count_below_step k p, count_below_mono (k + 1) n p (omega arith), ap one_if e)

-- some number fails where the count is not n
pub count_below_fails : (n : ℕ) (p : ℕ → Bool) → count_below n p < n → (k : ℕ) × (k < n) × (p k ≡ false)
count_below_fails n p h =
    let found = count_below_finds n (λ k. not (p k)) (omega (arith, count_below_not n p)) in
    (found.0, found.1, not-true (p found.0) found.2)

-- two tests that agree but at j
pub count_below_change : (n : ℕ) (p q : ℕ → Bool) (j : ℕ) → j < n → ((k : ℕ) → k < n → k ≢ j → p k ≡ q k)
    → count_below n p + one_if (q j) ≡ count_below n q + one_if (p j)
count_below_change n p q j l h =
    rw (← count_below_sum n p, ← count_below_sum n q)
    (sum_below_change n (λ k. one_if (p k)) (λ k. one_if (q k)) j l (λ k u f. ap one_if (h k u f)))

pub count_below_one_more : (n : ℕ) (p : ℕ → Bool) (j : ℕ) → j < n → p j ≡ false → count_below n (λ k. eqb k j || p k) ≡ suc (count_below n p)
count_below_one_more n p j l e =
    omega (
      arith,
      count_below_change n (λ k. eqb k j || p k) p j l (λ k u f. ap (λ (t : Bool). t || p k) (ne_eqb k j f)),
      ap one_if e,
      ap (λ (t : Bool). one_if (t || p j)) (eq-eqb j j refl),
    )

-- m blocks of n numbers
pub count_below_product : (m n : ℕ) (p : ℕ → Bool) → count_below (m * n) p ≡ sum_below m (λ s. count_below n (λ k. p (s * n + k)))
unfolding count_below sum_below
count_below_product zero n p = rw zero-mul
count_below_product (suc m) n p = rw (suc-mul, count_below_add) (ap (λ (c : ℕ). c + count_below n (λ k. p (m * n + k))) (count_below_product m n p))

-- ---- lists_below

pub lists_below_ext : (n : ℕ) (f g : ℕ → List ℕ) → ((k : ℕ) → k < n → f k ≡ g k) → lists_below n f ≡ lists_below n g
unfolding lists_below
lists_below_ext zero f g h = refl
lists_below_ext (suc n) f g h = ap₂ ◌++◌ (lists_below_ext n f g (λ k l. h k (omega arith))) (h n (le_refl (suc n)))

pub words_below_ext : (n : ℕ) (f g : ℕ → ℕ) → ((k : ℕ) → k < n → f k ≡ g k) → words_below n f ≡ words_below n g
words_below_ext n f g h = lists_below_ext n (λ k. f k ∷ []) (λ k. g k ∷ []) (λ k l. ap (λ (w : ℕ). w ∷ []) (h k l))

-- pieces of z words each
pub length_lists_below : (n z : ℕ) (f : ℕ → List ℕ) → ((k : ℕ) → k < n → length (f k) ≡ z) → length (lists_below n f) ≡ z * n
unfolding lists_below
length_lists_below zero z f h = sym (mul-zero z)
length_lists_below (suc n) z f h = rw (length-append, mul-suc) (ap₂ ◌+◌ (length_lists_below n z f (λ k l. h k (omega arith))) (h n (le_refl (suc n))))

pub part_lists_below : (n z : ℕ) (f : ℕ → List ℕ) → ((k : ℕ) → k < n → length (f k) ≡ z)
    → (k : ℕ) → k < n → part (lists_below n f) (z * k) z ≡ f k
unfolding lists_below
part_lists_below zero z f h k l = absurd (omega arith)
part_lists_below (suc n) z f h k l =
    up_to (λ (k : ℕ). part (lists_below n f ++ f n) (z * k) z ≡ f k) last (λ k u. before k u ∙ part_lists_below n z f (λ j v. h j (omega arith)) k u) k l
  where
    size : length (lists_below n f) ≡ z * n
    size = length_lists_below n z f (λ j v. h j (omega arith))

    last : part (lists_below n f ++ f n) (z * n) z ≡ f n
    last = rw (drop_at (lists_below n f) (f n) (z * n) size) (take_all z (f n) (le_of_eq (h n (le_refl (suc n)))))

    before : (k : ℕ) → k < n → part (lists_below n f ++ f n) (z * k) z ≡ part (lists_below n f) (z * k) z
    before k u = part_append (lists_below n f) (f n) (z * k) z (omega (arith, size, mul-suc z k, mul-le-mul_left z u))

pub length_words_below : (n : ℕ) (f : ℕ → ℕ) → length (words_below n f) ≡ n
length_words_below n f = length_lists_below n 1 (λ k. f k ∷ []) (λ k l. refl) ∙ one-mul n

pub word_words_below : (n : ℕ) (f : ℕ → ℕ) (k : ℕ) → k < n → word (words_below n f) k ≡ f k
word_words_below n f k l =
    ap (word (words_below n f)) (omega arith) ∙ sym (word_part (words_below n f) (1 * k) 1 0 (omega arith))
    ∙ ap (λ (ws : List ℕ). word ws 0) (part_lists_below n 1 (λ k. f k ∷ []) (λ k u. refl) k l)
