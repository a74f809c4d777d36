-- The value of digits, what is a number, and the numbers of fields.
-- Assumes nothing.
use Prim.Native.Nat.{ℕ, zero, suc, ◌+◌, ◌-◌, ◌*◌, ◌≤◌, ◌<◌}
use mathlib.Core.Path.{◌≡◌, refl, sym, ap, ◌∙◌}
use mathlib.Core.Bool.{true, false, not, ◌&&◌}
use mathlib.Core.List.{List, [], ◌∷◌, ◌++◌}
use native.Mathlib.Omega.{arith}
use native.Mathlib.Numerals.{add-one}
use lib.ListN.{length, get_or, take, drop, take-append-drop}
use lib.Seq.{take-suc}
use lib.Dec.{eqb, leb}
use Rattle.std.specs.Prelude.{Option, Some, None, Result, Ok, Err, OnOk, OnErr}
use Rattle.std.specs.Result.{result_ok, OkIff}
use Rattle.std.specs.List.{slice_split, onto_first}
use Rattle.std.proofs.lemmas.Bool.{and_parts, and_from, and_left, ne_eqb, le-leb, leb-true, false≢true, false_from_ne_true}
use Rattle.lines.specs.Line.{is_digit, joined, fields, value_after, value, all_digits, is_number, all_numbers}

-- ---- values

value_append : (v : ℕ) (ds es : List ℕ) → value_after v (ds ++ es) ≡ value_after (value_after v ds) es
unfolding value_after
value_append v [] es = refl
value_append v (d ∷ ds) es = value_append (10 * v + (d - 48)) ds es

-- a digit more
pub value_more : (ds : List ℕ) (at : ℕ) → at < length ds → value (take (at + 1) ds) ≡ 10 * value (take at ds) + (get_or ds at 0 - 48)
unfolding value_after
value_more ds at h = rw (add-one, take-suc ds at 0) (value_append 0 (take at ds) (get_or ds at 0 ∷ []))

-- digits behind others never make the value less
value_grows : (v : ℕ) (ds : List ℕ) → v ≤ value_after v ds
unfolding value_after
value_grows v [] = omega arith
value_grows v (d ∷ ds) = omega (arith, value_grows (10 * v + (d - 48)) ds)

value_within : (ds : List ℕ) (at : ℕ) → value (take at ds) ≤ value ds
value_within ds at =
    let whole : value (take at ds ++ drop at ds) ≡ value ds = ap value (take-append-drop at ds) in
    omega (arith, value_append 0 (take at ds) (drop at ds), value_grows (value (take at ds)) (drop at ds))

-- ---- digits

digits_snoc : (ds : List ℕ) (b : ℕ) → all_digits ds ≡ true → is_digit b ≡ true → all_digits (ds ++ (b ∷ [])) ≡ true
unfolding all_digits
digits_snoc [] b all d = and_from (is_digit b) true d refl
digits_snoc (c ∷ ds) b all d =
    let parts = and_parts (is_digit c) (all_digits ds) all in
    and_from (is_digit c) (all_digits (ds ++ (b ∷ []))) parts.0 (digits_snoc ds b parts.1 d)

pub digits_more : (ds : List ℕ) (at : ℕ) → at < length ds → all_digits (take at ds) ≡ true → is_digit (get_or ds at 0) ≡ true → all_digits (take (at + 1) ds) ≡ true
digits_more ds at h all d = rw (add-one, take-suc ds at 0) (digits_snoc (take at ds) (get_or ds at 0) all d)

pub digit_at : (ds : List ℕ) (at : ℕ) → all_digits ds ≡ true → at < length ds → is_digit (get_or ds at 0) ≡ true
unfolding all_digits
digit_at [] at all h = absurd (omega arith)
digit_at (b ∷ ds) zero all h = (and_parts (is_digit b) (all_digits ds) all).0
digit_at (b ∷ ds) (suc at) all h = digit_at ds at (and_parts (is_digit b) (all_digits ds) all).1 (omega arith)

-- ---- one number

pub no_bytes : (f : List ℕ) → length f ≡ 0 → is_number f ≡ true → ⊥
unfolding is_number
no_bytes [] e n = false≢true n
no_bytes (b ∷ f) e n = omega arith

pub no_digit : (f : List ℕ) (at : ℕ) → at < length f → (is_digit (get_or f at 0) ≡ true → ⊥) → is_number f ≡ true → ⊥
unfolding is_number
no_digit f at h d n = d (digit_at f at (and_parts _ _ (and_parts (not (eqb (length f) 0)) (all_digits f && leb (value f) 4294967295) n).1).0 h)

pub too_large : (f : List ℕ) (at : ℕ) → (value (take at f) < 4294967296 → ⊥) → is_number f ≡ true → ⊥
unfolding is_number
too_large f at h n =
    let small : value f ≤ 4294967295 =
    leb-true _ _ (and_parts (all_digits f) _ (and_parts (not (eqb (length f) 0)) (all_digits f && leb (value f) 4294967295) n).1).1 in
    h (omega (arith, value_within f at))

pub one_number : (f : List ℕ) → 0 < length f → all_digits f ≡ true → value f < 4294967296 → is_number f ≡ true
unfolding is_number
one_number f some all small = rw (ne_eqb (length f) 0 (λ e. omega arith), all) (le-leb _ _ (omega arith))

-- ---- the numbers of fields

-- one more
pub numbers_more : (fs : List (List ℕ)) (f : List ℕ) → all_numbers fs ≡ true → is_number f ≡ true → all_numbers (fs ++ (f ∷ [])) ≡ true
unfolding all_numbers
numbers_more [] f all n = and_from (is_number f) true n refl
numbers_more (g ∷ fs) f all n =
    let parts = and_parts (is_number g) (all_numbers fs) all in
    and_from (is_number g) (all_numbers (fs ++ (f ∷ []))) parts.0 (numbers_more fs f parts.1 n)

-- one that is none
number_at : (fs : List (List ℕ)) (at : ℕ) (d : List ℕ) → all_numbers fs ≡ true → at < length fs → is_number (get_or fs at d) ≡ true
unfolding all_numbers
number_at [] at d all h = absurd (omega arith)
number_at (f ∷ fs) zero d all h = (and_parts (is_number f) (all_numbers fs) all).0
number_at (f ∷ fs) (suc at) d all h = number_at fs at d (and_parts (is_number f) (all_numbers fs) all).1 (omega arith)

pub no_number : (fs : List (List ℕ)) (at : ℕ) (f : List ℕ) → (at < length fs) × (f ≡ get_or fs at f) → (is_number f ≡ true → ⊥)
    → (all_numbers fs && leb (length fs) 16) ≡ false
no_number fs at f h none =
    and_left (all_numbers fs) _ (false_from_ne_true _ (λ all. none (rw h.1 (number_at fs at f all h.0))))

-- what `split` gives
onto : (b : ℕ) (fs : List (List ℕ)) → onto_first b fs ≡ joined b fs
onto b [] = refl
onto b (f ∷ fs) = refl

pub fields_are : (text : List ℕ) → slice_split (λ b. eqb b 32) text ≡ fields text
unfolding fields
fields_are [] = refl
fields_are (b ∷ text) = rw (fields_are text, onto b (fields text)) refl

-- ---- what a clause says of a result that `ok` made an option

pub at_some : {A E P : Type 0} (r : Result A E) (o : Option A) (x : A) → o ≡ result_ok r → o ≡ Some x → OnOk r P → P
at_some (Ok y) o x e s p = p
at_some (Err y) o x e s p = cc

pub at_none : {A E P : Type 0} (r : Result A E) (o : Option A) → o ≡ result_ok r → o ≡ None → OnErr r P → P
at_none (Ok y) o e s p = cc
at_none (Err y) o e s p = p

pub some_iff : {A E P : Type 0} (r : Result A E) (o : Option A) (v x : A) → OkIff r P v → o ≡ result_ok r → o ≡ Some x → P × (x ≡ v)
some_iff (Ok y) o v x i e s =
    let same : y ≡ x = cc in
    (i.0, sym same ∙ i.1)
some_iff (Err y) o v x i e s = cc

pub none_iff : {A E P : Type 0} (r : Result A E) (o : Option A) (v : A) → OkIff r P v → o ≡ result_ok r → o ≡ None → P → ⊥
none_iff (Ok y) o v i e s = cc
none_iff (Err y) o v i e s = i
