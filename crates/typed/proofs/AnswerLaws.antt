-- Texts: a number in decimal, and handles each after a space.
-- Assumes nothing.
use Prim.Native.Nat.{ℕ, zero, suc, ◌+◌, ◌-◌, ◌/◌, ◌%◌, ◌^◌, ◌≤◌, ◌<◌}
use mathlib.Core.Path.{◌≡◌, refl, sym, ap, ◌∙◌}
use mathlib.Core.Logic.{inl, inr}
use mathlib.Core.Bool.{Bool, true, false, false≢true}
use mathlib.Core.List.{List, [], ◌∷◌, ◌++◌, append_assoc, append-nil}
use native.Mathlib.Nat.{le_refl, le_of_suc-le-suc, lt_of_not-le, eq-or-lt_of_le, pow-suc, pow-le-pow_right}
use native.Mathlib.Numerals.{add-one, sub-one}
use native.Mathlib.Omega.{arith}
use lib.Dec.{ltb}
use lib.ListN.{length, get_or, take, drop, length-append}
use lib.Seq.{take-suc}
use borrow.Author.Tests.{lt-ltb, le-ltb, ne_eqb}
use Rattle.typed.specs.Digits.{hex_digit_ascii, last_digits, IsDigitCount}
use Rattle.std.specs.Prelude.{Result, Ok, Err, IsOk, OnOk, ◌↔◌}
use Rattle.std.specs.Fmt.{decimal as text_of}
use Rattle.std.proofs.lemmas.Fmt.{decimal_by_steps}
use Rattle.std.proofs.Common.{take-append-drop}
use Rattle.model.specs.Below.{first_from}
use Rattle.typed.specs.Answers.{places, decimal, spelled, newline, refused_word, numbered, said}

-- ---- a number in decimal

-- a u32 has at most ten digits
not_more : (v k : ℕ) → v < 4294967296 → IsDigitCount 10 1 v k → 10 < k → ⊥
not_more v k small fewest over =
    let pos : 0 < 10 = omega arith in
    let p : 10 ^ (k - 1) ≤ v = fewest.2 (omega arith) in
    let past : 10 ≤ k - 1 = omega arith in
    let q : 10 ^ 10 ≤ 10 ^ (k - 1) = pow-le-pow_right pos past in
    omega arith

pub ten : (v k : ℕ) → v < 4294967296 → IsDigitCount 10 1 v k → k ≤ 10
ten v k small fewest = le_of_suc-le-suc (lt_of_not-le (not_more v k small fewest))

-- a number before which every test fails, and at which it passes, is the first
first_at : (a n : ℕ) (p : ℕ → Bool) (k : ℕ) → a ≤ k → k ≤ a + n → ((j : ℕ) → a ≤ j → j < k → p j ≡ false) → (k < a + n → p k ≡ true)
    → k ≡ first_from a n p
unfolding first_from
first_at a zero p k l u before found = omega arith
first_at a (suc n) p k l u before found =
    elim (eq-or-lt_of_le l) [
      | inl same ↦ rw (ap p same ∙ found (omega arith)) (sym same)
      | inr past ↦ rw (before a (le_refl a) past) (first_at (suc a) n p k past (omega arith) (λ j f h. before j (omega arith) h) (λ h. found (omega arith)))
    ]

-- the fewest digits are so many
fewest_places : (v k : ℕ) → v < 4294967296 → IsDigitCount 10 1 v k → k ≡ places v
unfolding places
fewest_places v k small fewest =
    let powers : (j : ℕ) → 1 ≤ j → j < k → 10 ^ j ≤ v = λ j l h.
    let pos : 0 < 10 = omega arith in
    let low : 10 ^ (k - 1) ≤ v = fewest.2 (omega arith) in
    let before : j ≤ k - 1 = omega arith in
    let below : 10 ^ j ≤ 10 ^ (k - 1) = pow-le-pow_right pos before in
    omega arith in
    first_at 1 9 (λ j. ltb v (10 ^ j)) k fewest.0 (ten v k small fewest) (λ j l h. le-ltb _ _ (powers j l h)) (λ h. lt-ltb _ _ fewest.1)

pub decimal_is : (v k : ℕ) → v < 4294967296 → IsDigitCount 10 1 v k → last_digits 10 k v ≡ decimal v
unfolding decimal
decimal_is v k small fewest = ap (λ (j : ℕ). last_digits 10 j v) (fewest_places v k small fewest)

-- a digit more
low_power : (v k : ℕ) → 0 < v → IsDigitCount 10 1 v (suc k) → 10 ^ k ≤ v
low_power v zero some fewest = omega arith
low_power v (suc k) some fewest = rw sub-one at (fewest.2 (omega arith))

digits_more : (v k : ℕ) → 10 ≤ v → IsDigitCount 10 1 (v / 10) k → IsDigitCount 10 1 v (suc k)
digits_more v zero some fewest = absurd (omega arith)
digits_more v (suc k) some fewest =
    let low : 10 ^ k ≤ v / 10 = low_power (v / 10) k (omega arith) fewest in
    let high : v / 10 < 10 ^ suc k = fewest.1 in
    (omega arith, rw pow-suc (omega arith), λ more. rw (sub-one, pow-suc) (omega arith))

digit_is : (d : ℕ) → d < 10 → hex_digit_ascii d ≡ 48 + d
digit_is d small = rw (lt-ltb d 10 small)

-- what std writes of a number: its last digits, and the fewest that hold it
record Printed (v : ℕ) (text : List ℕ) : Type 0 where
  count : IsDigitCount 10 1 v (length text)
  digits : text ≡ last_digits 10 (length text) v

printed_one : (v : ℕ) → v < 10 → Printed v ((48 + v) ∷ [])
printed_one v small =
    let same : v % 10 ≡ v = omega arith in
    record { count = (omega arith, omega arith, λ more. omega arith); digits = ap (λ (d : ℕ). d ∷ []) (sym (ap hex_digit_ascii same ∙ digit_is v small)) }

printed_more : (v : ℕ) (text : List ℕ) → 10 ≤ v → Printed (v / 10) text → Printed v (text ++ ((48 + v % 10) ∷ []))
printed_more v text some so =
    let long : length (text ++ ((48 + v % 10) ∷ [])) ≡ suc (length text) = rw (length-append, add-one) in
    record {
      count = rw long (digits_more v (length text) some so.count);
      digits = rw long (ap (λ (t : List ℕ). t ++ ((48 + v % 10) ∷ [])) so.digits
          ∙ ap (λ (d : ℕ). last_digits 10 (length text) (v / 10) ++ (d ∷ [])) (sym (digit_is (v % 10) (omega arith))));
    }

printed : (v : ℕ) → v < 2 ^ 64 → Printed v (text_of v)
printed = decimal_by_steps Printed printed_one printed_more

-- what std writes of a u32 is the number in decimal
pub printed_is : (v : ℕ) → v < 4294967296 → text_of v ≡ decimal v
printed_is v small =
    let so = printed v (omega arith) in
    so.digits ∙ decimal_is v (length (text_of v)) small so.count

-- ---- handles, each after a space

pub spelled_append : (hs gs : List ℕ) → spelled (hs ++ gs) ≡ spelled hs ++ spelled gs
unfolding spelled
spelled_append [] gs = refl
spelled_append (h ∷ hs) gs =
    ap (λ (r : List ℕ). (32 ∷ decimal h) ++ r) (spelled_append hs gs) ∙ sym (append_assoc (32 ∷ decimal h) (spelled hs) (spelled gs))

pub spelled_one : (h : ℕ) → spelled (h ∷ []) ≡ 32 ∷ decimal h
unfolding spelled
spelled_one h = append-nil (32 ∷ decimal h)

-- one handle more
pub spelled_more : (hs : List ℕ) (at : ℕ) → at < length hs → spelled (take (at + 1) hs) ≡ spelled (take at hs) ++ (32 ∷ decimal (get_or hs at 0))
spelled_more hs at l =
    ap spelled (ap (λ (j : ℕ). take j hs) (add-one at) ∙ take-suc hs at 0 l)
    ∙ spelled_append (take at hs) (get_or hs at 0 ∷ [])
    ∙ ap (λ (r : List ℕ). spelled (take at hs) ++ r) (spelled_one (get_or hs at 0))

-- a list from its two parts
pub both_parts : (n : ℕ) (hs front back : List ℕ) → front ≡ take n hs → back ≡ drop n hs → front ++ back ≡ hs
both_parts n hs front back f b = rw (f, b, take-append-drop n hs)

-- ---- texts with room

-- what was to be put behind a text is there, since it fits
pub when_fits : {A E P : Type 0} {F : Type 0} (r : Result A E) → (IsOk r ↔ F) → F → OnOk r P → P
when_fits (Ok a) v f p = p
when_fits (Err e) v f p = absurd (false≢true (v.1 f))

-- ---- a grant and a refusal. Nothing rests on these two; docs/PORT.md names them.

pub said_granted : (number : ℕ) (words : List ℕ) → number ≡ 0 → said number words ≡ words
said_granted number words e = rw e

pub said_refused : (number : ℕ) (words : List ℕ) (e : ℕ) → e ≡ number → (e ≡ 0 → ⊥) → said number words ≡ numbered refused_word e newline
said_refused number words e same some = rw (← same, ne_eqb e 0 some)
