-- Marks: what one store does to the row, and to the list whose handles are marked.
-- Assumes nothing.
use Prim.Native.Nat.{ℕ, ◌+◌, ◌*◌, ◌/◌, ◌%◌, ◌≤◌, ◌<◌}
use mathlib.Core.Path.{◌≡◌, refl, sym, ap, ◌∙◌}
use mathlib.Core.Logic.{◌≢◌}
use mathlib.Core.Bool.{Bool, true, false, not, ◌||◌, cond, or-false, or_assoc}
use mathlib.Core.List.{List, [], ◌∷◌, ◌++◌}
use native.Mathlib.Omega.{arith}
use lib.Dec.{eqb}
use lib.ListN.{length, set, replicate, length-replicate, length-append, get_or-replicate, get_or-append}
use lib.Seq.{get_or-set_same, get_or-set_other}
use borrow.Author.Tests.{eqb-true, eqb-false, eq-eqb, ne_eqb}
use Rattle.model.specs.Word.{word, bit, word_of_bits}
use Rattle.laws.proofs.Bits.{bit_zero, bit_word_of_bits}
use Rattle.model.specs.Ways.{listed}
use Rattle.arena.specs.Rows.{row_bit, Marked}
use Rattle.soundness.proofs.Tests.{same_test}
use Rattle.ways.proofs.Put.{put_on}
use Rattle.trace.specs.Marks.{Mark}

-- ---- one store in the row

-- two equations that follow from each other are one test
same_eqb : (a b c d : ℕ) → (a ≡ b → c ≡ d) → (c ≡ d → a ≡ b) → eqb a b ≡ eqb c d
same_eqb a b c d f g = same_test (eqb a b) (eqb c d) (λ e. eq-eqb c d (f (eqb-true a b e))) (λ e. eq-eqb a b (g (eqb-true c d e)))

or_swap : (s t : Bool) → (s || t) ≡ (t || s)
or_swap true true = refl
or_swap true false = refl
or_swap false true = refl
or_swap false false = refl

-- the word of handle h with its bit set: its mark is set, and the others are as before
pub mark_row : (marks : List ℕ) (h : ℕ) → (h + 31) / 32 < length marks → (g : ℕ) →
    row_bit (set marks ((h + 31) / 32) (word_of_bits (λ j. eqb j ((h + 31) % 32) || bit (word marks ((h + 31) / 32)) j))) g ≡ (row_bit marks g || eqb g h)
mark_row marks h inside g = go (eqb ((g + 31) / 32) at) refl
  where
    at : ℕ
    at = (h + 31) / 32

    f : ℕ → Bool
    f j = eqb j ((h + 31) % 32) || bit (word marks at) j

    go : (s : Bool) → eqb ((g + 31) / 32) at ≡ s → row_bit (set marks at (word_of_bits f)) g ≡ (row_bit marks g || eqb g h)
    go true q =
        let e : (g + 31) / 32 ≡ at = eqb-true ((g + 31) / 32) at q in
        let b : ℕ = (g + 31) % 32 in
        rw (e, get_or-set_same marks at (word_of_bits f) 0 inside, bit_word_of_bits f b (omega arith))
        (or_swap (eqb b ((h + 31) % 32)) (bit (word marks at) b)
        ∙ ap (λ (t : Bool). bit (word marks at) b || t) (same_eqb b ((h + 31) % 32) g h (λ q. omega arith) (λ q. omega arith)))
    go false q =
        let n : (g + 31) / 32 ≢ at = eqb-false ((g + 31) / 32) at q in
        rw (get_or-set_other marks at ((g + 31) / 32) (word_of_bits f) 0 n, ne_eqb g h (λ q. n (ap (λ (z : ℕ). (z + 31) / 32) q)), or-false)

-- ---- the marks of a list

-- one more at the end
listed_last : (L : List ℕ) (h g : ℕ) → listed (L ++ (h ∷ [])) g ≡ (listed L g || eqb g h)
unfolding listed
listed_last [] h g = or-false (eqb h g) ∙ same_eqb h g g h sym sym
listed_last (f ∷ L) h g = rw (listed_last L h g, or_assoc)

-- what is 0 or put on was 0 or listed, or is the handle
known_put_on : (L : List ℕ) (h g : ℕ) → (eqb g 0 || listed (put_on L h) g) ≡ ((eqb g 0 || listed L g) || eqb g h)
unfolding put_on
known_put_on L h g = go (eqb h 0 || listed L h) refl
  where
    the_same : (s : Bool) → eqb g h ≡ s → (eqb h 0 || listed L h) ≡ true → (eqb g 0 || listed L g) ≡ ((eqb g 0 || listed L g) || s)
    the_same true q e = let is_h : g ≡ h = eqb-true g h q in rw (ap (λ (x : ℕ). eqb x 0 || listed L x) is_h ∙ e)
    the_same false q e = sym (or-false (eqb g 0 || listed L g))

    go : (t : Bool) → (eqb h 0 || listed L h) ≡ t → (eqb g 0 || listed (cond t L (L ++ (h ∷ []))) g) ≡ ((eqb g 0 || listed L g) || eqb g h)
    go true e = the_same (eqb g h) refl e
    go false e = rw (listed_last L h g) (sym (or_assoc (eqb g 0) (listed L g) (eqb g h)))

module _ {N : ℕ} {marks L : List ℕ} (m : Marked N marks L) {h : ℕ} {new : Bool} {marks' : List ℕ} (l : h ≤ 2048 * N) (k : Mark marks h new marks') where
  -- what `mark` tells is whether the handle is new to the list
  pub mark_new : new ≡ not (eqb h 0 || listed L h)
  mark_new = k.tells ∙ ap not (m.at h l)

  -- and the marks are then those of the list with the handle put on
  pub mark_put_on : Marked N marks' (put_on L h)
  mark_put_on = record { at = λ g u. k.bits g ∙ ap (λ (t : Bool). t || eqb g h) (m.at g u) ∙ sym (known_put_on L h g) }

-- ---- a row without marks

-- the words of n segments are 0, and the bit of handle 0 is set
pub cleared : (n : ℕ) (rest : List ℕ) → Marked n (set (replicate (1 + 64 * n) 0 ++ rest) 0 0x8000_0000) []
unfolding listed
cleared n rest = record { at = λ h l. go h l (eqb h 0) refl }
  where
    none : List ℕ
    none = replicate (1 + 64 * n) 0

    long : length none ≡ 1 + 64 * n
    long = length-replicate (1 + 64 * n) 0

    go : (h : ℕ) → h ≤ 2048 * n → (t : Bool) → eqb h 0 ≡ t → row_bit (set (none ++ rest) 0 0x8000_0000) h ≡ (t || false)
    go h l true e =
        let z : h ≡ 0 = eqb-true h 0 e in
        rw (z, get_or-set_same (none ++ rest) 0 0x8000_0000 0 (omega (arith, long, length-append none rest)))
    go h l false e =
        let some : h ≢ 0 = eqb-false h 0 e in
        let at : ℕ = (h + 31) / 32 in
        let other : at ≢ 0 = omega arith in
        rw (get_or-set_other (none ++ rest) 0 at 0x8000_0000 0 other, get_or-append none rest 0 at (omega (arith, long)), get_or-replicate {A = ℕ} (1 + 64 * n) at 0 0 (omega arith))
        (bit_zero ((h + 31) % 32))
