-- Reading numbers into a row, one after the other: what has been read, and what is behind it. No code reads so; docs/PORT.md names these laws.
-- Assumes nothing.
use Prim.Native.Nat.{ℕ, ◌+◌, ◌-◌, ◌≤◌, ◌<◌}
use mathlib.Core.Path.{◌≡◌, refl, sym, ap, ◌∙◌}
use mathlib.Core.Bool.{Bool, true, false, cond, ◌&&◌}
use mathlib.Core.List.{List, [], ◌∷◌, ◌++◌, append_assoc, append-nil}
use native.Mathlib.Omega.{arith}
use native.Mathlib.Numerals.{add-one}
use lib.ListN.{length, take, drop, set, length-append, length-drop, length-map, length-set, drop_of_length-le}
use lib.Seq.{drop-drop, length-take-le, take-suc-set, take_all}
use lib.Dec.{eqb, leb}
use borrow.Author.Tests.{lt-leb}
use Rattle.lines.specs.Line.{space, joined, fields}
use Rattle.lines.specs.Reading.{good, numbers, Found, Row}

-- a part up to the end is all that stands behind its beginning
cut_off : (at : ℕ) (text : List ℕ) → take (length text - at) (drop at text) ≡ drop at text
cut_off at text = take_all (length text - at) (drop at text) (omega (arith, length-drop at text))

-- the numbers up to a place of the text stand in front of the row, and the text behind that place is still to be read
pub record SoFar (text row : List ℕ) (at count : ℕ) : Type 0 where
  pub within : at ≤ length text
  pub few : count ≤ 16
  pub long : length row ≡ 16
  pub same : good text ≡ good (drop at text)
  pub first : good text ≡ true → numbers text ≡ take count row ++ numbers (drop at text)

pub so_far_none : (text row : List ℕ) → length row ≡ 16 → SoFar text row 0 0
so_far_none text row long = record { within = omega arith; few = omega arith; long = long; same = refl; first = λ g. refl }

-- one number more
module _ (text row : List ℕ) (at count : ℕ) (s : SoFar text row at count) (v n : ℕ) (f : Found (take (length text - at) (drop at text)) v n) where
  pub so_far_more : (count ≡ 16 → ⊥) → SoFar text (set row count v) (at + n) (count + 1)
  so_far_more room =
      let f' : Found (drop at text) v n = rw cut_off at f in
      let below : count < length row = omega (arith, s) in
      let one_more : take (count + 1) (set row count v) ≡ take count row ++ (v ∷ []) = rw (add-one, take-suc-set row count v below) in
      record {
        within = omega (arith, s.within, f'.within, length-drop at text);
        few = omega (arith, s);
        long = length-set row count v ∙ s.long;
        same = s.same ∙ f'.same ∙ ap good (drop-drop n at text);
        first = λ g. s.first g ∙ rw (f'.first (sym s.same ∙ g), one_more, append_assoc, drop-drop);
      }

-- ---- the ways out

-- a text has a field, and one with a byte in it has a number
some_field_by : (t : Bool) (b : ℕ) (fs : List (List ℕ)) → 0 < length (cond t ([] ∷ fs) (joined b fs))
some_field_by true b fs = omega arith
some_field_by false b [] = omega arith
some_field_by false b (f ∷ fs) = omega arith

some_field : (text : List ℕ) → 0 < length (fields text)
unfolding fields
some_field [] = omega arith
some_field (b ∷ text) = some_field_by (eqb b space) b (fields text)

some_number : (text : List ℕ) → 0 < length text → 0 < length (numbers text)
some_number [] h = absurd (omega arith)
some_number (b ∷ text) h = rw length-map (some_field text)

and_fails : (a b : Bool) → (a ≡ true → b ≡ false) → (a && b) ≡ false
and_fails true b h = h refl
and_fails false b h = refl

module _ (text row : List ℕ) (at count : ℕ) (s : SoFar text row at count) where
  pub too_many : at < length text → count ≡ 16 → Row text row 17
  too_many more full =
      let left : 0 < length (numbers (drop at text)) = some_number (drop at text) (omega (arith, length-drop at text)) in
      let sixteen : length (take count row) ≡ count = length-take-le count row (omega (arith, s)) in
      record {
        few = λ h. absurd (omega arith);
        many =
            λ h.
            and_fails
            (good text)
            (leb (length (numbers text)) 16)
            (λ g. lt-leb (length (numbers text)) 16 (omega (arith, simp length-append at (ap length (s.first g)))));
      }

  pub one_bad : good (take (length text - at) (drop at text)) ≡ false → Row text row 17
  one_bad b =
      let none : good text ≡ false = s.same ∙ ap good (sym (cut_off at text)) ∙ b in
      record { few = λ h. absurd (omega arith); many = λ h. rw none }

  pub all_read : length text ≤ at → Row text row count
  all_read end =
      let nothing : drop at text ≡ [] = drop_of_length-le text end in
      let g : good text ≡ true = s.same ∙ ap good nothing in
      record { few = λ h. (g, s.first g ∙ rw (nothing, append-nil)); many = λ h. absurd (omega (arith, s)) }
