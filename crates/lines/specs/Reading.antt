-- What reading a text number by number finds: one number and where the text goes on, and all numbers in a row of 16.
-- Assumes nothing.
use Rattle.std.specs.Prelude.{ℕ, ◌≤◌, ◌<◌, ◌≡◌, Bool, true, false, ◌&&◌, List, [], ◌∷◌, map, length, take, drop, eqb, leb}
use Rattle.lines.specs.Line.{space, fields, value, all_numbers}

-- a text behind the letter is good if it is numbers, each after a space; which numbers
abbrev pub good : List ℕ → Bool
good [] = true
good (b ∷ text) = eqb b space && all_numbers (fields text)

abbrev pub numbers : List ℕ → List ℕ
numbers [] = []
numbers (b ∷ text) = map value (fields text)

-- a number, and where the text goes on
pub record Found (text : List ℕ) (v n : ℕ) : Type 0 where
  pub forward : 0 < n
  pub within : n ≤ length text
  pub same : good text ≡ good (drop n text)
  pub first : good text ≡ true → numbers text ≡ v ∷ numbers (drop n text)

-- so many in a row, or that the text is not good or has more than 16
pub record Row (text : List ℕ) (row : List ℕ) (count : ℕ) : Type 0 where
  pub few : count ≤ 16 → (good text ≡ true) × (numbers text ≡ take count row)
  pub many : 16 < count → (good text && leb (length (numbers text)) 16) ≡ false
