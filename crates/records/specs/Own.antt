-- The levels of a record, told by its own words: each level by the level below it, and level 0 by itself.
-- Assumes nothing.
use Rattle.std.specs.Prelude.{ℕ, zero, suc, ◌+◌, ◌*◌, ◌≤◌, ◌<◌, ◌≡◌, Bool, List, length, eqb}
use Rattle.model.specs.Below.{all_below}
use Rattle.model.specs.Word.{word, full}
use Rattle.model.specs.Layout.{level_at, level_room, padded_word}
use Rattle.model.specs.View.{bit_in}

-- which bits of a level are to be 1, up to its end: at level 0 its own, above it those of the full words of the level below
abbrev pub own_set : List ℕ → ℕ → ℕ → Bool
own_set rec zero k = bit_in rec k
own_set rec (suc l) k = full (word rec (level_at l + k))

-- of a level of so many words and so many bits: the word that these bits and the padding make, and whether word j is that word
abbrev pub own_word : ℕ → ℕ → List ℕ → ℕ → ℕ → ℕ
own_word words end rec l j = padded_word words end (own_set rec l) j

abbrev pub word_right : ℕ → ℕ → List ℕ → ℕ → ℕ → Bool
word_right words end rec l j = eqb (word rec (level_at l + j)) (own_word words end rec l j)

unfoldable pub level_right : ℕ → ℕ → List ℕ → ℕ → Bool
level_right words end rec l = all_below (level_room l) (word_right words end rec l)

-- ---- what is asked

-- level 0: each of its words begins before its end
pub record LowestOf (rec : List ℕ) (words end : ℕ) : Type 0 where
  pub long : length rec ≡ 68
  pub some : 1 ≤ words
  pub room : words ≤ 64
  pub begin : 32 * words < end + 32
