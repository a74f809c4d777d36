-- A record's levels, made of the marks of its segment.
-- Assumes nothing.
use Rattle.std.specs.Prelude.{ℕ, ◌*◌, ◌/◌, ◌%◌, ◌<◌, ◌≡◌, Bool, true, false, ◌&&◌, ◌||◌, List, length, eqb}
use Rattle.model.specs.Word.{bit}
use Rattle.model.specs.Class.{is_class, blocks, words_for}
use Rattle.model.specs.View.{bit_in}
use Rattle.model.specs.Sound.{levels_right}

-- a record whose levels are right, and a word of level 0 that its class uses, of which the first block is free
pub record PutWord (rec : List ℕ) (i j : ℕ) : Type 0 where
  pub long : length rec ≡ 68
  pub class : is_class i ≡ true
  pub right : levels_right i rec ≡ true
  pub used : j < words_for (blocks i)
  pub free : bit_in rec (32 * j) ≡ false

-- which blocks have their bit if those of w are set in word j as well
abbrev pub with_word : List ℕ → ℕ → ℕ → ℕ → Bool
with_word rec j w k = bit_in rec k || (eqb (k / 32) j && bit w (k % 32))

-- a record's words, and the 64 words of its segment's marks
pub record OfMarks (rec : List ℕ) (i : ℕ) (marks : List ℕ) : Type 0 where
  pub long : length rec ≡ 68
  pub class : is_class i ≡ true
  pub row : length marks ≡ 64
