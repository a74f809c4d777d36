-- The taken row: a row of 8,192 words (crate arena, Rows) in which the bit of handle h is 1 exactly if h is 0 or the handle of a taken block.
-- Assumes nothing.
use Rattle.std.specs.Prelude.{ℕ, ◌+◌, ◌*◌, ◌/◌, ◌%◌, ◌≤◌, ◌<◌, ◌≡◌, Bool, not, ◌&&◌, ◌||◌, List, length, eqb, ltb}
use Rattle.model.specs.Below.{all_below}
use Rattle.model.specs.Word.{word, bit, word_of_bits}
use Rattle.model.specs.Class.{blocks}
use Rattle.model.specs.Layout.{arena_length}
use Rattle.model.specs.View.{segments, class}
use Rattle.model.specs.Standing.{before_place, taken_at, none_or_taken}
use Rattle.arena.specs.Inside.{Classed}

-- the bit that is asked for handle h. A handle from 262,113 on has none in the row, and asks one of word 0.
abbrev pub asked_bit : List ℕ → ℕ → Bool
asked_bit row h = bit (word row ((h + 31) / 32 % 8192)) ((h + 31) % 32)

pub record TakenRow (ws row : List ℕ) : Type 0 where
  pub few : segments ws ≤ 64
  pub asked : (h : ℕ) → h < 262144 → asked_bit row h ≡ none_or_taken ws h

-- by a row: 0 or the handle of a taken block, and such a handle
abbrev pub row_none_or_taken : List ℕ → ℕ → Bool
row_none_or_taken row h = ltb h 262144 && asked_bit row h

abbrev pub row_taken : List ℕ → ℕ → Bool
row_taken row h = not (eqb h 0) && row_none_or_taken row h

-- ---- asking it of many words

-- a test of each word of a list
abbrev pub all_words : (ℕ → Bool) → List ℕ → Bool
all_words p xs = all_below (length xs) (λ f. p (word xs f))

-- what is seen of some words: each is low enough for a handle, as `over` is, which has every bit of any of them, and the lowest bit of `all` is set
abbrev pub seen_right : ℕ → ℕ → Bool
seen_right all over = ltb over 262144 && bit all 0

-- ---- what is asked

-- segment s of an arena of the right length, of class i
pub record Member (ws : List ℕ) (s i : ℕ) : Type 0 where
  pub few : segments ws ≤ 64
  pub long : length ws ≡ arena_length (segments ws)
  pub there : s < segments ws
  pub class : i ≡ class ws s
  pub low : 3 ≤ i
  pub high : i ≤ 12

-- ---- how a row is filled

-- an index below which the place alone makes all blocks of a segment taken, and at and after which none
pub record Limit (ws : List ℕ) (s limit : ℕ) : Type 0 where
  pub before : (k : ℕ) → k < blocks (class ws s) → ltb k limit ≡ before_place ws s k

-- the word of a row that has the bits of blocks 32 (o % 64) to 32 (o % 64) + 31 of segment o / 64
unfoldable pub row_word : List ℕ → ℕ → ℕ
row_word ws o = word_of_bits (λ b. taken_at ws (o / 64) (32 * (o % 64) + b))

-- the word that has the bit of handle 0
abbrev pub first_word : ℕ
first_word = 2147483648

-- a row of which the words of the first `end` / 64 segments are filled, and the later ones are 0
pub record Filled (ws row : List ℕ) (end : ℕ) : Type 0 where
  pub long : length row ≡ 8192
  pub first : word row 0 ≡ first_word
  pub right : (o : ℕ) → o < end → word row (1 + o) ≡ row_word ws o
  pub behind : (o : ℕ) → end ≤ o → word row (1 + o) ≡ 0

-- a row as it is lent
pub record ZeroRow (row : List ℕ) : Type 0 where
  pub long : length row ≡ 8192
  pub zero : (o : ℕ) → word row o ≡ 0

-- a row in which no block is taken
pub record Blank (row : List ℕ) : Type 0 where
  pub long : length row ≡ 8192
  pub first : word row 0 ≡ first_word
  pub behind : (o : ℕ) → word row (1 + o) ≡ 0

pub record Fill (ws row : List ℕ) (s : ℕ) : Type 0 where
  pub classed : Classed ws
  pub there : s < segments ws
  pub filled : Filled ws row (64 * s)

-- word j of a segment with so many blocks, of which all below the limit and those of its level-0 word's bits are taken
unfoldable pub taken_word : ℕ → ℕ → ℕ → ℕ → ℕ
taken_word w limit blocks j = word_of_bits (λ b. (ltb (32 * j + b) limit || bit w b) && ltb (32 * j + b) blocks)

-- asked for a segment's own words of a row
pub record Words (rec own : List ℕ) (blocks : ℕ) : Type 0 where
  pub record_long : length rec ≡ 68
  pub long : length own ≡ 64
  pub most : blocks ≤ 2048

-- the first `end` of them are those words, and those behind are as they were
pub record Segment (rec : List ℕ) (limit blocks : ℕ) (own own' : List ℕ) (end : ℕ) : Type 0 where
  pub words : (j : ℕ) → j < end → word own' j ≡ taken_word (word rec (1 + j)) limit blocks j
  pub behind : (o : ℕ) → end ≤ o → word own' o ≡ word own o
