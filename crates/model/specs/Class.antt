-- Classes. "A segment of class i holds blocks of 2^i bytes." The class table is given as a rule here, and in document 01's ten rows.
-- Assumes nothing.
use Rattle.std.specs.Prelude.{ℕ, zero, suc, ◌+◌, ◌*◌, ◌/◌, ◌^◌, Bool, cond, ◌&&◌, List, [], ◌∷◌, leb, ltb}
use Rattle.model.specs.Below.{all_below, count_below, first_from}

-- classes 3 to 12
abbrev pub is_class : ℕ → Bool
is_class i = leb 3 i && leb i 12

-- each of the ten classes passes p
abbrev pub every_class : (ℕ → Bool) → Bool
every_class p = all_below 10 (λ c. p (c + 3))

-- blocks of 2^i bytes in an area of 4,096 words of 4 bytes, and the words of one
abbrev pub blocks : ℕ → ℕ
blocks i = 4096 * 4 / 2 ^ i

abbrev pub block_words : ℕ → ℕ
block_words i = 2 ^ i / 4

-- how many words hold n bits
abbrev pub words_for : ℕ → ℕ
words_for n = (n + 31) / 32

-- words at level l of a segment of class i: level 0 has a bit for each block, and where a level has more than one word, the next has a bit
-- for each of them
unfoldable pub level_words : ℕ → ℕ → ℕ
level_words i zero = words_for (blocks i)
level_words i (suc l) = cond (ltb 1 (level_words i l)) (words_for (level_words i l)) 0

-- the end of a level, in bits: the number of blocks, and above level 0 the number of words of the level below
unfoldable pub level_end : ℕ → ℕ → ℕ
level_end i zero = blocks i
level_end i (suc l) = level_words i l

-- how many of the three levels a class uses
abbrev pub levels : ℕ → ℕ
levels i = count_below 3 (λ l. ltb 0 (level_words i l))

-- a row of the table
pub record Row : Type 0 where
  pub class : ℕ
  pub blocks : ℕ
  pub levels : ℕ
  pub words : List ℕ

abbrev row : ℕ → ℕ → ℕ → ℕ → ℕ → ℕ → Row
row i n l a b c = record { class = i; blocks = n; levels = l; words = a ∷ b ∷ c ∷ [] }

-- document 01's table
unfoldable pub table : List Row
table =
    row 3 2048 3 64 2 1
    ∷ row 4 1024 2 32 1 0
    ∷ row 5 512 2 16 1 0
    ∷ row 6 256 2 8 1 0
    ∷ row 7 128 2 4 1 0
    ∷ row 8 64 2 2 1 0
    ∷ row 9 32 1 1 0 0
    ∷ row 10 16 1 1 0 0
    ∷ row 11 8 1 1 0 0
    ∷ row 12 4 1 1 0 0
    ∷ []

-- a block of class i has room for its header and n words
abbrev pub holds : ℕ → ℕ → Bool
holds n i = leb (4 * (n + 1)) (2 ^ i)

-- "The class for n is the smallest i of at least 3 with 4(n + 1) not above 2^i." Among the n + 1 numbers from 3 on there is always one.
unfoldable pub class_of : ℕ → ℕ
class_of n = first_from 3 (n + 1) (holds n)
