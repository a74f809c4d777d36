-- Words, fields and bits. "Fields in a word are packed most significant first; bits not named are 0. Bitmaps are the exception: bit k of a
-- bitmap is bit k mod 32, counted from the least significant, of word k div 32."
-- Assumes nothing.
use Rattle.std.specs.Prelude.{ℕ, ◌+◌, ◌-◌, ◌*◌, ◌/◌, ◌%◌, ◌^◌, Bool, cond, List, ◌++◌, length, get_or, take, drop, eqb}
use Rattle.model.specs.Below.{sum_below}

-- word number o
abbrev pub word : List ℕ → ℕ → ℕ
word ws o = get_or ws o 0

-- the n words from number o on
abbrev pub part : List ℕ → ℕ → ℕ → List ℕ
part ws o n = take n (drop o ws)

-- the words with xs in the place of as many words from number o on
abbrev pub put : List ℕ → ℕ → List ℕ → List ℕ
put ws o xs = take o ws ++ (xs ++ drop (o + length xs) ws)

-- the field of `size` bits that stands behind the first `before` bits of a word
abbrev pub field : ℕ → ℕ → ℕ → ℕ
field before size w = w / 2 ^ (32 - (before + size)) % 2 ^ size

-- the word in which that field is v and all else is 0
abbrev pub field_word : ℕ → ℕ → ℕ → ℕ
field_word before size v = v * 2 ^ (32 - (before + size))

-- what a word holds behind its first `named` bits
abbrev pub unnamed : ℕ → ℕ → ℕ
unnamed named w = w % 2 ^ (32 - named)

-- bit b of a word, counted from the least significant, is 1
abbrev pub bit : ℕ → ℕ → Bool
bit w b = eqb (w / 2 ^ b % 2) 1

-- the word of 32 ones, and whether a word is that
abbrev pub ones : ℕ
ones = 0xFFFF_FFFF

abbrev pub full : ℕ → Bool
full w = eqb w ones

-- the word of which bit b is 1 exactly if f b is true
unfoldable pub word_of_bits : (ℕ → Bool) → ℕ
word_of_bits f = sum_below 32 (λ b. cond (f b) (2 ^ b) 0)
