-- Arena layout: where head, places, records, levels and blocks stand, and the handle formula.
-- Assumes nothing.
use Rattle.std.specs.Prelude.{ℕ, zero, suc, ◌+◌, ◌-◌, ◌*◌, ◌/◌, ◌%◌, Bool, cond, ◌||◌, List, ◌∷◌, ◌++◌, leb, ltb}
use Rattle.model.specs.Below.{words_below}
use Rattle.model.specs.Word.{field_word, full, word_of_bits}
use Rattle.model.specs.Class.{block_words, level_words, level_end}

-- the length of an arena of N segments
abbrev pub arena_length : ℕ → ℕ
arena_length N = 11 + 4164 * N

-- word 0 of it
abbrev pub arena_head : ℕ → ℕ
arena_head N = field_word 0 8 N

-- words 1 to 10 are the places of classes 3 to 12
abbrev pub place_at : ℕ → ℕ
place_at i = i - 2

abbrev pub place_word : ℕ → ℕ → ℕ
place_word rank index = field_word 0 8 rank + field_word 8 12 index

-- then N records of 68 words
abbrev pub record_at : ℕ → ℕ
record_at s = 11 + 68 * s

abbrev pub record_head : ℕ → ℕ → ℕ → ℕ
record_head class rank count = field_word 0 4 class + field_word 4 8 rank + field_word 12 12 count

-- in a record, where a level begins, and for how many words it has room
abbrev pub level_at : ℕ → ℕ
level_at zero = 1
level_at (suc zero) = 65
level_at (suc (suc l)) = 67

abbrev pub level_room : ℕ → ℕ
level_room zero = 64
level_room (suc zero) = 2
level_room (suc (suc l)) = 1

-- Word j of a level of so many words and so many bits, of which `set` tells which are 1. "Bits past the end of a level in a used word are 1, so
-- a padded word can be full. Unused words are 0."
abbrev pub padded_word : ℕ → ℕ → (ℕ → Bool) → ℕ → ℕ
padded_word words end set j =
    let used = word_of_bits (λ b. leb end (32 * j + b) || set (32 * j + b)) in cond (ltb j words) used 0

-- Word j of level l of a segment of class i whose level-0 bits are those of `set`. "A bit above level 0 is 1 exactly if its whole word one
-- level below is ones."
unfoldable pub level_word : ℕ → (ℕ → Bool) → ℕ → ℕ → ℕ
level_word i set zero j = padded_word (level_words i 0) (level_end i 0) set j
level_word i set (suc l) j = padded_word (level_words i (suc l)) (level_end i (suc l)) (λ k. full (level_word i set l k)) j

-- the 67 words of all its levels, and with them the 68 words of its record
unfoldable pub level_rows : ℕ → (ℕ → Bool) → List ℕ
level_rows i set = words_below 64 (level_word i set 0) ++ (words_below 2 (level_word i set 1) ++ words_below 1 (level_word i set 2))

abbrev pub record_words : ℕ → ℕ → ℕ → (ℕ → Bool) → List ℕ
record_words i rank count set = record_head i rank count ∷ level_rows i set

-- then N block areas of 4,096 words
abbrev pub area_at : ℕ → ℕ → ℕ
area_at N s = 11 + 68 * N + 4096 * s

-- the word offset of block k of a segment of class i
abbrev pub block_at : ℕ → ℕ → ℕ → ℕ → ℕ
block_at N s i k = area_at N s + block_words i * k

-- a block's header
abbrev pub header_word : ℕ → ℕ → ℕ → ℕ
header_word n r tag = field_word 0 12 n + field_word 12 12 r + field_word 24 8 tag

-- "A handle is segment x 2,048 + block index + 1."
abbrev pub handle : ℕ → ℕ → ℕ
handle s k = s * 2048 + k + 1

abbrev pub segment_of : ℕ → ℕ
segment_of h = (h - 1) / 2048

abbrev pub index_of : ℕ → ℕ
index_of h = (h - 1) % 2048
