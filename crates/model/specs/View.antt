-- How an arena is read: segments, places, records with their bits, blocks with their header, references and plain words.
-- Assumes nothing.
use Rattle.std.specs.Prelude.{ℕ, ◌+◌, ◌-◌, ◌/◌, ◌%◌, Bool, ◌&&◌, List, eqb}
use Rattle.model.specs.Below.{count_below, first_below}
use Rattle.model.specs.Word.{word, part, field, bit}
use Rattle.model.specs.Class.{block_words}
use Rattle.model.specs.Layout.{place_at, record_at, level_at, block_at, segment_of, index_of}

-- N
abbrev pub segments : List ℕ → ℕ
segments ws = field 0 8 (word ws 0)

-- the allocation place of class i
abbrev pub place_rank : List ℕ → ℕ → ℕ
place_rank ws i = field 0 8 (word ws (place_at i))

abbrev pub place_index : List ℕ → ℕ → ℕ
place_index ws i = field 8 12 (word ws (place_at i))

-- a record's own words: class, rank, count, and bit k of level 0
unfoldable pub record_of : List ℕ → ℕ → List ℕ
record_of ws s = part ws (record_at s) 68

abbrev pub class_in : List ℕ → ℕ
class_in rec = field 0 4 (word rec 0)

abbrev pub rank_in : List ℕ → ℕ
rank_in rec = field 4 8 (word rec 0)

abbrev pub count_in : List ℕ → ℕ
count_in rec = field 12 12 (word rec 0)

abbrev pub bit_in : List ℕ → ℕ → Bool
bit_in rec k = bit (word rec (level_at 0 + k / 32)) (k % 32)

-- the same of segment s of an arena
abbrev pub class : List ℕ → ℕ → ℕ
class ws s = class_in (record_of ws s)

abbrev pub rank : List ℕ → ℕ → ℕ
rank ws s = rank_in (record_of ws s)

abbrev pub count : List ℕ → ℕ → ℕ
count ws s = count_in (record_of ws s)

abbrev pub bit_of : List ℕ → ℕ → ℕ → Bool
bit_of ws s k = bit_in (record_of ws s) k

-- m, the number of segments of class i, and the segment of rank q among them
unfoldable pub members : List ℕ → ℕ → ℕ
members ws i = count_below (segments ws) (λ s. eqb (class ws s) i)

unfoldable pub ranked : List ℕ → ℕ → ℕ → ℕ
ranked ws i q = first_below (segments ws) (λ s. eqb (class ws s) i && eqb (rank ws s) q)

-- a block's own words: n, r, tag, reference f and plain word f
abbrev pub n_in : List ℕ → ℕ
n_in b = field 0 12 (word b 0)

abbrev pub r_in : List ℕ → ℕ
r_in b = field 12 12 (word b 0)

abbrev pub tag_in : List ℕ → ℕ
tag_in b = field 24 8 (word b 0)

abbrev pub reference_in : List ℕ → ℕ → ℕ
reference_in b f = word b (1 + f)

abbrev pub plain_in : List ℕ → ℕ → ℕ
plain_in b f = word b (1 + r_in b + f)

abbrev pub plain_words_in : List ℕ → List ℕ
plain_words_in b = part b (1 + r_in b) (n_in b - r_in b)

-- where block k of segment s begins, and its words
abbrev pub block_offset : List ℕ → ℕ → ℕ → ℕ
block_offset ws s k = block_at (segments ws) s (class ws s) k

unfoldable pub block_of : List ℕ → ℕ → ℕ → List ℕ
block_of ws s k = part ws (block_offset ws s k) (block_words (class ws s))

-- the same of the block of a handle
abbrev pub offset : List ℕ → ℕ → ℕ
offset ws h = block_offset ws (segment_of h) (index_of h)

abbrev pub block : List ℕ → ℕ → List ℕ
block ws h = block_of ws (segment_of h) (index_of h)
