-- `sound` tells sound arenas from unsound ones: a made arena and some that calls leave are sound, and with a single clause broken none is.
-- Assumes nothing.
use Prim.Native.Nat.{ℕ, ◌+◌, ◌*◌, ◌^◌}
use mathlib.Core.Path.{◌≡◌, refl}
use mathlib.Core.Bool.{Bool, true, false}
use mathlib.Core.List.{List, [], ◌∷◌, ◌++◌, map}
use lib.ListN.{set, take, replicate, length}
use Rattle.model.specs.Below.{all_below, count_below, sum_below, lists_below, first_from}
use Rattle.model.specs.Word.{word_of_bits, ones}
use Rattle.model.specs.Class.{level_words, level_end, class_of}
use Rattle.model.specs.Layout.{level_word, level_rows, record_head, place_word, header_word}
use Rattle.model.specs.View.{record_of, members, ranked, block_of}
use Rattle.model.specs.Standing.{is_block, before_place, taken_at, is_taken}
use Rattle.model.specs.Sound.{sound, sized, unnamed_zero, classes, ranks, levels, levels_right, counts, behind, places, place_right, block_right, taken_right}
use Rattle.model.specs.Calls.{fresh, allocated, first_untaken, has_untaken, first_rank, class_has_untaken, first_pool, given_segment, given_rank, given_index, joined}

-- with all definitions that they name: to unfold this is to unfold those
opened : List ℕ → ℕ → ℕ → ℕ → Bool
unfolding sound sized unnamed_zero classes ranks levels levels_right counts behind places place_right block_right taken_right all_below count_below sum_below lists_below first_from record_of members ranked block_of is_block before_place taken_at is_taken level_word level_rows level_words level_end word_of_bits class_of allocated first_untaken has_untaken first_rank class_has_untaken first_pool given_segment given_rank given_index joined
opened ws n r tag = sound (allocated ws n r tag)

-- two blocks of class 12 in an arena of one segment, the first with two references
abbrev two : List ℕ
two = allocated (allocated (fresh 1) 1023 2 7) 1023 0 1

-- a block of class 3, whose levels are three
abbrev small : List ℕ
small = allocated (fresh 1) 1 1 0

-- `two` with both blocks collected
abbrev kept : List ℕ
kept = set (set (set two 11 (record_head 12 0 2)) 12 0xFFFF_FFF3) 10 (place_word 0 0)

-- the four blocks of a segment of class 12, and of a second one behind the place
abbrev four : List ℕ
four = allocated (allocated two 1023 0 0) 1023 0 0

abbrev pair : List ℕ
pair = allocated (allocated (fresh 2) 1023 0 0) 1023 0 0

abbrev behind_place : ℕ → ℕ → List ℕ
behind_place count bits =
    set (set (set (set (set (set pair 79 (record_head 12 1 count)) 80 bits) 4243 (header_word 1023 0 0)) 5267 (header_word 1023 0 0)) 6291 (header_word 1023 0 0)) 7315 (header_word 1023 0 0)

abbrev all_sound : List (List ℕ)
all_sound =
    fresh 1
    ∷ two
    ∷ small
    ∷ kept
    ∷ four
    -- references to none, to a taken block and to itself; any plain word and any tag
    ∷ set (set two 80 2) 81 1
    ∷ set (set two 1104 ones) 1103 (header_word 1023 0 255)
    -- a segment without a taken block, and a second segment behind the place that is not full
    ∷ set two 10 (place_word 0 0)
    ∷ behind_place 3 0xFFFF_FFF7
    ∷ []

abbrev none_sound : List (List ℕ)
none_sound =
    -- length and N
    []
    ∷ (two ++ (0 ∷ []))
    ∷ take 4174 two
    ∷ set two 0 0
    ∷ set two 0 (2 * 2 ^ 24)
    -- bits not named
    ∷ set two 0 (2 ^ 24 + 1)
    ∷ set two 1 1
    ∷ set two 11 (record_head 12 0 0 + 1)
    -- classes, and a pool record that is not 0
    ∷ set two 11 (record_head 2 0 0)
    ∷ set two 11 (record_head 13 0 0)
    ∷ set (fresh 1) 78 1
    -- ranks
    ∷ set two 11 (record_head 12 1 0)
    -- padding, unused words, levels, and a bit above a word that is not full
    ∷ set two 12 0
    ∷ set two 13 ones
    ∷ set four 76 1
    ∷ set small 76 1
    ∷ set small 78 ones
    -- count
    ∷ set two 11 (record_head 12 0 1)
    ∷ set kept 11 (record_head 12 0 3)
    -- a full segment behind the place
    ∷ behind_place 4 ones
    -- places
    ∷ set (fresh 1) 10 (place_word 0 1)
    ∷ set two 10 (place_word 1 0)
    ∷ set two 10 (place_word 0 5)
    -- a taken block's n, r and references
    ∷ set two 1103 (header_word 510 0 1)
    ∷ set two 1103 (header_word 1024 0 1)
    ∷ set two 79 (header_word 1022 1023 7)
    ∷ set two 80 3
    ∷ set two 81 2049
    ∷ set kept 81 ones
    ∷ []

pub sound_examples : map sound all_sound ≡ replicate (length all_sound) true
unfolding opened
sound_examples = refl

pub unsound_examples : map sound none_sound ≡ replicate (length none_sound) false
unfolding opened
unsound_examples = refl
