-- A sound arena, clause by clause as document 01 has them.
-- Assumes nothing.
use Rattle.std.specs.Prelude.{ℕ, ◌+◌, Bool, not, ◌&&◌, ◌||◌, List, length, eqb, leb, ltb}
use Rattle.model.specs.Below.{all_below, count_below}
use Rattle.model.specs.Word.{word, unnamed}
use Rattle.model.specs.Class.{is_class, every_class, blocks, class_of}
use Rattle.model.specs.Layout.{arena_length, place_at, level_at, level_room, level_word}
use Rattle.model.specs.View.{segments, place_rank, place_index, record_of, bit_in, class, rank, count, bit_of, members, block_of, n_in, r_in, reference_in}
use Rattle.model.specs.Standing.{in_pool, taken_at, none_or_taken}

-- every segment passes p; every segment that is not in the pool does
abbrev pub every_segment : List ℕ → (ℕ → Bool) → Bool
every_segment ws p = all_below (segments ws) p

abbrev pub every_member : List ℕ → (ℕ → Bool) → Bool
every_member ws p = every_segment ws (λ s. in_pool ws s || p s)

-- "N is the number of segments, 1 to 64. Length is exactly 11 + 4,164 N words."
unfoldable pub sized : List ℕ → Bool
sized ws = leb 1 (segments ws) && (leb (segments ws) 64 && eqb (length ws) (arena_length (segments ws)))

-- "Bits not named are 0": word 0, the places, the record heads
unfoldable pub unnamed_zero : List ℕ → Bool
unnamed_zero ws =
    eqb (unnamed 8 (word ws 0)) 0
    && (every_class (λ i. eqb (unnamed 20 (word ws (place_at i))) 0) && every_segment ws (λ s. eqb (unnamed 24 (word (record_of ws s) 0)) 0))

-- "Class 0 means that the segment is in the pool; its whole record is then 0."
unfoldable pub classes : List ℕ → Bool
classes ws =
    every_member ws (λ s. is_class (class ws s))
    && every_segment ws (λ s. not (in_pool ws s) || all_below 68 (λ j. eqb (word (record_of ws s) j) 0))

-- "The m segments of a class have ranks 0 to m - 1, each once."
unfoldable pub ranks : List ℕ → Bool
ranks ws =
    every_class (λ i. all_below (members ws i) (λ q. eqb (count_below (segments ws) (λ s. eqb (class ws s) i && eqb (rank ws s) q)) 1))

-- "Levels, padding and unused words as above": all words of a record's levels are those of its class and its level-0 bits
unfoldable pub levels_right : ℕ → List ℕ → Bool
levels_right i rec =
    all_below 3 (λ l. all_below (level_room l) (λ j. eqb (word rec (level_at l + j)) (level_word i (bit_in rec) l j)))

unfoldable pub levels : List ℕ → Bool
levels ws = every_member ws (λ s. levels_right (class ws s) (record_of ws s))

-- "Count is the number of set level-0 bits, padding excluded."
unfoldable pub counts : List ℕ → Bool
counts ws = every_member ws (λ s. eqb (count ws s) (count_below (blocks (class ws s)) (bit_of ws s)))

-- "A segment ranked behind the place has count below its number of blocks."
unfoldable pub behind : List ℕ → Bool
behind ws = every_member ws (λ s. leb (rank ws s) (place_rank ws (class ws s)) || ltb (count ws s) (blocks (class ws s)))

-- "With m = 0 the place is (0, 0); otherwise its rank is below m and its index is at most the number of blocks."
unfoldable pub place_right : List ℕ → ℕ → Bool
place_right ws i =
    (eqb (members ws i) 0 && (eqb (place_rank ws i) 0 && eqb (place_index ws i) 0))
    || (ltb (place_rank ws i) (members ws i) && leb (place_index ws i) (blocks i))

unfoldable pub places : List ℕ → Bool
places ws = every_class (place_right ws)

-- "Every taken block has n whose class is the segment's, r not above n, and each reference 0 or the handle of a taken block."
unfoldable pub block_right : List ℕ → ℕ → List ℕ → Bool
block_right ws i b =
    eqb (class_of (n_in b)) i && (leb (r_in b) (n_in b) && all_below (r_in b) (λ f. none_or_taken ws (reference_in b f)))

unfoldable pub taken_right : List ℕ → Bool
taken_right ws =
    every_member ws (λ s. all_below (blocks (class ws s)) (λ k. not (taken_at ws s k) || block_right ws (class ws s) (block_of ws s k)))

unfoldable pub sound : List ℕ → Bool
sound ws =
    sized ws
    && (unnamed_zero ws && (classes ws && (ranks ws && (levels ws && (counts ws && (behind ws && (places ws && taken_right ws)))))))
