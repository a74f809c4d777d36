-- The hand program's run of document 01, computed from the promises: which blocks are given, and what the two collections leave.
-- Assumes nothing.
use Prim.Native.Nat.{ℕ, ◌+◌}
use mathlib.Core.Path.{◌≡◌, refl}
use mathlib.Core.Bool.{Bool, true}
use mathlib.Core.List.{List, [], ◌∷◌, map}
use lib.ListN.{replicate}
use Rattle.model.specs.Below.{all_below, count_below, sum_below, lists_below, first_from}
use Rattle.model.specs.Word.{put, word_of_bits}
use Rattle.model.specs.Class.{level_words, level_end, class_of}
use Rattle.model.specs.Layout.{level_word, level_rows, handle, segment_of, index_of}
use Rattle.model.specs.View.{record_of, members, ranked, block_of, offset}
use Rattle.model.specs.Standing.{in_pool, is_block, before_place, taken_at, is_taken}
use Rattle.model.specs.Sound.{sound, sized, unnamed_zero, classes, ranks, levels, levels_right, counts, behind, places, place_right, block_right, taken_right}
use Rattle.model.specs.Ways.{listed}
use Rattle.model.specs.Calls.{fresh, allocated, first_untaken, has_untaken, first_rank, class_has_untaken, first_pool, given_segment, given_rank, given_index, joined, live, stays, stays_full, staying, staying_full, ranked_before, new_rank, new_record, new_place, collected}

-- with all definitions that they name: to unfold this is to unfold those
opened : List ℕ → List ℕ → ℕ → ℕ → ℕ → Bool
unfolding sound sized unnamed_zero classes ranks levels levels_right counts behind places place_right block_right taken_right all_below count_below sum_below lists_below first_from record_of members ranked block_of is_block before_place taken_at is_taken level_word level_rows level_words level_end word_of_bits class_of allocated first_untaken has_untaken first_rank class_has_untaken first_pool given_segment given_rank given_index joined listed live stays stays_full staying staying_full ranked_before new_rank new_record new_place collected
opened ws L n r tag = sound (collected (allocated ws n r tag) L)

-- the handle that allocating n gives
abbrev given : List ℕ → ℕ → ℕ
given ws n = handle (given_segment ws (class_of n)) (given_index ws (class_of n))

abbrev linked : List ℕ → ℕ → ℕ → ℕ → List ℕ
linked ws h f v = put ws (offset ws h + 1 + f) (v ∷ [])

-- the arena after each line that changes it
abbrev panel : List ℕ
panel = allocated (fresh 2) 3 2 7

abbrev panel_leaf : List ℕ
panel_leaf = allocated panel 1 0 1

abbrev panel_leaves : List ℕ
panel_leaves = linked (linked (allocated panel_leaf 1 0 2) 1 0 2050) 1 1 2049

abbrev first_kept : List ℕ
first_kept = collected panel_leaves (1 ∷ 2050 ∷ 2049 ∷ [])

abbrev one_leaf : List ℕ
one_leaf = linked (allocated first_kept 1 0 3) 1 0 0

abbrev second_kept : List ℕ
second_kept = collected one_leaf (1 ∷ 2049 ∷ [])

abbrev all_freed : List ℕ
all_freed = collected (allocated second_kept 1 0 4) []

-- block 1, 2049, 2050, then 2051, 2050 and 1
pub blocks_given :
    given (fresh 2) 3 ∷ given panel 1 ∷ given panel_leaf 1 ∷ given first_kept 1 ∷ given second_kept 1 ∷ given all_freed 1023 ∷ []
    ≡ 1 ∷ 2049 ∷ 2050 ∷ 2051 ∷ 2050 ∷ 1 ∷ []
unfolding opened
blocks_given = refl

-- each arena on the way is sound
pub sound_throughout :
    map sound (panel ∷ panel_leaf ∷ panel_leaves ∷ first_kept ∷ one_leaf ∷ second_kept ∷ []) ≡ replicate 6 true
unfolding opened
sound_throughout = refl

-- at the end both segments are in the pool
pub all_pooled : map (in_pool all_freed) (0 ∷ 1 ∷ []) ≡ true ∷ true ∷ []
unfolding opened
all_pooled = refl

-- the handle formula, there and back
pub handles : map (λ h. handle (segment_of h) (index_of h)) (1 ∷ 2048 ∷ 2049 ∷ 2051 ∷ 131072 ∷ []) ≡ 1 ∷ 2048 ∷ 2049 ∷ 2051 ∷ 131072 ∷ []
handles = refl
