-- Taken, and the standing of a handle.
-- Assumes nothing.
use Rattle.std.specs.Prelude.{ℕ, ◌+◌, ◌*◌, Bool, not, cond, ◌&&◌, ◌||◌, List, eqb, ltb}
use Rattle.model.specs.Below.{count_below}
use Rattle.model.specs.Class.{blocks}
use Rattle.model.specs.Layout.{segment_of, index_of}
use Rattle.model.specs.View.{segments, place_rank, place_index, class, rank, bit_of, block, n_in, r_in, tag_in}
use Rattle.model.specs.declared.Shape.{Shape}
use Rattle.model.specs.declared.Standing.{Standing}
use Rattle.model.specs.declared.Standing.TheVariants.{None, Outside, Free, Taken}

-- the segment is in the pool
abbrev pub in_pool : List ℕ → ℕ → Bool
in_pool ws s = eqb (class ws s) 0

-- there is a block k of segment s: such a segment, not in the pool, and an index that is not past the class's blocks
unfoldable pub is_block : List ℕ → ℕ → ℕ → Bool
is_block ws s k = ltb s (segments ws) && (not (in_pool ws s) && ltb k (blocks (class ws s)))

-- "A block is taken if its segment's rank is below the place's rank; or equal to it, with an index below the place's index; or if its bit is
-- set."
unfoldable pub before_place : List ℕ → ℕ → ℕ → Bool
before_place ws s k =
    ltb (rank ws s) (place_rank ws (class ws s))
    || (eqb (rank ws s) (place_rank ws (class ws s)) && ltb k (place_index ws (class ws s)))

unfoldable pub taken_at : List ℕ → ℕ → ℕ → Bool
taken_at ws s k = is_block ws s k && (before_place ws s k || bit_of ws s k)

-- the same of a handle
unfoldable pub is_taken : List ℕ → ℕ → Bool
is_taken ws h = not (eqb h 0) && taken_at ws (segment_of h) (index_of h)

-- 0 or the handle of a taken block
abbrev pub none_or_taken : List ℕ → ℕ → Bool
none_or_taken ws h = eqb h 0 || is_taken ws h

-- the number of taken blocks: handles 1 to 2,048 N are all that a segment can have
unfoldable pub taken_count : List ℕ → ℕ
taken_count ws = count_below (2048 * segments ws) (λ x. is_taken ws (x + 1))

-- the shape that a block's own words give, and that of the block of a handle
abbrev pub shape_in : List ℕ → Shape
shape_in b = record { n = n_in b; r = r_in b; tag = tag_in b }

abbrev pub shape_of : List ℕ → ℕ → Shape
shape_of ws h = shape_in (block ws h)

-- "The standing of a handle is none, outside (no such segment, a pool segment, or an index past the class's blocks), free, or taken with the
-- block's n, r and tag."
unfoldable pub standing_of : List ℕ → ℕ → Standing
standing_of ws h =
    cond (eqb h 0) None
    (cond (is_block ws (segment_of h) (index_of h)) (cond (taken_at ws (segment_of h) (index_of h)) (Taken (shape_of ws h)) Free) Outside)
