-- What the search for a block asks and finds.
-- Assumes nothing.
use Rattle.std.specs.Prelude.{ℕ, ◌-◌, ◌≤◌, ◌<◌, ◌≡◌, true, false, not, List, Option, Some, None, length, ltb}
use Rattle.std.specs.Bool.{then_some}
use Rattle.model.specs.Below.{first_from}
use Rattle.model.specs.Class.{is_class, blocks}
use Rattle.model.specs.Layout.{arena_length}
use Rattle.model.specs.View.{segments, bit_of, members, ranked}
use Rattle.model.specs.Sound.{sound}
use Rattle.model.specs.Calls.{class_has_untaken, has_pool, given_segment, given_rank, given_index}
use Rattle.allocation.specs.declared.find.Spot.{Spot}
use Rattle.allocation.specs.declared.find.Found.{Found}
use Rattle.allocation.specs.declared.find.Found.TheVariants.{Here, Joins}

-- ---- what is asked

-- the arena's length is that of its segments
pub record Whole (ws : List ℕ) : Type 0 where
  pub few : segments ws ≤ 64
  pub long : length ws ≡ arena_length (segments ws)

pub record Search (ws : List ℕ) (i : ℕ) : Type 0 where
  pub is_sound : sound ws ≡ true
  pub class : is_class i ≡ true

-- a rank of the class, and an index that may be the number of blocks
pub record FreeAt (ws : List ℕ) (i q k : ℕ) : Type 0 where
  pub is_sound : sound ws ≡ true
  pub class : is_class i ≡ true
  pub ranked : q < members ws i
  pub inside : k ≤ blocks i

-- the class has no untaken block, and q is its next rank
pub record Joining (ws : List ℕ) (i q : ℕ) : Type 0 where
  pub few : segments ws ≤ 64
  pub long : length ws ≡ arena_length (segments ws)
  pub none : class_has_untaken ws i ≡ false
  pub next : q ≡ members ws i

-- ---- what is found

-- a number below a bound, and none where it is the bound
abbrev pub below : ℕ → ℕ → Option ℕ
below n k = then_some (ltb k n) k

-- in the segment of rank q, the first block at or after k whose bit is 0
pub record Free (ws : List ℕ) (i q k : ℕ) (spot : Spot) : Type 0 where
  pub segment : spot.segment ≡ ranked ws i q
  pub rank : spot.rank ≡ q
  pub index : spot.index.0 ≡ first_from k (blocks i - k) (λ j. not (bit_of ws (ranked ws i q) j))

-- that block if it is one of the segment's, and none where every bit at or after k is 1
abbrev pub FindsFree : List ℕ → ℕ → ℕ → ℕ → Option Spot → Type 0
FindsFree ws i q k (Some spot) = Free ws i q k spot × (spot.index.0 < blocks i)
FindsFree ws i q k None = first_from k (blocks i - k) (λ j. not (bit_of ws (ranked ws i q) j)) ≡ blocks i

-- the block that document 01 says is given
pub record Given (ws : List ℕ) (i : ℕ) (spot : Spot) : Type 0 where
  pub segment : spot.segment ≡ given_segment ws i
  pub rank : spot.rank ≡ given_rank ws i
  pub index : spot.index.0 ≡ given_index ws i

-- it is a block of the class's own segments if there is an untaken one, and else of the lowest-numbered pool segment if there is one
abbrev pub Finds : List ℕ → ℕ → Option Found → Type 0
Finds ws i (Some (Here spot)) = (class_has_untaken ws i ≡ true) × Given ws i spot
Finds ws i (Some (Joins spot)) = (class_has_untaken ws i ≡ false) × (has_pool ws ≡ true) × Given ws i spot
Finds ws i None = (class_has_untaken ws i ≡ false) × (has_pool ws ≡ false)
