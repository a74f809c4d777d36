-- What giving a block asks, and the words that it leaves.
-- Assumes nothing.
use Rattle.std.specs.Prelude.{ℕ, ◌+◌, ◌-◌, ◌≤◌, ◌<◌, ◌≡◌, true, false, List, [], ◌∷◌, length, replicate}
use Rattle.model.specs.Word.{put}
use Rattle.model.specs.Class.{is_class, blocks, block_words, class_of}
use Rattle.model.specs.Layout.{arena_length, place_at, place_word, block_at, header_word}
use Rattle.model.specs.View.{segments}
use Rattle.model.specs.Sound.{sound}
use Rattle.model.specs.Calls.{class_has_untaken, has_pool}
use Rattle.model.specs.declared.Shape.{Shape}
use Rattle.allocation.specs.declared.find.Spot.{Spot}
use Rattle.allocation.specs.Spots.{Given}

-- ---- what is asked

pub record Cleared (block : List ℕ) (shape : Shape) : Type 0 where
  pub some : 0 < length block
  pub n_fits : shape.n < 4096
  pub r_fits : shape.r < 4096

-- a segment of an arena, a class and a rank
pub record Join (ws : List ℕ) (s i q : ℕ) : Type 0 where
  pub few : segments ws ≤ 64
  pub long : length ws ≡ arena_length (segments ws)
  pub there : s < segments ws
  pub class : is_class i ≡ true
  pub ranked : q < 256

-- a block of a class in an arena of N segments
pub record Take (ws : List ℕ) (N i : ℕ) (spot : Spot) (shape : Shape) : Type 0 where
  pub few : N ≤ 64
  pub long : length ws ≡ arena_length N
  pub there : spot.segment < N
  pub low : 3 ≤ i
  pub high : i ≤ 12
  pub ranked : spot.rank < 256
  pub inside : spot.index.0 < blocks i
  pub n_fits : shape.n < 4096
  pub r_fits : shape.r < 4096

-- the shape of a block of class i, which is to be given in a sound arena
pub record GiveHere (ws : List ℕ) (i : ℕ) (spot : Spot) (shape : Shape) : Type 0 where
  pub is_sound : sound ws ≡ true
  pub small : shape.n ≤ 1023
  pub within : shape.r ≤ shape.n
  pub class : i ≡ class_of shape.n
  pub some : class_has_untaken ws i ≡ true
  pub given : Given ws i spot

pub record GiveJoining (ws : List ℕ) (i : ℕ) (spot : Spot) (shape : Shape) : Type 0 where
  pub is_sound : sound ws ≡ true
  pub small : shape.n ≤ 1023
  pub within : shape.r ≤ shape.n
  pub class : i ≡ class_of shape.n
  pub none : class_has_untaken ws i ≡ false
  pub pool : has_pool ws ≡ true
  pub given : Given ws i spot

-- neither refusal 2 nor refusal 3 applies
pub record Allowed (ws : List ℕ) (n r : ℕ) : Type 0 where
  pub is_sound : sound ws ≡ true
  pub small : n ≤ 1023
  pub within : r ≤ n

-- ---- what is left

-- a block's own words once it is given
abbrev pub given_block : ℕ → Shape → List ℕ
given_block i shape = header_word shape.n shape.r shape.tag ∷ replicate (block_words i - 1) 0

-- the arena with that block, and the place behind it
abbrev pub taken_words : List ℕ → ℕ → ℕ → Spot → Shape → List ℕ
taken_words ws N i spot shape =
    let with_block = put ws (block_at N spot.segment i spot.index.0) (given_block i shape) in
    put with_block (place_at i) (place_word spot.rank (spot.index.0 + 1) ∷ [])
