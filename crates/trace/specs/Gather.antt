-- Gathering: the references of a run of blocks, end to end in a row.
-- Assumes nothing.
use Rattle.std.specs.Prelude.{ℕ, ◌-◌, ◌<◌, ◌≤◌, ◌≡◌, true, List, length, get_or, take}
use Rattle.std.specs.Int.Bits.{bit_and}
use Rattle.model.specs.Below.{words_below, lists_below}
use Rattle.model.specs.View.{segments, block, r_in, reference_in}
use Rattle.model.specs.Standing.{is_taken}
use Rattle.model.specs.Sound.{sound}

-- ---- one block

-- the mask of the number of a block's words keeps each place among them
pub record Masked (block : List ℕ) : Type 0 where
  pub some : 0 < length block
  pub kept : (o : ℕ) → o < length block → bit_and o (length block - 1) ≡ o

-- there is room in a row for a block's references, and for eight words
pub record Room (block row : List ℕ) : Type 0 where
  pub masked : Masked block
  pub within : r_in block < length block
  pub room : r_in block ≤ length row
  pub eight : 8 ≤ length row

-- a row begins with references, so many
pub record Begins (references : List ℕ) (n : ℕ) (row : List ℕ) : Type 0 where
  pub count : n ≡ length references
  pub words : take n row ≡ references

-- with the first r of a block's references it does, for any r up to n
abbrev pub First : List ℕ → ℕ → List ℕ → Type 0
First block n row = (r : ℕ) → r ≤ n → r < length block → Begins (words_below r (reference_in block)) r row

-- the references of the block of a handle, in turn
abbrev pub references_of : List ℕ → ℕ → List ℕ
references_of ws h = words_below (r_in (block ws h)) (reference_in (block ws h))

-- the block of h is a taken block of a sound arena of N segments
pub record Taken (ws : List ℕ) (N h : ℕ) : Type 0 where
  pub right : sound ws ≡ true
  pub all : N ≡ segments ws
  pub taken : is_taken ws h ≡ true

-- ---- the blocks of a queue

-- each is a taken block of a sound arena of N segments
pub record Queued (ws : List ℕ) (N : ℕ) (queue : List ℕ) : Type 0 where
  pub right : sound ws ≡ true
  pub all : N ≡ segments ws
  pub taken : (k : ℕ) → k < length queue → is_taken ws (get_or queue k 0) ≡ true

-- the references of the first n, end to end
abbrev pub references_of_all : List ℕ → List ℕ → ℕ → List ℕ
references_of_all ws queue n = lists_below n (λ k. references_of ws (get_or queue k 0))

-- the references of the first `blocks` blocks, and of one at least, are the first `end` words of a row
pub record Gathered (ws queue : List ℕ) (blocks end : ℕ) (row : List ℕ) : Type 0 where
  pub some : 0 < length queue → 0 < blocks
  pub within : blocks ≤ length queue
  pub fits : end ≤ length row
  pub words : take end row ≡ references_of_all ws queue blocks
