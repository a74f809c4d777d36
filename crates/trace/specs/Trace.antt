-- The trace: what it asks, what one turn does, and what it leaves.
-- Assumes nothing.
use Rattle.std.specs.Prelude.{ℕ, ◌+◌, ◌-◌, ◌*◌, ◌<◌, ◌≤◌, ◌≡◌, true, List, length, get_or, take, drop}
use Rattle.model.specs.Below.{all_below}
use Rattle.model.specs.View.{segments}
use Rattle.model.specs.Standing.{is_taken, none_or_taken, taken_count}
use Rattle.model.specs.Sound.{sound}
use Rattle.model.specs.Ways.{Listing, drawing}
use Rattle.ways.proofs.Listed.{Distinct}
use Rattle.ways.proofs.Put.{put_all}
use Rattle.ways.proofs.Run.{gathered}
use Rattle.arena.specs.Rows.{Marked}
use Rattle.trace.specs.Gather.{references_of}
use Rattle.trace.specs.List.{On}

-- a sound arena, roots that are each 0 or a taken block, a list with room for every taken block, a row with a mark for every handle, and how many
-- blocks are taken
pub record Traceable (ws roots list marks : List ℕ) (most : ℕ) : Type 0 where
  pub right : sound ws ≡ true
  pub right_roots : all_below (length roots) (λ p. none_or_taken ws (get_or roots p 0)) ≡ true
  pub room : taken_count ws ≤ length list
  pub row : 1 + 64 * segments ws ≤ length marks
  pub all : most ≡ taken_count ws

-- "The first c words of the work list hold their handles in the order of demand 3, the later ones are unchanged." And exactly these are marked.
pub record Traced (ws roots list : List ℕ) (c : ℕ) (list' marks' : List ℕ) : Type 0 where
  pub same_length : length list' ≡ length list
  pub within : c ≤ length list
  pub listing : Listing (drawing ws roots) (take c list')
  pub later : drop c list' ≡ drop c list
  pub marked : Marked (segments ws) marks' (take c list')

-- ---- one turn

-- distinct taken blocks
pub record Listed (ws L : List ℕ) : Type 0 where
  pub distinct : Distinct L
  pub taken : (k : ℕ) → k < length L → is_taken ws (get_or L k 0) ≡ true

-- the queue is what stands in the list from the head to the tail
pub record Turn (ws list : List ℕ) (head tail : ℕ) (marks row : List ℕ) : Type 0 where
  pub right : sound ws ≡ true
  pub some : head < tail
  pub within : tail ≤ length list
  pub room : taken_count ws ≤ length list
  pub long : 1 + 64 * segments ws ≤ length marks
  pub wide : 1023 ≤ length row
  pub its_list : Listed ws (take tail list)
  pub its_marks : Marked (segments ws) marks (take tail list)

-- the references of the blocks that were taken off have been put on
pub record Turned (ws list : List ℕ) (head tail head' tail' : ℕ) (list' marks' : List ℕ) : Type 0 where
  pub more : head < head'
  pub within : head' ≤ tail
  pub on : On (segments ws) (put_all (take tail list) (gathered (references_of ws) (take tail list) head (head' - head))) list tail' list' marks'
