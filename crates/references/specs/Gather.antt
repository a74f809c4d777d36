-- What the judge gathers of a segment: whether the headers of its taken blocks are right, and the references of those blocks end to end.
-- Assumes nothing.
use Rattle.std.specs.Prelude.{ℕ, ◌+◌, ◌-◌, ◌*◌, ◌≤◌, ◌<◌, ◌≡◌, Bool, true, false, not, Option, MatchOption, cond, ◌&&◌, ◌||◌, List, [], ◌++◌, length, take, eqb, leb}
use Rattle.model.specs.Below.{all_below}
use Rattle.model.specs.Word.{part, bit}
use Rattle.model.specs.Class.{blocks, block_words, class_of}
use Rattle.model.specs.Layout.{block_at}
use Rattle.model.specs.View.{segments, class, block_of, n_in, r_in}
use Rattle.model.specs.Standing.{in_pool, taken_at}
use Rattle.model.specs.Sound.{block_right}
use Rattle.arena.specs.Inside.{Classed}
use Rattle.taken.specs.Row.{all_words, Member, TakenRow}

-- a header of class i: "n whose class is the segment's, r not above n"
unfoldable pub header_right : ℕ → List ℕ → Bool
header_right i b = eqb (class_of (n_in b)) i && leb (r_in b) (n_in b)

-- a block's references
abbrev pub references_in : List ℕ → List ℕ
references_in b = part b 1 (r_in b)

-- the same of block k of segment s, as far as it is taken
unfoldable pub headed : List ℕ → ℕ → ℕ → Bool
headed ws s k = not (taken_at ws s k) || header_right (class ws s) (block_of ws s k)

unfoldable pub references_of : List ℕ → ℕ → ℕ → List ℕ
references_of ws s k = cond (taken_at ws s k) (references_in (block_of ws s k)) []

-- block k of segment s is not taken, or all is right with it
unfoldable pub right_at : List ℕ → ℕ → ℕ → Bool
right_at ws s k = not (taken_at ws s k) || block_right ws (class ws s) (block_of ws s k)

-- all is right with the taken blocks of segment s
unfoldable pub segment_right : List ℕ → ℕ → Bool
segment_right ws s = in_pool ws s || all_below (blocks (class ws s)) (right_at ws s)

-- ---- what one block adds to the references that are gathered already

-- the first r words of those behind are the r words behind a block's header
pub record Copied (b : List ℕ) (r : ℕ) (rest : List ℕ) : Type 0 where
  pub words : take r rest ≡ part b 1 r

-- asked for a block's r references: there is room for all its words but the header
pub record Putting (b : List ℕ) (r room : ℕ) : Type 0 where
  pub some : 2 ≤ length b
  pub inside : r < length b
  pub enough : length b - 1 ≤ room

-- asked for a block whose header is not tested yet, and what that leaves
pub record Adding (i : ℕ) (b refs : List ℕ) : Type 0 where
  pub block : length b ≡ block_words i
  pub some : 2 ≤ block_words i
  pub room : length refs + (block_words i - 1) ≤ 4096

pub record Right (i : ℕ) (b refs refs' : List ℕ) : Type 0 where
  pub header : header_right i b ≡ true
  pub room : length refs' ≤ 4096
  pub few : length refs' ≤ length refs + (block_words i - 1)
  pub words : refs' ≡ refs ++ references_in b

abbrev pub Added : ℕ → List ℕ → List ℕ → Option (List ℕ) → Type 0
Added i b refs added = MatchOption added (header_right i b ≡ false) (Right i b refs)

-- ---- what the blocks of a segment below `end` give

-- with right headers, their references, and perhaps zeros: a test that 0 passes is passed by all of them exactly if all references pass it
pub record Gathered (ws : List ℕ) (s end : ℕ) (refs : List ℕ) : Type 0 where
  pub headers : all_below end (headed ws s) ≡ true
  pub room : length refs ≤ 4096
  pub few : length refs ≤ (block_words (class ws s) - 1) * end
  pub tests : (p : ℕ → Bool) → p 0 ≡ true → all_words p refs ≡ all_below end (λ k. all_words p (references_of ws s k))

-- and nothing where a header is wrong
abbrev pub GatheredBelow : List ℕ → ℕ → ℕ → Option (List ℕ) → Type 0
GatheredBelow ws s end gathered = MatchOption gathered (all_below end (headed ws s) ≡ false) (Gathered ws s end)

-- segment s, of class i, of an arena of N segments
pub record Of (ws : List ℕ) (N s i : ℕ) : Type 0 where
  pub all : N ≡ segments ws
  pub member : Member ws s i

-- asked for the taken block k, with the references of those before it
pub record AtBlock (ws : List ℕ) (s k : ℕ) (refs : List ℕ) : Type 0 where
  pub taken : taken_at ws s k ≡ true
  pub gathered : Gathered ws s k refs

-- asked for the 32 blocks of word j, with the references of those before them
pub record AtWord (ws : List ℕ) (s j w : ℕ) (refs : List ℕ) : Type 0 where
  pub inside : j < 64
  pub bits : (b : ℕ) → b < 32 → bit w b ≡ taken_at ws s (32 * j + b)
  pub gathered : Gathered ws s (32 * j) refs

-- asked for them where all are taken, and small
pub record AtFull (ws : List ℕ) (s i j : ℕ) (refs : List ℕ) : Type 0 where
  pub small : i ≤ 4
  pub inside : 32 * j + 32 ≤ blocks i
  pub taken : (b : ℕ) → b < 32 → taken_at ws s (32 * j + b) ≡ true
  pub gathered : Gathered ws s (32 * j) refs

-- asked for so many words from block k on
pub record From (ws : List ℕ) (N s i k count : ℕ) : Type 0 where
  pub inside : k < blocks i
  pub within : block_at N s i k + count ≤ length ws

-- asked to judge any segment
pub record Judging (ws row : List ℕ) (N s : ℕ) : Type 0 where
  pub classed : Classed ws
  pub taken : TakenRow ws row
  pub all : N ≡ segments ws
  pub there : s < N
