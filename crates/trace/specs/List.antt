-- The list of a trace: its first words are the handles that have been put on, each block once, and these are marked.
-- Assumes nothing.
use Rattle.std.specs.Prelude.{ℕ, ◌+◌, ◌*◌, ◌<◌, ◌≤◌, ◌≡◌, false, List, [], ◌++◌, length, get_or, take, drop}
use Rattle.ways.proofs.Put.{put_on, put_all}
use Rattle.arena.specs.Rows.{row_bit, Marked}
use Rattle.trace.specs.Marks.{Row}

-- the first c words of the list are L, the later ones are as before, and the marks are those of L
pub record On (N : ℕ) (L list : List ℕ) (c : ℕ) (list' marks' : List ℕ) : Type 0 where
  pub within : c ≤ length list'
  pub first : take c list' ≡ L
  pub later : drop c list' ≡ drop c list
  pub marks : Marked N marks' L

-- ---- one root

pub record Root (h : ℕ) (list : List ℕ) (c : ℕ) (marks : List ℕ) : Type 0 where
  pub row : Row marks h
  pub within : c ≤ length list
  pub room : row_bit marks h ≡ false → c < length list

abbrev pub PutRoot : ℕ → List ℕ → ℕ → List ℕ → ℕ → List ℕ → List ℕ → Type 0
PutRoot h list c marks c' list' marks' =
    (N : ℕ) → h ≤ 2048 * N → Marked N marks (take c list) → On N (put_on (take c list) h) list c' list' marks'

-- ---- all roots, in turn

pub record Roots (N : ℕ) (roots list marks : List ℕ) : Type 0 where
  pub long : 1 + 64 * N ≤ length marks
  pub inside : (p : ℕ) → p < length roots → get_or roots p 0 ≤ 2048 * N
  pub room : (p : ℕ) → p ≤ length roots → length (put_all [] (take p roots)) ≤ length list

-- ---- a row of handles

-- each of the first `end` words of a row has a place in the marks
pub record Handles (row : List ℕ) (end : ℕ) (marks : List ℕ) : Type 0 where
  pub within : end ≤ length row
  pub inside : (k : ℕ) → k < end → Row marks (get_or row k 0)

-- of the first `end` words of a row those are kept, in turn, that are put on the list whose blocks are marked, and they are marked
pub record Kept (row : List ℕ) (end : ℕ) (marks : List ℕ) (kept : ℕ) (row' marks' : List ℕ) : Type 0 where
  pub within : kept ≤ end
  pub words : (N : ℕ) (L : List ℕ) → ((k : ℕ) → k < end → get_or row k 0 ≤ 2048 * N) → Marked N marks L →
      L ++ take kept row' ≡ put_all L (take end row)
  pub marked : (N : ℕ) (L : List ℕ) → ((k : ℕ) → k < end → get_or row k 0 ≤ 2048 * N) → Marked N marks L →
      Marked N marks' (put_all L (take end row))
