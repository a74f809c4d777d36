-- An arena with other records in the place of its first ones, and the new records.
-- Assumes nothing.
use Rattle.std.specs.Prelude.{ℕ, ◌+◌, ◌*◌, ◌≤◌, ◌<◌, ◌≡◌, ◌⊎◌, true, cond, List, ◌∷◌, ◌++◌, length, take, drop, replicate, eqb}
use Rattle.model.specs.Below.{lists_below}
use Rattle.model.specs.Word.{word, field}
use Rattle.model.specs.Class.{is_class}
use Rattle.model.specs.Layout.{arena_length, record_at, level_rows}
use Rattle.model.specs.View.{segments}
use Rattle.ranking.specs.Live.{mark_in}

-- the words with f 0, .., f (n - 1) in the place of the first n records
unfoldable pub with_records : List ℕ → ℕ → (ℕ → List ℕ) → List ℕ
with_records ws n f = take 11 ws ++ (lists_below n f ++ drop (record_at n) ws)

-- the record with that head and the bits of those marks; with head 0 it is the pool's
unfoldable pub marked_record : ℕ → List ℕ → List ℕ
marked_record head marks = cond (eqb head 0) (replicate 68 0) (head ∷ level_rows (field 0 4 head) (mark_in marks))

-- a head is 0 or has a class
abbrev pub Head : ℕ → Type 0
Head head = (head ≡ 0) ⊎ (is_class (field 0 4 head) ≡ true)

pub record MarkedRecord (rec : List ℕ) (head : ℕ) (marks : List ℕ) : Type 0 where
  pub long : length rec ≡ 68
  pub right : Head head
  pub row : length marks ≡ 64

pub record WriteRecord (ws : List ℕ) (s head : ℕ) (marks : List ℕ) : Type 0 where
  pub few : segments ws ≤ 64
  pub long : length ws ≡ arena_length (segments ws)
  pub there : s < segments ws
  pub right : Head head
  pub row : 1 + 64 * segments ws ≤ length marks

pub record WriteRecords (ws heads marks : List ℕ) : Type 0 where
  pub few : segments ws ≤ 64
  pub long : length ws ≡ arena_length (segments ws)
  pub right : (s : ℕ) → s < segments ws → Head (word heads s)
  pub row : 1 + 64 * segments ws ≤ length marks
