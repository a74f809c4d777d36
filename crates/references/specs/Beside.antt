-- 32 blocks that stand side by side, and their references field by field.
-- Assumes nothing.
use Rattle.std.specs.Prelude.{ℕ, ◌+◌, ◌-◌, ◌*◌, ◌≤◌, ◌<◌, ◌≡◌, ◌≢◌, Bool, true, false, Option, MatchOption, cond, ◌&&◌, List, length, eqb, ltb}
use Rattle.model.specs.Below.{all_below}
use Rattle.model.specs.Word.{word, part}
use Rattle.model.specs.Class.{block_words}
use Rattle.model.specs.View.{r_in, reference_in}
use Rattle.taken.specs.Row.{all_words}
use Rattle.references.specs.Gather.{header_right, references_in}

-- blocks of 2 or 4 words
pub record Beside (words : List ℕ) (size : ℕ) : Type 0 where
  pub some : 2 ≤ size
  pub few : size ≤ 4
  pub long : length words ≡ 32 * size

-- block k of them
abbrev pub beside : List ℕ → ℕ → ℕ → List ℕ
beside words size k = part words (size * k) size

-- reference f of a block, and 0 if it has none
unfoldable pub reference_or_none : List ℕ → ℕ → ℕ
reference_or_none b f = cond (ltb f (r_in b)) (reference_in b f) 0

-- ---- putting the references of one block, and of all

-- block b at place k
pub record Fields (b : List ℕ) (size k room : ℕ) : Type 0 where
  pub some : 2 ≤ size
  pub few : size ≤ 4
  pub own : length b ≡ size
  pub block : k < 32
  pub enough : 32 * (size - 1) ≤ room

-- its first n references are put, and no other word is changed
pub record FieldsPut (b : List ℕ) (k n : ℕ) (rest rest' : List ℕ) : Type 0 where
  pub others : (o : ℕ) → ((f : ℕ) → f < n → o ≢ 32 * f + k) → word rest' o ≡ word rest o
  pub fields : (f : ℕ) → f < n → word rest' (32 * f + k) ≡ reference_or_none b f

-- asked to put them
pub record Columns (words : List ℕ) (size room : ℕ) : Type 0 where
  pub beside : Beside words size
  pub enough : 32 * (size - 1) ≤ room

-- those of the first n blocks are put, and `wrong` of their headers are not right
pub record InColumns (i : ℕ) (words : List ℕ) (size n : ℕ) (rest : List ℕ) (wrong : ℕ) : Type 0 where
  pub fields : (f k : ℕ) → f + 1 < size → k < n → word rest (32 * f + k) ≡ reference_or_none (beside words size k) f
  pub headers : eqb wrong 0 ≡ all_below n (λ k. header_right i (beside words size k))

-- asked for 32 blocks of class i, and what they add to the references that are gathered already
pub record AddingBeside (i : ℕ) (words : List ℕ) (size : ℕ) (refs : List ℕ) : Type 0 where
  pub beside : Beside words size
  pub own : block_words i ≡ size
  pub room : length refs + 32 * (size - 1) ≤ 4096

pub record PutBeside (i : ℕ) (words : List ℕ) (size : ℕ) (refs refs' : List ℕ) : Type 0 where
  pub headers : all_below 32 (λ k. header_right i (beside words size k)) ≡ true
  pub counted : length refs' ≡ length refs + 32 * (size - 1)
  pub tests : (p : ℕ → Bool) → p 0 ≡ true → all_words p refs' ≡ (all_words p refs && all_below 32 (λ k. all_words p (references_in (beside words size k))))

abbrev pub AddedBeside : ℕ → List ℕ → ℕ → List ℕ → Option (List ℕ) → Type 0
AddedBeside i words size refs added = MatchOption added (all_below 32 (λ k. header_right i (beside words size k)) ≡ false) (PutBeside i words size refs)
