-- The plain words of a block as a place in the arena: what `plain_words` answers, for a caller that cannot be handed a part.
-- Assumes nothing.
use Rattle.std.specs.Prelude.{ℕ, ◌+◌, ◌-◌, cond, List, [], ◌≡◌, eqb, Result, Ok, Err}
use Rattle.model.specs.Word.{part}
use Rattle.model.specs.View.{offset, block, n_in, r_in, plain_words_in}
use Rattle.model.specs.Numbers.{granted}
use Rattle.model.specs.Calls.{block_refusal}
use Rattle.model.specs.declared.Refusal.{Refusal}
use Rattle.drawing.specs.declared.place.Place.{Place}

-- the offset and the count that an answer gives, 0 on a refusal
abbrev pub first_word : Result Place Refusal → ℕ
first_word (Ok p) = p.at.0
first_word (Err e) = 0

abbrev pub word_count : Result Place Refusal → ℕ
word_count (Ok p) = p.count
word_count (Err e) = 0

-- on a grant the words behind the header and the references; on a refusal 0 and 0
pub record PlainPlace (ws : List ℕ) (h number at count : ℕ) : Type 0 where
  pub refusal : number ≡ block_refusal ws h granted
  pub first : at ≡ cond (eqb (block_refusal ws h granted) granted) (offset ws h + 1 + r_in (block ws h)) 0
  pub many : count ≡ cond (eqb (block_refusal ws h granted) granted) (n_in (block ws h) - r_in (block ws h)) 0
  pub words : part ws at count ≡ cond (eqb (block_refusal ws h granted) granted) (plain_words_in (block ws h)) []
