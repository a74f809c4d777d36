-- What the judge gives: whether the words are a sound arena, and then its taken row.
-- Assumes nothing.
use Rattle.std.specs.Prelude.{ℕ, ◌≡◌, Bool, true, List}
use Rattle.model.specs.Sound.{sound}
use Rattle.taken.specs.Row.{TakenRow}

pub record Judged (ws row : List ℕ) (answer : Bool) : Type 0 where
  pub answered : answer ≡ sound ws
  pub taken : answer ≡ true → TakenRow ws row
