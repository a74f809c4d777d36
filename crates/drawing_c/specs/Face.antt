-- What a C caller is told: the number and the values of an answer that meets the promise of its call.
-- Assumes nothing.
use Rattle.std.specs.Prelude.{ℕ, List, ◌≡◌}
use Rattle.model.specs.Numbers.{Paper}

abbrev pub says : ℕ → List ℕ → Paper
says e vs = record { number = e; values = vs }

-- The function's result is the number, and its out-parameters at exit are the values: on a refusal all of them are 0.
pub record Told {A : Type 0} (on_paper : A → Paper) (promise : A → Type 0) (number : ℕ) (values : List ℕ) : Type 0 where
  pub answer : A
  pub promised : promise answer
  pub told : on_paper answer ≡ says number values
