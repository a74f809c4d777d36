-- What a line is answered, and the arena and the list after it: those of the call that it means. "A bad line changes nothing."
-- Assumes nothing.
use Rattle.std.specs.Prelude.{ℕ, ◌≡◌, List, Ok, Err}
use Rattle.lines.specs.Line.{Meaning, allocates, links, collects, bad}
use Rattle.model.specs.Calls.{Allocate, WriteReference, Collect}
use Rattle.model.specs.Numbers.{Allocated, Written, Collected}
use Rattle.typed.specs.declared.Answer.{Answer}
use Rattle.typed.specs.declared.Answer.TheVariants as answer

-- the answer to a line with that meaning
abbrev pub Obeyed : Meaning → List ℕ → List ℕ → Answer → List ℕ → List ℕ → Type 0
Obeyed (allocates n r tag) ws list x ws' list' = (a : Allocated) × (x ≡ answer.Allocated a) × Allocate ws n r tag a ws' × (list' ≡ list)
Obeyed (links h f v) ws list x ws' list' = (a : Written) × (x ≡ answer.Written a) × WriteReference ws h f v a ws' × (list' ≡ list)
Obeyed (collects roots) ws list x ws' list' = (a : Collected) × (x ≡ answer.Collected a) × Collect ws roots list a ws' list'
Obeyed bad ws list x ws' list' = (x ≡ answer.BadLine) × (ws' ≡ ws) × (list' ≡ list)

-- some answer was given to it
pub record Answered (m : Meaning) (ws list ws' list' : List ℕ) : Type 0 where
  pub answer : Answer
  pub obeyed : Obeyed m ws list answer ws' list'

-- so many handles of the list an answer speaks of
abbrev pub live_count : Collected → ℕ
live_count (Ok c) = c
live_count (Err e) = 0

abbrev pub listed_count : Answer → ℕ
listed_count (answer.Allocated a) = 0
listed_count (answer.Written a) = 0
listed_count (answer.Collected a) = live_count a
listed_count answer.BadLine = 0
