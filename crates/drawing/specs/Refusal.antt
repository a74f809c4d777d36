-- What is told by a function that may refuse: why, or what follows of a value where it does not.
-- Assumes nothing.
use Rattle.std.specs.Prelude.{ℕ, ◌≡◌, Bool, true, false, List, length, Result, Ok, Err}
use Rattle.model.specs.Standing.{taken_count}
use Rattle.model.specs.Numbers.{granted, refusal_number}
use Rattle.model.specs.Calls.{collect_refusal}
use Rattle.model.specs.declared.Refusal.{Refusal}

-- of one refusal: it is given exactly where its test fails
abbrev pub Tested : {A : Type 0} → Refusal → Bool → (A → Type 0) → Result A Refusal → Type 0
Tested k test P (Ok v) = (test ≡ true) × P v
Tested k test P (Err e) = (e ≡ k) × (test ≡ false)

-- of those of a collection, with any work list of so many words: the number of taken blocks where there is none
abbrev pub CollectRefusal : List ℕ → List ℕ → ℕ → Result ℕ Refusal → Type 0
CollectRefusal ws roots room (Ok taken) = (taken ≡ taken_count ws) × ((list : List ℕ) → length list ≡ room → collect_refusal ws roots list ≡ granted)
CollectRefusal ws roots room (Err e) = (list : List ℕ) → length list ≡ room → collect_refusal ws roots list ≡ refusal_number e
