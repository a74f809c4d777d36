-- Refusal numbers: what each answer is on the document's paper, its refusal number (0 for a grant) and the values returned.
-- Assumes nothing.
use Rattle.std.specs.Prelude.{ℕ, Bool, cond, List, [], ◌∷◌, map, replicate, eqb, ⊤, Result, Ok, Err}
use Rattle.model.specs.declared.Shape.{Shape}
use Rattle.model.specs.declared.Standing.{Standing}
use Rattle.model.specs.declared.Standing.TheVariants.{None, Outside, Free, Taken}
use Rattle.model.specs.declared.Handle.{Handle}
use Rattle.model.specs.declared.Refusal.{Refusal}
use Rattle.model.specs.declared.Refusal.TheVariants.{BadSize, Unsound, BadShape, NoRoom, NoBlock, NoField, BadReference, BadRoot, ShortList}

-- an answer on paper
pub record Paper : Type 0 where
  pub number : ℕ
  pub values : List ℕ

-- Refusal number e and the values of a grant. "Every value returned is then 0."
abbrev pub paper : ℕ → List ℕ → Paper
paper e vs = record { number = e; values = cond (eqb e 0) vs (map (λ v. 0) vs) }

-- "The lowest number that applies is given": e if the test holds, and else what the higher numbers give
abbrev pub refuse : ℕ → Bool → ℕ → ℕ
refuse e test higher = cond test e higher

abbrev pub granted : ℕ
granted = 0

-- a shape's values: n, r, tag
abbrev pub shape_values : Shape → List ℕ
shape_values s = s.n ∷ s.r ∷ s.tag ∷ []

-- a standing's: 0 none, 1 outside, 2 free, 3 taken, and the shape, 0 unless taken
abbrev pub standing_values : Standing → List ℕ
standing_values None = 0 ∷ 0 ∷ 0 ∷ 0 ∷ []
standing_values Outside = 1 ∷ 0 ∷ 0 ∷ 0 ∷ []
standing_values Free = 2 ∷ 0 ∷ 0 ∷ 0 ∷ []
standing_values (Taken s) = 3 ∷ shape_values s

-- the document's number of each refusal
abbrev pub refusal_number : Refusal → ℕ
refusal_number BadSize = 1
refusal_number Unsound = 2
refusal_number BadShape = 3
refusal_number NoRoom = 4
refusal_number NoBlock = 5
refusal_number NoField = 6
refusal_number BadReference = 7
refusal_number BadRoot = 8
refusal_number ShortList = 9

-- the number of an answer, 0 for a grant
abbrev pub answer_number : {A : Type 0} → Result A Refusal → ℕ
answer_number (Ok v) = granted
answer_number (Err e) = refusal_number e

-- its values, given those of a grant; on a refusal as many zeros
abbrev pub answer_values : {A : Type 0} → (A → List ℕ) → ℕ → Result A Refusal → List ℕ
answer_values values count (Ok v) = values v
answer_values values count (Err e) = replicate count 0

abbrev pub on_paper : {A : Type 0} → (A → List ℕ) → ℕ → Result A Refusal → Paper
on_paper values count a = record { number = answer_number a; values = answer_values values count a }

-- The answers: of make and of a write nothing, of allocate a handle, of a read its word, of room and collect a number.
abbrev pub Made : Type 0
Made = Result ⊤ Refusal

abbrev pub Allocated : Type 0
Allocated = Result Handle Refusal

abbrev pub Stood : Type 0
Stood = Result Standing Refusal

abbrev pub Shaped : Type 0
Shaped = Result Shape Refusal

abbrev pub Read : Type 0
Read = Result ℕ Refusal

abbrev pub Written : Type 0
Written = Result ⊤ Refusal

abbrev pub Room : Type 0
Room = Result ℕ Refusal

abbrev pub Collected : Type 0
Collected = Result ℕ Refusal

abbrev pub made_paper : Made → Paper
made_paper = on_paper (λ u. []) 0

abbrev pub allocated_paper : Allocated → Paper
allocated_paper = on_paper (λ h. h.0 ∷ []) 1

abbrev pub stood_paper : Stood → Paper
stood_paper = on_paper standing_values 4

abbrev pub shaped_paper : Shaped → Paper
shaped_paper = on_paper shape_values 3

abbrev pub read_paper : Read → Paper
read_paper = on_paper (λ v. v ∷ []) 1

abbrev pub written_paper : Written → Paper
written_paper = on_paper (λ u. []) 0

abbrev pub room_paper : Room → Paper
room_paper = on_paper (λ v. v ∷ []) 1

abbrev pub collected_paper : Collected → Paper
collected_paper = on_paper (λ c. c ∷ []) 1
