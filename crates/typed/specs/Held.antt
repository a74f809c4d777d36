-- What is held of the line that is being typed, and what typing does: a byte joins the line, and a newline has the line answered and begins
-- another. A line may be of any length; of its bytes so many are held as there is room for.
-- Assumes nothing.
use Rattle.std.specs.Prelude.{ℕ, ◌≤◌, ◌<◌, ◌≡◌, ◌≢◌, ⊤, List, [], ◌∷◌, ◌++◌, length, take, Result, IsOk, IsErr}
use Rattle.lines.specs.Line.{meaning}
use Rattle.typed.specs.Orders.{Answered}

abbrev pub newline : ℕ
newline = 10

-- a line with one byte more, as far as there is room for it
abbrev pub joined : ℕ → List ℕ → ℕ → List ℕ
joined room line b = take room (line ++ (b ∷ []))

-- one byte is taken in, where a line is held
pub record TookByte (room : ℕ) (line ws list : List ℕ) (b : ℕ) (line' ws' list' : List ℕ) : Type 0 where
  pub joins : b ≢ newline → (line' ≡ joined room line b) × (ws' ≡ ws) × (list' ≡ list)
  pub ends : b ≡ newline → (line' ≡ []) × Answered (meaning line) ws list ws' list'

-- bytes are typed behind a line: the line, the arena and the list after them
pub data Typed (line ws list : List ℕ) : List ℕ → List ℕ → List ℕ → List ℕ → Type 0 where
  nothing : Typed line ws list [] line ws list
  byte : {bytes line' ws' list' : List ℕ} {b : ℕ} → Typed line ws list bytes line' ws' list' → b ≢ newline
      → Typed line ws list (bytes ++ (b ∷ [])) (line' ++ (b ∷ [])) ws' list'
  end : {bytes line' ws' list' ws'' list'' : List ℕ} → Typed line ws list bytes line' ws' list' → Answered (meaning line') ws' list' ws'' list''
      → Typed line ws list (bytes ++ (newline ∷ [])) [] ws'' list''

-- the same, where so many bytes of the line are held as there is room for
pub record TypedHeld (room : ℕ) (line ws list bytes line' ws' list' : List ℕ) : Type 0 where
  pub whole : List ℕ
  pub typed : Typed line ws list bytes whole ws' list'
  pub held : line' ≡ take room whole

-- bytes were taken in: all of them where more may be typed, and else at least one
pub record TookBytes {E : Type 0} (room : ℕ) (line ws list bytes : List ℕ) (r : Result ⊤ E) (line' ws' list' : List ℕ) : Type 0 where
  pub taken : ℕ
  pub within : taken ≤ length bytes
  pub all : IsOk r → taken ≡ length bytes
  pub some : IsErr r → 0 < taken
  pub so : TypedHeld room line ws list (take taken bytes) line' ws' list'

-- the input has ended where this line is held. "The last line may lack its newline."
pub record Ended (line ws list ws' list' : List ℕ) : Type 0 where
  pub none : line ≡ [] → (ws' ≡ ws) × (list' ≡ list)
  pub last : line ≢ [] → Answered (meaning line) ws list ws' list'
