-- What is held of a line: a byte more, and what the bytes that are held mean.
-- Assumes nothing.
use Prim.Native.Nat.{ℕ, ◌+◌, ◌≤◌, ◌<◌}
use mathlib.Core.Path.{◌≡◌, sym, ap, ◌∙◌, subst}
use mathlib.Core.List.{List, [], ◌∷◌, ◌++◌}
use native.Mathlib.Nat.{le_refl, lt_of_not-le}
use native.Mathlib.Decide.{dec_le, ℕ_discrete}
use native.Mathlib.Numerals.{add-one}
use native.Mathlib.Omega.{arith}
use lib.ListN.{length, get_or, take, length-append, length-take}
use lib.Seq.{length-take-le, take_all, take_at, take-take, take-suc, take-append-le}
use borrow.Author.Tests.{lt-leb}
use Rattle.std.specs.Prelude.{Result, Ok, Err, IsOk, IsErr}
use mathlib.Core.Bool.{false≢true}
use Rattle.lines.specs.Line.{meaning}
use Rattle.typed.specs.Held.{newline, joined, TookByte, Typed, nothing, byte, end, TypedHeld}
use Rattle.typed.specs.Orders.{Answered}

-- ---- a byte more

-- there is no room for it
pub held_full : (room : ℕ) (line : List ℕ) (b : ℕ) → length line ≡ room → line ≡ joined room line b
held_full room line b full = sym (take_at line (b ∷ []) room full)

-- there is
pub held_more : (room : ℕ) (line : List ℕ) (b : ℕ) → length line < room → line ++ (b ∷ []) ≡ joined room line b
held_more room line b few = sym (take_all room (line ++ (b ∷ [])) (omega (arith, length-append line (b ∷ []))))

-- what is held is within the room
pub joined_within : (room : ℕ) (line : List ℕ) (b : ℕ) → length (joined room line b) ≤ room
joined_within room line b = omega (arith, length-take room (line ++ (b ∷ [])))

-- to hold what is held and a byte is to hold the line and the byte
pub joined_held : (room : ℕ) (line : List ℕ) (b : ℕ) → joined room (take room line) b ≡ joined room line b
joined_held room line b = go (dec_le (length line) room)
  where
    go : Dec (length line ≤ room) → joined room (take room line) b ≡ joined room line b
    go (yes few) = ap (λ (l : List ℕ). joined room l b) (take_all room line few)
    go (no more) =
        let over : room ≤ length line = omega (arith, lt_of_not-le more) in
        take-append-le room (take room line) (b ∷ []) (omega (arith, length-take-le room line over))
        ∙ take-take room room line (le_refl room)
        ∙ sym (take-append-le room line (b ∷ []) over)

-- ---- with 81 bytes a line is too long, whatever follows

pub meaning_held : (room : ℕ) (line : List ℕ) → 81 ≤ room → meaning (take room line) ≡ meaning line
unfolding meaning
meaning_held room line h = go (dec_le (length line) room)
  where
    go : Dec (length line ≤ room) → meaning (take room line) ≡ meaning line
    go (yes few) = ap meaning (take_all room line few)
    go (no more) =
        let over : room < length line = lt_of_not-le more in
        let long : length (take room line) ≡ room = length-take-le room line (omega arith) in
        rw (lt-leb (length (take room line)) 80 (omega arith), lt-leb (length line) 80 (omega arith))

-- ---- typing

pub typed_none : (room : ℕ) (line ws list : List ℕ) → length line ≤ room → TypedHeld room line ws list [] line ws list
typed_none room line ws list few = record { whole = line; typed = nothing; held = sym (take_all room line few) }

pub typed_more : (room : ℕ) (line₀ ws₀ list₀ bytes line ws list : List ℕ) (b : ℕ) (line' ws' list' : List ℕ) → 81 ≤ room →
    TypedHeld room line₀ ws₀ list₀ bytes line ws list → TookByte room line ws list b line' ws' list' →
    TypedHeld room line₀ ws₀ list₀ (bytes ++ (b ∷ [])) line' ws' list'
typed_more room line₀ ws₀ list₀ bytes line ws list b line' ws' list' h so took = go (ℕ_discrete b newline)
  where
    go : Dec (b ≡ newline) → TypedHeld room line₀ ws₀ list₀ (bytes ++ (b ∷ [])) line' ws' list'
    go (yes ends) =
        let answered : Answered (meaning so.whole) ws list ws' list' =
        subst (λ m. Answered m ws list ws' list') (ap meaning so.held ∙ meaning_held room so.whole h) (took.ends ends).1 in
        record {
          whole = [];
          typed = subst (λ (d : ℕ). Typed line₀ ws₀ list₀ (bytes ++ (d ∷ [])) [] ws' list') (sym ends) (end so.typed answered);
          held = (took.ends ends).0 ∙ sym (take_all room [] (omega arith));
        }
    go (no more) =
        let same = took.joins more in
        record {
          whole = so.whole ++ (b ∷ []);
          typed = rw (same.1, same.2) (byte so.typed more);
          held = same.0 ∙ ap (λ (l : List ℕ). joined room l b) so.held ∙ joined_held room so.whole b;
        }

-- the same for the byte at a place of what was read
pub typed_next : {line₀ ws₀ list₀ line ws list line' ws' list' : List ℕ} (bytes : List ℕ) (at : ℕ) → at < length bytes
    → TypedHeld 81 line₀ ws₀ list₀ (take at bytes) line ws list → TookByte 81 line ws list (get_or bytes at 0) line' ws' list'
    → TypedHeld 81 line₀ ws₀ list₀ (take (at + 1) bytes) line' ws' list'
typed_next bytes at l so took =
    rw (add-one, take-suc bytes at 0 l) (typed_more 81 _ _ _ (take at bytes) _ _ _ (get_or bytes at 0) _ _ _ (le_refl 81) so took)

-- a result is no error and a value at once
pub not_both : {A E : Type 0} (r : Result A E) → IsOk r → IsErr r → ⊥
not_both (Ok x) ok err = false≢true err
not_both (Err x) ok err = false≢true ok
