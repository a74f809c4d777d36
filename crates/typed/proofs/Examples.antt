-- The words of answers, computed for answers of the document's run; and a collection's answer in the parts in which it is written.
-- Assumes nothing.
use Prim.Native.Nat.{ℕ}
use mathlib.Core.Path.{◌≡◌, refl}
use mathlib.Core.List.{List, [], ◌∷◌, ◌++◌}
use lib.ListN.{take}
use Rattle.model.specs.Below.{first_from}
use Rattle.std.specs.Prelude.{Ok, Err}
use Rattle.model.specs.declared.Refusal.TheVariants.{Unsound, NoRoom}
use Rattle.typed.specs.Answers.{places, decimal, spelled, newline, allocated_words, written_words, collected_head, collected_words}

-- a number with all definitions that it names: to unfold this is to unfold those
opened : ℕ → List ℕ
unfolding first_from places decimal spelled
opened h = spelled (h ∷ [])

-- `block 2049`
pub block : allocated_words (Ok (record { 0 = 2049 })) ≡ 98 ∷ 108 ∷ 111 ∷ 99 ∷ 107 ∷ 32 ∷ 50 ∷ 48 ∷ 52 ∷ 57 ∷ 10 ∷ []
unfolding opened
block = refl

-- `refused 4`
pub no_room : allocated_words (Err NoRoom) ≡ 114 ∷ 101 ∷ 102 ∷ 117 ∷ 115 ∷ 101 ∷ 100 ∷ 32 ∷ 52 ∷ 10 ∷ []
unfolding opened
no_room = refl

-- `ok`
pub ok : written_words (Ok tt) ≡ 111 ∷ 107 ∷ 10 ∷ []
ok = refl

-- `live 3: 1 2050 2049`
pub live : collected_words (Ok 3) (1 ∷ 2050 ∷ 2049 ∷ 0 ∷ []) ≡ 108 ∷ 105 ∷ 118 ∷ 101 ∷ 32 ∷ 51 ∷ 58 ∷ 32 ∷ 49 ∷ 32 ∷ 50 ∷ 48 ∷ 53 ∷ 48 ∷ 32 ∷ 50 ∷ 48 ∷ 52 ∷ 57 ∷ 10 ∷ []
unfolding opened
live = refl

-- `live 0:`
pub live_none : collected_words (Ok 0) (1 ∷ []) ≡ 108 ∷ 105 ∷ 118 ∷ 101 ∷ 32 ∷ 48 ∷ 58 ∷ 10 ∷ []
unfolding opened
live_none = refl

-- the largest number of 32 bits
pub largest : decimal 4294967295 ≡ 52 ∷ 50 ∷ 57 ∷ 52 ∷ 57 ∷ 54 ∷ 55 ∷ 50 ∷ 57 ∷ 53 ∷ []
unfolding opened
largest = refl

-- the parts of an answer that lists blocks; a refusal has the head alone
pub in_parts : (c : ℕ) (list : List ℕ) → collected_words (Ok c) list ≡ collected_head (Ok c) ++ (spelled (take c list) ++ newline)
in_parts c list = refl

pub unsound : (list : List ℕ) → collected_words (Err Unsound) list ≡ collected_head (Err Unsound)
unsound list = refl
