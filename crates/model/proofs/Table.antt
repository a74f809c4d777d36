-- The rules of classes and levels give document 01's numbers: its table, its ten classes of n, its three fresh segments.
-- Assumes nothing.
use Prim.Native.Nat.{ℕ}
use mathlib.Core.Path.{◌≡◌, refl}
use mathlib.Core.Bool.{false}
use mathlib.Core.List.{[], ◌∷◌, map}
use lib.ListN.{get_or}
use Rattle.model.specs.Below.{count_below, sum_below, lists_below, first_from}
use Rattle.model.specs.Word.{word_of_bits}
use Rattle.model.specs.Class.{blocks, levels, level_words, level_end, Row, table, class_of}
use Rattle.model.specs.Layout.{level_word, level_rows}

abbrev row_by_rule : ℕ → Row
row_by_rule i =
    record { class = i; blocks = blocks i; levels = levels i; words = level_words i 0 ∷ level_words i 1 ∷ level_words i 2 ∷ [] }

-- the ten rows
pub table_by_rule : map row_by_rule (3 ∷ 4 ∷ 5 ∷ 6 ∷ 7 ∷ 8 ∷ 9 ∷ 10 ∷ 11 ∷ 12 ∷ []) ≡ table
unfolding level_words table count_below
table_by_rule = refl

-- the ten proved examples
pub class_examples : map class_of (0 ∷ 1 ∷ 2 ∷ 3 ∷ 4 ∷ 7 ∷ 8 ∷ 511 ∷ 512 ∷ 1023 ∷ []) ≡ 3 ∷ 3 ∷ 4 ∷ 4 ∷ 5 ∷ 5 ∷ 6 ∷ 11 ∷ 12 ∷ 12 ∷ []
unfolding class_of first_from
class_examples = refl

-- A new segment of class 12 has level 0 = 0xFFFFFFF0; of class 5, level 1 = 0xFFFF0000; of class 3, level 2 = 0xFFFFFFFC.
abbrev fresh_word : ℕ → ℕ → ℕ
fresh_word i j = get_or (level_rows i (λ k. false)) j 0

pub fresh_examples : fresh_word 12 0 ∷ fresh_word 5 64 ∷ fresh_word 3 66 ∷ [] ≡ 0xFFFF_FFF0 ∷ 0xFFFF_0000 ∷ 0xFFFF_FFFC ∷ []
unfolding level_rows level_word level_words level_end word_of_bits lists_below sum_below
fresh_examples = refl
