-- Lines and what they mean, computed: the lines of the document's run, leading zeros and the limits, and lines that are bad.
-- Assumes nothing.
use Prim.Native.Nat.{ℕ, zero, suc}
use mathlib.Core.Path.{◌≡◌, refl}
use mathlib.Core.List.{List, [], ◌∷◌}
use lib.ListN.{replicate}
use Rattle.lines.specs.Line.{fields, value_after, all_digits, is_number, all_numbers, Meaning, allocates, links, collects, bad, said, meant, meaning}

-- the meaning with all definitions that it names: to unfold this is to unfold those
opened : List ℕ → Meaning
unfolding fields value_after all_digits is_number all_numbers said meant meaning
opened text = meaning text

-- so many roots, each the number 1 after a space
abbrev roots : ℕ → List ℕ
roots zero = []
roots (suc n) = 32 ∷ 49 ∷ roots n

-- ---- lines of the run

-- `N 3 2 7`
pub allocate : meaning (78 ∷ 32 ∷ 51 ∷ 32 ∷ 50 ∷ 32 ∷ 55 ∷ []) ≡ allocates 3 2 7
unfolding opened
allocate = refl

-- `N 1023 0 0`
pub largest : meaning (78 ∷ 32 ∷ 49 ∷ 48 ∷ 50 ∷ 51 ∷ 32 ∷ 48 ∷ 32 ∷ 48 ∷ []) ≡ allocates 1023 0 0
unfolding opened
largest = refl

-- `L 1 0 2050`
pub link : meaning (76 ∷ 32 ∷ 49 ∷ 32 ∷ 48 ∷ 32 ∷ 50 ∷ 48 ∷ 53 ∷ 48 ∷ []) ≡ links 1 0 2050
unfolding opened
link = refl

-- `K`
pub collect_none : meaning (75 ∷ []) ≡ collects []
unfolding opened
collect_none = refl

-- `K 1 0 0`
pub collect_three : meaning (75 ∷ 32 ∷ 49 ∷ 32 ∷ 48 ∷ 32 ∷ 48 ∷ []) ≡ collects (1 ∷ 0 ∷ 0 ∷ [])
unfolding opened
collect_three = refl

-- ---- leading zeros, and the limits

-- `N 003 02 0007`
pub zeros : meaning (78 ∷ 32 ∷ 48 ∷ 48 ∷ 51 ∷ 32 ∷ 48 ∷ 50 ∷ 32 ∷ 48 ∷ 48 ∷ 48 ∷ 55 ∷ []) ≡ allocates 3 2 7
unfolding opened
zeros = refl

-- `L 4294967295 0 0`
pub large_number : meaning (76 ∷ 32 ∷ 52 ∷ 50 ∷ 57 ∷ 52 ∷ 57 ∷ 54 ∷ 55 ∷ 50 ∷ 57 ∷ 53 ∷ 32 ∷ 48 ∷ 32 ∷ 48 ∷ []) ≡ links 4294967295 0 0
unfolding opened
large_number = refl

-- `N 1 0 255`
pub large_tag : meaning (78 ∷ 32 ∷ 49 ∷ 32 ∷ 48 ∷ 32 ∷ 50 ∷ 53 ∷ 53 ∷ []) ≡ allocates 1 0 255
unfolding opened
large_tag = refl

-- `K` and 16 roots
pub sixteen_roots : meaning (75 ∷ roots 16) ≡ collects (replicate 16 1)
unfolding opened
sixteen_roots = refl

-- a line of 80 bytes: `K`, a space and 78 zeros
pub eighty_bytes : meaning (75 ∷ 32 ∷ replicate 78 48) ≡ collects (0 ∷ [])
unfolding opened
eighty_bytes = refl

-- ---- past the limits

-- `L 1 0 4294967296`
pub number_too_large : meaning (76 ∷ 32 ∷ 49 ∷ 32 ∷ 48 ∷ 32 ∷ 52 ∷ 50 ∷ 57 ∷ 52 ∷ 57 ∷ 54 ∷ 55 ∷ 50 ∷ 57 ∷ 54 ∷ []) ≡ bad
unfolding opened
number_too_large = refl

-- `N 1 0 300`
pub tag_too_large : meaning (78 ∷ 32 ∷ 49 ∷ 32 ∷ 48 ∷ 32 ∷ 51 ∷ 48 ∷ 48 ∷ []) ≡ bad
unfolding opened
tag_too_large = refl

-- `N 1 0 256`
pub tag_256 : meaning (78 ∷ 32 ∷ 49 ∷ 32 ∷ 48 ∷ 32 ∷ 50 ∷ 53 ∷ 54 ∷ []) ≡ bad
unfolding opened
tag_256 = refl

-- `K` and 17 roots
pub seventeen_roots : meaning (75 ∷ roots 17) ≡ bad
unfolding opened
seventeen_roots = refl

-- a line of 81 bytes, which would mean a root of 0
pub bytes_81 : meaning (75 ∷ 32 ∷ replicate 79 48) ≡ bad
unfolding opened
bytes_81 = refl

-- ---- not of the form

-- the empty line
pub empty : meaning ([]) ≡ bad
unfolding opened
empty = refl

-- a space
pub space_alone : meaning (32 ∷ []) ≡ bad
unfolding opened
space_alone = refl

-- a space before the letter
pub space_before : meaning (32 ∷ 75 ∷ []) ≡ bad
unfolding opened
space_before = refl

-- a space and no number
pub space_after_letter : meaning (75 ∷ 32 ∷ []) ≡ bad
unfolding opened
space_after_letter = refl

-- a space at the end
pub space_after : meaning (78 ∷ 32 ∷ 49 ∷ 32 ∷ 48 ∷ 32 ∷ 49 ∷ 32 ∷ []) ≡ bad
unfolding opened
space_after = refl

-- two spaces
pub two_spaces : meaning (78 ∷ 32 ∷ 32 ∷ 49 ∷ 32 ∷ 48 ∷ 32 ∷ 49 ∷ []) ≡ bad
unfolding opened
two_spaces = refl

-- `N 1 0`
pub too_few : meaning (78 ∷ 32 ∷ 49 ∷ 32 ∷ 48 ∷ []) ≡ bad
unfolding opened
too_few = refl

-- `L 1 0 0 0`
pub too_many : meaning (76 ∷ 32 ∷ 49 ∷ 32 ∷ 48 ∷ 32 ∷ 48 ∷ 32 ∷ 48 ∷ []) ≡ bad
unfolding opened
too_many = refl

-- `K1`
pub no_space : meaning (75 ∷ 49 ∷ []) ≡ bad
unfolding opened
no_space = refl

-- `KK`
pub two_letters : meaning (75 ∷ 75 ∷ []) ≡ bad
unfolding opened
two_letters = refl

-- `X`
pub other_letter : meaning (88 ∷ []) ≡ bad
unfolding opened
other_letter = refl

-- `k`
pub small_letter : meaning (107 ∷ []) ≡ bad
unfolding opened
small_letter = refl

-- `K -1`
pub sign : meaning (75 ∷ 32 ∷ 45 ∷ 49 ∷ []) ≡ bad
unfolding opened
sign = refl

-- a tab for a space
pub tab : meaning (75 ∷ 9 ∷ 49 ∷ []) ≡ bad
unfolding opened
tab = refl

-- a carriage return at the end
pub carriage_return : meaning (75 ∷ 13 ∷ []) ≡ bad
unfolding opened
carriage_return = refl

-- a byte 0 for a digit
pub nul : meaning (75 ∷ 32 ∷ 0 ∷ []) ≡ bad
unfolding opened
nul = refl

-- a byte above 127
pub high_byte : meaning (75 ∷ 32 ∷ 185 ∷ []) ≡ bad
unfolding opened
high_byte = refl
