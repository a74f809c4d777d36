-- What a typed line means. "Lines of at most 80 bytes (newline apart), decimals (leading zeros allowed) parted by single spaces."
-- Assumes nothing.
use Rattle.std.specs.Prelude.{ℕ, ◌+◌, ◌-◌, ◌*◌, Bool, true, cond, not, ◌&&◌, List, [], ◌∷◌, map, length, get_or, eqb, leb, Option, Some, None}
use Rattle.lines.specs.declared.Order.{Order}
use Rattle.lines.specs.declared.Order.TheVariants as order

-- the byte of a space; the digits 0 to 9 are the bytes 48 to 57
abbrev pub space : ℕ
space = 32

abbrev pub is_digit : ℕ → Bool
is_digit b = leb 48 b && leb b 57

-- a byte is put in front of the first field
abbrev pub joined : ℕ → List (List ℕ) → List (List ℕ)
joined b [] = (b ∷ []) ∷ []
joined b (f ∷ fs) = (b ∷ f) ∷ fs

-- the fields of a text: what stands before, between and after its spaces
unfoldable pub fields : List ℕ → List (List ℕ)
fields [] = [] ∷ []
fields (b ∷ text) = let later = fields text in cond (eqb b space) ([] ∷ later) (joined b later)

-- the value of decimal digits, the first counting most, behind a number that stands before them
unfoldable pub value_after : ℕ → List ℕ → ℕ
value_after v [] = v
value_after v (b ∷ digits) = value_after (10 * v + (b - 48)) digits

abbrev pub value : List ℕ → ℕ
value digits = value_after 0 digits

unfoldable pub all_digits : List ℕ → Bool
all_digits [] = true
all_digits (b ∷ text) = is_digit b && all_digits text

-- one or more digits, and a value up to 4,294,967,295
unfoldable pub is_number : List ℕ → Bool
is_number field = not (eqb (length field) 0) && (all_digits field && leb (value field) 4294967295)

unfoldable pub all_numbers : List (List ℕ) → Bool
all_numbers [] = true
all_numbers (f ∷ fs) = is_number f && all_numbers fs

-- a line allocates n, r, tag; or writes value v into field f of handle h; or collects from roots; or is bad
pub data Meaning : Type 0 where
  allocates : ℕ → ℕ → ℕ → Meaning
  links : ℕ → ℕ → ℕ → Meaning
  collects : List ℕ → Meaning
  bad : Meaning

-- what a letter and the numbers behind it mean: N is the byte 78, L is 76, K is 75
unfoldable pub said : ℕ → List ℕ → Meaning
said letter ns =
    let three = eqb (length ns) 3 in
    let a = get_or ns 0 0 in
    let b = get_or ns 1 0 in
    let c = get_or ns 2 0 in
    cond (eqb letter 78) (cond (three && leb c 255) (allocates a b c) bad)
    (cond (eqb letter 76) (cond three (links a b c) bad)
    (cond (eqb letter 75) (cond (leb (length ns) 16) (collects ns) bad) bad))

-- the first field is a letter, and the others are numbers
unfoldable pub meant : List (List ℕ) → Meaning
meant [] = bad
meant (letter ∷ fs) = cond (eqb (length letter) 1 && all_numbers fs) (said (get_or letter 0 0) (map value fs)) bad

-- the meaning of a line
unfoldable pub meaning : List ℕ → Meaning
meaning text = cond (leb (length text) 80) (meant (fields text)) bad

-- what an order says, where there is one
abbrev pub order_meaning : Option Order → Meaning
order_meaning (Some (order.Allocate n r tag)) = allocates n r tag
order_meaning (Some (order.Link h f v)) = links h f v
order_meaning (Some (order.Collect roots)) = collects roots
order_meaning None = bad
