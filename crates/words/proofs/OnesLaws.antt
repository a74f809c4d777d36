-- The ones of the words of a list: a sum over its places is the sum over the list, and the words' bits counted one after the other.
-- Assumes nothing.
use Prim.Native.Nat.{ℕ, zero, suc, ◌+◌, ◌*◌, ◌≤◌, ◌<◌}
use native.Mathlib.Omega.{arith}
use mathlib.Core.Path.{◌≡◌, refl, sym, ap, ◌∙◌}
use mathlib.Core.Bool.{Bool}
use mathlib.Core.List.{List}
use lib.ListN.{length}
use Rattle.std.proofs.lemmas.List.Recursion.{is_sum_by}
use Rattle.std.specs.List.{sum_by}
use Rattle.model.specs.Below.{count_below, sum_below}
use Rattle.model.specs.Word.{word, bit, part}
use Rattle.laws.proofs.Below.{count_below_ext, count_below_product, sum_below_ext}
use Rattle.laws.proofs.Splice.{length_part, word_part}

first : (n : ℕ) (f : ℕ → ℕ) → sum_below (suc n) f ≡ f 0 + sum_below n (λ j. f (suc j))
unfolding sum_below
first zero f = omega arith
first (suc n) f = omega (arith, first n f)

pub by_place : (f : ℕ → ℕ) (ws : List ℕ) → sum_below (length ws) (λ j. f (word ws j)) ≡ sum_by f ws
unfolding sum_below
by_place f ws = is_sum_by (λ ws. sum_below (length ws) (λ j. f (word ws j))) f refl (λ w ws. first (length ws) _) ws

-- where f tells the bits of n words, one word after the other
pub ones_are : (ws : List ℕ) (n : ℕ) (f : ℕ → Bool) → length ws ≡ n → ((j b : ℕ) → j < n → b < 32 → bit (word ws j) b ≡ f (j * 32 + b))
    → sum_below (length ws) (λ j. count_below 32 (bit (word ws j))) ≡ count_below (n * 32) f
ones_are ws n f long same =
    ap (λ (n : ℕ). sum_below n (λ j. count_below 32 (bit (word ws j)))) long
    ∙ sum_below_ext n (λ j. count_below 32 (bit (word ws j))) (λ j. count_below 32 (λ b. f (j * 32 + b)))
    (λ j u. count_below_ext 32 (bit (word ws j)) (λ b. f (j * 32 + b)) (λ b l. same j b u l))
    ∙ sym (count_below_product n 32 f)

-- the same of the n words of a row from word o on
pub ones_of_part : (row : List ℕ) (o n : ℕ) (f : ℕ → Bool) → o + n ≤ length row
    → ((j b : ℕ) → j < n → b < 32 → bit (word row (o + j)) b ≡ f (j * 32 + b))
    → sum_below (length (part row o n)) (λ j. count_below 32 (bit (word (part row o n) j))) ≡ count_below (n * 32) f
ones_of_part row o n f h same =
    ones_are (part row o n) n f (length_part row o n h) (λ j b u l. ap (λ (w : ℕ). bit w b) (word_part row o n j u) ∙ same j b u l)
