-- Where a row has the bit of a block. Assumes nothing.
use Prim.Native.Nat.{ℕ, ◌+◌, ◌*◌, ◌/◌, ◌%◌}
use native.Mathlib.Omega.{arith}
use mathlib.Core.Path.{◌≡◌, ap, ◌∙◌}
use mathlib.Core.List.{List}
use Rattle.model.specs.Word.{word, bit}
use Rattle.model.specs.Layout.{handle}
use Rattle.arena.specs.Rows.{row_bit}

-- the bit of block k of segment s: a row's words line up with the segment's level 0
pub row_bit_block : (row : List ℕ) (s k : ℕ) → row_bit row (handle s k) ≡ bit (word row (1 + 64 * s + k / 32)) (k % 32)
row_bit_block row s k =
    let whole : (handle s k + 31) / 32 ≡ 1 + 64 * s + k / 32 = omega arith in
    let part : (handle s k + 31) % 32 ≡ k % 32 = omega arith in
    ap (λ (o : ℕ). bit (word row o) ((handle s k + 31) % 32)) whole ∙ ap (bit (word row (1 + 64 * s + k / 32))) part
