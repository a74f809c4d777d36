-- Roots in 16 words, of which those past them are 0.
-- Assumes nothing.
use Rattle.std.proofs.Common.{◌≡◌, ℕ, ◌-◌, ◌≤◌, List, ◌++◌, length, take, drop, replicate, sym, ap, ◌∙◌, arith, take-append-drop, length-take-le}

-- they give the words back
pub filled : (n : ℕ) (words : List ℕ) → n ≤ 16 → length words ≡ 16 → drop n words ≡ replicate (16 - n) 0
    → take n words ++ replicate (16 - length (take n words)) 0 ≡ words
filled n words few long rest =
    ap (λ (m : ℕ). take n words ++ replicate (16 - m) 0) (length-take-le n words (omega arith))
    ∙ ap (λ (t : List ℕ). take n words ++ t) (sym rest)
    ∙ take-append-drop n words
