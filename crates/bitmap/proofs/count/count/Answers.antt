-- `bitmap::count::count` meets its contract: a class of fewer than 32 blocks has them in one word, and any other in whole words (CountLaws).
-- Assumes nothing.
use Prim.Native.Nat.{ℕ, ◌+◌, ◌-◌, ◌/◌}
use native.Mathlib.Omega.{arith}
use mathlib.Core.Path.{◌≡◌, sym, ap, ◌∙◌}
use Rattle.model.specs.Below.{count_below}
use Rattle.model.specs.Class.{blocks}
use Rattle.model.specs.Word.{bit}
use Rattle.model.specs.View.{bit_in}
use Rattle.words.proofs.ClassLaws.{blocks_most}
use Rattle.bitmap.proofs.CountLaws.{count_in_word, count_in_part, whole_words}
use Rattle.bitmap.proofs.count.count.Goals as goal

pub returns-then-n-lt32 : goal.returns-then-n-lt32
returns-then-n-lt32 c =
    let rec = c.args.rec.now in
    let n = c.blocks-n.result in
    c.ones.ensures
    ∙ ap (λ (w : ℕ). count_below 32 (bit w)) c.low_bits.ensures
    ∙ count_in_word rec n c.if-n-lt32.true
    ∙ ap (λ (n : ℕ). count_below n (bit_in rec)) c.blocks-n.ensures

pub slice_bounds-ones_in-end : goal.slice_bounds-ones_in-end
slice_bounds-ones_in-end c = omega (arith, blocks_most c.args.class c.requires.class)

pub returns : goal.returns
returns c =
    let rec = c.args.rec.now in
    let i = c.args.class in
    let p = c.requires in
    let words : c.blocks-n.result / 32 + 1 - 1 ≡ blocks i / 32 = omega arith in
    rw words at c.ones_in.ensures
    ∙ count_in_part rec (blocks i / 32) (omega (arith, blocks_most i p.class))
    ∙ ap (λ (n : ℕ). count_below n (bit_in rec)) (sym (whole_words i p.class (omega arith)))
