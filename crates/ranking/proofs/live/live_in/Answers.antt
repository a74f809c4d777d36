-- `ranking::live::live_in` meets its contract. Assumes nothing.
use Prim.Native.Nat.{ℕ, ◌+◌, ◌-◌, ◌*◌}
use mathlib.Core.Path.{◌≡◌, ap, ◌∙◌}
use native.Mathlib.Omega.{arith}
use lib.ListN.{length}
use Rattle.model.specs.Below.{count_below, sum_below}
use Rattle.model.specs.Word.{word, part, bit}
use Rattle.ranking.specs.Live.{live_in}
use Rattle.ranking.proofs.LiveLaws.{live_ones, live_in_le}
use Rattle.ranking.proofs.live.live_in.Goals as goal

pub returns : goal.returns
returns c =
    let a = c.args in
    let size : 1 + 64 * a.s + 64 - (1 + 64 * a.s) ≡ 64 = omega arith in
    let counted : c.ones_in.result ≡ live_in a.marks.now a.s =
    c.ones_in.ensures
    ∙ ap (λ (n : ℕ). sum_below (length (part a.marks.now (1 + 64 * a.s) n)) (λ j. count_below 32 (bit (word (part a.marks.now (1 + 64 * a.s) n) j)))) size
    ∙ live_ones a.marks.now a.s c.requires.long in
    (counted, omega (arith, counted, live_in_le a.marks.now a.s))
