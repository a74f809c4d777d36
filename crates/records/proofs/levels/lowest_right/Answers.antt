-- `records::levels::lowest_right` meets its contract: of level 0 only the last used word and the unused ones are in question (OwnLaws).
-- Assumes nothing.
use Prim.Native.Nat.{ℕ, ◌+◌, ◌-◌, ◌^◌, ◌<◌}
use mathlib.Core.Path.{◌≡◌, sym, ap, ap₂, ◌∙◌}
use native.Mathlib.Omega.{arith}
use lib.Bits.{bit_or}
use lib.Dec.{eqb}
use borrow.Author.Tests.{eq-eqb, ne_eqb}
use Rattle.model.specs.Word.{word, part}
use Rattle.records.specs.Own.{word_right}
use Rattle.records.proofs.OwnLaws.{own_lowest, last_fails, last_passes}
use Rattle.records.proofs.levels.lowest_right.Goals as goal
use Rattle.records.proofs.levels.lowest_right.Goals.{After-ones_from}

-- what is asked of the last used word
last_right : (c : After-ones_from) (fits : (o : ℕ) → word c.args.rec.now o < 2 ^ 32)
    → let a = c.args in
    let last = word a.rec.now c.word_at.result in
    eqb last (bit_or last c.ones_from.result) ≡ word_right a.words a.end a.rec.now 0 (a.words - 1)
last_right c fits =
    let a = c.args in
    let last = c.word_at in
    let stands = ap (word a.rec.now) last.ensures.0 in
    ap₂ eqb stands
    (own_lowest a.words a.end a.rec.now (a.words - 1) c.bits_in-n.result (word a.rec.now last.result) c.ones_from.result
    (omega arith) c.bits_in-n.ensures.0 (fits last.result) stands c.ones_from.ensures)

pub returns-then-last-ones_from : goal.returns-then-last-ones_from
returns-then-last-ones_from c =
    let fits : (o : ℕ) → word c.args.rec.now o < 2 ^ 32 = λ o. omega (arith, c.type_inv.rec o) in
    let from = 1 + c.args.words in
    let size : 65 - from ≡ 64 - c.args.words = omega arith in
    c.zero.ensures
    ∙ last_passes c.args.rec.now c.args.words c.args.end c.requires fits _ (ap (part c.args.rec.now from) size)
    (sym (last_right (goal.at.returns-then-last-ones_from c).After-ones_from fits) ∙ eq-eqb _ _ c.if-last-ones_from.true)

pub returns-else-last-ones_from : goal.returns-else-last-ones_from
returns-else-last-ones_from c =
    let fits : (o : ℕ) → word c.args.rec.now o < 2 ^ 32 = λ o. omega (arith, c.type_inv.rec o) in
    let fails = ne_eqb _ _ c.if-last-ones_from.false in
    fails
    ∙ last_fails c.args.rec.now c.args.words c.args.end c.requires fits
    (sym (last_right (goal.at.returns-else-last-ones_from c).After-ones_from fits) ∙ fails)
