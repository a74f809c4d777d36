-- `ranking::places::place_for` meets its contract. Assumes nothing.
use mathlib.Core.Path.{◌∙◌}
use native.Mathlib.Omega.{arith}
use borrow.Author.Tests.{eq-eqb, ne_eqb, lt-ltb, le-ltb}
use Rattle.words.proofs.ClassLaws.{blocks_most, bounds_class}
use Rattle.ranking.specs.Places.{place_for}
use Rattle.ranking.proofs.places.place_for.Goals as goal

pub returns-then-m-eq0 : goal.returns-then-m-eq0
unfolding place_for
returns-then-m-eq0 c = c.place.ensures ∙ simp (eq-eqb _ _ c.if-m-eq0.true)

pub returns-then-full-m : goal.returns-then-full-m
unfolding place_for
returns-then-full-m c = c.place-then-full-m.ensures ∙ simp (ne_eqb _ _ c.if-m-eq0.false, lt-ltb _ _ c.if-full-m.true)

pub place-requires-else-full-m : goal.place-requires-else-full-m
place-requires-else-full-m c =
    let p = c.requires in
    let a = c.args in
    omega (arith, p.few, c.blocks-else-full-m.ensures, blocks_most a.class (bounds_class a.class p.low p.high))

pub returns-else-full-m : goal.returns-else-full-m
unfolding place_for
returns-else-full-m c =
    c.place-else-full-m.ensures
    ∙ simp (ne_eqb _ _ c.if-m-eq0.false, le-ltb _ _ c.if-full-m.false, c.blocks-else-full-m.ensures)
