-- `arena::block_of` meets its contract: the block lies within the arena. Assumes nothing.
use native.Mathlib.Omega.{arith}
use Rattle.words.proofs.ClassLaws.{bounds_class}
use Rattle.words.proofs.HandleLaws.{block_in_arena}
use Rattle.arena.proofs.block_of.Goals as goal

pub slice_bounds-result-end : goal.slice_bounds-result-end
slice_bounds-result-end c =
    let a = c.args in
    let p = c.requires in
    omega (arith, block_in_arena a.n a.segment a.class a.index.0 p.there (bounds_class a.class p.low p.high) p.inside, c.offset-at.ensures, c.block_words.ensures)
