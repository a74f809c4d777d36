-- `allocation::give::put_block` meets its contract: the block ends within the arena.
-- Assumes nothing.
use native.Mathlib.Omega.{arith}
use Rattle.allocation.proofs.GiveLaws.{block_ends, clear_asked}
use Rattle.allocation.proofs.give.put_block.Goals as goal

pub slice_bounds-clear_block-end : goal.slice_bounds-clear_block-end
slice_bounds-clear_block-end c =
    let a = c.args in
    omega (arith, block_ends a.arena.now a.segments a.class a.spot a.shape c.requires, c.offset-at.ensures, c.block_words-words.ensures)

pub clear_block-requires : goal.clear_block-requires
clear_block-requires c =
    let a = c.args in
    clear_asked a.arena.now a.segments a.class a.spot a.shape c.requires _ _ c.offset-at.ensures c.block_words-words.ensures
