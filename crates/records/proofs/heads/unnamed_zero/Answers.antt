-- `records::heads::unnamed_zero` meets its contract: word 0, the places and the heads, in this order.
-- Assumes nothing.
use Rattle.std.proofs.Common.{rules}
use Rattle.model.specs.Sound.{unnamed_zero}
use Rattle.records.proofs.heads.unnamed_zero.Goals as goal

pub returns-then-places_named : goal.returns-then-places_named
unfolding unnamed_zero
returns-then-places_named c = search rules

pub returns-else-places_named : goal.returns-else-places_named
unfolding unnamed_zero
returns-else-places_named c = search rules
