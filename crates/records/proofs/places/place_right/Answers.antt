-- `records::places::place_right` meets its contract: it asks what the definition asks, of the fields of the place.
-- Assumes nothing.
use Rattle.std.proofs.Common.{rules}
use Rattle.model.specs.Sound.{place_right}
use Rattle.records.proofs.places.place_right.Goals as goal

pub returns : goal.returns
unfolding place_right
returns c = search rules
