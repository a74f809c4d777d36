-- `ranking::keys::SegmentKeys::new_place` meets its contract. Assumes nothing.
use Rattle.ranking.specs.Places.{place_by}
use Rattle.ranking.proofs.keys.SegmentKeys.new_place.Goals as goal

pub returns : goal.returns
unfolding place_by
returns c = cc
