-- The measure of `bitmap::climb::climb` is the number of levels left.
use Rattle.bitmap.proofs.climb.+climb.Given as goal

abbrev pub decreases-climb : goal.decreases-climb
decreases-climb l = l.left
