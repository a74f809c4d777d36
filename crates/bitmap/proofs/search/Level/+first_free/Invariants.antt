-- The measure of `bitmap::search::Level::first_free` is the number of levels left.
use Prim.Native.Nat.{◌-◌}
use Rattle.model.specs.Class.{levels}
use Rattle.bitmap.proofs.search.Level.+first_free.Given as goal

abbrev pub decreases-first_free : goal.decreases-first_free
decreases-first_free l = levels l.self.class - l.self.level
