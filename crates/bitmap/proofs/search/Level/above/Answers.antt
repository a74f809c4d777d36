-- `bitmap::search::Level::above` meets its contract: a level that a class uses is one of three.
-- Assumes nothing.
use native.Mathlib.Omega.{arith}
use Rattle.bitmap.proofs.LevelLaws.{used_one}
use Rattle.bitmap.proofs.search.Level.above.Goals as goal

pub overflow_add-level : goal.overflow_add-level
overflow_add-level c = let s = c.args.self in omega (arith, used_one s.class s.level s.classed s.used)
