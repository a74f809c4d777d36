-- `bitmap::levels::levels` meets its contract: antt computes the number of levels of each class.
-- Assumes nothing.
use native.Mathlib.Omega.{arith}
use borrow.Author.Tests.{ne_eqb, lt-ltb, le-ltb}
use Rattle.bitmap.proofs.LevelLaws.{class_levels}
use Rattle.bitmap.proofs.levels.levels.Goals as goal

pub returns-in-3 : goal.returns-in-3
returns-in-3 c = rw (class_levels _ c.requires, c.in-3.is)

pub returns-in-4-to-8 : goal.returns-in-4-to-8
returns-in-4-to-8 c = rw (class_levels _ c.requires, ne_eqb c.args.class 3 (omega arith), lt-ltb c.args.class 9 (omega arith))

pub returns-in_default-2 : goal.returns-in_default-2
returns-in_default-2 c = rw (class_levels _ c.requires, ne_eqb c.args.class 3 (omega arith), le-ltb c.args.class 9 (omega arith))
