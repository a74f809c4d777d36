-- `records::levels::levels_right` meets its contract: levels that are right by the words of the record itself are right (OwnLaws).
-- Assumes nothing.
use mathlib.Core.Path.{◌≡◌}
use native.Mathlib.Omega.{arith}
use Rattle.std.proofs.Common.{rules}
use Rattle.model.specs.Sound.{levels_right}
use Rattle.records.proofs.OwnLaws.{by_own, levels_own, lowest_asked, above_asked}
use Rattle.records.proofs.levels.levels_right.Goals as goal
use Rattle.records.proofs.levels.levels_right.Goals.{After-level_words-top}

-- the three levels together
levels : (c : After-level_words-top)
    → let a = c.args in
    by_own a.rec.now c.blocks-end.result c.level_words-words.result c.level_words-above.result c.level_words-top.result
    ≡ levels_right a.class a.rec.now
levels c =
    levels_own c.args.class c.args.rec.now c.requires.class c.blocks-end.ensures
    c.level_words-words.ensures c.level_words-above.ensures c.level_words-top.ensures

pub lowest_right-requires : goal.lowest_right-requires
lowest_right-requires c = lowest_asked c.args.class c.args.rec.now c.requires c.blocks-end.ensures c.level_words-words.ensures

pub invariant_of-level_1 : goal.invariant_of-level_1
invariant_of-level_1 c =
    let asked = above_asked c.args.class 0 c.requires.class (omega arith) c.level_words-words.ensures c.level_words-above.ensures in
    record { long = c.requires.long; above = omega arith; used = omega arith; begin = asked.0; below = asked.1 }

pub invariant_of-level_2 : goal.invariant_of-level_2
invariant_of-level_2 c =
    let asked = above_asked c.args.class 1 c.requires.class (omega arith) c.level_words-above.ensures c.level_words-top.ensures in
    record { long = c.requires.long; above = omega arith; used = omega arith; begin = asked.0; below = asked.1 }

pub returns-then-right : goal.returns-then-right
returns-then-right c = rw (← levels (goal.at.returns-then-right c).After-level_words-top) (search rules)

pub returns-else-right : goal.returns-else-right
returns-else-right c = rw (← levels (goal.at.returns-else-right c).After-level_words-top) (search rules)
