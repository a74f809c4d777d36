-- `records::levels::Level::right` meets its contract: each word for which the level has room is asked.
-- Assumes nothing.
use mathlib.Core.Path.{refl}
use Rattle.std.proofs.Common.{rules}
use Rattle.records.specs.Own.{level_right}
use Rattle.records.proofs.ChainLaws.{all_passed}
use Rattle.records.proofs.OwnLaws.{room_is}
use Rattle.records.proofs.levels.Level.right.Goals as goal

pub returns : goal.returns
unfolding level_right
returns c = all_passed _ _ _ refl (room_is c.args.self.level c.args.self.above c.args.self.used) c.all.ensures.runs (λ x t q k. search rules)
