-- `bitmap::climb::climb` meets its contract: each way out is a turn of `climbed`. Assumes nothing.
use mathlib.Core.Path.{sym, ◌∙◌}
use borrow.Author.Rules.{rules}
use Rattle.bitmap.proofs.ClimbLaws.{climbed_last, climbed_stops, climbed_higher}
use Rattle.bitmap.proofs.climb.+climb.Goals as goal
use Rattle.bitmap.proofs.climb.+climb.Goals.{else-set_level_bit-via-then-set_level_bit+else-left-gt0, else-set_level_bit-via-else-set_level_bit}

pub returns-then-left-gt0 : goal.returns-then-left-gt0
returns-then-left-gt0 t c =
    let set = c.set_level_bit.ensures in
    c.climb.ensures
    ∙ climbed_higher c.args.level c.args.k c.args.rec.now _ set.added c.args.left (search rules) (sym set.filled ∙ c.if-set_level_bit.true)

pub returns-else-set_level_bit : goal.returns-else-set_level_bit
returns-else-set_level_bit t c =
    let set = c.set_level_bit.ensures in
    elim c.else-set_level_bit.branch [
      | else-set_level_bit-via-then-set_level_bit+else-left-gt0 w ↦ climbed_last c.args.level c.args.k c.args.rec.now _ set.added c.args.left (search rules)
      | else-set_level_bit-via-else-set_level_bit w ↦ climbed_stops c.args.level c.args.k c.args.rec.now _ set.added c.args.left (sym set.filled ∙ w.if-set_level_bit.false)
    ]
