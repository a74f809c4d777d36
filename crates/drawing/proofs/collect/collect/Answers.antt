-- `drawing::collect::collect` collects where nothing refuses it. Assumes nothing.
use Rattle.std.proofs.Common.{refl}
use Rattle.drawing.proofs.collect.collect.Goals as goal

pub collect_sound-requires : goal.collect_sound-requires
collect_sound-requires c = record { unrefused = c.in_ok-taken.ensures.1 _ refl; all = c.in_ok-taken.ensures.0 }
