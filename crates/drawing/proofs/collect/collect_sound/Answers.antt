-- `drawing::collect::collect_sound` ranks the arena anew by the marks of its trace. Assumes nothing.
use Rattle.std.proofs.Common.{refl, rules, replicate}
use Rattle.drawing.proofs.Collecting.{traceable, reached}
use Rattle.drawing.proofs.collect.collect_sound.Goals as goal

pub trace-c-requires : goal.trace-c-requires
trace-c-requires c = traceable _ _ _ _ _ c.requires.unrefused refl c.requires.all

pub rank_anew-requires : goal.rank_anew-requires
rank_anew-requires c = reached {marks = replicate 4097 0} (traceable _ _ _ _ _ c.requires.unrefused refl c.requires.all) c.trace-c.ensures (search rules)
