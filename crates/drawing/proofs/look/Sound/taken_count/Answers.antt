-- `drawing::look::Sound::taken_count` counts the taken blocks by the taken row. Assumes nothing.
use Rattle.std.proofs.Common.{sym, ◌∙◌}
use Rattle.taken.proofs.RowLaws.{row_count}
use Rattle.drawing.proofs.look.Sound.taken_count.Goals as goal

pub returns : goal.returns
returns c = c.taken_count.ensures ∙ row_count c.args.self.now.ruled.row_right (sym c.segments.ensures)
