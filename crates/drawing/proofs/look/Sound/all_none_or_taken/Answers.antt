-- `drawing::look::Sound::all_none_or_taken` asks the taken row of each word, and that tells what the arena does. Assumes nothing.
use Rattle.std.proofs.Common.{length, get_or, ◌∙◌}
use Rattle.model.specs.Standing.{none_or_taken}
use Rattle.laws.proofs.Below.{all_below_ext}
use Rattle.taken.specs.Row.{row_none_or_taken}
use Rattle.taken.proofs.RowLaws.{row_none_or_taken_is}
use Rattle.drawing.proofs.look.Sound.all_none_or_taken.Goals as goal

pub returns : goal.returns
returns c =
    let words = c.args.words.now in
    c.all_none_or_taken.ensures
    ∙ all_below_ext (length words) (λ p. row_none_or_taken c.args.self.now.row.now (get_or words p 0)) (λ p. none_or_taken c.args.self.now.arena.now (get_or words p 0))
    (λ p _. row_none_or_taken_is c.args.self.now.ruled.row_right (get_or words p 0))
