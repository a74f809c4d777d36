-- `drawing::rooms::taken_in` counts the taken blocks of a segment: the ones of its words are their bits. Assumes nothing.
use Rattle.std.proofs.Common.{arith, ◌≡◌, ◌+◌, ◌-◌, ◌*◌, ◌∙◌}
use Rattle.drawing.proofs.RoomLaws.{count_words}
use Rattle.drawing.proofs.rooms.taken_in.Goals as goal

pub returns : goal.returns
returns c =
    let s = c.args.segment in
    let cut : 1 + 64 * s + 64 - (1 + 64 * s) ≡ 64 = omega arith in
    rw cut at c.ones_in.ensures ∙ count_words c.args.row.now s (omega arith)
