-- `drawing::look::Sound::room_in` counts the untaken blocks of a segment, if it is of the class. Assumes nothing.
use Rattle.std.proofs.Common.{arith, ◌-◌, sym, ap₂, ◌∙◌}
use Rattle.drawing.proofs.RoomLaws.{ones_within, own_room}
use Rattle.drawing.proofs.look.Sound.room_in.Goals as goal

pub overflow_sub-result : goal.overflow_sub-result
overflow_sub-result c =
    let a = c.args in
    let p = c.requires in
    let within = ones_within a.self.now.arena.now a.self.now.row.now a.segment a.class a.self.now.ruled.row_right p.there p.low p.high
    (sym c.class.ensures ∙ c.if-class.true) in
    omega arith

pub returns-then-class : goal.returns-then-class
returns-then-class c =
    let a = c.args in
    let p = c.requires in
    ap₂ ◌-◌ c.blocks-then-class.ensures c.taken_in.ensures
    ∙ own_room a.self.now.arena.now a.self.now.row.now a.segment a.class a.self.now.ruled.row_right p.there p.low p.high
    (sym c.class.ensures ∙ c.if-class.true)
