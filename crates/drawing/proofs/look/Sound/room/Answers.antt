-- `drawing::look::Sound::room` adds up what the segments give. Assumes nothing.
use Rattle.std.proofs.Common.{rules, arith, ◌∙◌}
use Rattle.std.proofs.lemmas.Iterator.{YieldsList-from_range, YieldsList-from_map}
use Rattle.std.proofs.lemmas.Iterator.Consumers.{sum_from_yields_List, fits_from_yields_list}
use Rattle.drawing.specs.Rooms.{room_in}
use Rattle.drawing.proofs.RoomLaws.{room_sum, room_few}
use Rattle.drawing.proofs.look.Sound.room.Goals as goal

pub sum-requires-clause-fits : goal.sum-requires-clause-fits
sum-requires-clause-fits c =
    let ws = c.args.self.now.arena.now in
    let i = c.args.class in
    let N = c.segments.result in
    fits_from_yields_list c.map.result _
    (YieldsList-from_map _ (room_in ws i) (YieldsList-from_range 0 N N (cc) (omega arith)) c.map.ensures.closure (λ x r q k. search rules))
    (rw c.segments.ensures (room_few ws i c.requires.0 c.requires.1 c.args.self.now.ruled.few))

pub returns : goal.returns
returns c =
    let ws = c.args.self.now.arena.now in
    let i = c.args.class in
    let N = c.segments.result in
    let e = sum_from_yields_List c.map.result c.sum.result c.sum.ensures.ran
    (YieldsList-from_map _ (room_in ws i) (YieldsList-from_range 0 N N (cc) (omega arith)) c.map.ensures.closure (λ x r q k. search rules)) in
    rw c.segments.ensures at e ∙ room_sum ws i c.requires.0 c.requires.1
