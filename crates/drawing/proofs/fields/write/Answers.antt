-- `drawing::fields::write` keeps its promise. Assumes nothing.
use Rattle.std.proofs.Common.{◌≡◌, ◌+◌, true, rules}
use Rattle.model.specs.View.{offset, block}
use Rattle.model.specs.Standing.{is_taken}
use Rattle.model.specs.Sound.{sound}
use Rattle.drawing.specs.Fields.{has_field, field_at}
use Rattle.drawing.proofs.FieldLaws.{written}
use Rattle.drawing.proofs.fields.write.Goals as goal

pub returns : goal.returns
returns c =
    let a = c.args in
    let own = c.in_ok-block.ensures.1 in
    let place = c.in_ok-at.ensures in
    let ws_same : c.in_ok-judged.judged.arena.now ≡ a.arena.now = search rules in
    let s : sound a.arena.now ≡ true = search rules in
    let t : is_taken a.arena.now a.h.0 ≡ true = search rules in
    let its : has_field (block a.arena.now a.h.0) a.field ≡ true = cc in
    let at : c.in_ok-block.block.at.0 + c.in_ok-at.field-0 ≡ offset a.arena.now a.h.0 + field_at (block a.arena.now a.h.0) a.field = cc in
    written a.arena.now a.h.0 s t a.field a.v _ its (search rules) at (search rules)
