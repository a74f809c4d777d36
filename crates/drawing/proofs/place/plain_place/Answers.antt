-- `drawing::place::plain_place` gives the place of a block's plain words. Assumes nothing.
use Rattle.std.proofs.Common.{◌≡◌, true, rules}
use Rattle.model.specs.Standing.{is_taken}
use Rattle.model.specs.Sound.{sound}
use Rattle.drawing.specs.Look.{BlockOf}
use Rattle.drawing.proofs.FieldLaws.{placed}
use Rattle.drawing.proofs.place.plain_place.Goals as goal

pub returns : goal.returns
returns c =
    let ws = c.args.arena.now in
    let h = c.args.h.0 in
    let s : sound ws ≡ true = search rules in
    let t : is_taken ws h ≡ true = search rules in
    let own : BlockOf ws h c.in_ok-block.block.words.now c.in_ok-block.block.at.0 = search rules in
    placed ws h s t _ _ _ own c.shape-n.ensures
