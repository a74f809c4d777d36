-- `bitmap::fresh::fresh` meets its contract: zeros with each level padded are the levels of a segment without any block set (FreshLaws).
-- Assumes nothing.
use mathlib.Core.Path.{ap, ◌∙◌}
use Rattle.model.specs.Layout.{record_head}
use Rattle.bitmap.specs.Tree.{padded_level}
use Rattle.bitmap.proofs.FreshLaws.{fresh_is}
use Rattle.bitmap.proofs.fresh.fresh.Goals as goal

pub returns : goal.returns
returns c =
    let i = c.args.class in
    c.pad-3.ensures
    ∙ ap (padded_level i 2) (c.pad-2.ensures
    ∙ ap (padded_level i 1) (c.pad.ensures
    ∙ ap (padded_level i 0) c.head_only.ensures))
    ∙ fresh_is i (record_head i c.args.rank 0) c.requires.class
