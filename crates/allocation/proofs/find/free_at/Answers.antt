-- `allocation::find::free_at` meets its contract: the record that is searched is that of the rank's segment, which there is. Assumes nothing.
use mathlib.Core.Path.{◌≡◌, refl, sym, ◌∙◌}
use native.Mathlib.Omega.{arith}
use Rattle.model.specs.View.{ranked}
use Rattle.allocation.proofs.ChainLaws.{below_some, below_none}
use Rattle.allocation.proofs.FindLaws.{whole, ranked_there, segment_ranked, free_asked, free_is, free_inside}
use Rattle.allocation.proofs.find.free_at.Goals as goal
use Rattle.allocation.proofs.find.free_at.Goals.{In_ok-segment}

-- the segment that is found
found : (c : In_ok-segment) → c.in_ok-segment.segment ≡ ranked c.args.arena.now c.args.class c.args.rank
found c = (below_some (sym c.ranked.ensures ∙ c.in_ok-segment.was)).0

pub ranked-requires : goal.ranked-requires
ranked-requires c = whole c.args.arena.now c.requires.is_sound

pub returns-in_err-segment : goal.returns-in_err-segment
returns-in_err-segment c =
    let a = c.args in
    absurd (omega (arith, below_none (sym c.ranked.ensures ∙ c.in_err-segment.was), ranked_there a.arena.now a.class a.rank a.from.0 c.requires))

pub record_of-requires : goal.record_of-requires
record_of-requires c =
    let a = c.args in
    segment_ranked a.arena.now a.class a.rank a.from.0 _ c.requires (found c)

pub first_free-k-requires : goal.first_free-k-requires
first_free-k-requires c =
    let a = c.args in
    free_asked a.arena.now a.class a.rank a.from.0 _ c.record_of.result.now c.requires
    (found (goal.at.first_free-k-requires c).In_ok-segment) c.record_of.ensures

pub returns-else-k-blocks : goal.returns-else-k-blocks
returns-else-k-blocks c =
    let a = c.args in
    let h = c.requires in
    let segment : c.in_ok-segment.segment ≡ ranked a.arena.now a.class a.rank = found (goal.at.returns-else-k-blocks c).In_ok-segment in (
      record {
        segment = segment;
        rank = refl;
        index = free_is a.arena.now a.class a.rank a.from.0 _ c.record_of.result.now _ segment c.record_of.ensures c.first_free-k.ensures;
      },
      free_inside a.class a.from.0 _ _ h.inside c.first_free-k.ensures (λ e. c.if-k-blocks.false (e ∙ sym c.blocks-2.ensures)),
    )
