-- `allocation::find::find` meets its contract: each way out of the search is one of the laws of the first untaken block. Assumes nothing.
use mathlib.Core.Path.{◌≡◌, sym, ap, ◌∙◌}
use native.Mathlib.Omega.{arith}
use Rattle.std.proofs.Common.{rules}
use Rattle.std.specs.Option.{option_map}
use Rattle.model.specs.Word.{field}
use Rattle.words.proofs.ClassLaws.{class_bounds}
use Rattle.allocation.specs.declared.find.Found.TheVariants.{Here}
use Rattle.allocation.proofs.FindLaws.{whole, members_asked, joining_asked, none_unused, AtPlace, at_asked, free_none, found_here, found_next, none_left}
use Rattle.allocation.proofs.find.find.Goals as goal
use Rattle.allocation.proofs.find.find.Goals.{After-place_index}

-- the place of a class with segments
at : (c : After-place_index) → AtPlace c.args.arena.now c.args.class c.place_rank-rank.result c.place_index.result
at c = record {
  search = c.requires;
  some = omega (arith, c.members-m.ensures, c.if-m-eq0.false);
  rank = c.place_rank-rank.ensures ∙ ap (field 0 8) c.place_of-place.ensures;
  index = c.place_index.ensures ∙ ap (field 8 12) c.place_of-place.ensures;
}

pub members-m-requires : goal.members-m-requires
members-m-requires c = members_asked c.args.arena.now c.requires.is_sound

pub joining-requires : goal.joining-requires
joining-requires c =
    let a = c.args in
    joining_asked a.arena.now a.class c.members-m.result c.requires c.members-m.ensures
    (none_unused a.arena.now a.class c.requires (sym c.members-m.ensures ∙ c.if-m-eq0.true))

pub place_of-place-requires : goal.place_of-place-requires
place_of-place-requires c = omega (arith, whole c.args.arena.now c.requires.is_sound, class_bounds c.args.class c.requires.class)

pub free_at-requires : goal.free_at-requires
free_at-requires c = at_asked (at c)

pub returns-in-Some : goal.returns-in-Some
returns-in-Some c = found_here (at (goal.at.returns-in-Some c).After-place_index) c.in-Some.ensures

pub returns-then-rank-m : goal.returns-then-rank-m
returns-then-rank-m c =
    let mapped : c.map.result ≡ option_map Here c.free_at-then-rank-m.result = search rules in
    rw mapped
    (found_next (at (goal.at.returns-then-rank-m c).After-place_index) (free_none _ _ _ _ _ c.free_at.ensures c.in_default.not-Some)
    c.free_at-then-rank-m.result (omega (arith, c.if-rank-m.true, c.members-m.ensures)) c.free_at-then-rank-m.ensures)

pub joining-requires-2 : goal.joining-requires-2
joining-requires-2 c =
    let a = c.args in
    joining_asked a.arena.now a.class c.members-m.result c.requires c.members-m.ensures
    (none_left (at (goal.at.joining-requires-2 c).After-place_index) (free_none _ _ _ _ _ c.free_at.ensures c.in_default.not-Some)
    (omega (arith, c.if-rank-m.false, c.members-m.ensures)))
