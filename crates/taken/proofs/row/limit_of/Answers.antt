-- `taken::row::limit_of` meets its contract: the rank is below the place's, the place's own, or behind it.
-- Assumes nothing.
use Prim.Native.Nat.{ℕ}
use native.Mathlib.Omega.{arith}
use mathlib.Core.Path.{◌≡◌, ap, ◌∙◌}
use Rattle.std.proofs.Common.{Less, Equal, Greater}
use Rattle.std.proofs.lemmas.Cmp.{ranked}
use Rattle.model.specs.Word.{word, field}
use Rattle.model.specs.Layout.{place_at}
use Rattle.model.specs.View.{class, place_rank}
use Rattle.taken.proofs.RowLaws.{limit_before, limit_at, limit_behind}
use Rattle.taken.proofs.row.limit_of.Goals as goal
use Rattle.taken.proofs.row.limit_of.Goals.{After-place_rank}

-- the place and the rank that were read are those of the segment
at_place : (c : After-place_rank) → c.place_of-place.result ≡ word c.args.arena.now (place_at (class c.args.arena.now c.args.s))
at_place c =
    let a = c.args in
    c.place_of-place.ensures ∙ ap (λ (i : ℕ). word a.arena.now (place_at i)) c.requires.class

first : (c : After-place_rank) → c.place_rank.result ≡ place_rank c.args.arena.now (class c.args.arena.now c.args.s)
first c = c.place_rank.ensures ∙ ap (field 0 8) (at_place c)

pub returns-in-Less : goal.returns-in-Less
returns-in-Less c =
    rw (c.blocks-in-Less.ensures, c.requires.class)
    (limit_before c.args.arena.now c.args.s (omega (arith, ranked c.rank.result c.place_rank.result Less c.in-Less.ensures, c.rank.ensures, first (goal.at.returns-in-Less c).After-place_rank)))

pub returns-in-Equal : goal.returns-in-Equal
returns-in-Equal c =
    rw (c.place_index.ensures, at_place (goal.at.returns-in-Equal c).After-place_rank)
    (limit_at c.args.arena.now c.args.s (omega (arith, ranked c.rank.result c.place_rank.result Equal c.in-Equal.ensures, c.rank.ensures, first (goal.at.returns-in-Equal c).After-place_rank)))

pub returns-in-Greater : goal.returns-in-Greater
returns-in-Greater c =
    limit_behind c.args.arena.now c.args.s (omega (arith, ranked c.rank.result c.place_rank.result Greater c.in-Greater.ensures, c.rank.ensures, first (goal.at.returns-in-Greater c).After-place_rank))
