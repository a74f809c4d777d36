-- `records::heads::classed` meets its contract: a segment in the pool has a record of zeros, and any other a class.
-- Assumes nothing.
use mathlib.Core.Path.{◌≡◌, sym, ◌∙◌}
use mathlib.Core.Bool.{true}
use borrow.Author.Tests.{eq-eqb}
use Rattle.model.specs.Standing.{in_pool}
use Rattle.records.proofs.RecordsLaws.{record_length}
use Rattle.records.proofs.heads.classed.Goals as goal

pub returns-in-0 : goal.returns-in-0
returns-in-0 c =
    let a = c.args in
    let pool : in_pool a.arena.now a.segment ≡ true = eq-eqb _ _ (sym c.class.ensures ∙ c.in-0.is) in
    simp pool (c.zero.ensures ∙ rw (c.record_of.ensures, record_length a.arena.now a.segment c.requires))
