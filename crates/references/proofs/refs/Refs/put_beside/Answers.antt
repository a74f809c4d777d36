-- `references::refs::Refs::put_beside` meets its contract. Assumes nothing.
use Prim.Native.Nat.{◌-◌, ◌*◌, ◌≤◌}
use native.Mathlib.Omega.{arith}
use lib.ListN.{length, drop}
use borrow.Author.Tests.{eq-eqb}
use Rattle.references.proofs.GatherLaws.{first_words, words_behind, longer_words}
use Rattle.references.proofs.BesideLaws.{added_beside}
use Rattle.references.proofs.refs.Refs.put_beside.Goals as goal
use Rattle.references.proofs.refs.Refs.put_beside.Goals.{After-put_columns-wrong}

-- there is room for their references
room : (c : After-put_columns-wrong) → 32 * (c.args.size - 1) ≤ length c.put_columns-wrong.new.rest
room c =
    let refs = c.self.inside in
    omega (arith, c.requires.room, c.put_columns-wrong.auto.rest, first_words refs.words.now c.self.invariant c.self.view_is, words_behind refs.words.now refs.count c.self.invariant)

pub returns : goal.returns
returns c =
    let p = c.requires in
    let words = c.self.inside.words.now in
    let n = c.self.inside.count in
    let enough = room (goal.at.returns c).After-put_columns-wrong in
    rw (longer_words words c.put_columns-wrong.new.rest (drop (4096 - n) (drop n words)) (32 * (c.args.size - 1)) c.self.invariant c.self.view_is enough)
    (rw (eq-eqb _ _ c.if-wrong-ne0.false) at (added_beside p.beside c.args.self _ _ _ p.own enough c.put_columns-wrong.ensures))
