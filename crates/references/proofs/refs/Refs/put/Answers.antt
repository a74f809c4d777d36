-- `references::refs::Refs::put` meets its contract. Assumes nothing.
use Prim.Native.Nat.{ℕ, ◌-◌, ◌≤◌}
use native.Mathlib.Omega.{arith}
use mathlib.Core.Path.{ap, ◌∙◌}
use mathlib.Core.List.{List, ◌++◌}
use lib.ListN.{length, drop}
use Rattle.references.proofs.GatherLaws.{first_words, words_behind, longer_words}
use Rattle.references.proofs.refs.Refs.put.Goals as goal

pub returns : goal.returns
returns c =
    let p = c.requires in
    let words = c.self.inside.words.now in
    let n = c.self.inside.count in
    let room : c.args.r ≤ length c.put_references.new.rest = omega (arith, p.inside, p.enough, c.put_references.auto.rest, first_words words c.self.invariant c.self.view_is, words_behind words n c.self.invariant) in
    longer_words words c.put_references.new.rest (drop (4096 - n) (drop n words)) c.args.r c.self.invariant c.self.view_is room
    ∙ ap (λ (xs : List ℕ). c.args.self ++ xs) c.put_references.ensures.words
