-- `references::gather::Member::block_right` meets its contract. Assumes nothing.
use native.Mathlib.Omega.{arith}
use mathlib.Core.Path.{◌≡◌, sym, ◌∙◌}
use mathlib.Core.Bool.{true}
use lib.ListN.{length}
use Rattle.model.specs.Class.{block_words}
use Rattle.model.specs.Standing.{taken_at}
use Rattle.words.proofs.ClassLaws.{bounds_class, block_least}
use Rattle.references.proofs.GatherLaws.{header_room, handed_long, taken_inside}
use Rattle.references.proofs.JudgeLaws.{taken_by_row, free_right, header_wrong, references_right}
use Rattle.references.proofs.gather.Member.block_right.Goals as goal
use Rattle.references.proofs.gather.Member.block_right.Goals.{After-block-block, Else-not-is_taken}

-- past the first test the block is taken
taken : (c : Else-not-is_taken) → taken_at c.args.self.arena.now c.args.self.s c.args.k ≡ true
taken c =
    let m = c.args.self in
    sym (taken_by_row m.of _ m.taken c.requires c.is_taken.ensures) ∙ c.if-not-is_taken.false

-- the block that is handed on
long : (c : After-block-block) → taken_at c.args.self.arena.now c.args.self.s c.args.k ≡ true
    → length c.block-block.result.now ≡ block_words c.args.self.class
long c t = handed_long c.args.self.of _ c.block-block.ensures (taken_inside _ _ _ t)

pub returns-then-not-is_taken : goal.returns-then-not-is_taken
returns-then-not-is_taken c =
    let m = c.args.self in
    free_right m.of _ (sym (taken_by_row m.of _ m.taken c.requires c.is_taken.ensures) ∙ c.if-not-is_taken.true)

pub header_right-requires : goal.header_right-requires
header_right-requires c =
    let m = c.args.self.of.member in
    omega (arith, long (goal.at.header_right-requires c).After-block-block (taken (goal.at.header_right-requires c).Else-not-is_taken), block_least c.args.self.class (bounds_class c.args.self.class m.low m.high))

pub references_right-requires : goal.references_right-requires
references_right-requires c =
    omega (arith, long (goal.at.references_right-requires c).After-block-block (taken (goal.at.references_right-requires c).Else-not-is_taken), header_room c.args.self.class c.block-block.result.now (sym c.header_right.ensures ∙ c.if-header_right.true))

pub returns-then-header_right : goal.returns-then-header_right
returns-then-header_right c =
    let m = c.args.self in
    references_right m.of _ c.block-block.ensures c.header_right.ensures c.if-header_right.true
    (taken (goal.at.returns-then-header_right c).Else-not-is_taken) m.taken c.references_right.ensures

pub returns-else-header_right : goal.returns-else-header_right
returns-else-header_right c =
    let m = c.args.self in
    c.if-header_right.false ∙ header_wrong m.of _ c.block-block.ensures c.header_right.ensures c.if-header_right.false (taken (goal.at.returns-else-header_right c).Else-not-is_taken)
