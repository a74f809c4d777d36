-- `drawing::look::Sound::block` gives the words of a taken block, and where they begin. Assumes nothing.
use Rattle.std.proofs.Common.{◌≡◌, true, refl, rules, sym, ap, ◌∙◌}
use Rattle.model.specs.View.{class}
use Rattle.model.specs.Standing.{is_taken}
use Rattle.taken.proofs.RowLaws.{row_taken_is}
use Rattle.drawing.proofs.LookLaws.{TakenBlock, taken_block, cut_ends, cut_block, cut_fitting}
use Rattle.drawing.proofs.look.Sound.block.Goals as goal
use Rattle.drawing.proofs.look.Sound.block.Goals.{Else-not-is_taken}

is_there : (c : Else-not-is_taken) → is_taken c.args.self.now.arena.now c.args.h.0 ≡ true
is_there c = sym (c.is_taken.ensures ∙ row_taken_is c.args.self.now.ruled.row_right c.args.h.0) ∙ c.if-not-is_taken.false

there : (c : Else-not-is_taken) → TakenBlock c.args.self.now.arena.now c.args.h.0
there c = taken_block c.args.self.now.arena.now c.args.h.0 c.args.self.now.ruled.is_sound (is_there c)

pub returns-then-not-is_taken : goal.returns-then-not-is_taken
returns-then-not-is_taken c =
    (refl, sym (c.is_taken.ensures ∙ row_taken_is c.args.self.now.ruled.row_right c.args.h.0) ∙ c.if-not-is_taken.true)

pub class-class-requires : goal.class-class-requires
class-class-requires c =
    let b = there (goal.at.class-class-requires c).Else-not-is_taken in
    search rules

pub offset-at-requires : goal.offset-at-requires
offset-at-requires c =
    let b = there (goal.at.offset-at-requires c).Else-not-is_taken in
    let same = ap (class c.args.self.now.arena.now) c.segment-s.ensures in
    search rules

pub slice_bounds-result-end : goal.slice_bounds-result-end
slice_bounds-result-end c =
    cut_ends (there (goal.at.slice_bounds-result-end c).Else-not-is_taken) c.segments.ensures c.segment-s.ensures c.class-class.ensures
    c.index.ensures c.offset-at.ensures c.block_words.ensures

pub invariant_of-result : goal.invariant_of-result
invariant_of-result c =
    record {
      fitting =
          cut_fitting (there (goal.at.invariant_of-result c).Else-not-is_taken) c.segments.ensures c.segment-s.ensures c.class-class.ensures
          c.index.ensures c.offset-at.ensures c.block_words.ensures;
    }

pub returns : goal.returns
returns c = (
  is_there (goal.at.returns c).Else-not-is_taken,
  cut_block (there (goal.at.returns c).Else-not-is_taken) c.segments.ensures c.segment-s.ensures c.class-class.ensures
      c.index.ensures c.offset-at.ensures c.block_words.ensures,
)
