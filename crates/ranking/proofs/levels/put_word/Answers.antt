-- `ranking::levels::put_word` meets its contract: a word that does not become full is stored, and one that does gets its first bit by a climb
-- (LevelLaws). Assumes nothing.
use Prim.Native.Nat.{◌+◌, ◌*◌, ◌<◌}
use mathlib.Core.Path.{◌∙◌}
use native.Mathlib.Omega.{arith}
use lib.ListN.{length-set}
use Rattle.model.specs.Class.{blocks}
use Rattle.ranking.proofs.LevelLaws.{inside, begins, put_some, put_right, put_full}
use Rattle.ranking.proofs.levels.put_word.Goals as goal
use Rattle.ranking.proofs.levels.put_word.Goals.{Start}

-- the word is within the record, and has a first block
within : (start : Start) → start.args.j < 64
within start = inside start.args.rec.now start.args.class start.args.j start.requires

first : (start : Start) → 32 * start.args.j < blocks start.args.class
first start = begins start.args.rec.now start.args.class start.args.j start.requires

pub overflow_add-at : goal.overflow_add-at
overflow_add-at c = record { fits = omega (arith, within (goal.at.overflow_add-at c).Start) }

pub bounds-rec-at : goal.bounds-rec-at
bounds-rec-at c = omega (arith, c.requires.long, within (goal.at.bounds-rec-at c).Start)

pub bounds-rec-at-then-both : goal.bounds-rec-at-then-both
bounds-rec-at-then-both c = omega (arith, c.requires.long, within (goal.at.bounds-rec-at-then-both c).Start)

pub set_bit-requires : goal.set_bit-requires
set_bit-requires c =
    let a = c.args in
    record {
      long = length-set a.rec.now (1 + a.j) _ ∙ c.requires.long;
      class = c.requires.class;
      right = put_right a.rec.now a.class a.j a.w c.requires c.ranges.w.fits _ c.if-both.true (omega (arith, c.if-both.true));
      block = omega (arith, first (goal.at.set_bit-requires c).Start);
    }

pub returns-then-both : goal.returns-then-both
returns-then-both c =
    let a = c.args in
    c.set_bit.ensures
    ∙ put_full a.rec.now a.class a.j a.w c.requires c.ranges.w.fits _ c.if-both.true (omega (arith, c.if-both.true)) _ (omega arith)

pub bounds-rec-at-else-both : goal.bounds-rec-at-else-both
bounds-rec-at-else-both c = omega (arith, c.requires.long, within (goal.at.bounds-rec-at-else-both c).Start)

pub returns-else-both : goal.returns-else-both
returns-else-both c =
    let a = c.args in
    put_some a.rec.now a.class a.j a.w c.requires c.ranges.w.fits c.if-both.false
