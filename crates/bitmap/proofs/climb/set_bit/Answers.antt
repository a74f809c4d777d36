-- `bitmap::climb::set_bit` meets its contract: what climbs from level 0 leaves the levels of the set with one block more (RecordLaws).
-- Assumes nothing.
use Prim.Native.Nat.{ℕ, ◌-◌}
use native.Mathlib.Omega.{arith}
use mathlib.Core.Path.{ap, ◌∙◌}
use Rattle.words.proofs.ClassLaws.{blocks_most}
use Rattle.bitmap.specs.Tree.{climbed}
use Rattle.bitmap.proofs.LevelLaws.{levels_pos, levels_le}
use Rattle.bitmap.proofs.RecordLaws.{set_bit_is}
use Rattle.bitmap.proofs.climb.set_bit.Goals as goal

pub overflow_sub-levels : goal.overflow_sub-levels
overflow_sub-levels c = omega (arith, levels_pos c.args.class c.requires.class)

pub climb-requires : goal.climb-requires
climb-requires c =
    let a = c.args in
    let p = c.requires in
    record {
      long = p.long;
      level = omega (arith, levels_le a.class p.class, levels_pos a.class p.class);
      inside = omega (arith, blocks_most a.class p.class);
    }

pub returns : goal.returns
returns c =
    let a = c.args in
    c.climb.ensures
    ∙ ap (λ (n : ℕ). climbed (n - 1) 0 a.k a.rec.now) c.levels.ensures
    ∙ set_bit_is a.rec.now a.class a.k c.requires
