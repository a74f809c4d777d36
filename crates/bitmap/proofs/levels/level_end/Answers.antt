-- `bitmap::levels::level_end` meets its contract: above level 0 the end is the number of words of the level below.
-- Assumes nothing.
use Prim.Native.Nat.{ℕ, zero, suc, ◌-◌, ◌<◌}
use native.Mathlib.Omega.{arith}
use mathlib.Core.Path.{◌≡◌, ◌∙◌}
use Rattle.model.specs.Class.{level_words, level_end}
use Rattle.bitmap.proofs.levels.level_end.Goals as goal

below : (i l : ℕ) → 0 < l → level_words i (l - 1) ≡ level_end i l
unfolding level_end
below i zero h = absurd (omega arith)
below i (suc l) h = let back : suc l - 1 ≡ l = omega arith in rw back

pub returns-in-0 : goal.returns-in-0
unfolding level_end
returns-in-0 c = rw c.in-0.is c.blocks-in-0.ensures

pub returns-in_default : goal.returns-in_default
returns-in_default c = c.level_words.ensures ∙ below c.args.class c.args.level (omega arith)
