-- `bitmap::search::first_free` meets its contract: it is the search at level 0, which ends at the number of blocks.
-- Assumes nothing.
use Prim.Native.Nat.{ℕ, ◌-◌}
use mathlib.Core.Path.{◌≡◌, ap₂, ◌∙◌}
use mathlib.Core.Bool.{Bool, not}
use Rattle.std.specs.Prelude.{unwrap_or}
use Rattle.model.specs.Below.{first_from}
use Rattle.model.specs.View.{bit_in}
use Rattle.bitmap.specs.Tree.{before_end}
use Rattle.bitmap.proofs.SearchLaws.{first_or_end}
use Rattle.model.specs.Class.{blocks, level_end}
use Rattle.bitmap.proofs.LevelLaws.{levels_pos}
use Rattle.bitmap.proofs.search.first_free.Goals as goal

pub invariant_of-level_0 : goal.invariant_of-level_0
invariant_of-level_0 c =
    let p = c.requires in
    record { long = p.long; classed = p.class; right = p.right; used = levels_pos c.args.class p.class }

pub first_free-requires : goal.first_free-requires
unfolding level_end
first_free-requires c = c.requires.inside

pub returns : goal.returns
unfolding level_end
returns c =
    let n = blocks c.args.class in
    let free : ℕ → Bool = λ j. not (bit_in c.args.rec.now j) in
    let e : c.first_free.result ≡ before_end n (first_from c.args.k (n - c.args.k) free) = c.first_free.ensures in
    c.unwrap_or.ensures ∙ ap₂ unwrap_or e c.blocks-2.ensures ∙ first_or_end free c.args.k n c.requires.inside
