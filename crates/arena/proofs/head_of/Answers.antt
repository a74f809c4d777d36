-- `arena::head_of` meets its contract: the word at the record's offset is the first of the record's words. Assumes nothing.
use Prim.Native.Nat.{◌+◌, ◌*◌}
use mathlib.Core.Path.{◌≡◌, ap, sym, ◌∙◌}
use native.Mathlib.Omega.{arith}
use Rattle.model.specs.Word.{word}
use Rattle.model.specs.View.{record_of}
use Rattle.laws.proofs.Splice.{word_part}
use Rattle.arena.proofs.head_of.Goals as goal

pub returns : goal.returns
unfolding record_of
returns c =
    let at = 11 + 68 * c.args.segment in
    let first : at + 0 ≡ at = omega arith in
    sym (word_part c.args.arena.now at 68 0 (omega arith) ∙ ap (word c.args.arena.now) first)
