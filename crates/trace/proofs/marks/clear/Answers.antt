-- `trace::marks::clear` meets its contract. Assumes nothing.
use Prim.Native.Nat.{◌+◌, ◌*◌}
use mathlib.Core.Path.{◌≡◌, ap, ◌∙◌}
use lib.ListN.{drop, replicate}
use lib.Seq.{length-take-le}
use Rattle.trace.proofs.MarkLaws.{cleared}
use Rattle.trace.proofs.marks.clear.Goals as goal

pub returns : goal.returns
returns c =
    let n = c.args.n in
    let zeros : c.fill.new.self ≡ replicate (1 + 64 * n) 0 =
    c.fill.ensures.after (λ y e. e) ∙ ap (λ k. replicate k 0) (length-take-le (1 + 64 * n) c.args.marks.now c.requires) in
    rw zeros (cleared n (drop (1 + 64 * n) c.args.marks.now))
