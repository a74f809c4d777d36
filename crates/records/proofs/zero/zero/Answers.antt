-- `records::zero::zero` meets its contract: the words joined are 0 exactly if each is (ChainLaws).
-- Assumes nothing.
use mathlib.Core.Path.{◌≡◌, ap, ◌∙◌}
use lib.Bits.{bit_or}
use lib.Dec.{eqb}
use Prim.Native.Nat.{ℕ}
use Rattle.std.proofs.Common.{rules}
use Rattle.std.specs.List.{fold}
use Rattle.records.proofs.ChainLaws.{joined}
use Rattle.records.proofs.zero.zero.Goals as goal

pub returns : goal.returns
returns c =
    let is : c.fold.result ≡ fold bit_or 0 c.args.ws.now = search rules in
    ap (λ (w : ℕ). eqb w 0) is ∙ joined c.args.ws.now
