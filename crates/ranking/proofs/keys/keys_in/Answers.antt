-- `ranking::keys::keys_in` meets its contract: a sum over at most 64 keys. Assumes nothing.
use Prim.Native.Nat.{◌^◌, ◌≤◌}
use mathlib.Core.Path.{◌≡◌, ◌∙◌}
use native.Mathlib.Omega.{arith}
use mir.Val.{bool_byte}
use lib.ListN.{length, take}
use lib.Seq.{length-take-le}
use Rattle.std.proofs.Common.{rules, sum_by}
use Rattle.std.proofs.lemmas.Iterator.{YieldsList-from_slice}
use Rattle.std.proofs.lemmas.Iterator.Adapters.{fits_from_length, at_most_from_yields_List}
use Rattle.ranking.specs.Keys.{between, keys_in}
use Rattle.ranking.proofs.KeyLaws.{keys_summed, keys_in_le}
use Rattle.ranking.proofs.keys.keys_in.Goals as goal

pub sum-requires-clause-fits : goal.sum-requires-clause-fits
sum-requires-clause-fits c =
    let first = take c.args.n c.args.keys.now in
    let few : length first ≤ 64 = omega (arith, length-take-le c.args.n c.args.keys.now (omega arith), c.requires) in
    fits_from_length _ _ 64 (2 ^ 32) (at_most_from_yields_List (YieldsList-from_slice first cc) few) c.map.ensures.closure (omega arith) (λ x r q k. search rules)

pub returns : goal.returns
returns c =
    let a = c.args in
    let summed : c.sum.result ≡ sum_by (λ k. bool_byte (between a.from a.to k)) (take a.n a.keys.now) = search rules in
    let all : c.sum.result ≡ keys_in a.keys.now a.n a.from a.to = summed ∙ keys_summed a.keys.now a.from a.to a.n (omega arith) in
    (all, omega (arith, all, keys_in_le a.keys.now a.n a.from a.to, c.requires))
