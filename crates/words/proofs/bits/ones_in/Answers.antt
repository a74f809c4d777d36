-- `words::bits::ones_in` meets its contract: at most 4,096 words have at most 32 ones each, and a sum over a list is the sum over its places.
-- Assumes nothing.
use native.Mathlib.Omega.{arith}
use mathlib.Core.Path.{◌≡◌, refl, sym, ◌∙◌}
use Rattle.std.proofs.Common.{rules, tests}
use Rattle.std.proofs.iter.runs.Made.{chains}
use Rattle.std.proofs.lemmas.Iterator.{YieldsList-from_slice}
use Rattle.std.proofs.lemmas.Iterator.Adapters.{fits_from_length, at_most_from_yields_List}
use Rattle.std.specs.List.{sum_by}
use Rattle.model.specs.Below.{count_below}
use Rattle.model.specs.Word.{bit}
use Rattle.laws.proofs.Below.{count_below_le}
use Rattle.words.proofs.OnesLaws.{by_place}
use Rattle.words.proofs.bits.ones_in.Goals as goal

pub sum-requires-clause-fits : goal.sum-requires-clause-fits
sum-requires-clause-fits c =
    fits_from_length _ _ 4096 _ (at_most_from_yields_List (YieldsList-from_slice c.args.ws.now (cc)) (search rules)) c.map.ensures.closure (omega arith)
    (λ w r q k. let ones : r ≡ count_below 32 (bit w.now) = search (rules, tests) in (refl, omega (arith, count_below_le 32 (bit w.now))))

pub returns : goal.returns
returns c =
    let sum : c.sum.result ≡ sum_by (λ w. count_below 32 (bit w)) c.args.ws.now = search (rules, chains) in
    sum ∙ sym (by_place (λ w. count_below 32 (bit w)) c.args.ws.now)
