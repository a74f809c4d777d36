-- `words::class::class_of` meets its contract: the leading zeros of an n that is not 0 give its length in bits, and that its class.
-- Assumes nothing.
use native.Mathlib.Omega.{arith}
use lib.Count.{leading_length}
use borrow.Author.Rules.{rules}
use Rattle.model.specs.Below.{first_from}
use Rattle.model.specs.Class.{class_of}
use Rattle.words.proofs.ClassLaws.{class_length}
use Rattle.words.proofs.class.class_of.Goals as goal

pub returns-then-n-eq0 : goal.returns-then-n-eq0
unfolding class_of first_from
returns-then-n-eq0 c = rw c.if-n-eq0.true

pub returns : goal.returns
returns c =
    let n = c.args.n in
    let long = leading_length 32 n (search rules) in
    omega (arith, class_length n long.0 (omega arith) long.2 long.3)
