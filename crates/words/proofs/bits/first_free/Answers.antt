-- `words::bits::first_free` meets its contract: past the last bit there is none to find, and before it the trailing zeros of the
-- flipped word lead to the first.
-- Assumes nothing.
use borrow.Author.Rules.{rules}
use Rattle.model.specs.Below.{first_from}
use Rattle.laws.proofs.Bits.{first_free}
use Rattle.words.proofs.bits.first_free.Goals as goal

pub returns-then-b-eq32 : goal.returns-then-b-eq32
unfolding first_from
returns-then-b-eq32 c = rw c.if-b-eq32.true

pub returns : goal.returns
returns c = first_free c.args.w c.args.b (search rules) (search rules)
