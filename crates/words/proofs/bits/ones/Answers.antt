-- `words::bits::ones` meets its contract: the ones of a word are its set bits.
-- Assumes nothing.
use borrow.Author.Rules.{rules}
use Rattle.laws.proofs.Bits.{ones_count}
use Rattle.words.proofs.bits.ones.Goals as goal

pub returns : goal.returns
returns c = ones_count 32 c.args.w (search rules)
