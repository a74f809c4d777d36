-- `references::gather::Member::block` meets its contract: the part that is handed on is the block.
-- Assumes nothing.
use Rattle.references.proofs.GatherLaws.{block_handed}
use Rattle.references.proofs.gather.Member.block.Goals as goal

pub returns : goal.returns
returns c = block_handed c.args.self.of c.args.k c.block_of.ensures
