-- `records::levels::full_words` meets its contract: the words passed have told their bits (OwnLaws).
-- Assumes nothing.
use Rattle.records.proofs.OwnLaws.{none_told, one_told, all_told}
use Rattle.records.proofs.levels.full_words.Goals as goal

pub loop-b-init : goal.loop-b-init
loop-b-init c = none_told _

pub loop-b-preserved : goal.loop-b-preserved
loop-b-preserved c = one_told c.loop-b.invariant c.with_full-w.ensures

pub returns : goal.returns
returns c = all_told c.loop-b.invariant c.loop-b-test.false
