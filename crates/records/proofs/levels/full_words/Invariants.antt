-- `records::levels::full_words` meets its contract: the words passed have told their bits (OwnLaws).
-- Assumes nothing.
use Rattle.records.proofs.OwnLaws.{Told}
use Rattle.records.proofs.levels.full_words.Given as goal

abbrev pub invariant-loop-b : goal.invariant-loop-b
invariant-loop-b l = Told l.ws l.b l.w
