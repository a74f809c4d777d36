-- `taken::ask::Seen::word` meets its contract. Assumes nothing.
use Rattle.taken.proofs.RowLaws.{seen_word}
use Rattle.taken.proofs.ask.Seen.word.Goals as goal

pub returns : goal.returns
returns c = seen_word c.args.self.all c.args.self.over c.asked.result c.args.h c.args.row.now c.asked.ensures
