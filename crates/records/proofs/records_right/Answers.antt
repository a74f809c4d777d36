-- `records::records_right` meets its contract: the clauses passed give what the later ones ask (RecordsLaws).
-- Assumes nothing.
use Rattle.std.proofs.Common.{rules}
use Rattle.records.specs.Judged.{records_sound}
use Rattle.records.proofs.RecordsLaws.{sized_facts, classed_facts}
use Rattle.records.proofs.records_right.Goals as goal

pub unnamed_zero-requires : goal.unnamed_zero-requires
unnamed_zero-requires c = search (rules, sized_facts)

pub classes-requires : goal.classes-requires
classes-requires c = search (rules, sized_facts)

pub ranks-requires : goal.ranks-requires
ranks-requires c = search (rules, sized_facts)

pub levels-requires : goal.levels-requires
levels-requires c = search (rules, classed_facts)

pub counts-requires : goal.counts-requires
counts-requires c = search (rules, classed_facts)

pub behind-requires : goal.behind-requires
behind-requires c = search (rules, classed_facts)

pub places-requires : goal.places-requires
places-requires c = search (rules, sized_facts)

pub returns-then-behind : goal.returns-then-behind
unfolding records_sound
returns-then-behind c = search rules

pub returns-else-behind : goal.returns-else-behind
unfolding records_sound
returns-else-behind c = search rules
