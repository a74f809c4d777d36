-- `records::members::member_counts` meets its contract: a segment that is not in the pool has 68 words of its class to be counted.
-- Assumes nothing.
use Rattle.records.proofs.RecordsLaws.{member_record}
use Rattle.records.proofs.members.member_counts.Goals as goal

pub count-requires-else-class-eq0 : goal.count-requires-else-class-eq0
count-requires-else-class-eq0 c = member_record c.requires c.record_of.ensures c.class-class.ensures c.if-class-eq0.false
