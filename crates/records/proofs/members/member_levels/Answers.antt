-- `records::members::member_levels` meets its contract: a segment that is not in the pool has 68 words of its class to be judged.
-- Assumes nothing.
use Rattle.records.proofs.RecordsLaws.{member_record}
use Rattle.records.proofs.members.member_levels.Goals as goal

pub levels_right-requires : goal.levels_right-requires
levels_right-requires c = member_record c.requires c.record_of.ensures c.class-class.ensures c.if-class-eq0.false
