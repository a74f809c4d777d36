-- The invariant of `ranking::records::write_records`'s loop: the records passed are the new ones. Assumes nothing.
use mathlib.Core.Path.{◌≡◌}
use Rattle.model.specs.Word.{word}
use Rattle.ranking.specs.Live.{marks_of}
use Rattle.ranking.specs.Records.{with_records, marked_record}
use Rattle.ranking.proofs.records.write_records.Given as goal

abbrev pub invariant-loop-s : goal.invariant-loop-s
invariant-loop-s l = l.arena ≡ with_records l.initial.arena l.s (λ t. marked_record (word l.heads t) (marks_of l.marks t))
