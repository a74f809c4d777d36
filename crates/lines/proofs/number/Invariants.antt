-- `lines::number` meets its contract: the bytes passed are digits, with the value so far. Assumes nothing.
use Rattle.std.proofs.Common.{◌≡◌, ◌<◌, true, take}
use Rattle.lines.specs.Line.{all_digits, value}
use Rattle.lines.proofs.number.Given as goal

abbrev pub invariant-loop-byte : goal.invariant-loop-byte
invariant-loop-byte l = (all_digits (take l.byte-index l.field) ≡ true) × (l.v ≡ value (take l.byte-index l.field)) × (l.v < 4294967296)
