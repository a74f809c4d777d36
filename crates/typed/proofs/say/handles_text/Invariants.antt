-- The invariant of `typed::say::handles_text`'s loop: the text spells the handles passed, with at most 11 bytes each. Assumes nothing.
use Rattle.std.proofs.Common.{◌≡◌, ◌≤◌, ◌*◌, length, take}
use Rattle.typed.specs.Answers.{spelled}
use Rattle.typed.proofs.say.handles_text.Given as goal

abbrev pub invariant-loop-h : goal.invariant-loop-h
invariant-loop-h l = (length l.text.items ≤ 11 * l.h-index) × (l.text.items ≡ spelled (take l.h-index l.handles))
