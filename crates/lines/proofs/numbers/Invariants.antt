-- `lines::numbers` meets its contract: the fields passed are numbers, and these stand in the row. Assumes nothing.
use Rattle.std.proofs.Common.{◌≡◌, true, map}
use Rattle.lines.specs.Line.{all_numbers, value}
use Rattle.lines.proofs.numbers.Given as goal

abbrev pub invariant-loop-field : goal.invariant-loop-field
invariant-loop-field l =
    (all_numbers (map (λ f. f.now) l.yielded) ≡ true) × (l.all.items ≡ map value (map (λ f. f.now) l.yielded))
