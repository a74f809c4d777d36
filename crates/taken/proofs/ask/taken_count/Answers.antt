-- `taken::ask::taken_count` meets its contract: the ones of its words are the bits of the row.
-- Assumes nothing.
use Rattle.std.proofs.Common.{arith, ◌≡◌, ℕ, ◌+◌, ◌-◌, ◌*◌, ap, ◌∙◌}
use Rattle.model.specs.Below.{count_below}
use Rattle.arena.specs.Rows.{row_bit}
use Rattle.taken.proofs.RowLaws.{count_words}
use Rattle.taken.proofs.ask.taken_count.Goals as goal

pub returns : goal.returns
returns c =
    let row = c.args.row.now in
    let n = 64 * c.args.n in
    let cut : 1 + n - 1 ≡ n = omega arith in
    let all : n * 32 ≡ 2048 * c.args.n = omega arith in
    rw cut at c.ones_in.ensures
    ∙ count_words row n (omega arith)
    ∙ ap (λ (m : ℕ). count_below m (λ x. row_bit row (x + 1))) all
