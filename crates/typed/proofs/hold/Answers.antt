-- `typed::hold` meets its contract: the byte is held where there is room for it. Assumes nothing.
use Rattle.std.proofs.Common.{sym, arith}
use Rattle.std.proofs.lemmas.Bool.{eqb-true, eqb-false}
use Rattle.typed.proofs.HeldLaws.{held_full, held_more}
use Rattle.typed.proofs.hold.Goals as goal

pub returns-then-not-is_full : goal.returns-then-not-is_full
returns-then-not-is_full c =
    let room = eqb-false _ _ (sym c.if-not-is_full.ensures.value) in
    rw c.push.ensures.items (held_more 81 c.args.line.now.items c.args.byte (omega (arith, c.is_full.ensures.fits)))

pub returns-else-not-is_full : goal.returns-else-not-is_full
returns-else-not-is_full c = held_full 81 c.args.line.now.items c.args.byte (eqb-true _ _ (sym c.if-not-is_full.ensures.value))
