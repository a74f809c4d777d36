-- `typed::Session::take_bytes` meets its contract: before each turn the bytes passed have been typed. Assumes nothing.
use Rattle.std.proofs.Common.{◌+◌, arith}
use Rattle.typed.proofs.HeldLaws.{typed_none, typed_next, not_both}
use Rattle.typed.proofs.Session.take_bytes.Goals as goal

pub loop-byte-init : goal.loop-byte-init
loop-byte-init g c = typed_none 81 c.args.self.now.line.items c.args.self.now.arena.now c.args.self.now.list.now c.args.self.now.held

pub returns-in_err-take_byte : goal.returns-in_err-take_byte
returns-in_err-take_byte g c =
    let at = c.loop-byte.byte-index in
    let next = typed_next c.args.bytes.now at c.loop-byte-test.true c.loop-byte.invariant c.take_byte.ensures in
    record { taken = at + 1; within = omega arith; all = λ e. absurd (not_both c.from_residual.result e c.from_residual.ensures.0); some = λ e. omega arith; so = next }

pub loop-byte-preserved : goal.loop-byte-preserved
loop-byte-preserved g c = typed_next c.args.bytes.now c.loop-byte.byte-index c.loop-byte-test.true c.loop-byte.invariant c.take_byte.ensures
