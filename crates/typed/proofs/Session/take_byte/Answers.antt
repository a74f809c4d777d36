-- `typed::Session::take_byte` keeps what is held within 81 bytes. Assumes nothing.
use Rattle.typed.proofs.HeldLaws.{joined_within}
use Rattle.typed.proofs.Session.take_byte.Goals as goal

pub invariant_of-self : goal.invariant_of-self
invariant_of-self g c = record { held = rw c.hold.ensures (joined_within 81 c.args.self.now.line.items c.args.byte) }
