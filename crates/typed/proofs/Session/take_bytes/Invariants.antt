-- `typed::Session::take_bytes` meets its contract: before each turn the bytes passed have been typed. Assumes nothing.
use Rattle.std.proofs.Common.{take}
use Rattle.typed.specs.Held.{TypedHeld}
use Rattle.typed.proofs.Session.take_bytes.Given as goal

abbrev pub invariant-loop-byte : goal.invariant-loop-byte
invariant-loop-byte g l =
    TypedHeld 81 l.initial.self.line.items l.initial.self.arena.now l.initial.self.list.now (take l.byte-index l.bytes) l.self.line.items l.self.arena.now l.self.list.now
