-- `references::gather::Member::gather_full` meets its contract: blocks of class 3 have 2 words, those of class 4 have 4.
-- Assumes nothing.
use Prim.Native.Nat.{◌*◌}
use native.Mathlib.Omega.{arith}
use mathlib.Core.Path.{◌≡◌, ap, ◌∙◌, sym}
use lib.ListN.{length}
use Rattle.model.specs.Class.{block_words}
use Rattle.model.specs.Layout.{block_at}
use Rattle.laws.proofs.Splice.{length_part}
use Rattle.references.proofs.BesideLaws.{full_room, full_within, full_gathered}
use Rattle.references.proofs.gather.Member.gather_full.Goals as goal
use Rattle.references.proofs.gather.Member.gather_full.Goals.{Else-self-eq3, Then-self-eq3}

-- the words of a block, on either way
two : (c : Then-self-eq3) → block_words c.args.self.class ≡ 2
two c = ap block_words c.if-self-eq3.true

four : (c : Else-self-eq3) → block_words c.args.self.class ≡ 4
four c =
    let same : c.args.self.class ≡ 4 = omega (arith, c.requires.small, c.args.self.of.member.low, c.if-self-eq3.false) in
    ap block_words same

pub put_beside-requires : goal.put_beside-requires
put_beside-requires c =
    let p = c.requires in
    let m = c.args.self in
    let own = two (goal.at.put_beside-requires c).Then-self-eq3 in
    record {
      beside = record { some = omega arith; few = omega arith; long = ap length c.words_from.ensures ∙ length_part m.arena.now (block_at m.n m.s m.class (32 * c.args.j)) 64 (omega (arith, full_within m.of p, own)) };
      own = own;
      room = omega (arith, full_room m.of p, own);
    }

pub returns-then-self-eq3 : goal.returns-then-self-eq3
returns-then-self-eq3 c = full_gathered c.args.self.of c.requires c.put_beside.result (sym (two (goal.at.returns-then-self-eq3 c).Then-self-eq3)) c.words_from.ensures c.put_beside.ensures

pub put_beside-requires-else-self-eq3 : goal.put_beside-requires-else-self-eq3
put_beside-requires-else-self-eq3 c =
    let p = c.requires in
    let m = c.args.self in
    let own = four (goal.at.put_beside-requires-else-self-eq3 c).Else-self-eq3 in
    record {
      beside = record { some = omega arith; few = omega arith; long = ap length c.words_from-else-self-eq3.ensures ∙ length_part m.arena.now (block_at m.n m.s m.class (32 * c.args.j)) 128 (omega (arith, full_within m.of p, own)) };
      own = own;
      room = omega (arith, full_room m.of p, own);
    }

pub returns-else-self-eq3 : goal.returns-else-self-eq3
returns-else-self-eq3 c = full_gathered c.args.self.of c.requires c.put_beside-else-self-eq3.result (sym (four (goal.at.returns-else-self-eq3 c).Else-self-eq3)) c.words_from-else-self-eq3.ensures c.put_beside-else-self-eq3.ensures
