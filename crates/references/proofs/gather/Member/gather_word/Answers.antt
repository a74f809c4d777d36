-- `references::gather::Member::gather_word` meets its contract. Assumes nothing.
use Prim.Native.Nat.{ℕ, ◌+◌, ◌*◌, ◌<◌}
use native.Mathlib.Omega.{arith}
use mathlib.Core.Path.{◌≡◌, sym, ap, ◌∙◌}
use mathlib.Core.Bool.{true}
use borrow.Author.Rules.{rules}
use Rattle.model.specs.Word.{bit}
use Rattle.model.specs.Class.{blocks}
use Rattle.model.specs.Standing.{taken_at}
use Rattle.laws.proofs.Bits.{bit_ones}
use Rattle.references.proofs.GatherLaws.{taken_inside}
use Rattle.references.proofs.gather.Member.gather_word.Goals as goal

pub gather_full-requires : goal.gather_full-requires
gather_full-requires c =
    let m = c.args.self in
    let p = c.requires in
    let all : (b : ℕ) → b < 32 → taken_at m.arena.now m.s (32 * c.args.j + b) ≡ true =
    λ b l. sym (p.bits b l) ∙ ap (λ (w : ℕ). bit w b) c.if-w-eq4294967295.true ∙ bit_ones b l in
    record {
      small = search rules;
      inside = omega (arith, taken_inside m.arena.now m.s (32 * c.args.j + 31) (all 31 (omega arith)), ap blocks m.of.member.class);
      taken = all;
      gathered = p.gathered;
    }
