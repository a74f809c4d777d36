-- What a collection goes by: the roots as the taken row tells them, and the list of a trace. Assumes nothing.
use Prim.Native.Nat.{ℕ}
use native.Mathlib.Omega.{arith}
use mathlib.Core.Path.{◌≡◌, sym, ap, ◌∙◌}
use mathlib.Core.Bool.{Bool, true, ◌||◌}
use mathlib.Core.List.{List}
use lib.ListN.{length, get_or, take}
use borrow.Author.Tests.{ne_eqb}
use Rattle.std.proofs.lemmas.Bool.Decides.{nat_tests}
use Rattle.model.specs.Standing.{none_or_taken, taken_count}
use Rattle.model.specs.Ways.{listed}
use Rattle.model.specs.Sound.{sound}
use Rattle.model.specs.Calls.{collect_refusal}
use Rattle.laws.proofs.Below.{all_below_at}
use Rattle.soundness.proofs.Facts.{sound_facts}
use Rattle.kept.proofs.Reached.{reachable_taken}
use Rattle.trace.specs.Trace.{Traceable, Traced}
use Rattle.ranking.specs.Anew.{Reached}
use Rattle.ways.proofs.Reach.{listed_reachable}

-- the marks of a trace are those of taken blocks alone
pub reached : {ws roots list marks list' marks' : List ℕ} {most c : ℕ} → Traceable ws roots list marks most → Traced ws roots list c list' marks'
    → length marks' ≡ length marks → Reached ws marks'
reached {ws} {roots} {list' = list'} {c = c} may done same = record {
  is_sound = may.right;
  long = omega (arith, may.row, same);
  taken = λ h some below marked.
      let in_List = sym (done.marked.at h below ∙ ap (λ (t : Bool). t || listed (take c list') h) (ne_eqb h 0 (λ z. omega arith))) ∙ marked in
      reachable_taken ws roots (sound_facts ws may.right)
      (all_below_at (length roots) (λ p. none_or_taken ws (get_or roots p 0)) may.right_roots) h ((listed_reachable done.listing h).0 in_List);
}

-- a collection that is not refused may be traced, with a row of 4,097 words for marks
pub traceable : (ws roots list marks : List ℕ) (taken : ℕ) → collect_refusal ws roots list ≡ 0 → length marks ≡ 4097 → taken ≡ taken_count ws
    → Traceable ws roots list marks taken
unfolding collect_refusal
traceable ws roots list marks taken none long all =
    let s : sound ws ≡ true = grind (arith, nat_tests) in
    record {
      right = s;
      right_roots = grind (arith, nat_tests);
      room = grind (arith, nat_tests);
      row = omega (arith, (sound_facts ws s).size.few);
      all = all;
    }
