-- After a granted collection as many blocks are taken as the list is long. Assumes nothing.
use Prim.Native.Nat.{ℕ, zero, suc, ◌+◌, ◌*◌, ◌≤◌, ◌<◌}
use native.Mathlib.Omega.{arith}
use native.Mathlib.Nat.{le_antisymm}
use mathlib.Core.Path.{◌≡◌, refl, ap, ◌∙◌}
use mathlib.Core.Bool.{Bool, true, false, ◌||◌}
use mathlib.Core.List.{List, [], ◌∷◌}
use lib.ListN.{length, get_or}
use lib.Dec.{eqb}
use borrow.Author.Tests.{eqb-true}
use Rattle.model.specs.Below.{count_below, one_if}
use Rattle.model.specs.View.{segments}
use Rattle.model.specs.Standing.{is_taken, taken_count}
use Rattle.model.specs.Ways.{listed}
use Rattle.model.specs.Calls.{collected}
use Rattle.laws.proofs.Below.{count_below_ext, count_below_none}
use Rattle.soundness.proofs.Ranks.{same_count_one}
use Rattle.ways.proofs.Count.{distinct_count}
use Rattle.ways.proofs.Listed.{in_listed}
use Rattle.ways.proofs.Arena.{taken_position}
use Rattle.kept.proofs.Collected.{collected_segments}
use Rattle.kept.proofs.Kept.{is_taken_after}
use Rattle.kept.proofs.Reached.{Collection, its_list, reachable_taken}

either_count : (n : ℕ) (p q : ℕ → Bool) → count_below n (λ k. p k || q k) ≤ count_below n p + count_below n q
unfolding count_below
either_count zero p q = omega arith
either_count (suc n) p q = omega (arith, either_count n p q, one (p n) (q n))
  where
    one : (a b : Bool) → one_if (a || b) ≤ one_if a + one_if b
    one true b = omega arith
    one false b = omega arith

-- at most as many positions are listed as the list is long
listed_few : (B : ℕ) (L : List ℕ) → count_below B (λ x. listed L (x + 1)) ≤ length L
unfolding listed
listed_few B [] = omega (arith, count_below_none B (λ x. false) (λ k _. refl))
listed_few B (g ∷ L) =
    omega
    (arith, either_count B (λ x. eqb g (x + 1)) (λ x. listed L (x + 1)), listed_few B L, same_count_one B (λ x. eqb g (x + 1)) (λ a b _ _ p q. omega (arith, eqb-true g (a + 1) p, eqb-true g (b + 1) q)))

pub taken_after_collection : {ws roots L ws' : List ℕ} → Collection ws roots L ws' → taken_count ws' ≡ length L
unfolding taken_count
taken_after_collection {ws} {roots} {L} {ws'} c =
    ap (λ (vs : List ℕ). count_below (2048 * segments vs) (λ x. is_taken vs (x + 1))) c.arena
    ∙ ap (λ (N : ℕ). count_below (2048 * N) (λ x. is_taken (collected ws L) (x + 1))) (collected_segments ws L c.was.size)
    ∙ count_below_ext (2048 * segments ws) (λ x. is_taken (collected ws L) (x + 1)) (λ x. listed L (x + 1)) (λ x _. is_taken_after ws L (its_list c) (x + 1))
    ∙ le_antisymm (listed_few (2048 * segments ws) L)
    (distinct_count L (2048 * segments ws) (λ x. listed L (x + 1)) c.listing.once placed)
  where
    placed : (k : ℕ) → k < length L → (x : ℕ) × (x < 2048 * segments ws) × (get_or L k 0 ≡ x + 1) × (listed L (x + 1) ≡ true)
    placed k l =
        let p = taken_position ws (get_or L k 0) (reachable_taken ws roots c.was c.rooted (get_or L k 0) (c.listing.nothing_else k l)) in
        (p.0, p.1, p.2, in_listed L (p.0 + 1) (k, l, p.2))
