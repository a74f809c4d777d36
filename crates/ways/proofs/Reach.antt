-- Reachable blocks: what holds of every root and passes on from a block to what it refers to holds of each; and a collection lists exactly these.
-- Assumes nothing.
use Prim.Native.Nat.{ℕ}
use mathlib.Core.Path.{◌≡◌, sym, ◌∙◌, ap, subst}
use mathlib.Core.Logic.{◌↔◌, ◌≢◌}
use mathlib.Core.Bool.{true}
use mathlib.Core.List.{List}
use lib.ListN.{get_or}
use Rattle.model.specs.Ways.{Way, root, step, Drawing, leads, Reachable, Listing, listed}
use Rattle.ways.proofs.Listed.{listed_in, in_listed}

module _ (D : Drawing) (nowhere : (f : ℕ) → D.refers 0 f ≡ 0) (P : ℕ → Type 0)
    (roots : (p : ℕ) → get_or D.roots p 0 ≢ 0 → P (get_or D.roots p 0))
    (fields : (h f : ℕ) → P h → D.refers h f ≢ 0 → P (D.refers h f)) where
  along : (w : Way) → leads D w ≢ 0 → P (leads D w)
  along (root p) n = roots p n
  along (step w f) n = fields (leads D w) f (along w (λ z. n (ap (λ (h : ℕ). D.refers h f) z ∙ nowhere f))) n

  pub reachable_keeps : (h : ℕ) → Reachable D h → P h
  reachable_keeps h r = subst P r.1.1 (along r.1.0 (λ z. r.0 (sym r.1.1 ∙ z)))

pub listed_reachable : {D : Drawing} {L : List ℕ} → Listing D L → (h : ℕ) → (listed L h ≡ true) ↔ Reachable D h
listed_reachable {D} {L} a h = (to, λ r. in_listed L h (a.every h r))
  where
    to : listed L h ≡ true → Reachable D h
    to e = let i = listed_in L h e in subst (Reachable D) i.2 (a.nothing_else i.0 i.1)
