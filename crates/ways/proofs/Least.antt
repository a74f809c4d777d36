-- The first way to a block: there is at most one, and of two blocks the one with the earlier first way comes before the other.
-- Assumes nothing.
use Prim.Native.Nat.{ℕ}
use mathlib.Core.Path.{◌≡◌, sym, subst}
use mathlib.Core.Logic.{◌⊎◌, inl, inr, ◌↔◌}
use Rattle.model.specs.Ways.{Way, Earlier, Drawing, leads, Before}
use Rattle.ways.proofs.Order.{Compared, earlier_or, earlier_trans}

-- w leads to h, and no way to h is earlier
pub record First (D : Drawing) (w : Way) (h : ℕ) : Type 0 where
  pub there : leads D w ≡ h
  pub least : (v : Way) → leads D v ≡ h → Earlier v w → ⊥

module _ {D : Drawing} where
  -- every other way to h is later
  pub first_or : {w : Way} {h : ℕ} → First D w h → (v : Way) → leads D v ≡ h → (w ≡ v) ⊎ Earlier w v
  first_or {w} {h} a v e = go (earlier_or w v)
    where
      go : Compared Earlier w v → (w ≡ v) ⊎ Earlier w v
      go (inl l) = inr l
      go (inr (inl s)) = inl s
      go (inr (inr l)) = absurd (a.least v e l)

  pub first_unique : {v w : Way} {h : ℕ} → First D v h → First D w h → v ≡ w
  first_unique {v} {w} {h} a b = go (first_or a w b.there)
    where
      go : (v ≡ w) ⊎ Earlier v w → v ≡ w
      go (inl s) = s
      go (inr l) = absurd (b.least v a.there l)

  -- what is earlier than the first way to h is earlier than every way to h
  pub first_all : {w : Way} {h : ℕ} → First D w h → (u : Way) → Earlier u w → (v : Way) → leads D v ≡ h → Earlier u v
  first_all {w} {h} a u l v e = go (first_or a v e)
    where
      go : (w ≡ v) ⊎ Earlier w v → Earlier u v
      go (inl s) = subst (λ (x : Way). Earlier u x) s l
      go (inr k) = earlier_trans u w v l k

  -- a way to h that is earlier than w: so is the first
  pub first_below : {v : Way} {h : ℕ} → First D v h → (u w : Way) → leads D u ≡ h → Earlier u w → Earlier v w
  first_below {v} {h} a u w e l = go (first_or a u e)
    where
      go : (v ≡ u) ⊎ Earlier v u → Earlier v w
      go (inl s) = subst (λ (x : Way). Earlier x w) (sym s) l
      go (inr k) = earlier_trans v u w k l

  pub before_iff : {v w : Way} {g h : ℕ} → First D v g → First D w h → Before D g h ↔ Earlier v w
  before_iff {v} {w} {g} {h} a b = (λ r. first_below a r.0 w r.1 (r.2 w b.there), λ l. (v, a.there, first_all b v l))
