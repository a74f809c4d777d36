-- The list so far, at a way u: all that ways earlier than u lead to, each block by its first way, in order. To put on what u itself leads to,
-- unless it is 0 or there already, takes u on to the next way.
-- Assumes nothing.
use Prim.Native.Nat.{ℕ, suc, ◌<◌}
use mathlib.Core.Path.{◌≡◌, refl, sym, ◌∙◌, ap, subst}
use mathlib.Core.Logic.{◌⊎◌, inl, inr, ◌≢◌}
use mathlib.Core.List.{List, [], ◌∷◌, ◌++◌}
use native.Mathlib.Omega.{arith}
use lib.ListN.{length, get_or, get_or-append}
use Rattle.model.specs.Ways.{Way, root, step, Earlier, Drawing, leads, Before, In}
use Rattle.ways.proofs.Order.{Compared, Sooner, compared, earlier_sooner, sooner_earlier, earlier_trans, earlier_step, earlier_field, earlier_root, earlier_roots}
use Rattle.ways.proofs.Least.{First, before_iff}
use Rattle.ways.proofs.Listed.{LastOr, last_or, in_left, in_last, in_or}
use Rattle.ways.proofs.Put.{put_on, put_on_case, Known}

pub record Upto (D : Drawing) (L : List ℕ) (u : Way) : Type 0 where
  pub blocks : In 0 L → ⊥
  pub rises : (j k : ℕ) → j < k → k < length L → Before D (get_or L j 0) (get_or L k 0)
  pub near : (h : ℕ) → In h L → (w : Way) × First D w h × Earlier w u
  pub known : (v : Way) → Earlier v u → Known L (leads D v)

-- no way is between u and t
pub record Next (u t : Way) : Type 0 where
  pub up : Earlier u t
  pub between : (v : Way) → Earlier v t → Earlier v u ⊎ (v ≡ u)

pub next_root : (p : ℕ) → Next (root p) (root (suc p))
next_root p = record { up = earlier_roots p (suc p) (omega arith); between = λ v l. go v (earlier_sooner v (root (suc p)) l) }
  where
    go : (v : Way) → Sooner v (root (suc p)) → Earlier v (root p) ⊎ (v ≡ root p)
    go (root q) l = or (compared q p)
      where
        or : Compared ◌<◌ q p → Earlier (root q) (root p) ⊎ (root q ≡ root p)
        or (inl m) = inl (earlier_roots q p m)
        or (inr (inl e)) = inr (ap root e)
        or (inr (inr m)) = absurd (omega arith)
    go (step v f) l = absurd l

pub next_field : (w : Way) (f : ℕ) → Next (step w f) (step w (suc f))
next_field w f = record { up = earlier_field w f (suc f) (omega arith); between = λ v l. go v (earlier_sooner v (step w (suc f)) l) }
  where
    go : (v : Way) → Sooner v (step w (suc f)) → Earlier v (step w f) ⊎ (v ≡ step w f)
    go (root q) l = inl (earlier_root q w f)
    go (step v g) (inl l) = inl (earlier_step v w g f (sooner_earlier v w l))
    go (step v g) (inr h) = or (compared g f)
      where
        or : Compared ◌<◌ g f → Earlier (step v g) (step w f) ⊎ (step v g ≡ step w f)
        or (inl m) = inl (subst (λ (x : Way). Earlier (step x g) (step w f)) (sym h.0) (earlier_field w g f m))
        or (inr (inl e)) = inr (cc h.0)
        or (inr (inr m)) = absurd (omega (arith, h.1))

module _ {D : Drawing} {L : List ℕ} {u t : Way} (n : Next u t) (c : Upto D L u) where
  -- u leads to 0 or to a block of the list
  same : Known L (leads D u) → Upto D L t
  same k = record {
    blocks = c.blocks;
    rises = c.rises;
    near = λ h i. let w = c.near h i in (w.0, w.1, earlier_trans w.0 u t w.2 n.up);
    known = λ v l. go v (n.between v l);
  }
    where
      go : (v : Way) → Earlier v u ⊎ (v ≡ u) → Known L (leads D v)
      go v (inl l) = c.known v l
      go v (inr e) = subst (λ (x : Way). Known L (leads D x)) (sym e) k

  -- u leads to a new block: u is the first way there
  new : leads D u ≢ 0 → (In (leads D u) L → ⊥) → Upto D (L ++ (leads D u ∷ [])) t
  new block out = record {
    blocks = λ i. zero_in (in_or L h 0 i);
    rises = λ j k l m. pair j k l m (last_or L h k m);
    near = λ g i. reached g (in_or L h g i);
    known = λ v l. there v (n.between v l);
  }
    where
      h : ℕ
      h = leads D u

      not_before : (v : Way) → leads D v ≡ h → Known L (leads D v) → ⊥
      not_before v e (inl z) = block (sym e ∙ z)
      not_before v e (inr i) = out (subst (λ (x : ℕ). In x L) e i)

      first : First D u h
      first = record { there = refl; least = λ v e l. not_before v e (c.known v l) }

      zero_in : In 0 L ⊎ (0 ≡ h) → ⊥
      zero_in (inl i) = c.blocks i
      zero_in (inr e) = block (sym e)

      reached : (g : ℕ) → In g L ⊎ (g ≡ h) → (w : Way) × First D w g × Earlier w t
      reached g (inl i) = let w = c.near g i in (w.0, w.1, earlier_trans w.0 u t w.2 n.up)
      reached g (inr e) = (u, subst (λ (x : ℕ). First D u x) (sym e) first, n.up)

      there : (v : Way) → Earlier v u ⊎ (v ≡ u) → Known (L ++ (h ∷ [])) (leads D v)
      there v (inl l) = more (c.known v l)
        where
          more : Known L (leads D v) → Known (L ++ (h ∷ [])) (leads D v)
          more (inl z) = inl z
          more (inr i) = inr (in_left L (h ∷ []) (leads D v) i)
      there v (inr e) = inr (subst (λ (x : Way). In (leads D x) (L ++ (h ∷ []))) (sym e) (in_last L h))

      -- place j is one of before; place k is one of before or the new one
      pair : (j k : ℕ) → j < k → k < length (L ++ (h ∷ [])) → LastOr L h k → Before D (get_or (L ++ (h ∷ [])) j 0) (get_or (L ++ (h ∷ [])) k 0)
      pair j k l m (inl a) = rw (get_or-append L (h ∷ []) 0 j (omega arith), a.1) (c.rises j k l a.0)
      pair j k l m (inr b) =
          let lj : j < length L = omega arith in
          let w = c.near (get_or L j 0) (j, lj, refl) in
          rw (get_or-append L (h ∷ []) 0 j lj, b.1) ((before_iff w.1 first).1 w.2)

  pub put_next : Upto D (put_on L (leads D u)) t
  put_next = put_on_case (λ M. Upto D M t) L (leads D u) same new
