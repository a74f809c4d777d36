-- Two drawings that no way tells apart have lists that agree place by place, whatever the blocks' numbers; and a drawing has one list.
-- Each place of the one list is paired with the place of the other that the same ways reach. The pairing rises, so no place is paired with
-- a smaller one, either way round.
-- Assumes nothing.
use Prim.Native.Nat.{ℕ, zero, suc, ◌<◌, ◌≤◌}
use mathlib.Core.Path.{◌≡◌, refl, sym, ◌∙◌, ap, subst}
use mathlib.Core.Logic.{inl, inr, ◌↔◌, ◌≢◌}
use mathlib.Core.List.{List}
use native.Mathlib.Omega.{arith}
use lib.ListN.{length, get_or}
use lib.Seq.{ext_get_or}
use Rattle.model.specs.Ways.{Way, Earlier, Drawing, leads, Before, Listing}
use Rattle.ways.proofs.Order.{Compared, compared, earlier_asym, earlier_irrefl}

-- every way leads to a block in both or in neither, and two ways meet in one block in both or in neither
pub record Alike (D E : Drawing) : Type 0 where
  pub lands : (w : Way) → (leads D w ≢ 0) ↔ (leads E w ≢ 0)
  pub meets : (v w : Way) → leads D v ≢ 0 → leads D w ≢ 0 → (leads D v ≡ leads D w) ↔ (leads E v ≡ leads E w)

-- the lists are equally long, and at each place the blocks are reached by the same ways
pub record Agree (D E : Drawing) (L M : List ℕ) : Type 0 where
  pub lengths : length L ≡ length M
  pub places : (k : ℕ) → k < length L → (w : Way) → (leads D w ≡ get_or L k 0) ↔ (leads E w ≡ get_or M k 0)

pub alike_self : (D : Drawing) → Alike D D
alike_self D = record { lands = λ w. (λ n. n, λ n. n); meets = λ v w _ _. (λ e. e, λ e. e) }

pub alike_sym : {D E : Drawing} → Alike D E → Alike E D
alike_sym s = record {
  lands = λ w. ((s.lands w).1, (s.lands w).0);
  meets = λ v w nv nw. let m = s.meets v w ((s.lands v).1 nv) ((s.lands w).1 nw) in (m.1, m.0);
}

-- the ways to the one block in the one drawing are the ways to the other in the other
abbrev SameWays : Drawing → ℕ → Drawing → ℕ → Type 0
SameWays D g E h = (w : Way) → (leads D w ≡ g) ↔ (leads E w ≡ h)

module _ {D E : Drawing} {L M : List ℕ} (s : Alike D E) (a : Listing D L) (b : Listing E M) where
  -- the place of M that the same ways reach
  pair : (k : ℕ) → k < length L → (m : ℕ) × (m < length M) × SameWays D (get_or L k 0) E (get_or M m 0)
  pair k l = (found.0, found.1, λ w. (to w, from w))
    where
      u : Way
      u = (a.nothing_else k l).1.0

      e : leads D u ≡ get_or L k 0
      e = (a.nothing_else k l).1.1

      block : leads D u ≢ 0
      block z = (a.nothing_else k l).0 (sym e ∙ z)

      found : (m : ℕ) × (m < length M) × (get_or M m 0 ≡ leads E u)
      found = b.every (leads E u) ((s.lands u).0 block, (u, refl))

      to : (w : Way) → leads D w ≡ get_or L k 0 → leads E w ≡ get_or M found.0 0
      to w h = (s.meets w u (λ z. block (e ∙ sym h ∙ z)) block).0 (h ∙ sym e) ∙ sym found.2

      from : (w : Way) → leads E w ≡ get_or M found.0 0 → leads D w ≡ get_or L k 0
      from w h = let meet : leads E w ≡ leads E u = h ∙ found.2 in
          (s.meets w u ((s.lands w).1 (λ z. (s.lands u).0 block (sym meet ∙ z))) block).1 meet ∙ e

  rising : (j k i m : ℕ) → j < k → k < length L → i < length M → m < length M → SameWays D (get_or L j 0) E (get_or M i 0) →
      SameWays D (get_or L k 0) E (get_or M m 0) → i < m
  rising j k i m l lk li lm p q = go (compared i m)
    where
      c : Before D (get_or L j 0) (get_or L k 0)
      c = a.order j k l lk

      -- the way to place j that is earlier than all to place k
      v : Way
      v = c.0

      v_there : leads E v ≡ get_or M i 0
      v_there = (p v).0 c.1

      v_least : (w : Way) → leads E w ≡ get_or M m 0 → Earlier v w
      v_least w h = c.2 w ((q w).1 h)

      go : Compared ◌<◌ i m → i < m
      go (inl r) = r
      go (inr (inl r)) = absurd (earlier_irrefl v (v_least v (v_there ∙ ap (λ (x : ℕ). get_or M x 0) r)))
      go (inr (inr r)) = let d : Before E (get_or M m 0) (get_or M i 0) = b.order m i r li in
          absurd (earlier_asym v d.0 (v_least d.0 d.1) (d.2 v v_there))

  climbs : (k m : ℕ) → k < length L → m < length M → SameWays D (get_or L k 0) E (get_or M m 0) → k ≤ m
  climbs zero m l lm p = omega arith
  climbs (suc k) m l lm p =
      let lk : k < length L = omega arith in
      let i = pair k lk in
      let low : k ≤ i.0 = climbs k i.0 lk i.1 i.2 in
      let up : i.0 < m = rising k (suc k) i.0 m (omega arith) l i.1 lm i.2 p in
      omega arith

  no_longer : length L ≤ length M
  no_longer = go (length L) refl
    where
      go : (n : ℕ) → length L ≡ n → n ≤ length M
      go zero e = omega arith
      go (suc n) e =
          let l : n < length L = omega arith in
          let i = pair n l in
          let low : n ≤ i.0 = climbs n i.0 l i.1 i.2 in
          omega arith

-- no place is paired with another: there and back again is the place itself, and neither step goes down
same_place : {D E : Drawing} {L M : List ℕ} → Alike D E → Listing D L → Listing E M → (k : ℕ) → k < length L →
    SameWays D (get_or L k 0) E (get_or M k 0)
same_place {D} {E} {L} {M} s a b k l = subst (λ (x : ℕ). SameWays D (get_or L k 0) E (get_or M x 0)) m_is_k m.2
  where
    m : (m : ℕ) × (m < length M) × SameWays D (get_or L k 0) E (get_or M m 0)
    m = pair s a b k l

    i : (i : ℕ) × (i < length L) × SameWays E (get_or M m.0 0) D (get_or L i 0)
    i = pair (alike_sym s) b a m.0 m.1

    up : k ≤ m.0
    up = climbs s a b k m.0 l m.1 m.2

    back : m.0 ≤ i.0
    back = climbs (alike_sym s) b a m.0 i.0 m.1 i.1 i.2

    u : Way
    u = (a.nothing_else k l).1.0

    e : leads D u ≡ get_or L k 0
    e = (a.nothing_else k l).1.1

    one_block : get_or L k 0 ≡ get_or L i.0 0
    one_block = sym e ∙ (i.2 u).0 ((m.2 u).0 e)

    go : Compared ◌<◌ k i.0 → k ≡ i.0
    go (inl r) = absurd (a.once k i.0 r i.1 one_block)
    go (inr (inl r)) = r
    go (inr (inr r)) = absurd (a.once i.0 k r l (sym one_block))

    m_is_k : m.0 ≡ k
    m_is_k = omega (arith, up, back, go (compared k i.0))

-- same drawing
pub same_drawing : {D E : Drawing} {L M : List ℕ} → Alike D E → Listing D L → Listing E M → Agree D E L M
same_drawing s a b = record {
  lengths = omega (arith, no_longer s a b, no_longer (alike_sym s) b a);
  places = same_place s a b;
}

-- a drawing has one list
pub listing_unique : {D : Drawing} {L M : List ℕ} → Listing D L → Listing D M → L ≡ M
listing_unique {D} {L} {M} a b = ext_get_or 0 L M both.lengths same
  where
    both : Agree D D L M
    both = same_drawing (alike_self D) a b

    same : (k : ℕ) → k < length L → get_or L k 0 ≡ get_or M k 0
    same k l = let r = (a.nothing_else k l).1 in sym r.1 ∙ (both.places k l r.0).0 r.1
