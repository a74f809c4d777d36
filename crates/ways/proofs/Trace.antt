-- The trace breadth first, with the list as its queue, makes the list of demand 3. `start`: the roots put on. `advance`: the fields of the
-- head put on, and the head one on. `traced`: when the head has come to the end, the list is the drawing's.
-- Of the drawing it asks that handle 0 refers to nothing, and that a block's fields from `arity` on are 0.
-- Assumes nothing.
use Prim.Native.Nat.{ℕ, zero, suc, ◌+◌, ◌<◌, ◌≤◌}
use mathlib.Core.Path.{◌≡◌, refl, sym, ◌∙◌, ap, subst}
use mathlib.Core.Logic.{◌⊎◌, inl, inr}
use mathlib.Core.List.{List, []}
use native.Mathlib.Omega.{arith}
use native.Mathlib.Decide.{dec_lt}
use lib.ListN.{length, get_or, take, get_or-eq_default}
use lib.Seq.{take-suc, take-length}
use Rattle.model.specs.Below.{words_below, lists_below}
use Rattle.model.specs.Ways.{Way, root, step, Earlier, Drawing, leads, Reachable, Before, In, Listing}
use Rattle.ways.proofs.Order.{Compared, Sooner, compared, earlier_sooner, sooner_earlier, earlier_irrefl, earlier_asym}
use Rattle.ways.proofs.Order.{earlier_trans, earlier_step, earlier_field, earlier_roots, earlier_root, earlier_shorter}
use Rattle.ways.proofs.Least.{First, first_unique, first_below, before_iff}
use Rattle.ways.proofs.Listed.{Distinct}
use Rattle.ways.proofs.Put.{put_all, put_all_last, put_all_at, put_all_length, Known}
use Rattle.ways.proofs.Frontier.{Upto, next_root, next_field, put_next}

-- the list at the head q: each of its blocks has a first way, and the blocks stand by these; all roots, and all fields of the blocks before the
-- head, are 0 or in the list; and each block's first way is earlier than every step from the head
pub record Inv (D : Drawing) (L : List ℕ) (q : ℕ) : Type 0 where
  pub head : q ≤ length L
  pub blocks : In 0 L → ⊥
  pub rises : (j k : ℕ) → j < k → k < length L → Before D (get_or L j 0) (get_or L k 0)
  pub firsts : (h : ℕ) → In h L → (w : Way) × First D w h
  pub near : (h : ℕ) → In h L → q < length L → (v w : Way) → First D v h → First D w (get_or L q 0) → Earlier v (step w 0)
  pub roots_known : (p : ℕ) → Known L (get_or D.roots p 0)
  pub fields_known : (k f : ℕ) → k < q → Known L (D.refers (get_or L k 0) f)

-- a block's fields in turn
abbrev pub fields : Drawing → (ℕ → ℕ) → ℕ → List ℕ
fields D arity h = words_below (arity h) (D.refers h)

-- the places of two blocks by their first ways
place_below : {D : Drawing} (L : List ℕ) → ((j k : ℕ) → j < k → k < length L → Before D (get_or L j 0) (get_or L k 0)) → (j k : ℕ) →
    j < length L → (v w : Way) → First D v (get_or L j 0) → First D w (get_or L k 0) → Earlier v w → j < k
place_below {D} L rises j k lj v w a b l = go (compared j k)
  where
    go : Compared ◌<◌ j k → j < k
    go (inl m) = m
    go (inr (inl e)) = absurd (earlier_irrefl w (subst (λ (x : Way). Earlier x w) (first_unique a (subst (λ (x : ℕ). First D w (get_or L x 0)) (sym e) b)) l))
    go (inr (inr m)) = absurd (earlier_asym v w l ((before_iff b a).0 (rises k j m lj)))

pub inv_distinct : {D : Drawing} {L : List ℕ} {q : ℕ} → Inv D L q → Distinct L
inv_distinct {D} {L} c j k l m e = let b = c.rises j k l m in earlier_irrefl b.0 (b.2 b.0 (b.1 ∙ e))

pub inv_reachable : {D : Drawing} {L : List ℕ} {q : ℕ} → Inv D L q → (k : ℕ) → k < length L → Reachable D (get_or L k 0)
inv_reachable {D} {L} c k l = let w = c.firsts (get_or L k 0) (k, l, refl) in (λ z. c.blocks (k, l, z), (w.0, w.1.there))

-- the roots

upto_nothing : (D : Drawing) → Upto D [] (root 0)
upto_nothing D = record {
  blocks = λ i. omega (arith, i.1);
  rises = λ j k l m. absurd (omega arith);
  near = λ h i. absurd (omega (arith, i.1));
  known = λ v l. absurd (none v (earlier_sooner v (root 0) l));
}
  where
    none : (v : Way) → Sooner v (root 0) → ⊥
    none (root p) l = omega arith
    none (step v f) l = l

upto_roots : (D : Drawing) (n : ℕ) → n ≤ length D.roots → Upto D (put_all [] (take n D.roots)) (root n)
unfolding put_all
upto_roots D zero l = upto_nothing D
upto_roots D (suc n) l = rw (take-suc D.roots n 0 l, put_all_last) (put_next (next_root n) (upto_roots D n (omega arith)))

-- a block of the list so far: its first way is earlier than the frontier
upto_near : {D : Drawing} {L : List ℕ} {u : Way} → Upto D L u → (h : ℕ) → In h L → (v : Way) → First D v h → Earlier v u
upto_near {D} {L} {u} c h i v a = let w = c.near h i in first_below a w.0 u w.1.there w.2

pub start : (D : Drawing) → Inv D (put_all [] D.roots) 0
start D = record {
  head = omega arith;
  blocks = c.blocks;
  rises = c.rises;
  firsts = λ h i. let w = c.near h i in (w.0, w.1);
  near = λ h i _ v w a _. earlier_trans v (root (length D.roots)) (step w 0) (upto_near c h i v a) (earlier_root (length D.roots) w 0);
  roots_known = λ p. at p (dec_lt p (length D.roots));
  fields_known = λ k f l. absurd (omega arith);
}
  where
    c : Upto D (put_all [] D.roots) (root (length D.roots))
    c = rw take-length at (upto_roots D (length D.roots) (omega arith))

    at : (p : ℕ) → Dec (p < length D.roots) → Known (put_all [] D.roots) (get_or D.roots p 0)
    at p (yes l) = c.known (root p) (earlier_roots p (length D.roots) l)
    at p (no l) = inl (get_or-eq_default D.roots 0 (omega arith))

-- handle 0 refers to nothing, and no block from its arity on
pub record Bounded (D : Drawing) (arity : ℕ → ℕ) : Type 0 where
  pub nowhere : (f : ℕ) → D.refers 0 f ≡ 0
  pub beyond : (h f : ℕ) → arity h ≤ f → D.refers h f ≡ 0

module _ {D : Drawing} {arity : ℕ → ℕ} (b : Bounded D arity) where
  -- a field of 0 or of a block all of whose fields are known
  next_known : (L : List ℕ) (q : ℕ) → ((k f : ℕ) → k < q → Known L (D.refers (get_or L k 0) f)) → (h f : ℕ) →
      (h ≡ 0) ⊎ ((k : ℕ) × (k < q) × (get_or L k 0 ≡ h)) → Known L (D.refers h f)
  next_known L q c h f (inl z) = inl (ap (λ (x : ℕ). D.refers x f) z ∙ b.nowhere f)
  next_known L q c h f (inr i) = subst (λ (x : ℕ). Known L (D.refers x f)) i.2 (c i.0 f i.1)

  -- with the head at the end, every way leads to 0 or into the list
  all_known : {L : List ℕ} → Inv D L (length L) → (w : Way) → Known L (leads D w)
  all_known c (root p) = c.roots_known p
  all_known {L} c (step w f) = next_known L (length L) c.fields_known (leads D w) f (all_known c w)

  pub traced : {L : List ℕ} → Inv D L (length L) → Listing D L
  traced {L} c = record {
    every = λ h r. in_list h r (all_known c r.1.0);
    once = inv_distinct c;
    nothing_else = inv_reachable c;
    order = c.rises;
  }
    where
      in_list : (h : ℕ) (r : Reachable D h) → Known L (leads D r.1.0) → In h L
      in_list h r (inl z) = absurd (r.0 (sym r.1.1 ∙ z))
      in_list h r (inr i) = subst (λ (x : ℕ). In x L) r.1.1 i

  -- with the head at a block, every way earlier than its steps leads to 0 or into the list: the shorter way leads to a block before the head
  upto_head : {L : List ℕ} {q : ℕ} → Inv D L q → q < length L → (w : Way) → First D w (get_or L q 0) → Upto D L (step w 0)
  upto_head {L} {q} c l w a = record {
    blocks = c.blocks;
    rises = c.rises;
    near = λ h i. let v = c.firsts h i in (v.0, v.1, c.near h i l v.0 w v.1 a);
    known = λ v m. known v (earlier_sooner v (step w 0) m);
  }
    where
      before_head : (v : Way) → Earlier v w → Known L (leads D v) → (leads D v ≡ 0) ⊎ ((k : ℕ) × (k < q) × (get_or L k 0 ≡ leads D v))
      before_head v m (inl z) = inl z
      before_head v m (inr i) =
          let x = c.firsts (leads D v) i in
          let here : First D x.0 (get_or L i.0 0) = subst (λ (h : ℕ). First D x.0 h) (sym i.2) x.1 in
          inr (i.0, place_below L c.rises i.0 q i.1 x.0 w here a (first_below x.1 v w refl m), i.2)

      known : (v : Way) → Sooner v (step w 0) → Known L (leads D v)
      known (root p) m = c.roots_known p
      known (step v f) (inl m) = let e : Earlier v w = sooner_earlier v w m in
          next_known L q c.fields_known (leads D v) f (before_head v e (known v (earlier_sooner v (step w 0) (earlier_trans v w (step w 0) e (earlier_shorter w 0)))))
      known (step v f) (inr m) = absurd (omega (arith, m.1))

  -- the fields of a block in turn
  upto_fields : {L : List ℕ} (w : Way) (n : ℕ) → Upto D L (step w 0) → Upto D (put_all L (words_below n (D.refers (leads D w)))) (step w n)
  unfolding put_all lists_below
  upto_fields w zero c = c
  upto_fields w (suc n) c = rw put_all_last (put_next (next_field w n) (upto_fields w n c))

  -- when all fields of the head, h, are on, the next is the head
  next_head : {L : List ℕ} {q : ℕ} → q < length L → (h : ℕ) → get_or L q 0 ≡ h → (w : Way) → First D w h → Upto D L (step w (arity h)) → Inv D L (q + 1)
  next_head {L} {q} l h is_h w a c = record {
    head = omega arith;
    blocks = c.blocks;
    rises = c.rises;
    firsts = λ g i. let v = c.near g i in (v.0, v.1);
    near = λ g i m v t e d. earlier_trans v (step w (arity h)) (step t 0) (upto_near c g i v e)
        (earlier_step w t (arity h) 0 ((before_iff here d).0 (c.rises q (q + 1) (omega arith) m)));
    roots_known = λ p. c.known (root p) (earlier_root p w (arity h));
    fields_known = λ k f m. known k f m (compared k q);
  }
    where
      here : First D w (get_or L q 0)
      here = subst (λ (x : ℕ). First D w x) (sym is_h) a

      own : (f : ℕ) → Dec (f < arity h) → Known L (D.refers h f)
      own f (yes m) = subst (λ (x : ℕ). Known L (D.refers x f)) a.there (c.known (step w f) (earlier_field w f (arity h) m))
      own f (no m) = inl (b.beyond h f (omega arith))

      known : (k f : ℕ) → k < q + 1 → Compared ◌<◌ k q → Known L (D.refers (get_or L k 0) f)
      known k f m (inl lk) =
          let v = c.near (get_or L k 0) (k, omega arith, refl) in
          let up : Earlier v.0 w = (before_iff v.1 here).0 (c.rises k q lk l) in
          subst (λ (x : ℕ). Known L (D.refers x f)) v.1.there (c.known (step v.0 f) (earlier_step v.0 w f (arity h) up))
      known k f m (inr (inl e)) = subst (λ (x : ℕ). Known L (D.refers x f)) (sym is_h ∙ ap (λ (x : ℕ). get_or L x 0) (sym e)) (own f (dec_lt f (arity h)))
      known k f m (inr (inr g)) = absurd (omega arith)

  pub advance : {L : List ℕ} {q : ℕ} → Inv D L q → q < length L → Inv D (put_all L (fields D arity (get_or L q 0))) (q + 1)
  advance {L} {q} c l = next_head (omega (arith, put_all_length L (fields D arity h))) h (put_all_at L (fields D arity h) q l) w a upto
    where
      h : ℕ
      h = get_or L q 0

      w : Way
      w = (c.firsts h (q, l, refl)).0

      a : First D w h
      a = (c.firsts h (q, l, refl)).1

      upto : Upto D (put_all L (fields D arity h)) (step w (arity h))
      upto = subst (λ (x : ℕ). Upto D (put_all L (words_below (arity h) (D.refers x))) (step w (arity h))) a.there
          (upto_fields w (arity h) (upto_head c l w a))
