-- Ranks: in a sound arena the m segments of a class are numbered by their ranks from 0 to m - 1, each once; and segments that are numbered
-- below m without doubles are ranked as a sound arena has it.
-- Assumes nothing.
use Prim.Native.Nat.{ℕ, zero, suc, ◌+◌, ◌≤◌, ◌<◌, zero-le}
use mathlib.Core.Path.{◌≡◌, refl, sym, ap, ◌∙◌}
use mathlib.Core.Logic.{◌≢◌, ◌⊎◌, inl, inr}
use mathlib.Core.Bool.{Bool, true, false, not, ◌&&◌}
use mathlib.Core.List.{List}
use native.Mathlib.Omega.{arith}
use native.Mathlib.Nat.{le_refl, lt_of_not-le}
use native.Mathlib.Decide.{dec_le, ℕ_discrete}
use lib.Dec.{eqb, ltb}
use borrow.Author.Tests.{eqb-true, eq-eqb, ne_eqb, eqb-false, ltb-true, ltb-false, lt-ltb, le-ltb, not-true}
use Rattle.model.specs.Below.{one_if, count_below, sum_below, first_below}
use Rattle.model.specs.Class.{is_class}
use Rattle.model.specs.View.{segments, class, rank, members, ranked}
use Rattle.laws.proofs.Below.{up_to, First, first_is, count_below_ext, count_below_none, count_below_finds, count_below_pos, count_below_le, count_below_change}
use Rattle.soundness.proofs.Tests.{and_left, and_right, and_intro, and_fails_right, never, either}
use Rattle.soundness.proofs.Facts.{Member, Ranks, Sound, class_member}

-- ---- counts of two tests, and of one

-- a count is the sum of the counts of two tests that part it
pub count_below_parts : (n : ℕ) (p q r : ℕ → Bool) → ((k : ℕ) → k < n → one_if (p k) ≡ one_if (q k) + one_if (r k))
    → count_below n p ≡ count_below n q + count_below n r
unfolding count_below
count_below_parts zero p q r h = refl
count_below_parts (suc n) p q r h = omega (arith, count_below_parts n p q r (λ k l. h k (omega arith)), h n (le_refl (suc n)))

-- the numbers that pass, without one of them
without : (n : ℕ) (p : ℕ → Bool) (a : ℕ) → a < n → p a ≡ true → count_below n p ≡ suc (count_below n (λ k. not (eqb k a) && p k))
without n p a l t =
    omega (
      arith,
      count_below_change n p (λ k. not (eqb k a) && p k) a l (λ k u f. sym (ap (λ (e : Bool). not e && p k) (ne_eqb k a f))),
      ap one_if t,
      ap (λ (e : Bool). one_if (not e && p a)) (eq-eqb a a refl),
    )

-- where one number passes, two that pass are the same
pub count_one_same : (n : ℕ) (p : ℕ → Bool) → count_below n p ≤ 1 → (a b : ℕ) → a < n → b < n → p a ≡ true → p b ≡ true → a ≡ b
count_one_same n p one a b la lb ta tb = go (ℕ_discrete b a)
  where
    go : Dec (b ≡ a) → a ≡ b
    go (yes e) = sym e
    go (no f) =
        let other : ℕ → Bool = λ k. not (eqb k a) && p k in
        absurd (omega (arith, without n p a la ta, count_below_pos n other b lb (and_intro (not (eqb b a)) (p b) (ap not (ne_eqb b a f)) tb)))

pub same_count_one : (n : ℕ) (p : ℕ → Bool) → ((a b : ℕ) → a < n → b < n → p a ≡ true → p b ≡ true → a ≡ b) → count_below n p ≤ 1
same_count_one n p h = go (dec_le (count_below n p) 1)
  where
    go : Dec (count_below n p ≤ 1) → count_below n p ≤ 1
    go (yes l) = l
    go (no f) =
        let many : 1 < count_below n p = lt_of_not-le f in
        let first = count_below_finds n p (omega arith) in
        let a : ℕ = first.0 in
        let other : ℕ → Bool = λ k. not (eqb k a) && p k in
        let second = count_below_finds n other (omega (arith, without n p a first.1 first.2)) in
        let b : ℕ = second.0 in
        let same : b ≡ a = h b a second.1 first.1 (and_right (not (eqb b a)) (p b) second.2) first.2 in
        never (eqb b a) (eq-eqb b a same) (not-true (eqb b a) (and_left (not (eqb b a)) (p b) second.2))

-- m numbers of at most 1 that make m are all 1
ones_le : (m : ℕ) (f : ℕ → ℕ) → ((q : ℕ) → q < m → f q ≤ 1) → sum_below m f ≤ m
unfolding sum_below
ones_le zero f h = zero-le
ones_le (suc m) f h = omega (arith, ones_le m f (λ q l. h q (omega arith)), h m (le_refl (suc m)))

ones_all : (m : ℕ) (f : ℕ → ℕ) → ((q : ℕ) → q < m → f q ≤ 1) → sum_below m f ≡ m → (q : ℕ) → q < m → f q ≡ 1
unfolding sum_below
ones_all zero f h e q l = absurd (omega arith)
ones_all (suc m) f h e q l =
    let low : sum_below m f ≤ m = ones_le m f (λ q l. h q (omega arith)) in
    let last : f m ≤ 1 = h m (le_refl (suc m)) in
    up_to (λ (q : ℕ). f q ≡ 1) (omega arith) (ones_all m f (λ q l. h q (omega arith)) (omega arith)) q l

ones_sum : (m : ℕ) (f : ℕ → ℕ) → ((q : ℕ) → q < m → f q ≡ 1) → sum_below m f ≡ m
unfolding sum_below
ones_sum zero f h = refl
ones_sum (suc m) f h = omega (arith, ones_sum m f (λ q l. h q (omega arith)), h m (le_refl (suc m)))

-- a number is below m + 1 where it is below m or is m
one_more : (m x : ℕ) → one_if (ltb x (suc m)) ≡ one_if (ltb x m) + one_if (eqb x m)
one_more m x = go (ltb x m) (eqb x m) refl refl
  where
    go : (a b : Bool) → ltb x m ≡ a → eqb x m ≡ b → one_if (ltb x (suc m)) ≡ one_if a + one_if b
    go true true e u = absurd (omega (arith, ltb-true x m e, eqb-true x m u))
    go true false e u = ap one_if (lt-ltb x (suc m) (omega (arith, ltb-true x m e)))
    go false true e u = ap one_if (lt-ltb x (suc m) (omega (arith, eqb-true x m u)))
    go false false e u =
        let past : m ≤ x = ltb-false x m e in
        let apart : x ≢ m = eqb-false x m u in
        ap one_if (le-ltb x (suc m) (omega arith))

-- ---- numbers that pass c, numbered by f

module _ (n : ℕ) (c : ℕ → Bool) (f : ℕ → ℕ) where
  -- how many have number q, and how many have one below m
  numbered : ℕ → ℕ
  numbered q = count_below n (λ s. c s && eqb (f s) q)

  numbered_below : (m : ℕ) → count_below n (λ s. c s && ltb (f s) m) ≡ sum_below m numbered
  unfolding sum_below numbered
  numbered_below zero = count_below_none n (λ s. c s && ltb (f s) 0) (λ s l. and_fails_right (c s) (ltb (f s) 0) (le-ltb (f s) 0 zero-le))
  numbered_below (suc m) =
      count_below_parts n (λ s. c s && ltb (f s) (suc m)) (λ s. c s && ltb (f s) m) (λ s. c s && eqb (f s) m) (λ s l. more (c s) (f s))
      ∙ ap (λ (x : ℕ). x + count_below n (λ s. c s && eqb (f s) m)) (numbered_below m)
    where
      more : (t : Bool) (x : ℕ) → one_if (t && ltb x (suc m)) ≡ one_if (t && ltb x m) + one_if (t && eqb x m)
      more false x = refl
      more true x = one_more m x

  -- where m pass, and each number below m is had once, all of their numbers are below m
  pub numbers_below : (m : ℕ) → count_below n c ≡ m → ((q : ℕ) → q < m → count_below n (λ s. c s && eqb (f s) q) ≡ 1)
      → (s : ℕ) → s < n → c s ≡ true → f s < m
  unfolding numbered
  numbers_below m e once s l t = go (either (ltb (f s) m))
    where
      part : (a b : Bool) → one_if a ≡ one_if (a && b) + one_if (a && not b)
      part true true = refl
      part true false = refl
      part false b = refl

      go : (ltb (f s) m ≡ true) ⊎ (ltb (f s) m ≡ false) → f s < m
      go (inl u) = ltb-true (f s) m u
      go (inr u) =
          absurd (
          omega (
            arith,
            numbered_below m ∙ ones_sum m numbered once,
            count_below_parts n c (λ s. c s && ltb (f s) m) (λ s. c s && not (ltb (f s) m)) (λ s l. part (c s) (ltb (f s) m)),
            count_below_pos n (λ s. c s && not (ltb (f s) m)) s l (and_intro (c s) (not (ltb (f s) m)) t (ap not u)),
          )
          )

  -- where m pass, with numbers below m and no two with the same, each number below m is had once
  pub numbers_once : (m : ℕ) → count_below n c ≡ m → ((s : ℕ) → s < n → c s ≡ true → f s < m)
      → ((s t : ℕ) → s < n → t < n → c s ≡ true → c t ≡ true → f s ≡ f t → s ≡ t)
      → (q : ℕ) → q < m → count_below n (λ s. c s && eqb (f s) q) ≡ 1
  unfolding numbered
  numbers_once m e low same q l = ones_all m numbered (λ q _. at_most q) (sym (numbered_below m) ∙ all ∙ e) q l
    where
      all : count_below n (λ s. c s && ltb (f s) m) ≡ count_below n c
      all = count_below_ext n (λ s. c s && ltb (f s) m) c (λ s u. go s u (c s) refl)
        where
          go : (s : ℕ) → s < n → (t : Bool) → c s ≡ t → (t && ltb (f s) m) ≡ t
          go s u true t = lt-ltb (f s) m (low s u t)
          go s u false t = refl

      at_most : (q : ℕ) → count_below n (λ s. c s && eqb (f s) q) ≤ 1
      at_most q = same_count_one n (λ s. c s && eqb (f s) q)
          (λ a b la lb ta tb. same a b la lb (and_left (c a) (eqb (f a) q) ta) (and_left (c b) (eqb (f b) q) tb)
          (eqb-true (f a) q (and_right (c a) (eqb (f a) q) ta) ∙ sym (eqb-true (f b) q (and_right (c b) (eqb (f b) q) tb))))

-- ---- the first that passes, where one does

pub first_found : (n : ℕ) (p : ℕ → Bool) (k : ℕ) → k < n → p k ≡ true → (first_below n p < n) × (p (first_below n p) ≡ true)
first_found n p k l t = go (first_is 0 n p) (dec_le n (first_below n p))
  where
    go : First 0 n p (first_below n p) → Dec (n ≤ first_below n p) → (first_below n p < n) × (p (first_below n p) ≡ true)
    go x (yes past) = never (p k) t (x.before k zero-le (omega arith))
    go x (no f) =
        let low : first_below n p < n = lt_of_not-le f in
        (low, x.found (omega arith))

-- ---- the ranks of an arena

-- two members of one class never share a rank
abbrev pub RanksApart : List ℕ → Type 0
RanksApart ws = (s t : ℕ) → Member ws s → Member ws t → class ws s ≡ class ws t → rank ws s ≡ rank ws t → s ≡ t

-- every member's rank is below the number of members of its class
abbrev pub RanksBelow : List ℕ → Type 0
RanksBelow ws = (s : ℕ) → Member ws s → rank ws s < members ws (class ws s)

-- a class has at most as many members as there are segments
pub members_le : (ws : List ℕ) (i : ℕ) → members ws i ≤ segments ws
unfolding members
members_le ws i = count_below_le (segments ws) (λ s. eqb (class ws s) i)

module _ (ws : List ℕ) where
  -- segment s has class i and rank q
  abbrev at_rank : ℕ → ℕ → ℕ → Bool
  at_rank i q s = eqb (class ws s) i && eqb (rank ws s) q

  at_rank_is : (i q s : ℕ) → class ws s ≡ i → rank ws s ≡ q → at_rank i q s ≡ true
  at_rank_is i q s e u = and_intro (eqb (class ws s) i) (eqb (rank ws s) q) (eq-eqb (class ws s) i e) (eq-eqb (rank ws s) q u)

  at_rank_class : (i q s : ℕ) → at_rank i q s ≡ true → class ws s ≡ i
  at_rank_class i q s t = eqb-true (class ws s) i (and_left (eqb (class ws s) i) (eqb (rank ws s) q) t)

  at_rank_rank : (i q s : ℕ) → at_rank i q s ≡ true → rank ws s ≡ q
  at_rank_rank i q s t = eqb-true (rank ws s) q (and_right (eqb (class ws s) i) (eqb (rank ws s) q) t)

  -- ranks that are below the number of members and apart are ranked as a sound arena has it
  pub ranks_of : RanksBelow ws → RanksApart ws → Ranks ws
  unfolding members
  ranks_of low apart i q c l =
      let is : (s : ℕ) → eqb (class ws s) i ≡ true → class ws s ≡ i = λ s t. eqb-true (class ws s) i t in
      let member : (s : ℕ) → s < segments ws → eqb (class ws s) i ≡ true → Member ws s = λ s u t. class_member ws s i c u (is s t) in
      numbers_once (segments ws) (λ s. eqb (class ws s) i) (λ s. rank ws s) (members ws i) refl
      (λ s u t. omega (arith, low s (member s u t), ap (members ws) (is s t)))
      (λ s t ls lt us ut e. apart s t (member s ls us) (member t lt ut) (is s us ∙ sym (is t ut)) e)
      q l

  module _ (sound : Sound ws) where
    -- the rank of a member is below the number of members of its class
    pub rank_below : RanksBelow ws
    unfolding members
    rank_below s m =
        numbers_below (segments ws) (λ t. eqb (class ws t) (class ws s)) (λ t. rank ws t) (members ws (class ws s)) refl
        (λ q l. sound.each_rank (class ws s) q (sound.classed s m) l) s m.below (eq-eqb (class ws s) (class ws s) refl)

    -- segments of one class and one rank are the same
    pub rank_apart : RanksApart ws
    rank_apart s t m n e r =
        let one = sound.each_rank (class ws s) (rank ws s) (sound.classed s m) (rank_below s m) in
        count_one_same (segments ws) (at_rank (class ws s) (rank ws s)) (omega arith) s t m.below n.below
        (at_rank_is (class ws s) (rank ws s) s refl refl) (at_rank_is (class ws s) (rank ws s) t (sym e) (sym r))

    -- the segment of a rank has that rank
    module _ (i q : ℕ) (c : is_class i ≡ true) (l : q < members ws i) where
      ranked_found : (ranked ws i q < segments ws) × (at_rank i q (ranked ws i q) ≡ true)
      unfolding ranked
      ranked_found =
          let found = count_below_finds (segments ws) (at_rank i q) (omega (arith, sound.each_rank i q c l)) in
          first_found (segments ws) (at_rank i q) found.0 found.1 found.2

      pub ranked_class : class ws (ranked ws i q) ≡ i
      ranked_class = at_rank_class i q (ranked ws i q) ranked_found.1

      pub ranked_rank : rank ws (ranked ws i q) ≡ q
      ranked_rank = at_rank_rank i q (ranked ws i q) ranked_found.1

      pub ranked_member : Member ws (ranked ws i q)
      ranked_member = class_member ws (ranked ws i q) i c ranked_found.0 ranked_class

    -- and the segment of a member's rank is that member
    pub ranked_of : (s : ℕ) → Member ws s → ranked ws (class ws s) (rank ws s) ≡ s
    ranked_of s m =
        let c = sound.classed s m in
        let l = rank_below s m in
        let r : ℕ = ranked ws (class ws s) (rank ws s) in
        rank_apart r s (ranked_member (class ws s) (rank ws s) c l) m (ranked_class (class ws s) (rank ws s) c l) (ranked_rank (class ws s) (rank ws s) c l)

    pub ranked_unique : (i q s : ℕ) → Member ws s → class ws s ≡ i → rank ws s ≡ q → ranked ws i q ≡ s
    ranked_unique i q s m e r = ap (λ (j : ℕ). ranked ws j q) (sym e) ∙ ap (ranked ws (class ws s)) (sym r) ∙ ranked_of s m
