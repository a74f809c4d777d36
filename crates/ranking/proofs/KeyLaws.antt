-- The order of keys is the new order: counts of keys are the new ranks of a collection, and the numbers that its places follow from.
-- Assumes nothing.
use Prim.Native.Nat.{ℕ, zero, suc, ◌+◌, ◌/◌, ◌%◌, ◌≤◌, ◌<◌}
use mathlib.Core.Path.{◌≡◌, refl, sym, ap, ap₂, ◌∙◌}
use mathlib.Core.Logic.{◌≢◌}
use mathlib.Core.Bool.{Bool, true, false, not, cond, ◌&&◌, and-true}
use mathlib.Core.List.{List}
use native.Mathlib.Nat.{add-zero, zero-add}
use native.Mathlib.Numerals.{add-one}
use native.Mathlib.Decide.{dec_lt}
use native.Mathlib.Omega.{arith}
use mir.Val.{bool_byte}
use lib.ListN.{length, take}
use lib.Dec.{eqb, leb, ltb}
use borrow.Author.Tests.{eqb-true, eqb-false, eq-eqb, leb-true, le-leb, lt-leb, ltb-true, lt-ltb, le-ltb, not-true}
use Rattle.std.specs.List.{sum_by}
use Rattle.std.proofs.lemmas.List.Sums.{sum_by_more}
use Rattle.model.specs.Below.{one_if, count_below}
use Rattle.model.specs.Word.{word}
use Rattle.model.specs.View.{segments, class, rank}
use Rattle.model.specs.Standing.{in_pool}
use Rattle.model.specs.Calls.{live, stays, stays_full, staying, staying_full, ranked_before, new_rank, new_place}
use Rattle.laws.proofs.Below.{count_below_ext, count_below_le}
use Rattle.soundness.proofs.Tests.{and_left, and_right, and_intro, same_test, not_passed}
use Rattle.soundness.proofs.Ranks.{count_below_parts}
use Rattle.ranking.specs.Groups.{pool, full, rest, group_of}
use Rattle.ranking.specs.Keys.{key_of, Keys, between, keys_in}
use Rattle.ranking.specs.Heads.{rank_by}
use Rattle.ranking.specs.Places.{place_for, place_by}
use Rattle.ranking.proofs.GroupLaws.{group_lt, not_not, stays_is, full_is, rest_is}

pub keys_in_le : (keys : List ℕ) (n a b : ℕ) → keys_in keys n a b ≤ n
unfolding keys_in
keys_in_le keys n a b = count_below_le n (λ t. between a b (word keys t))

-- the sum of a 1 for each of the first n keys that lie there
pub keys_summed : (keys : List ℕ) (a b n : ℕ) → n ≤ length keys → sum_by (λ k. bool_byte (between a b k)) (take n keys) ≡ keys_in keys n a b
unfolding keys_in count_below
keys_summed keys a b zero l = refl
keys_summed keys a b (suc n) l =
    let f : ℕ → ℕ = λ k. bool_byte (between a b k) in
    ap (λ (m : ℕ). sum_by f (take m keys)) (sym (add-one n)) ∙ sum_by_more f keys n 0 (omega arith)
    ∙ ap₂ ◌+◌ (keys_summed keys a b n (omega arith)) (one (between a b (word keys n)))
  where
    one : (t : Bool) → bool_byte t ≡ one_if t
    one true = refl
    one false = refl

pub rank_by_le : (keys : List ℕ) (n own : ℕ) → rank_by keys n own ≤ n
unfolding rank_by
rank_by_le keys n own = keys_in_le keys n (key_of (own / 1024) full 0) own

-- ---- where a key lies

module _ (a b k : ℕ) where
  between_intro : a ≤ k → k < b → between a b k ≡ true
  between_intro l u = and_intro (leb a k) (ltb k b) (le-leb a k l) (lt-ltb k b u)

  between_low : between a b k ≡ true → a ≤ k
  between_low t = leb-true a k (and_left (leb a k) (ltb k b) t)

  between_high : between a b k ≡ true → k < b
  between_high t = ltb-true k b (and_right (leb a k) (ltb k b) t)

-- in the first or in the second part of a stretch
between_parts : (a b c k : ℕ) → a ≤ b → b ≤ c → one_if (between a c k) ≡ one_if (between a b k) + one_if (between b c k)
between_parts a b c k l u = go (dec_lt k b)
  where
    go : Dec (k < b) → one_if (between a c k) ≡ one_if (between a b k) + one_if (between b c k)
    go (yes h) = rw (lt-ltb k c (omega arith), lt-ltb k b h, lt-leb b k h) (sym (add-zero (one_if (leb a k && true))))
    go (no h) = rw (le-leb a k (omega arith), le-ltb k b (omega arith), le-leb b k (omega arith)) (sym (zero-add (one_if (ltb k c))))

keys_parts : (keys : List ℕ) (n a b c : ℕ) → a ≤ b → b ≤ c → keys_in keys n a c ≡ keys_in keys n a b + keys_in keys n b c
unfolding keys_in
keys_parts keys n a b c l u =
    count_below_parts n (λ t. between a c (word keys t)) (λ t. between a b (word keys t)) (λ t. between b c (word keys t))
    (λ t _. between_parts a b c (word keys t) l u)

-- the key of class j, group g and rank r among those of class i
module _ (i j g r : ℕ) (groups : g < 3) (ranks : r < 256) where
  -- those that stay
  staying_key : between (key_of i full 0) (key_of (i + 1) pool 0) (key_of j g r) ≡ (eqb j i && not (eqb g pool))
  staying_key =
      same_test (between (key_of i full 0) (key_of (i + 1) pool 0) (key_of j g r)) (eqb j i && not (eqb g pool))
      (λ t.
      let low : key_of i full 0 ≤ key_of j g r = between_low (key_of i full 0) (key_of (i + 1) pool 0) (key_of j g r) t in
      let high : key_of j g r < key_of (i + 1) pool 0 = between_high (key_of i full 0) (key_of (i + 1) pool 0) (key_of j g r) t in
      and_intro (eqb j i) (not (eqb g pool)) (eq-eqb j i (omega arith)) (ap not (not_passed (eqb g pool) (λ e. omega (arith, eqb-true g pool e)))))
      (λ t.
      let same : j ≡ i = eqb-true j i (and_left (eqb j i) (not (eqb g pool)) t) in
      let some : g ≢ pool = eqb-false g pool (not-true (eqb g pool) (and_right (eqb j i) (not (eqb g pool)) t)) in
      between_intro (key_of i full 0) (key_of (i + 1) pool 0) (key_of j g r) (omega arith) (omega arith))

  -- those of group h with a rank below q
  group_key : (h q : ℕ) → h < 3 → q ≤ 256 → between (key_of i h 0) (key_of i h q) (key_of j g r) ≡ (eqb j i && (eqb g h && ltb r q))
  group_key h q hs qs =
      same_test (between (key_of i h 0) (key_of i h q) (key_of j g r)) (eqb j i && (eqb g h && ltb r q))
      (λ t.
      let low : key_of i h 0 ≤ key_of j g r = between_low (key_of i h 0) (key_of i h q) (key_of j g r) t in
      let high : key_of j g r < key_of i h q = between_high (key_of i h 0) (key_of i h q) (key_of j g r) t in
      and_intro (eqb j i) (eqb g h && ltb r q) (eq-eqb j i (omega arith))
      (and_intro (eqb g h) (ltb r q) (eq-eqb g h (omega arith)) (lt-ltb r q (omega arith))))
      (λ t.
      let both : (eqb g h && ltb r q) ≡ true = and_right (eqb j i) (eqb g h && ltb r q) t in
      let same : j ≡ i = eqb-true j i (and_left (eqb j i) (eqb g h && ltb r q) t) in
      let own : g ≡ h = eqb-true g h (and_left (eqb g h) (ltb r q) both) in
      let below : r < q = ltb-true r q (and_right (eqb g h) (ltb r q) both) in
      between_intro (key_of i h 0) (key_of i h q) (key_of j g r) (omega arith) (omega arith))

-- what a segment's key holds
module _ (ws lives keys : List ℕ) (keyed : Keys ws lives keys) (s : ℕ) (l : s < segments ws) where
  pub key_class : word keys s / 1024 ≡ class ws s
  key_class = omega (arith, keyed.keyed s l, group_lt (class ws s) (word lives s))

  pub key_group : word keys s / 256 % 4 ≡ group_of (class ws s) (word lives s)
  key_group = omega (arith, keyed.keyed s l, group_lt (class ws s) (word lives s))

  pub key_small : word keys s < 16384
  key_small = omega (arith, keyed.keyed s l, group_lt (class ws s) (word lives s))

-- ---- the keys of a collection

module _ (ws L lives keys : List ℕ) (lives_is : (s : ℕ) → s < segments ws → in_pool ws s ≡ false → word lives s ≡ live ws L s) (keyed : Keys ws lives keys) where
  abbrev group : ℕ → ℕ
  group s = group_of (class ws s) (word lives s)

  group_count : (i h q : ℕ) → h < 3 → q ≤ 256
      → keys_in keys (segments ws) (key_of i h 0) (key_of i h q) ≡ count_below (segments ws) (λ t. eqb (class ws t) i && (eqb (group t) h && ltb (rank ws t) q))
  unfolding keys_in
  group_count i h q hs qs =
      count_below_ext (segments ws) (λ t. between (key_of i h 0) (key_of i h q) (word keys t)) (λ t. eqb (class ws t) i && (eqb (group t) h && ltb (rank ws t) q))
      (λ t l. ap (between (key_of i h 0) (key_of i h q)) (keyed.keyed t l)
      ∙ group_key i (class ws t) (group t) (rank ws t) (group_lt (class ws t) (word lives t)) (omega arith) h q hs qs)

  any : (t : ℕ) → ltb (rank ws t) 256 ≡ true
  any t = lt-ltb (rank ws t) 256 (omega arith)

  full_count : (i : ℕ) → keys_in keys (segments ws) (key_of i full 0) (key_of i rest 0) ≡ staying_full ws L i
  unfolding staying_full
  full_count i =
      let end : key_of i rest 0 ≡ key_of i full 256 = omega arith in
      ap (keys_in keys (segments ws) (key_of i full 0)) end
      ∙ group_count i full 256 (omega arith) (omega arith)
      ∙ count_below_ext (segments ws) (λ t. eqb (class ws t) i && (eqb (group t) full && ltb (rank ws t) 256)) (λ s. eqb (class ws s) i && stays_full ws L s)
      (λ t l. ap (λ (b : Bool). eqb (class ws t) i && b) (ap₂ ◌&&◌ (full_is ws L lives lives_is t l) (any t) ∙ and-true (stays_full ws L t)))

  staying_count : (i : ℕ) → keys_in keys (segments ws) (key_of i full 0) (key_of (i + 1) pool 0) ≡ staying ws L i
  unfolding staying keys_in
  staying_count i =
      count_below_ext (segments ws) (λ t. between (key_of i full 0) (key_of (i + 1) pool 0) (word keys t)) (λ s. eqb (class ws s) i && stays ws L s)
      (λ t l. ap (between (key_of i full 0) (key_of (i + 1) pool 0)) (keyed.keyed t l)
      ∙ staying_key i (class ws t) (group t) (rank ws t) (group_lt (class ws t) (word lives t)) (omega arith)
      ∙ ap (λ (b : Bool). eqb (class ws t) i && b) (ap not (stays_is ws L lives lives_is t l) ∙ not_not (stays ws L t)))

  full_before : (s : ℕ) → keys_in keys (segments ws) (key_of (class ws s) full 0) (key_of (class ws s) full (rank ws s)) ≡ ranked_before ws (stays_full ws L) s
  unfolding ranked_before
  full_before s =
      group_count (class ws s) full (rank ws s) (omega arith) (omega arith)
      ∙ count_below_ext (segments ws) (λ t. eqb (class ws t) (class ws s) && (eqb (group t) full && ltb (rank ws t) (rank ws s)))
      (λ t. eqb (class ws t) (class ws s) && (stays_full ws L t && ltb (rank ws t) (rank ws s)))
      (λ t l. ap (λ (b : Bool). eqb (class ws t) (class ws s) && (b && ltb (rank ws t) (rank ws s))) (full_is ws L lives lives_is t l))

  rest_before : (s : ℕ) → keys_in keys (segments ws) (key_of (class ws s) rest 0) (key_of (class ws s) rest (rank ws s))
      ≡ ranked_before ws (λ t. stays ws L t && not (stays_full ws L t)) s
  unfolding ranked_before
  rest_before s =
      group_count (class ws s) rest (rank ws s) (omega arith) (omega arith)
      ∙ count_below_ext (segments ws) (λ t. eqb (class ws t) (class ws s) && (eqb (group t) rest && ltb (rank ws t) (rank ws s)))
      (λ t. eqb (class ws t) (class ws s) && ((stays ws L t && not (stays_full ws L t)) && ltb (rank ws t) (rank ws s)))
      (λ t l. ap (λ (b : Bool). eqb (class ws t) (class ws s) && (b && ltb (rank ws t) (rank ws s))) (rest_is ws L lives lives_is t l))

  -- ---- the new ranks and the new places

  pub rank_is : (s : ℕ) → s < segments ws → stays ws L s ≡ true → rank_by keys (segments ws) (word keys s) ≡ new_rank ws L s
  unfolding rank_by new_rank
  rank_is s l t = ap₂ (λ (j k : ℕ). keys_in keys (segments ws) (key_of j full 0) k) (key_class ws lives keys keyed s l) (keyed.keyed s l) ∙ go (stays_full ws L s) refl
    where
      go : (b : Bool) → stays_full ws L s ≡ b
          → keys_in keys (segments ws) (key_of (class ws s) full 0) (key_of (class ws s) (group s) (rank ws s))
          ≡ cond b (ranked_before ws (stays_full ws L) s) (staying_full ws L (class ws s) + ranked_before ws (λ t. stays ws L t && not (stays_full ws L t)) s)
      go true e =
          let own : group s ≡ full = eqb-true (group s) full (full_is ws L lives lives_is s l ∙ e) in
          ap (λ (g : ℕ). keys_in keys (segments ws) (key_of (class ws s) full 0) (key_of (class ws s) g (rank ws s))) own ∙ full_before s
      go false e =
          let own : group s ≡ rest = eqb-true (group s) rest (rest_is ws L lives lives_is s l ∙ ap₂ (λ (a b : Bool). a && not b) t e) in
          ap (λ (g : ℕ). keys_in keys (segments ws) (key_of (class ws s) full 0) (key_of (class ws s) g (rank ws s))) own
          ∙ keys_parts keys (segments ws) (key_of (class ws s) full 0) (key_of (class ws s) rest 0) (key_of (class ws s) rest (rank ws s)) (omega arith) (omega arith)
          ∙ ap₂ ◌+◌ (full_count (class ws s)) (rest_before s)

  pub place_is : (i : ℕ) → place_by keys (segments ws) i ≡ new_place ws L i
  unfolding place_by place_for new_place
  place_is i = rw (staying_count i, full_count i)
