-- Joining: in a sound arena a segment of the pool joins a class at the next rank, with count 0 and no bit set. Its record is the only thing that
-- changes, none of its blocks is taken and all others are taken as before, and the arena stays sound. Where all blocks of the class are taken, its
-- block 0 is then the first untaken one.
-- Assumes nothing.
use Prim.Native.Nat.{ℕ, ◌+◌, ◌≤◌, ◌<◌}
use mathlib.Core.Path.{◌≡◌, refl, sym, ap, ◌∙◌, subst}
use mathlib.Core.Logic.{◌⊎◌, inl, inr, ◌≢◌}
use mathlib.Core.Bool.{Bool, true, false, not, ◌&&◌, ◌||◌}
use mathlib.Core.List.{List}
use native.Mathlib.Omega.{arith}
use native.Mathlib.Decide.{dec_lt, ℕ_discrete}
use lib.ListN.{length, replicate}
use lib.Dec.{eqb, ltb}
use borrow.Author.Tests.{eqb-true, eq-eqb, ne_eqb, ltb-true}
use Rattle.model.specs.Below.{one_if, all_below, count_below}
use Rattle.model.specs.Word.{word, put, field, unnamed}
use Rattle.model.specs.Class.{is_class, blocks}
use Rattle.model.specs.Layout.{place_at, record_at, record_head, record_words, segment_of, index_of}
use Rattle.model.specs.View.{segments, place_rank, place_index, record_of, class_in, rank_in, count_in, bit_in, class, rank, count, bit_of, members, block_of, reference_in}
use Rattle.model.specs.Standing.{in_pool, taken_at, is_taken}
use Rattle.model.specs.Sound.{levels_right}
use Rattle.model.specs.Calls.{class_has_untaken}
use Rattle.laws.proofs.Below.{count_below_none}
use Rattle.words.proofs.ClassLaws.{class_bounds, class_rule}
use Rattle.words.proofs.FieldLaws.{record_head_class, record_head_rank, record_head_count, record_head_unnamed}
use Rattle.bitmap.proofs.RecordLaws.{record_length, set_of_record, record_right}
use Rattle.soundness.proofs.Tests.{never, not_passed}
use Rattle.soundness.proofs.Facts.{Member, Block, taken_block, Sized, Place, Right, Sound, pool_or_member, class_member}
use Rattle.soundness.proofs.Ranks.{RanksBelow, RanksApart, ranks_of, rank_below, rank_apart, members_le}
use Rattle.soundness.proofs.Taken.{NoGround, no_ground_untaken, pool_untaken}
use Rattle.soundness.proofs.Views.{record_put_length, record_put_sized, record_put_head, record_put_segments, record_put_place, record_put_same, record_put_other, record_put_block, record_put_taken, record_put_members}
use Rattle.growth.proofs.Given.{FirstUntaken, class_all_taken}

-- the record of a segment that joins
abbrev pub fresh_record : List ℕ → ℕ → List ℕ
fresh_record ws i = record_words i (members ws i) 0 (λ k. false)

-- a class has a block
pub some_block : (i : ℕ) → is_class i ≡ true → 0 < blocks i
unfolding all_below
some_block i c = ltb-true _ _ (class_rule (λ i. ltb 0 (blocks i)) refl i c)

module _ (ws : List ℕ) (sound : Sound ws) (i s : ℕ) (c : is_class i ≡ true) (l : s < segments ws) (pool : in_pool ws s ≡ true) where
  -- the arena with the segment in its class
  abbrev vs : List ℕ
  vs = put ws (record_at s) (fresh_record ws i)

  fresh_length : length (fresh_record ws i) ≡ 68
  fresh_length = record_length (record_head i (members ws i) 0) i (λ k. false)

  few : members ws i ≤ 64
  few = omega (arith, members_le ws i, sound.size.few)

  -- ---- the views

  pub joined_length : length vs ≡ length ws
  joined_length = record_put_length ws sound.size s l (fresh_record ws i) fresh_length

  pub joined_sized : Sized vs
  joined_sized = record_put_sized ws sound.size s l (fresh_record ws i) fresh_length

  pub joined_head : word vs 0 ≡ word ws 0
  joined_head = record_put_head ws sound.size s l (fresh_record ws i) fresh_length

  pub joined_segments : segments vs ≡ segments ws
  joined_segments = record_put_segments ws sound.size s l (fresh_record ws i) fresh_length

  pub joined_place : (j : ℕ) → j ≤ 12 → word vs (place_at j) ≡ word ws (place_at j)
  joined_place = record_put_place ws sound.size s l (fresh_record ws i) fresh_length

  pub joined_record : record_of vs s ≡ fresh_record ws i
  joined_record = record_put_same ws sound.size s l (fresh_record ws i) fresh_length

  pub joined_other : (t : ℕ) → t ≢ s → record_of vs t ≡ record_of ws t
  joined_other = record_put_other ws sound.size s l (fresh_record ws i) fresh_length

  pub joined_block : (t j : ℕ) → t ≢ s → block_of vs t j ≡ block_of ws t j
  joined_block = record_put_block ws sound.size s l (fresh_record ws i) fresh_length

  fresh_class : class_in (fresh_record ws i) ≡ i
  fresh_class = record_head_class i (members ws i) 0 (omega (arith, class_bounds i c)) (omega (arith, few)) (omega arith)

  pub joined_class : class vs s ≡ i
  joined_class = ap class_in joined_record ∙ fresh_class

  pub joined_rank : rank vs s ≡ members ws i
  joined_rank = ap rank_in joined_record ∙ record_head_rank i (members ws i) 0 (omega (arith, class_bounds i c)) (omega (arith, few)) (omega arith)

  pub joined_count : count vs s ≡ 0
  joined_count = ap count_in joined_record ∙ record_head_count i (members ws i) 0 (omega (arith, class_bounds i c)) (omega (arith, few)) (omega arith)

  pub joined_bit : (j : ℕ) → j < blocks i → bit_of vs s j ≡ false
  joined_bit j u = ap (λ (rec : List ℕ). bit_in rec j) joined_record ∙ set_of_record (record_head i (members ws i) 0) i (λ k. false) c j u

  was_pool : class ws s ≡ 0
  was_pool = eqb-true (class ws s) 0 pool

  -- the class has a member more, the other classes have as many as before
  pub joined_members : members vs i ≡ members ws i + 1
  joined_members =
      omega (
        arith,
        record_put_members ws sound.size s l (fresh_record ws i) fresh_length i,
        ap one_if (ne_eqb (class ws s) i (λ e. omega (arith, was_pool, class_bounds i c))),
        ap one_if (eq-eqb (class_in (fresh_record ws i)) i fresh_class),
      )

  pub joined_members_other : (j : ℕ) → is_class j ≡ true → j ≢ i → members vs j ≡ members ws j
  joined_members_other j cj apart =
      omega (
        arith,
        record_put_members ws sound.size s l (fresh_record ws i) fresh_length j,
        ap one_if (ne_eqb (class ws s) j (λ e. omega (arith, was_pool, class_bounds j cj))),
        ap one_if (ne_eqb (class_in (fresh_record ws i)) j (λ e. apart (sym e ∙ fresh_class))),
      )

  -- ---- what is taken

  in_old : (t : ℕ) → t < segments vs → t < segments ws
  in_old t u = omega (arith, joined_segments)

  -- a member that is not s was one
  was_member : (t : ℕ) → Member vs t → t ≢ s → Member ws t
  was_member t m apart = record { below = in_old t m.below; used = ap (λ (rec : List ℕ). eqb (class_in rec) 0) (sym (joined_other t apart)) ∙ m.used }

  same_class_of : (t : ℕ) → t ≢ s → class vs t ≡ class ws t
  same_class_of t apart = ap class_in (joined_other t apart)

  pub joined_member : Member vs s
  joined_member = class_member vs s i c (omega (arith, joined_segments)) joined_class

  class_le : (t : ℕ) → t < segments ws → class ws t ≤ 12
  class_le t u = go (pool_or_member ws t u)
    where
      go : (in_pool ws t ≡ true) ⊎ Member ws t → class ws t ≤ 12
      go (inl p) = omega (arith, eqb-true (class ws t) 0 p)
      go (inr m) = omega (arith, class_bounds (class ws t) (sound.classed t m))

  kept_rank : (j : ℕ) → j ≤ 12 → place_rank vs j ≡ place_rank ws j
  kept_rank j u = ap (field 0 8) (joined_place j u)

  kept_index : (j : ℕ) → j ≤ 12 → place_index vs j ≡ place_index ws j
  kept_index j u = ap (field 8 12) (joined_place j u)

  -- the place does not stand behind the next rank
  place_low : (place_rank ws i ≤ members ws i) × (place_rank ws i ≡ members ws i → place_index ws i ≡ 0)
  place_low = go (dec_lt 0 (members ws i))
    where
      p : Place ws i
      p = sound.placed i c

      go : Dec (0 < members ws i) → (place_rank ws i ≤ members ws i) × (place_rank ws i ≡ members ws i → place_index ws i ≡ 0)
      go (yes u) = (omega (arith, p.used u), λ e. absurd (omega (arith, p.used u)))
      go (no f) =
          let none : members ws i ≡ 0 = omega (arith, f) in
          (omega (arith, p.unused none), λ e. (p.unused none).1)

  pub joined_untaken : (j : ℕ) → taken_at vs s j ≡ false
  joined_untaken j = not_passed (taken_at vs s j) (λ t. never (taken_at vs s j) t (no_ground_untaken vs s j (none (taken_block vs s j t).inside)))
    where
      by_rank : place_rank vs (class vs s) ≡ place_rank ws i
      by_rank = ap (place_rank vs) joined_class ∙ kept_rank i (omega (arith, class_bounds i c))

      by_index : place_index vs (class vs s) ≡ place_index ws i
      by_index = ap (place_index vs) joined_class ∙ kept_index i (omega (arith, class_bounds i c))

      none : j < blocks (class vs s) → NoGround vs s j
      none u = record {
        not_earlier = omega (arith, by_rank, joined_rank, place_low.0);
        not_before = λ e. omega (arith, by_index, place_low.1 (sym by_rank ∙ sym e ∙ joined_rank));
        not_marked = joined_bit j (omega (arith, ap blocks joined_class));
      }

  pub joined_taken : (t j : ℕ) → taken_at vs t j ≡ taken_at ws t j
  joined_taken t j = go (ℕ_discrete t s) (dec_lt t (segments ws))
    where
      go : Dec (t ≡ s) → Dec (t < segments ws) → taken_at vs t j ≡ taken_at ws t j
      go (yes e) d =
          ap (λ (x : ℕ). taken_at vs x j) e ∙ joined_untaken j ∙ sym (pool_untaken ws s j pool) ∙ ap (λ (x : ℕ). taken_at ws x j) (sym e)
      go (no f) (yes u) = record_put_taken ws sound.size s l (fresh_record ws i) fresh_length t j f (class_le t u)
      go (no f) (no g) =
          let past : segments ws ≤ t = omega (arith, g) in
          not_passed (taken_at vs t j) (λ u. omega (arith, (taken_block vs t j u).member.below, joined_segments))
          ∙ sym (not_passed (taken_at ws t j) (λ u. omega (arith, (taken_block ws t j u).member.below)))

  pub joined_is_taken : (h : ℕ) → is_taken vs h ≡ is_taken ws h
  unfolding is_taken
  joined_is_taken h = ap (λ (t : Bool). not (eqb h 0) && t) (joined_taken (segment_of h) (index_of h))

  -- ---- the arena stays sound

  ranks_low : RanksBelow vs
  ranks_low t m = go (ℕ_discrete t s)
    where
      more : (j : ℕ) → is_class j ≡ true → members ws j ≤ members vs j
      more j cj = elim (ℕ_discrete j i) [
        | yes e ↦ omega (arith, joined_members, ap (members ws) e, ap (members vs) e)
        | no f ↦ omega (arith, joined_members_other j cj f)
      ]

      go : Dec (t ≡ s) → rank vs t < members vs (class vs t)
      go (yes e) = omega (arith, ap (rank vs) e, joined_rank, ap (λ (x : ℕ). members vs (class vs x)) e, ap (members vs) joined_class, joined_members)
      go (no f) =
          let w : Member ws t = was_member t m f in
          omega (arith, ap rank_in (joined_other t f), rank_below ws sound t w, more (class ws t) (sound.classed t w), ap (members vs) (same_class_of t f))

  -- no older segment of the class has the next rank
  next_free : (t : ℕ) → Member vs t → t ≢ s → class vs t ≡ i → rank vs t < members ws i
  next_free t m apart e =
      omega (arith, ap rank_in (joined_other t apart), rank_below ws sound t (was_member t m apart), ap (members ws) (sym (same_class_of t apart) ∙ e))

  ranks_apart : RanksApart vs
  ranks_apart t u mt mu e r = go (ℕ_discrete t s) (ℕ_discrete u s)
    where
      go : Dec (t ≡ s) → Dec (u ≡ s) → t ≡ u
      go (yes a) (yes b) = a ∙ sym b
      go (yes a) (no g) =
          absurd (omega (arith, next_free u mu g (sym e ∙ ap (class vs) a ∙ joined_class), ap (rank vs) a, joined_rank))
      go (no f) (yes b) =
          absurd (omega (arith, next_free t mt f (e ∙ ap (class vs) b ∙ joined_class), ap (rank vs) b, joined_rank))
      go (no f) (no g) =
          rank_apart ws sound t u (was_member t mt f) (was_member u mu g) (sym (same_class_of t f) ∙ e ∙ same_class_of u g)
          (sym (ap rank_in (joined_other t f)) ∙ r ∙ ap rank_in (joined_other u g))

  -- a fact of records holds of all where it holds of the fresh one and held of all before
  each : (P : ℕ → List ℕ → Type 0) → P s (fresh_record ws i) → ((t : ℕ) → t < segments ws → t ≢ s → P t (record_of ws t))
      → (t : ℕ) → t < segments vs → P t (record_of vs t)
  each P fresh old t u = go (ℕ_discrete t s)
    where
      go : Dec (t ≡ s) → P t (record_of vs t)
      go (yes e) = subst (λ (x : ℕ). P x (record_of vs x)) (sym e) (subst (P s) (sym joined_record) fresh)
      go (no f) = subst (P t) (sym (joined_other t f)) (old t (in_old t u) f)

  place_joined : (j : ℕ) → is_class j ≡ true → Place vs j
  place_joined j cj = go (ℕ_discrete j i)
    where
      p : Place ws j
      p = sound.placed j cj

      r : place_rank vs j ≡ place_rank ws j
      r = kept_rank j (omega (arith, class_bounds j cj))

      x : place_index vs j ≡ place_index ws j
      x = kept_index j (omega (arith, class_bounds j cj))

      go : Dec (j ≡ i) → Place vs j
      go (yes e) = record {
        unused = λ none. absurd (omega (arith, ap (members vs) e, joined_members));
        used = λ _. omega (arith, r, ap (place_rank ws) e, place_low.0, ap (members vs) e, joined_members);
        index = omega (arith, x, p.index);
      }
      go (no f) =
          let m : members vs j ≡ members ws j = joined_members_other j cj f in
          record {
            unused = λ e. let both = p.unused (sym m ∙ e) in (r ∙ both.0, x ∙ both.1);
            used = λ u. omega (arith, r, m, p.used (omega (arith, m)));
            index = omega (arith, x, p.index);
          }

  behind_joined : (t : ℕ) → Member vs t → place_rank vs (class vs t) < rank vs t → count vs t < blocks (class vs t)
  behind_joined t m u = go (ℕ_discrete t s)
    where
      go : Dec (t ≡ s) → count vs t < blocks (class vs t)
      go (yes e) = omega (arith, ap (count vs) e, joined_count, ap (λ (x : ℕ). blocks (class vs x)) e, ap blocks joined_class, some_block i c)
      go (no f) =
          let w : Member ws t = was_member t m f in
          let e : class vs t ≡ class ws t = same_class_of t f in
          let was : place_rank ws (class ws t) < rank ws t =
          omega (arith, ap (place_rank vs) e, kept_rank (class ws t) (class_le t w.below), ap rank_in (joined_other t f)) in
          omega (arith, sound.not_full_behind t w was, ap count_in (joined_other t f), ap blocks e)

  right_joined : (t j : ℕ) → taken_at vs t j ≡ true → Right vs (class vs t) (block_of vs t j)
  right_joined t j u =
      let v : taken_at ws t j ≡ true = sym (joined_taken t j) ∙ u in
      let f : t ≢ s = λ e. never (taken_at ws t j) v (ap (λ (x : ℕ). taken_at ws x j) e ∙ pool_untaken ws s j pool) in
      let old = sound.right t j v in
      subst (λ (us : List ℕ). Right vs (class vs t) us) (sym (joined_block t j f))
      (subst (λ (x : ℕ). Right vs x (block_of ws t j)) (sym (same_class_of t f))
      (record {
        fits = old.fits;
        within = old.within;
        references = λ g k. ap (λ (b : Bool). eqb (reference_in (block_of ws t j) g) 0 || b) (joined_is_taken (reference_in (block_of ws t j) g)) ∙ old.references g k;
      }))

  pub sound_joined : Sound vs
  sound_joined = record {
    size = joined_sized;
    head_zero = ap (unnamed 8) joined_head ∙ sound.head_zero;
    place_zero = λ j cj. ap (unnamed 20) (joined_place j (omega (arith, class_bounds j cj))) ∙ sound.place_zero j cj;
    record_zero = each (λ t rec. unnamed 24 (word rec 0) ≡ 0) (record_head_unnamed i (members ws i) 0) (λ t u _. sound.record_zero t u);
    classed = λ t m. each (λ t rec. eqb (class_in rec) 0 ≡ false → is_class (class_in rec) ≡ true) (λ _. ap is_class fresh_class ∙ c)
        (λ t u _ used. sound.classed t (record { below = u; used = used })) t m.below m.used;
    pooled = each (λ t rec. eqb (class_in rec) 0 ≡ true → rec ≡ replicate 68 0)
        (λ p. absurd (omega (arith, eqb-true (class_in (fresh_record ws i)) 0 p, fresh_class, class_bounds i c))) (λ t u _ p. sound.pooled t u p);
    each_rank = ranks_of vs ranks_low ranks_apart;
    levelled = λ t m. each (λ t rec. eqb (class_in rec) 0 ≡ false → levels_right (class_in rec) rec ≡ true)
        (λ _. ap (λ (j : ℕ). levels_right j (fresh_record ws i)) fresh_class ∙ record_right (record_head i (members ws i) 0) i (λ k. false) c)
        (λ t u _ used. sound.levelled t (record { below = u; used = used })) t m.below m.used;
    counted = λ t m. each (λ t rec. eqb (class_in rec) 0 ≡ false → count_in rec ≡ count_below (blocks (class_in rec)) (bit_in rec))
        (λ _. record_head_count i (members ws i) 0 (omega (arith, class_bounds i c)) (omega (arith, few)) (omega arith)
        ∙ sym (count_below_none (blocks (class_in (fresh_record ws i))) (bit_in (fresh_record ws i))
        (λ j u. set_of_record (record_head i (members ws i) 0) i (λ k. false) c j (omega (arith, ap blocks fresh_class)))))
        (λ t u _ used. sound.counted t (record { below = u; used = used })) t m.below m.used;
    not_full_behind = behind_joined;
    placed = place_joined;
    right = right_joined;
  }

  -- ---- its block 0 is the first untaken one

  pub joined_first : class_has_untaken ws i ≡ false → FirstUntaken vs i s (members ws i) 0
  joined_first none = record {
    member = joined_member;
    its_class = joined_class;
    its_rank = joined_rank;
    inside = some_block i c;
    untaken = joined_untaken 0;
    earlier = λ t j b e u.
        let f : t ≢ s = λ x. omega (arith, ap (rank vs) x, joined_rank) in
        let was : Block ws t j = record { member = was_member t b.member f; inside = omega (arith, b.inside, ap blocks (same_class_of t f)) } in
        joined_taken t j ∙ class_all_taken ws sound i c none t j was (sym (same_class_of t f) ∙ e);
    before = λ j u. absurd (omega arith);
  }
