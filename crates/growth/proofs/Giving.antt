-- Giving: in a sound arena the first untaken block of a class gets its words and the class's place moves behind it. Every view is as before but
-- for that block and that place, that block alone is taken more, and the arena stays sound.
-- Assumes nothing.
use Prim.Native.Nat.{ℕ, ◌+◌, ◌≤◌, ◌<◌}
use mathlib.Core.Path.{◌≡◌, sym, ap, ap₂, ◌∙◌, subst}
use mathlib.Core.Logic.{◌⊎◌, inl, inr, ◌≢◌}
use mathlib.Core.Bool.{Bool, true, false, ◌&&◌, ◌||◌}
use mathlib.Core.List.{List, [], ◌∷◌}
use native.Mathlib.Omega.{arith}
use native.Mathlib.Nat.{add-zero}
use native.Mathlib.Decide.{dec_lt, ℕ_discrete}
use lib.ListN.{length}
use lib.Dec.{eqb}
use borrow.Author.Tests.{eqb-true, eq-eqb, ne_eqb}
use Rattle.model.specs.Below.{count_below}
use Rattle.model.specs.Word.{word, part, put, field, unnamed}
use Rattle.model.specs.Class.{is_class, blocks, block_words}
use Rattle.model.specs.Layout.{place_at, place_word, block_at, handle, segment_of, index_of}
use Rattle.model.specs.View.{segments, place_rank, place_index, class_in, rank_in, count_in, bit_in, class, rank, count, members, block_of, block_offset, reference_in}
use Rattle.model.specs.Standing.{taken_at, is_taken, none_or_taken}
use Rattle.model.specs.Sound.{levels_right}
use Rattle.laws.proofs.Below.{count_below_ext}
use Rattle.laws.proofs.Splice.{part_put}
use Rattle.words.proofs.ClassLaws.{class_bounds, blocks_most}
use Rattle.words.proofs.FieldLaws.{place_word_rank, place_word_index, place_word_unnamed}
use Rattle.words.proofs.HandleLaws.{handle_segment, handle_index, handle_back}
use Rattle.soundness.proofs.Tests.{not_passed, same_test, and_left, and_right, and_intro, or_cases, or_left, or_right, Order, order}
use Rattle.soundness.proofs.Tests.Order.{is_below, is_same, is_above}
use Rattle.soundness.proofs.Facts.{Member, Block, taken_block, Sized, Place, Right, Sound, class_member, block_end}
use Rattle.soundness.proofs.Ranks.{rank_below, rank_apart}
use Rattle.soundness.proofs.Taken.{Ground, taken_ground, ground_taken, untaken_no_ground}
use Rattle.soundness.proofs.Taken.Ground.{earlier, before, marked}
use Rattle.soundness.proofs.Views.{SameRecords, SameFront, same_segments, same_class, same_rank, same_count, same_bit, same_pool, same_members, same_block_part, taken_same, member_before, member_after, block_put_front, block_put_sized, block_put_length, block_put_other, place_put_length, place_put_sized, place_put_record, place_put_records, place_put_same, place_put_other, place_put_block}
use Rattle.growth.proofs.Given.{FirstUntaken}

-- ---- the words after giving

-- block k of segment s, of class i, gets the words b, and the place of class i becomes (q, k + 1)
abbrev pub give : List ℕ → ℕ → ℕ → ℕ → ℕ → List ℕ → List ℕ
give vs i s q k b = put (put vs (block_at (segments vs) s i k) b) (place_at i) (place_word q (k + 1) ∷ [])

pub record Gave (xs vs : List ℕ) (i s q k : ℕ) (b : List ℕ) : Type 0 where
  pub long : length xs ≡ length vs
  pub size : Sized xs
  pub same_records : SameRecords xs vs
  pub place : word xs (place_at i) ≡ place_word q (k + 1)
  pub places : (j : ℕ) → j < 16 → j ≢ i → word xs (place_at j) ≡ word vs (place_at j)
  pub own : block_of xs s k ≡ b
  pub others : (t j : ℕ) → Block vs t j → (t ≡ s → j ≢ k) → block_of xs t j ≡ block_of vs t j

module _ (vs : List ℕ) (sound : Sound vs) (i s q k : ℕ) (c : is_class i ≡ true) (first : FirstUntaken vs i s q k) (b : List ℕ) (size : length b ≡ block_words i) where
  given_block : Block vs s k
  given_block = record { member = first.member; inside = omega (arith, first.inside, ap blocks first.its_class) }

  given_class : is_class (class vs s) ≡ true
  given_class = sound.classed s first.member

  fits : 0 + length b ≤ block_words (class vs s)
  fits = omega (arith, size, ap block_words first.its_class)

  begins : block_offset vs s k + 0 ≡ block_at (segments vs) s i k
  begins = add-zero (block_offset vs s k) ∙ ap (λ (j : ℕ). block_at (segments vs) s j k) first.its_class

  -- with the block's words, before the place moves
  abbrev with_block : List ℕ
  with_block = put vs (block_at (segments vs) s i k) b

  with_front : SameFront with_block vs
  with_front = subst (λ (o : ℕ). SameFront (put vs o b) vs) begins (block_put_front vs sound.size s k given_class given_block 0 b fits)

  with_sized : Sized with_block
  with_sized = subst (λ (o : ℕ). Sized (put vs o b)) begins (block_put_sized vs sound.size s k given_class given_block 0 b fits)

  with_length : length with_block ≡ length vs
  with_length = subst (λ (o : ℕ). length (put vs o b) ≡ length vs) begins (block_put_length vs sound.size s k given_class given_block 0 b fits)

  with_other : (t j : ℕ) → Block vs t j → (t ≡ s → j ≢ k) → block_of with_block t j ≡ block_of vs t j
  with_other t j bt apart =
      subst (λ (o : ℕ). block_of (put vs o b) t j ≡ block_of vs t j) begins
      (block_put_other vs sound.size s k given_class given_block 0 b fits t j (sound.classed t bt.member) bt apart)

  with_own : block_of with_block s k ≡ b
  with_own =
      same_block_part with_block vs with_front.same_records s first.member.below k
      ∙ ap₂ (part with_block) (sym (add-zero (block_offset vs s k)) ∙ begins) (ap block_words first.its_class ∙ sym size)
      ∙ part_put vs (block_at (segments vs) s i k) b (omega (arith, begins, block_end vs sound.size s k given_class given_block))

  in_with : (t : ℕ) → t < segments vs → t < segments with_block
  in_with t l = omega (arith, same_segments with_block vs with_front.same_records)

  pub gave : Gave (give vs i s q k b) vs i s q k b
  gave =
      let w : ℕ = place_word q (k + 1) in
      record {
        long = place_put_length with_block with_sized i c w ∙ with_length;
        size = place_put_sized with_block with_sized i c w;
        same_records = record {
          head = (place_put_records with_block with_sized i c w).head ∙ with_front.same_records.head;
          records = λ t l. place_put_record with_block with_sized i c w t ∙ with_front.same_records.records t l;
        };
        place = place_put_same with_block with_sized i c w;
        places = λ j l apart. place_put_other with_block with_sized i c w j apart ∙ with_front.places j l;
        own = place_put_block with_block with_sized i c w s k (in_with s first.member.below) ∙ with_own;
        others = λ t j bt apart. place_put_block with_block with_sized i c w t j (in_with t bt.member.below) ∙ with_other t j bt apart;
      }

-- ---- one block more is taken

-- a handle is that of block k of segment s if its segment is s and its index is k
handle_test : (h s k : ℕ) → 0 < h → k < 2048 → eqb h (handle s k) ≡ (eqb (segment_of h) s && eqb (index_of h) k)
handle_test h s k p l =
    same_test (eqb h (handle s k)) (eqb (segment_of h) s && eqb (index_of h) k)
    (λ t. let e : h ≡ handle s k = eqb-true h (handle s k) t in
    and_intro (eqb (segment_of h) s) (eqb (index_of h) k) (eq-eqb (segment_of h) s (ap segment_of e ∙ handle_segment s k l))
    (eq-eqb (index_of h) k (ap index_of e ∙ handle_index s k l)))
    (λ t. let e : segment_of h ≡ s = eqb-true (segment_of h) s (and_left (eqb (segment_of h) s) (eqb (index_of h) k) t) in
    let u : index_of h ≡ k = eqb-true (index_of h) k (and_right (eqb (segment_of h) s) (eqb (index_of h) k) t) in
    eq-eqb h (handle s k) (sym (handle_back h p) ∙ ap₂ handle e u))

module _ (xs vs : List ℕ) (i s q k : ℕ) (b : List ℕ) (sound : Sound vs) (c : is_class i ≡ true) (first : FirstUntaken vs i s q k) (gave : Gave xs vs i s q k b) where
  same : SameRecords xs vs
  same = gave.same_records

  -- the new place
  pub new_rank_is : place_rank xs i ≡ q
  new_rank_is = ap (field 0 8) gave.place ∙ place_word_rank q (k + 1) (omega (arith, first.its_rank)) (omega (arith, blocks_most i c, first.inside))

  pub new_index_is : place_index xs i ≡ k + 1
  new_index_is = ap (field 8 12) gave.place ∙ place_word_index q (k + 1) (omega (arith, first.its_rank)) (omega (arith, blocks_most i c, first.inside))

  -- the old one did not stand behind the given block
  given_block_of : Block vs s k
  given_block_of = record { member = first.member; inside = omega (arith, first.inside, ap blocks first.its_class) }

  old_rank : place_rank vs i ≤ q
  old_rank =
      omega (arith, (untaken_no_ground vs s k given_block_of first.untaken).not_earlier, ap (place_rank vs) first.its_class, first.its_rank)

  old_index : place_rank vs i ≡ q → place_index vs i ≤ k
  old_index e =
      let same_rank_of : rank vs s ≡ place_rank vs (class vs s) = first.its_rank ∙ sym e ∙ ap (place_rank vs) (sym first.its_class) in
      omega (arith, (untaken_no_ground vs s k given_block_of first.untaken).not_before same_rank_of, ap (place_index vs) first.its_class)

  -- the given block, and one taken before
  abbrev or_given : ℕ → ℕ → Bool
  or_given t j = (eqb t s && eqb j k) || taken_at vs t j

  is_given : (t j : ℕ) → t ≡ s → j ≡ k → or_given t j ≡ true
  is_given t j e u = or_left (eqb t s && eqb j k) (taken_at vs t j) (and_intro (eqb t s) (eqb j k) (eq-eqb t s e) (eq-eqb j k u))

  was_taken : (t j : ℕ) → taken_at vs t j ≡ true → or_given t j ≡ true
  was_taken t j u = or_right (eqb t s && eqb j k) (taken_at vs t j) u

  -- in segments of class i
  module _ (t j : ℕ) (m : Member vs t) (e : class vs t ≡ i) where
    after_class : class xs t ≡ i
    after_class = same_class xs vs same t m.below ∙ e

    after_rank : rank xs t ≡ rank vs t
    after_rank = same_rank xs vs same t m.below

    after_place_rank : place_rank xs (class xs t) ≡ q
    after_place_rank = ap (place_rank xs) after_class ∙ new_rank_is

    after_place_index : place_index xs (class xs t) ≡ k + 1
    after_place_index = ap (place_index xs) after_class ∙ new_index_is

    was_block : Block xs t j → Block vs t j
    was_block bx = record { member = m; inside = omega (arith, bx.inside, ap blocks (same_class xs vs same t m.below)) }

    is_block_after : Block vs t j → Block xs t j
    is_block_after bv = record { member = member_after xs vs same t m; inside = omega (arith, bv.inside, ap blocks (same_class xs vs same t m.below)) }

    to : Block xs t j → Ground xs t j → or_given t j ≡ true
    to bx (earlier l) = was_taken t j (first.earlier t j (was_block bx) e (omega (arith, after_rank, after_place_rank)))
    to bx (marked u) = was_taken t j (ground_taken vs t j (was_block bx) (marked (sym (same_bit xs vs same t m.below j) ∙ u)))
    to bx (before u l) = go (order j k)
      where
        own : t ≡ s
        own = rank_apart vs sound t s m first.member (e ∙ sym first.its_class) (sym after_rank ∙ u ∙ after_place_rank ∙ sym first.its_rank)

        go : Order j k → or_given t j ≡ true
        go (is_below v) = was_taken t j (ap (λ (x : ℕ). taken_at vs x j) own ∙ first.before j v)
        go (is_same v) = is_given t j own v
        go (is_above v) = absurd (omega (arith, after_place_index))

    from_given : t ≡ s → j ≡ k → taken_at xs t j ≡ true
    from_given u v =
        let inside : j < blocks (class vs t) = omega (arith, first.inside, ap blocks e) in
        ground_taken xs t j (is_block_after (record { member = m; inside = inside }))
        (before (after_rank ∙ ap (rank vs) u ∙ first.its_rank ∙ sym after_place_rank) (omega (arith, after_place_index)))

    from_taken : Block vs t j → Ground vs t j → taken_at xs t j ≡ true
    from_taken bv (earlier l) = ground_taken xs t j (is_block_after bv) (earlier (omega (arith, old_rank, after_rank, after_place_rank, ap (place_rank vs) e)))
    from_taken bv (marked u) = ground_taken xs t j (is_block_after bv) (marked (same_bit xs vs same t m.below j ∙ u))
    from_taken bv (before u l) = go (order (rank vs t) q)
      where
        go : Order (rank vs t) q → taken_at xs t j ≡ true
        go (is_below v) = ground_taken xs t j (is_block_after bv) (earlier (omega (arith, after_rank, after_place_rank)))
        go (is_same v) =
            ground_taken xs t j (is_block_after bv)
            (before (after_rank ∙ v ∙ sym after_place_rank)
            (omega (arith, after_place_index, ap (place_index vs) e, old_index (ap (place_rank vs) (sym e) ∙ sym u ∙ v))))
        go (is_above v) = absurd (omega (arith, old_rank, ap (place_rank vs) e))

    own_class : taken_at xs t j ≡ or_given t j
    own_class = same_test (taken_at xs t j) (or_given t j) (λ u. to (taken_block xs t j u) (taken_ground xs t j u))
        (λ u. go (or_cases (eqb t s && eqb j k) (taken_at vs t j) u))
      where
        go : ((eqb t s && eqb j k) ≡ true) ⊎ (taken_at vs t j ≡ true) → taken_at xs t j ≡ true
        go (inl u) = from_given (eqb-true t s (and_left (eqb t s) (eqb j k) u)) (eqb-true j k (and_right (eqb t s) (eqb j k) u))
        go (inr u) = from_taken (taken_block vs t j u) (taken_ground vs t j u)

  -- a segment that is not s has none more
  not_given : (t j : ℕ) → t ≢ s → or_given t j ≡ taken_at vs t j
  not_given t j apart = ap (λ (e : Bool). (e && eqb j k) || taken_at vs t j) (ne_eqb t s apart)

  pub one_more_taken : (t j : ℕ) → taken_at xs t j ≡ ((eqb t s && eqb j k) || taken_at vs t j)
  one_more_taken t j = go (dec_lt t (segments vs)) (ℕ_discrete (class vs t) i)
    where
      go : Dec (t < segments vs) → Dec (class vs t ≡ i) → taken_at xs t j ≡ or_given t j
      go (yes l) (yes e) = own_class t j (class_member vs t i c l e) e
      go (yes l) (no f) =
          taken_same xs vs t j same.head (same.records t l) (gave.places (class vs t) (omega arith) f)
          ∙ sym (not_given t j (λ u. f (ap (class vs) u ∙ first.its_class)))
      go (no f) d =
          let past : segments vs ≤ t = omega (arith, f) in
          not_passed (taken_at xs t j) (λ u. omega (arith, (taken_block xs t j u).member.below, same_segments xs vs same))
          ∙ sym (not_passed (taken_at vs t j) (λ u. omega (arith, (taken_block vs t j u).member.below)))
          ∙ sym (not_given t j (λ u. omega (arith, first.member.below)))

  pub one_more_is_taken : (h : ℕ) → is_taken xs h ≡ (eqb h (handle s k) || is_taken vs h)
  unfolding is_taken
  one_more_is_taken h = go (dec_lt 0 h)
    where
      go : Dec (0 < h) → is_taken xs h ≡ (eqb h (handle s k) || is_taken vs h)
      go (yes p) =
          let some : eqb h 0 ≡ false = ne_eqb h 0 (λ e. omega arith) in
          rw (some, handle_test h s k p (omega (arith, first.inside, blocks_most i c))) (one_more_taken (segment_of h) (index_of h))
      go (no f) =
          let none : h ≡ 0 = omega (arith, f) in
          rw (none, ne_eqb 0 (handle s k) (λ e. omega arith))

  -- what was none or taken still is
  pub still_none_or_taken : (h : ℕ) → none_or_taken vs h ≡ true → none_or_taken xs h ≡ true
  still_none_or_taken h t = go (or_cases (eqb h 0) (is_taken vs h) t)
    where
      go : (eqb h 0 ≡ true) ⊎ (is_taken vs h ≡ true) → none_or_taken xs h ≡ true
      go (inl e) = or_left (eqb h 0) (is_taken xs h) e
      go (inr u) = or_right (eqb h 0) (is_taken xs h) (one_more_is_taken h ∙ or_right (eqb h (handle s k)) (is_taken vs h) u)

  still_right : (j : ℕ) (us : List ℕ) → Right vs j us → Right xs j us
  still_right j us right = record {
    fits = right.fits;
    within = right.within;
    references = λ f l. still_none_or_taken (reference_in us f) (right.references f l);
  }

  -- ---- the arena stays sound

  at : (t : ℕ) → t < segments xs → t < segments vs
  at t l = omega (arith, same_segments xs vs same)

  ranks_after : (j p : ℕ) → is_class j ≡ true → p < members xs j → count_below (segments xs) (λ t. eqb (class xs t) j && eqb (rank xs t) p) ≡ 1
  ranks_after j p cj l =
      ap (λ (N : ℕ). count_below N (λ t. eqb (class xs t) j && eqb (rank xs t) p)) (same_segments xs vs same)
      ∙ count_below_ext (segments vs) (λ t. eqb (class xs t) j && eqb (rank xs t) p) (λ t. eqb (class vs t) j && eqb (rank vs t) p)
      (λ t u. ap (λ (rec : List ℕ). eqb (class_in rec) j && eqb (rank_in rec) p) (same.records t u))
      ∙ sound.each_rank j p cj (omega (arith, same_members xs vs same j))

  place_zero_after : (j : ℕ) → is_class j ≡ true → unnamed 20 (word xs (place_at j)) ≡ 0
  place_zero_after j cj = go (ℕ_discrete j i)
    where
      go : Dec (j ≡ i) → unnamed 20 (word xs (place_at j)) ≡ 0
      go (yes e) = ap (λ (x : ℕ). unnamed 20 (word xs (place_at x))) e ∙ ap (unnamed 20) gave.place ∙ place_word_unnamed q (k + 1)
      go (no f) = ap (unnamed 20) (gave.places j (omega (arith, class_bounds j cj)) f) ∙ sound.place_zero j cj

  -- a segment behind the new place stood behind the old one
  behind_after : (t : ℕ) → Member xs t → place_rank xs (class xs t) < rank xs t → count xs t < blocks (class xs t)
  behind_after t m l =
      let u : t < segments vs = at t m.below in
      let e : class xs t ≡ class vs t = same_class xs vs same t u in
      let was : place_rank vs (class vs t) < rank vs t = go u (ℕ_discrete (class vs t) i) in
      omega (arith, sound.not_full_behind t (member_before xs vs same t m) was, same_count xs vs same t u, ap blocks e)
    where
      go : (u : t < segments vs) → Dec (class vs t ≡ i) → place_rank vs (class vs t) < rank vs t
      go u (yes e) =
          omega (arith, ap (place_rank vs) e, ap (place_rank xs) (same_class xs vs same t u ∙ e), new_rank_is, old_rank, same_rank xs vs same t u)
      go u (no f) =
          let kept : place_rank xs (class vs t) ≡ place_rank vs (class vs t) = ap (field 0 8) (gave.places (class vs t) (omega arith) f) in
          omega (arith, kept, ap (place_rank xs) (same_class xs vs same t u), same_rank xs vs same t u)

  place_after : (j : ℕ) → is_class j ≡ true → Place xs j
  place_after j cj = go (ℕ_discrete j i)
    where
      m : members xs j ≡ members vs j
      m = same_members xs vs same j

      go : Dec (j ≡ i) → Place xs j
      go (yes e) =
          let low : q < members xs j =
          omega (arith, rank_below vs sound s first.member, first.its_rank, ap (members vs) first.its_class, m, ap (members vs) e) in
          record {
            unused = λ none. absurd (omega arith);
            used = λ _. omega (arith, ap (place_rank xs) e, new_rank_is);
            index = omega (arith, ap (place_index xs) e, new_index_is, ap blocks e, first.inside);
          }
      go (no f) =
          let p = sound.placed j cj in
          let kept = gave.places j (omega (arith, class_bounds j cj)) f in
          let by_rank : place_rank xs j ≡ place_rank vs j = ap (field 0 8) kept in
          let by_index : place_index xs j ≡ place_index vs j = ap (field 8 12) kept in
          record {
            unused = λ e. let both = p.unused (sym m ∙ e) in (by_rank ∙ both.0, by_index ∙ both.1);
            used = λ l. omega (arith, by_rank, m, p.used (omega (arith, m)));
            index = omega (arith, by_index, p.index);
          }

  -- the given block is right, and the others are as before
  right_after : Right vs i b → (t j : ℕ) → taken_at xs t j ≡ true → Right xs (class xs t) (block_of xs t j)
  right_after right t j u = go (ℕ_discrete t s) (ℕ_discrete j k)
    where
      l : t < segments vs
      l = at t (taken_block xs t j u).member.below

      cased : (t ≡ s → j ≢ k) → ((eqb t s && eqb j k) ≡ true) ⊎ (taken_at vs t j ≡ true) → taken_at vs t j ≡ true
      cased apart (inl e) = absurd (apart (eqb-true t s (and_left (eqb t s) (eqb j k) e)) (eqb-true j k (and_right (eqb t s) (eqb j k) e)))
      cased apart (inr v) = v

      kept : (t ≡ s → j ≢ k) → Right xs (class xs t) (block_of xs t j)
      kept apart =
          let v : taken_at vs t j ≡ true = cased apart (or_cases (eqb t s && eqb j k) (taken_at vs t j) (sym (one_more_taken t j) ∙ u)) in
          subst (λ (us : List ℕ). Right xs (class xs t) us) (sym (gave.others t j (taken_block vs t j v) apart))
          (subst (λ (x : ℕ). Right xs x (block_of vs t j)) (sym (same_class xs vs same t l)) (still_right (class vs t) (block_of vs t j) (sound.right t j v)))

      go : Dec (t ≡ s) → Dec (j ≡ k) → Right xs (class xs t) (block_of xs t j)
      go (yes e) (yes v) =
          subst (λ (us : List ℕ). Right xs (class xs t) us) (sym (ap₂ (block_of xs) e v ∙ gave.own))
          (subst (λ (x : ℕ). Right xs x b) (sym (same_class xs vs same t l ∙ ap (class vs) e ∙ first.its_class)) (still_right i b right))
      go (yes e) (no f) = kept (λ _. f)
      go (no f) d = kept (λ e. absurd (f e))

  pub sound_gave : Right vs i b → Sound xs
  sound_gave right = record {
    size = gave.size;
    head_zero = ap (unnamed 8) same.head ∙ sound.head_zero;
    place_zero = place_zero_after;
    record_zero = λ t l. ap (λ (rec : List ℕ). unnamed 24 (word rec 0)) (same.records t (at t l)) ∙ sound.record_zero t (at t l);
    classed = λ t m. ap (λ (rec : List ℕ). is_class (class_in rec)) (same.records t (at t m.below)) ∙ sound.classed t (member_before xs vs same t m);
    pooled = λ t l p. same.records t (at t l) ∙ sound.pooled t (at t l) (sym (same_pool xs vs same t (at t l)) ∙ p);
    each_rank = ranks_after;
    levelled = λ t m. ap (λ (rec : List ℕ). levels_right (class_in rec) rec) (same.records t (at t m.below)) ∙ sound.levelled t (member_before xs vs same t m);
    counted = λ t m.
        subst (λ (rec : List ℕ). count_in rec ≡ count_below (blocks (class_in rec)) (bit_in rec)) (sym (same.records t (at t m.below)))
        (sound.counted t (member_before xs vs same t m));
    not_full_behind = behind_after;
    placed = place_after;
    right = right_after right;
  }
