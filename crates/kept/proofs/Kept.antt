-- A granted collection leaves a sound arena, in which exactly the listed blocks are taken, each with its words as before. Assumes nothing.
use Prim.Native.Nat.{ℕ, ◌+◌, ◌-◌, ◌/◌, ◌%◌, ◌≤◌, ◌<◌}
use native.Mathlib.Omega.{arith}
use native.Mathlib.Decide.{dec_lt, ℕ_discrete}
use mathlib.Core.Path.{◌≡◌, refl, sym, ap, ap₂, ◌∙◌}
use mathlib.Core.Logic.{◌≢◌}
use mathlib.Core.Bool.{Bool, true, false, true≢false}
use mathlib.Core.List.{List}
use lib.ListN.{replicate, get_or-replicate}
use borrow.Author.Tests.{eq-eqb, ne_eqb, lt-ltb, le-ltb}
use Rattle.model.specs.Word.{word, field, unnamed, bit}
use Rattle.model.specs.Class.{is_class, blocks}
use Rattle.model.specs.Layout.{handle, segment_of, index_of, place_at, place_word}
use Rattle.model.specs.View.{segments, place_rank, place_index, record_of, class, rank, count, members, block_of, block, r_in, reference_in, bit_in, bit_of}
use Rattle.model.specs.Standing.{in_pool, taken_at, is_taken, none_or_taken}
use Rattle.model.specs.Sound.{sound}
use Rattle.model.specs.Ways.{listed}
use Rattle.model.specs.Calls.{live, new_rank, stays, stays_full, staying, staying_full, new_place, collected}
use Rattle.laws.proofs.Bits.{bit_zero}
use Rattle.words.proofs.ClassLaws.{blocks_most}
use Rattle.words.proofs.FieldLaws.{place_word_rank, place_word_index, place_word_unnamed, record_head_unnamed}
use Rattle.words.proofs.HandleLaws.{handle_segment, handle_index, handle_back, index_small}
use Rattle.soundness.proofs.Facts.{Sound, Member, Block, Place, Right, facts_sound, taken_block}
use Rattle.soundness.proofs.Ranks.{ranks_of}
use Rattle.soundness.proofs.Taken.{ground_taken, no_ground_untaken, pool_untaken, past_untaken, handle_facts, is_taken_handle, is_taken_zero, none_zero, taken_none_or}
use Rattle.soundness.proofs.Taken.Ground.{marked}
use Rattle.kept.proofs.Collected.{collected_sized, collected_segments, collected_head, collected_place, collected_block}
use Rattle.kept.proofs.Anew.{new_rank_below, new_rank_apart, full_below, rest_from, staying_le}
use Rattle.kept.proofs.Staying

-- a list that a collection may have: taken blocks, and all to which they refer
pub record Closed (ws L : List ℕ) : Type 0 where
  pub was_sound : Sound ws
  pub were_taken : (h : ℕ) → listed L h ≡ true → is_taken ws h ≡ true
  pub refers_inside : (h f : ℕ) → listed L h ≡ true → f < r_in (block ws h) → reference_in (block ws h) f ≢ 0
      → listed L (reference_in (block ws h) f) ≡ true

-- ---- places

-- none, the first that is not full, or the last one's end
data NewPlace (ws L : List ℕ) (i : ℕ) : Type 0 where
  none_stays : staying ws L i ≡ 0 → new_place ws L i ≡ place_word 0 0 → NewPlace ws L i
  some_rest : staying_full ws L i < staying ws L i → new_place ws L i ≡ place_word (staying_full ws L i) 0 → NewPlace ws L i
  all_full : 0 < staying ws L i → staying ws L i ≤ staying_full ws L i → new_place ws L i ≡ place_word (staying ws L i - 1) (blocks i) → NewPlace ws L i

new_place_cases : (ws L : List ℕ) (i : ℕ) → NewPlace ws L i
unfolding new_place
new_place_cases ws L i = go (ℕ_discrete (staying ws L i) 0) (dec_lt (staying_full ws L i) (staying ws L i))
  where
    go : Dec (staying ws L i ≡ 0) → Dec (staying_full ws L i < staying ws L i) → NewPlace ws L i
    go (yes e) d = none_stays e (rw (eq-eqb (staying ws L i) 0 e))
    go (no e) (yes l) = some_rest l (rw (ne_eqb (staying ws L i) 0 e, lt-ltb (staying_full ws L i) (staying ws L i) l))
    go (no e) (no l) =
        let last : staying ws L i ≤ staying_full ws L i = omega arith in
        all_full (omega arith) last (rw (ne_eqb (staying ws L i) 0 e, le-ltb (staying_full ws L i) (staying ws L i) last))

module _ (ws L : List ℕ) (was : Sound ws) where
  abbrev after : List ℕ
  after = collected ws L

  staying_few : (i : ℕ) → staying ws L i ≤ 64
  staying_few i = omega (arith, staying_le ws L i, was.size.few)

  place_of : (i q k : ℕ) → is_class i ≡ true → new_place ws L i ≡ place_word q k → q < 256 → k < 4096
      → (place_rank after i ≡ q) × (place_index after i ≡ k)
  place_of i q k c e small few = (
    ap (field 0 8) (collected_place ws L was.size i c ∙ e) ∙ place_word_rank q k small few,
    ap (field 8 12) (collected_place ws L was.size i c ∙ e) ∙ place_word_index q k small few,
  )

  -- the same cases of the place as it is read
  data PlaceAfter (i : ℕ) : Type 0 where
    none_left : staying ws L i ≡ 0 → place_rank after i ≡ 0 → place_index after i ≡ 0 → PlaceAfter i
    at_first : staying_full ws L i < staying ws L i → place_rank after i ≡ staying_full ws L i → place_index after i ≡ 0 → PlaceAfter i
    at_end : 0 < staying ws L i → staying ws L i ≤ staying_full ws L i → place_rank after i ≡ staying ws L i - 1 → place_index after i ≡ blocks i → PlaceAfter i

  place_after : (i : ℕ) → is_class i ≡ true → PlaceAfter i
  place_after i c = go (new_place_cases ws L i)
    where
      go : NewPlace ws L i → PlaceAfter i
      go (none_stays e p) = let q = place_of i 0 0 c p (omega arith) (omega arith) in none_left e q.0 q.1
      go (some_rest l p) = let q = place_of i (staying_full ws L i) 0 c p (omega (arith, staying_few i)) (omega arith) in at_first l q.0 q.1
      go (all_full some last p) =
          let q = place_of i (staying ws L i - 1) (blocks i) c p (omega (arith, staying_few i)) (omega (arith, blocks_most i c)) in at_end some last q.0 q.1

  placed_after : (i : ℕ) → is_class i ≡ true → Place after i
  placed_after i c = go (place_after i c) (Staying.members_after ws L was i c)
    where
      go : PlaceAfter i → members after i ≡ staying ws L i → Place after i
      go (none_left e q k) m = record { unused = λ _. (q, k); used = λ some. absurd (omega arith); index = omega arith }
      go (at_first l q k) m = record { unused = λ none. absurd (omega arith); used = λ _. omega arith; index = omega arith }
      go (at_end some last q k) m = record { unused = λ none. absurd (omega arith); used = λ _. omega arith; index = omega arith }

  -- ---- ranks, and what is behind the place

  ranks_below : (s : ℕ) → Member after s → rank after s < members after (class after s)
  ranks_below s m =
      let stayed = Staying.member_stayed ws L was s m in
      let same : class after s ≡ class ws s = Staying.staying_class ws L was s stayed.0 stayed.1 in
      omega
      (arith, Staying.staying_rank ws L was s stayed.0 stayed.1, new_rank_below ws L s stayed.0 stayed.1, ap (members after) same, Staying.members_after ws L was (class ws s) (Staying.stays_class ws L was s stayed.0 stayed.1))

  ranks_apart : (s t : ℕ) → Member after s → Member after t → class after s ≡ class after t → rank after s ≡ rank after t → s ≡ t
  ranks_apart s t m n same e =
      let a = Staying.member_stayed ws L was s m in
      let b = Staying.member_stayed ws L was t n in
      new_rank_apart ws L was s t a.0 b.0 a.1 b.1
      (sym (Staying.staying_class ws L was s a.0 a.1) ∙ same ∙ Staying.staying_class ws L was t b.0 b.1)
      (sym (Staying.staying_rank ws L was s a.0 a.1) ∙ e ∙ Staying.staying_rank ws L was t b.0 b.1)

  -- a segment that stays and is not full is at or behind the place, and at it no index is below the place's
  module _ (s : ℕ) (below : s < segments ws) (h : stays ws L s ≡ true) (f : stays_full ws L s ≡ false) where
    rest_place : (place_rank after (class ws s) ≤ rank after s) × (place_index after (class ws s) ≡ 0)
    rest_place = go (place_after (class ws s) (Staying.stays_class ws L was s below h))
      where
        go : PlaceAfter (class ws s) → (place_rank after (class ws s) ≤ rank after s) × (place_index after (class ws s) ≡ 0)
        go (none_left e q k) = (omega arith, k)
        go (at_first l q k) = (omega (arith, rest_from ws L s f, Staying.staying_rank ws L was s below h), k)
        go (at_end some last q k) = absurd (omega (arith, rest_from ws L s f, new_rank_below ws L s below h))

  -- one that is full is at or before it
  module _ (s : ℕ) (below : s < segments ws) (h : stays ws L s ≡ true) (f : stays_full ws L s ≡ true) where
    full_place : rank after s ≤ place_rank after (class ws s)
    full_place = go (place_after (class ws s) (Staying.stays_class ws L was s below h))
      where
        go : PlaceAfter (class ws s) → rank after s ≤ place_rank after (class ws s)
        go (none_left e q k) = absurd (omega (arith, new_rank_below ws L s below h))
        go (at_first l q k) = omega (arith, full_below ws L s below f, Staying.staying_rank ws L was s below h)
        go (at_end some last q k) = omega (arith, new_rank_below ws L s below h, Staying.staying_rank ws L was s below h)

  behind_after : (s : ℕ) → Member after s → place_rank after (class after s) < rank after s → count after s < blocks (class after s)
  behind_after s m l = go (stays_full ws L s) refl
    where
      stayed : (s < segments ws) × (stays ws L s ≡ true)
      stayed = Staying.member_stayed ws L was s m

      same : class after s ≡ class ws s
      same = Staying.staying_class ws L was s stayed.0 stayed.1

      go : (f : Bool) → stays_full ws L s ≡ f → count after s < blocks (class after s)
      go true f = absurd (omega (arith, full_place s stayed.0 stayed.1 f, l, ap (place_rank after) same))
      go false f =
          omega (arith, Staying.staying_count ws L was s stayed.0 stayed.1, Staying.not_full_live ws L was s stayed.0 stayed.1 f, ap blocks same)

-- ---- exactly the listed blocks are taken

module _ (ws L : List ℕ) (c : Closed ws L) where
  was : Sound ws
  was = c.was_sound

  -- a listed block is a block of the arena before
  listed_block : (s k : ℕ) → k < 2048 → listed L (handle s k) ≡ true → Block ws s k
  listed_block s k small h = taken_block ws s k (sym (is_taken_handle ws s k small) ∙ c.were_taken (handle s k) h)

  not_listed : (s k : ℕ) → k < 2048 → (Block ws s k → listed L (handle s k) ≡ true → ⊥) → listed L (handle s k) ≡ false
  not_listed s k small no_block = go (listed L (handle s k)) refl
    where
      go : (t : Bool) → listed L (handle s k) ≡ t → t ≡ false
      go true h = absurd (no_block (listed_block s k small h) h)
      go false h = refl

  pub taken_after : (s k : ℕ) → k < 2048 → taken_at (collected ws L) s k ≡ listed L (handle s k)
  taken_after s k small = go (dec_lt s (segments ws)) (stays ws L s) refl
    where
      here : (below : s < segments ws) (h : stays ws L s ≡ true) → k < blocks (class ws s) → (t : Bool) → listed L (handle s k) ≡ t → taken_at (collected ws L) s k ≡ t
      here below h inside true e =
          let same : class (collected ws L) s ≡ class ws s = Staying.staying_class ws L was s below h in
          ground_taken (collected ws L) s k
          (record { member = Staying.stayed_member ws L was s below h; inside = rw same inside })
          (marked (Staying.staying_bit ws L was s below h k inside ∙ e))
      here below h inside false e =
          let same : class (collected ws L) s ≡ class ws s = Staying.staying_class ws L was s below h in
          let p = rest_place ws L was s below h (Staying.unlisted_not_full ws L was s below h k inside e) in
          no_ground_untaken (collected ws L) s k (record {
            not_earlier = omega (arith, p.0, ap (place_rank (collected ws L)) same);
            not_before = λ _. omega (arith, p.1, ap (place_index (collected ws L)) same);
            not_marked = Staying.staying_bit ws L was s below h k inside ∙ e;
          })

      stay : (below : s < segments ws) (h : stays ws L s ≡ true) → Dec (k < blocks (class ws s)) → taken_at (collected ws L) s k ≡ listed L (handle s k)
      stay below h (yes inside) = here below h inside (listed L (handle s k)) refl
      stay below h (no past) =
          past_untaken (collected ws L) s k (omega (arith, past, ap blocks (Staying.staying_class ws L was s below h)))
          ∙ sym (not_listed s k small (λ b _. past b.inside))

      go : Dec (s < segments ws) → (t : Bool) → stays ws L s ≡ t → taken_at (collected ws L) s k ≡ listed L (handle s k)
      go (yes below) true h = stay below h (dec_lt k (blocks (class ws s)))
      go (yes below) false h =
          pool_untaken (collected ws L) s k (eq-eqb (class (collected ws L) s) 0 (Staying.leaving_class ws L was s below h))
          ∙ sym (not_listed s k small (λ b e. true≢false (sym e ∙ Staying.leaving_unlisted ws L was s below h b.member k b.inside)))
      go (no past) t h =
          no_segment (taken_at (collected ws L) s k) refl
          ∙ sym (not_listed s k small (λ b _. past b.member.below))
        where
          no_segment : (t : Bool) → taken_at (collected ws L) s k ≡ t → t ≡ false
          no_segment true e =
              absurd (past (rw (collected_segments ws L was.size) at (taken_block (collected ws L) s k e).member.below))
          no_segment false e = refl

  pub is_taken_after : (h : ℕ) → is_taken (collected ws L) h ≡ listed L h
  is_taken_after h = go (ℕ_discrete h 0)
    where
      zero_unlisted : (t : Bool) → listed L 0 ≡ t → t ≡ false
      zero_unlisted true e = sym (c.were_taken 0 e) ∙ is_taken_zero ws
      zero_unlisted false e = refl

      go : Dec (h ≡ 0) → is_taken (collected ws L) h ≡ listed L h
      go (yes e) = rw e (is_taken_zero (collected ws L) ∙ sym (zero_unlisted (listed L 0) refl))
      go (no e) =
          let back : handle (segment_of h) (index_of h) ≡ h = handle_back h (omega arith) in
          ap (is_taken (collected ws L)) (sym back)
          ∙ is_taken_handle (collected ws L) (segment_of h) (index_of h) (index_small h)
          ∙ taken_after (segment_of h) (index_of h) (index_small h)
          ∙ ap (listed L) back

  -- ---- each with its words

  listed_stays : (s k : ℕ) → k < 2048 → listed L (handle s k) ≡ true → stays ws L s ≡ true
  listed_stays s k small h = go (stays ws L s) refl
    where
      go : (t : Bool) → stays ws L s ≡ t → t ≡ true
      go true e = refl
      go false e =
          let b = listed_block s k small h in
          sym (Staying.leaving_unlisted ws L was s b.member.below e b.member k b.inside) ∙ h

  block_after_at : (s k : ℕ) → k < 2048 → listed L (handle s k) ≡ true → block_of (collected ws L) s k ≡ block_of ws s k
  block_after_at s k small h =
      let b = listed_block s k small h in
      collected_block ws L was.size s k (Staying.staying_class ws L was s b.member.below (listed_stays s k small h))

  pub block_after : (h : ℕ) → listed L h ≡ true → block (collected ws L) h ≡ block ws h
  block_after h e =
      let positive = (handle_facts ws h (c.were_taken h e)).positive in
      block_after_at (segment_of h) (index_of h) (index_small h) (ap (listed L) (handle_back h positive) ∙ e)

  -- the bit of a block is set exactly if the block is listed
  pub bit_after : (s k : ℕ) → Block ws s k → k < 2048 → bit_of (collected ws L) s k ≡ listed L (handle s k)
  bit_after s k b small = go (stays ws L s) refl
    where
      go : (t : Bool) → stays ws L s ≡ t → bit_of (collected ws L) s k ≡ listed L (handle s k)
      go true h = Staying.staying_bit ws L was s b.member.below h k b.inside
      go false h =
          let inside : 1 + k / 32 < 68 = omega arith in
          ap (λ (rec : List ℕ). bit_in rec k) (Staying.leaving_record ws L was s b.member.below h)
          ∙ ap (λ (w : ℕ). bit w (k % 32)) (get_or-replicate 68 (1 + k / 32) 0 0 inside)
          ∙ bit_zero (k % 32)
          ∙ sym (Staying.leaving_unlisted ws L was s b.member.below h b.member k b.inside)

  -- ---- the arena is sound

  right_after : (s k : ℕ) → taken_at (collected ws L) s k ≡ true → Right (collected ws L) (class (collected ws L) s) (block_of (collected ws L) s k)
  right_after s k t =
      let b = taken_block (collected ws L) s k t in
      let stayed = Staying.member_stayed ws L was s b.member in
      let same : class (collected ws L) s ≡ class ws s = Staying.staying_class ws L was s stayed.0 stayed.1 in
      let small : k < 2048 = omega (arith, b.inside, ap blocks same, blocks_most (class ws s) (Staying.stays_class ws L was s stayed.0 stayed.1)) in
      let h : listed L (handle s k) ≡ true = sym (taken_after s k small) ∙ t in
      let r = was.right s k (sym (is_taken_handle ws s k small) ∙ c.were_taken (handle s k) h) in
      rw (same, block_after_at s k small h) (record {
        fits = r.fits;
        within = r.within;
        references = λ f inside. refers f (own_block s k small) h inside (ℕ_discrete (reference_in (block_of ws s k) f) 0);
      })
    where
      own_block : (s k : ℕ) → k < 2048 → block ws (handle s k) ≡ block_of ws s k
      own_block s k small = ap₂ (block_of ws) (handle_segment s k small) (handle_index s k small)

      refers : (f : ℕ) → block ws (handle s k) ≡ block_of ws s k → listed L (handle s k) ≡ true → f < r_in (block_of ws s k)
          → Dec (reference_in (block_of ws s k) f ≡ 0) → none_or_taken (collected ws L) (reference_in (block_of ws s k) f) ≡ true
      refers f own h inside (yes e) = rw e (none_zero (collected ws L))
      refers f own h inside (no e) =
          taken_none_or (collected ws L) (reference_in (block_of ws s k) f)
          (is_taken_after (reference_in (block_of ws s k) f)
          ∙ (rw own at (c.refers_inside (handle s k) f h (rw own inside) (rw own e))))

  zero_place : (i : ℕ) → is_class i ≡ true → unnamed 20 (word (collected ws L) (place_at i)) ≡ 0
  zero_place i k = ap (unnamed 20) (collected_place ws L was.size i k) ∙ go (new_place_cases ws L i)
    where
      go : NewPlace ws L i → unnamed 20 (new_place ws L i) ≡ 0
      go (none_stays e p) = ap (unnamed 20) p ∙ place_word_unnamed 0 0
      go (some_rest l p) = ap (unnamed 20) p ∙ place_word_unnamed (staying_full ws L i) 0
      go (all_full some last p) = ap (unnamed 20) p ∙ place_word_unnamed (staying ws L i - 1) (blocks i)

  zero_record : (s : ℕ) → s < segments (collected ws L) → unnamed 24 (word (record_of (collected ws L) s) 0) ≡ 0
  zero_record s l = go (stays ws L s) refl
    where
      below : s < segments ws
      below = rw (collected_segments ws L was.size) at l

      go : (t : Bool) → stays ws L s ≡ t → unnamed 24 (word (record_of (collected ws L) s) 0) ≡ 0
      go true h =
          ap (λ (rec : List ℕ). unnamed 24 (word rec 0)) (Staying.staying_record ws L was s below h)
          ∙ record_head_unnamed (class ws s) (new_rank ws L s) (live ws L s)
      go false h = ap (λ (rec : List ℕ). unnamed 24 (word rec 0)) (Staying.leaving_record ws L was s below h)

  pooled_after : (s : ℕ) → s < segments (collected ws L) → in_pool (collected ws L) s ≡ true → record_of (collected ws L) s ≡ replicate 68 0
  pooled_after s l p = go (stays ws L s) refl
    where
      below : s < segments ws
      below = rw (collected_segments ws L was.size) at l

      go : (t : Bool) → stays ws L s ≡ t → record_of (collected ws L) s ≡ replicate 68 0
      go true h = absurd (true≢false (sym p ∙ (Staying.stayed_member ws L was s below h).used))
      go false h = Staying.leaving_record ws L was s below h

  pub sound_after : Sound (collected ws L)
  sound_after = record {
    size = collected_sized ws L was.size;
    head_zero = ap (unnamed 8) (collected_head ws L was.size) ∙ was.head_zero;
    place_zero = zero_place;
    record_zero = zero_record;
    classed = λ s m.
        let stayed = Staying.member_stayed ws L was s m in
        rw (Staying.staying_class ws L was s stayed.0 stayed.1) (Staying.stays_class ws L was s stayed.0 stayed.1);
    pooled = pooled_after;
    each_rank = ranks_of (collected ws L) (ranks_below ws L was) (ranks_apart ws L was);
    levelled = λ s m. let stayed = Staying.member_stayed ws L was s m in Staying.staying_levels ws L was s stayed.0 stayed.1;
    counted = λ s m. let stayed = Staying.member_stayed ws L was s m in Staying.staying_counted ws L was s stayed.0 stayed.1;
    not_full_behind = behind_after ws L was;
    placed = placed_after ws L was;
    right = right_after;
  }

  pub collected_sound : sound (collected ws L) ≡ true
  collected_sound = facts_sound (collected ws L) sound_after
