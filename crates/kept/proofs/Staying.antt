-- The segments of a collected arena: one that stays has its class, its new rank, its live blocks as count and bits; any other is in the pool.
-- Assumes nothing.
use Prim.Native.Nat.{ℕ, ◌≤◌, ◌<◌}
use native.Mathlib.Omega.{arith}
use mathlib.Core.Path.{◌≡◌, refl, sym, ap, ap₂, ◌∙◌}
use mathlib.Core.Logic.{◌≢◌}
use mathlib.Core.Bool.{Bool, true, false, not, ◌&&◌, true≢false, and-true, and-false}
use mathlib.Core.List.{List}
use lib.ListN.{replicate}
use lib.Dec.{eqb}
use borrow.Author.Tests.{ne_eqb, eqb-true, eqb-false, not-true, not-false}
use Rattle.model.specs.Below.{count_below}
use Rattle.model.specs.Word.{word, field}
use Rattle.model.specs.Class.{is_class, blocks}
use Rattle.model.specs.Layout.{handle, record_head, record_words}
use Rattle.model.specs.View.{segments, record_of, class, rank, count, bit_in, bit_of, members}
use Rattle.model.specs.Standing.{in_pool}
use Rattle.model.specs.Sound.{levels_right}
use Rattle.model.specs.Ways.{listed}
use Rattle.model.specs.Calls.{live, stays, stays_full, staying, new_rank, new_record, collected}
use Rattle.laws.proofs.Below.{count_below_le, count_below_ext, count_below_pos, count_below_not}
use Rattle.words.proofs.ClassLaws.{class_bounds, blocks_most}
use Rattle.words.proofs.FieldLaws.{record_head_class, record_head_rank, record_head_count}
use Rattle.bitmap.proofs.RecordLaws.{record_right, set_of_record}
use Rattle.soundness.proofs.Tests.{and_left, and_fails_right}
use Rattle.soundness.proofs.Facts.{Sound, Member}
use Rattle.kept.proofs.Collected.{collected_record, collected_segments}
use Rattle.kept.proofs.Anew.{new_rank_below, staying_le}

second : (a b : Bool) → a ≡ true → (a && b) ≡ false → b ≡ false
second true b e f = f
second false b e f = absurd (true≢false (sym e))

module _ (ws L : List ℕ) (sound : Sound ws) where
  -- ---- a segment that stays

  module _ (s : ℕ) (below : s < segments ws) (h : stays ws L s ≡ true) where
    pub stays_member : Member ws s
    unfolding stays
    stays_member = record { below = below; used = not-true (in_pool ws s) (and_left (not (in_pool ws s)) (not (eqb (live ws L s) 0)) h) }

    pub stays_class : is_class (class ws s) ≡ true
    stays_class = sound.classed s stays_member

    small_class : class ws s < 16
    small_class = omega (arith, class_bounds (class ws s) stays_class)

    small_rank : new_rank ws L s < 256
    small_rank = omega (arith, new_rank_below ws L s below h, staying_le ws L (class ws s), sound.size.few)

    pub live_le : live ws L s ≤ blocks (class ws s)
    unfolding live
    live_le = count_below_le (blocks (class ws s)) (λ k. listed L (handle s k))

    small_count : live ws L s < 4096
    small_count = omega (arith, live_le, blocks_most (class ws s) stays_class)

    pub staying_record : record_of (collected ws L) s ≡ record_words (class ws s) (new_rank ws L s) (live ws L s) (λ k. listed L (handle s k))
    unfolding new_record
    staying_record = collected_record ws L sound.size s below ∙ rw h

    staying_head : word (record_of (collected ws L) s) 0 ≡ record_head (class ws s) (new_rank ws L s) (live ws L s)
    staying_head = ap (λ (r : List ℕ). word r 0) staying_record

    pub staying_class : class (collected ws L) s ≡ class ws s
    staying_class = ap (field 0 4) staying_head ∙ record_head_class (class ws s) (new_rank ws L s) (live ws L s) small_class small_rank small_count

    pub staying_rank : rank (collected ws L) s ≡ new_rank ws L s
    staying_rank = ap (field 4 8) staying_head ∙ record_head_rank (class ws s) (new_rank ws L s) (live ws L s) small_class small_rank small_count

    pub staying_count : count (collected ws L) s ≡ live ws L s
    staying_count = ap (field 12 12) staying_head ∙ record_head_count (class ws s) (new_rank ws L s) (live ws L s) small_class small_rank small_count

    pub staying_bit : (k : ℕ) → k < blocks (class ws s) → bit_of (collected ws L) s k ≡ listed L (handle s k)
    staying_bit k inside =
        ap (λ (r : List ℕ). bit_in r k) staying_record
        ∙ set_of_record (record_head (class ws s) (new_rank ws L s) (live ws L s)) (class ws s) (λ k. listed L (handle s k)) stays_class k inside

    pub staying_levels : levels_right (class (collected ws L) s) (record_of (collected ws L) s) ≡ true
    staying_levels =
        ap₂ levels_right staying_class staying_record
        ∙ record_right (record_head (class ws s) (new_rank ws L s) (live ws L s)) (class ws s) (λ k. listed L (handle s k)) stays_class

    pub staying_counted : count (collected ws L) s ≡ count_below (blocks (class (collected ws L) s)) (bit_of (collected ws L) s)
    unfolding live
    staying_counted =
        staying_count
        ∙ count_below_ext (blocks (class ws s)) (λ k. listed L (handle s k)) (bit_of (collected ws L) s) (λ k inside. sym (staying_bit k inside))
        ∙ ap (λ (i : ℕ). count_below (blocks i) (bit_of (collected ws L) s)) (sym staying_class)

    -- it is full exactly if all its blocks are listed
    pub unlisted_not_full : (k : ℕ) → k < blocks (class ws s) → listed L (handle s k) ≡ false → stays_full ws L s ≡ false
    unfolding live stays_full
    unlisted_not_full k inside e =
        let some : 0 < count_below (blocks (class ws s)) (λ k. not (listed L (handle s k))) =
        count_below_pos (blocks (class ws s)) (λ k. not (listed L (handle s k))) k inside (ap not e) in
        and_fails_right (stays ws L s) (eqb (live ws L s) (blocks (class ws s)))
        (ne_eqb (live ws L s) (blocks (class ws s)) (omega (arith, some, count_below_not (blocks (class ws s)) (λ k. listed L (handle s k)))))

    pub not_full_live : stays_full ws L s ≡ false → live ws L s < blocks (class ws s)
    unfolding stays_full
    not_full_live f =
        let other : live ws L s ≢ blocks (class ws s) = eqb-false (live ws L s) (blocks (class ws s)) (second (stays ws L s) (eqb (live ws L s) (blocks (class ws s))) h f) in
        omega (arith, live_le)

  -- ---- one that does not

  module _ (s : ℕ) (below : s < segments ws) (h : stays ws L s ≡ false) where
    pub leaving_record : record_of (collected ws L) s ≡ replicate 68 0
    unfolding new_record
    leaving_record = collected_record ws L sound.size s below ∙ rw h

    pub leaving_class : class (collected ws L) s ≡ 0
    leaving_class = ap (λ (r : List ℕ). field 0 4 (word r 0)) leaving_record

    pub leaving_unlisted : Member ws s → (k : ℕ) → k < blocks (class ws s) → listed L (handle s k) ≡ false
    unfolding live stays
    leaving_unlisted m k inside = go (listed L (handle s k)) refl
      where
        none : live ws L s ≡ 0
        none =
            eqb-true (live ws L s) 0
            (not-false (eqb (live ws L s) 0) (second (not (in_pool ws s)) (not (eqb (live ws L s) 0)) (ap not m.used) h))

        go : (t : Bool) → listed L (handle s k) ≡ t → t ≡ false
        go true e = absurd (omega (arith, none, count_below_pos (blocks (class ws s)) (λ k. listed L (handle s k)) k inside e))
        go false e = refl

  -- ---- the members of a class

  pub members_after : (i : ℕ) → is_class i ≡ true → members (collected ws L) i ≡ staying ws L i
  unfolding members staying
  members_after i c =
      ap (λ (N : ℕ). count_below N (λ s. eqb (class (collected ws L) s) i)) (collected_segments ws L sound.size)
      ∙ count_below_ext (segments ws) (λ s. eqb (class (collected ws L) s) i) (λ s. eqb (class ws s) i && stays ws L s) (λ s below. go s below (stays ws L s) refl)
    where
      go : (s : ℕ) → s < segments ws → (t : Bool) → stays ws L s ≡ t → eqb (class (collected ws L) s) i ≡ (eqb (class ws s) i && stays ws L s)
      go s below true h = ap (λ (j : ℕ). eqb j i) (staying_class s below h) ∙ sym (ap (λ (t : Bool). eqb (class ws s) i && t) h ∙ and-true (eqb (class ws s) i))
      go s below false h =
          ne_eqb (class (collected ws L) s) i (omega (arith, leaving_class s below h, class_bounds i c))
          ∙ sym (ap (λ (t : Bool). eqb (class ws s) i && t) h ∙ and-false (eqb (class ws s) i))

  -- a segment that is not in the pool afterwards is one that stayed
  pub member_stayed : (s : ℕ) → Member (collected ws L) s → (s < segments ws) × (stays ws L s ≡ true)
  member_stayed s m = (below, go (stays ws L s) refl)
    where
      below : s < segments ws
      below = rw (collected_segments ws L sound.size) at m.below

      go : (t : Bool) → stays ws L s ≡ t → t ≡ true
      go true h = refl
      go false h = absurd (eqb-false (class (collected ws L) s) 0 m.used (leaving_class s below h))

  pub stayed_member : (s : ℕ) → s < segments ws → stays ws L s ≡ true → Member (collected ws L) s
  stayed_member s below h = record {
    below = rw (collected_segments ws L sound.size) below;
    used = ap (λ (i : ℕ). eqb i 0) (staying_class s below h) ∙ (stays_member s below h).used;
  }
