-- A granted write keeps the arena sound: a word put behind the header of a taken block changes that word alone, the same blocks stay taken, and
-- every clause holds as before; a reference must be 0 or the handle of a taken block, a plain word may be anything.
-- Assumes nothing.
use Prim.Native.Nat.{ℕ, suc, ◌+◌, ◌-◌, ◌≤◌, ◌<◌}
use mathlib.Core.Path.{◌≡◌, sym, ap, ◌∙◌, subst}
use mathlib.Core.Logic.{◌≢◌}
use mathlib.Core.Bool.{true, ◌&&◌}
use mathlib.Core.List.{List, [], ◌∷◌}
use native.Mathlib.Omega.{arith}
use native.Mathlib.Decide.{ℕ_discrete}
use lib.ListN.{length}
use lib.Dec.{eqb}
use Rattle.model.specs.Below.{count_below}
use Rattle.model.specs.Word.{word, put, field, unnamed}
use Rattle.model.specs.Class.{is_class, blocks, block_words, class_of}
use Rattle.model.specs.Layout.{segment_of, index_of}
use Rattle.model.specs.View.{segments, place_rank, place_index, class_in, rank_in, count_in, bit_in, class, rank, count, members, block_of, block_offset, offset, block, n_in, r_in, reference_in}
use Rattle.model.specs.Standing.{taken_at, is_taken, none_or_taken}
use Rattle.model.specs.Sound.{levels_right}
use Rattle.laws.proofs.Below.{count_below_ext}
use Rattle.laws.proofs.Splice.{word_put_in, word_put_before, word_put_behind}
use Rattle.words.proofs.ClassLaws.{class_bounds}
use Rattle.soundness.proofs.Tests.{Order, order}
use Rattle.soundness.proofs.Tests.Order.{is_below, is_same, is_above}
use Rattle.soundness.proofs.Facts.{Member, Block, taken_block, Sized, Place, Right, Sound, block_length}
use Rattle.soundness.proofs.Taken.{handle_facts, taken_class, reference_inside, plain_inside}
use Rattle.soundness.proofs.Views.{SameRecords, SameFront, same_segments, same_class, same_rank, same_count, same_pool, same_members, same_place_rank, same_place_index, same_taken, same_none_or_taken, member_before, block_put_front, block_put_sized, block_put_same, block_put_other, block_put_header}

-- ---- all but the taken blocks' words: what has the front of a sound arena is sound where its taken blocks are right

module _ (vs ws : List ℕ) (sound : Sound ws) (z : Sized vs) (front : SameFront vs ws) where
  same : SameRecords vs ws
  same = front.same_records

  at : (s : ℕ) → s < segments vs → s < segments ws
  at s l = omega (arith, same_segments vs ws same)

  ranks_front : (i q : ℕ) → is_class i ≡ true → q < members vs i → count_below (segments vs) (λ s. eqb (class vs s) i && eqb (rank vs s) q) ≡ 1
  ranks_front i q c l =
      ap (λ (N : ℕ). count_below N (λ s. eqb (class vs s) i && eqb (rank vs s) q)) (same_segments vs ws same)
      ∙ count_below_ext (segments ws) (λ s. eqb (class vs s) i && eqb (rank vs s) q) (λ s. eqb (class ws s) i && eqb (rank ws s) q)
      (λ s u. ap (λ (rec : List ℕ). eqb (class_in rec) i && eqb (rank_in rec) q) (same.records s u))
      ∙ sound.each_rank i q c (omega (arith, same_members vs ws same i))

  behind_front : (s : ℕ) → Member vs s → place_rank vs (class vs s) < rank vs s → count vs s < blocks (class vs s)
  behind_front s m l =
      let u : s < segments ws = at s m.below in
      let c = same_class vs ws same s u in
      let behind : place_rank ws (class ws s) < rank ws s =
      omega (arith, ap (place_rank vs) c, same_place_rank vs ws front (class ws s) (omega arith), same_rank vs ws same s u) in
      omega (arith, sound.not_full_behind s (member_before vs ws same s m) behind, same_count vs ws same s u, ap blocks c)

  place_front : (i : ℕ) → is_class i ≡ true → Place vs i
  place_front i c =
      let u : i < 16 = omega (arith, class_bounds i c) in
      let p = sound.placed i c in
      let by_rank : place_rank vs i ≡ place_rank ws i = same_place_rank vs ws front i u in
      let by_index : place_index vs i ≡ place_index ws i = same_place_index vs ws front i u in
      let m : members vs i ≡ members ws i = same_members vs ws same i in
      record {
        unused = λ e. let both = p.unused (sym m ∙ e) in (by_rank ∙ both.0, by_index ∙ both.1);
        used = λ l. omega (arith, by_rank, m, p.used (omega (arith, m)));
        index = omega (arith, by_index, p.index);
      }

  pub sound_front : ((s k : ℕ) → taken_at ws s k ≡ true → Right vs (class ws s) (block_of vs s k)) → Sound vs
  sound_front right = record {
    size = z;
    head_zero = ap (unnamed 8) same.head ∙ sound.head_zero;
    place_zero = λ i c. ap (unnamed 20) (front.places i (omega (arith, class_bounds i c))) ∙ sound.place_zero i c;
    record_zero = λ s l. ap (λ (rec : List ℕ). unnamed 24 (word rec 0)) (same.records s (at s l)) ∙ sound.record_zero s (at s l);
    classed = λ s m. ap (λ (rec : List ℕ). is_class (class_in rec)) (same.records s (at s m.below)) ∙ sound.classed s (member_before vs ws same s m);
    pooled = λ s l p. same.records s (at s l) ∙ sound.pooled s (at s l) (sym (same_pool vs ws same s (at s l)) ∙ p);
    each_rank = ranks_front;
    levelled = λ s m. ap (λ (rec : List ℕ). levels_right (class_in rec) rec) (same.records s (at s m.below)) ∙ sound.levelled s (member_before vs ws same s m);
    counted = λ s m.
        subst (λ (rec : List ℕ). count_in rec ≡ count_below (blocks (class_in rec)) (bit_in rec)) (sym (same.records s (at s m.below)))
        (sound.counted s (member_before vs ws same s m));
    not_full_behind = behind_front;
    placed = place_front;
    right = λ s k t.
        let u : taken_at ws s k ≡ true = sym (same_taken vs ws front s k) ∙ t in
        subst (λ (i : ℕ). Right vs i (block_of vs s k)) (sym (same_class vs ws same s (taken_block ws s k u).member.below)) (right s k u);
  }

-- ---- one word put behind the header of a taken block

-- vs is ws with word j of block k of segment s put to v, and is sound; the same blocks are taken
pub record Written (vs ws : List ℕ) (s k j v : ℕ) : Type 0 where
  pub sound_after : Sound vs
  pub front : SameFront vs ws
  pub same_header : word (block_of vs s k) 0 ≡ word (block_of ws s k) 0
  pub own : block_of vs s k ≡ put (block_of ws s k) j (v ∷ [])
  pub others : (t m : ℕ) → Block ws t m → (t ≡ s → m ≢ k) → block_of vs t m ≡ block_of ws t m

-- a right block stays so where the same blocks are taken
right_kept : (vs ws : List ℕ) → SameFront vs ws → (i : ℕ) (b : List ℕ) → Right ws i b → Right vs i b
right_kept vs ws front i b r = record {
  fits = r.fits;
  within = r.within;
  references = λ f l. same_none_or_taken vs ws front (reference_in b f) ∙ r.references f l;
}

module _ (ws : List ℕ) (sound : Sound ws) (s k : ℕ) (t : taken_at ws s k ≡ true) (j v : ℕ) (fits : suc j < block_words (class ws s)) where
  b : Block ws s k
  b = taken_block ws s k t

  c : is_class (class ws s) ≡ true
  c = taken_class ws sound s k t

  kept_front : SameFront (put ws (block_offset ws s k + suc j) (v ∷ [])) ws
  kept_front = block_put_front ws sound.size s k c b (suc j) (v ∷ []) (omega arith)

  kept_own : block_of (put ws (block_offset ws s k + suc j) (v ∷ [])) s k ≡ put (block_of ws s k) (suc j) (v ∷ [])
  kept_own = block_put_same ws sound.size s k c b (suc j) (v ∷ []) (omega arith)

  kept_header : word (block_of (put ws (block_offset ws s k + suc j) (v ∷ [])) s k) 0 ≡ word (block_of ws s k) 0
  kept_header = block_put_header ws sound.size s k c b (suc j) (v ∷ []) (omega arith) (omega arith)

  kept_others : (t m : ℕ) → Block ws t m → (t ≡ s → m ≢ k) → block_of (put ws (block_offset ws s k + suc j) (v ∷ [])) t m ≡ block_of ws t m
  kept_others t m bt = block_put_other ws sound.size s k c b (suc j) (v ∷ []) (omega arith) t m (sound.classed t bt.member) bt

  -- each reference of the block is none or taken, the word put too if it is one
  kept_references : (j < r_in (block_of ws s k) → none_or_taken ws v ≡ true)
      → (f : ℕ) → f < r_in (block_of ws s k) → none_or_taken ws (reference_in (put (block_of ws s k) (suc j) (v ∷ [])) f) ≡ true
  kept_references ok f l = go (order (1 + f) (suc j))
    where
      long : suc j + 1 ≤ length (block_of ws s k)
      long = omega (arith, block_length ws sound.size s k c b)

      before : none_or_taken ws (reference_in (block_of ws s k) f) ≡ true
      before = (sound.right s k t).references f l

      go : Order (1 + f) (suc j) → none_or_taken ws (reference_in (put (block_of ws s k) (suc j) (v ∷ [])) f) ≡ true
      go (is_below u) = ap (none_or_taken ws) (word_put_before (block_of ws s k) (suc j) (v ∷ []) (1 + f) (omega (arith, long)) u) ∙ before
      go (is_above u) = ap (none_or_taken ws) (word_put_behind (block_of ws s k) (suc j) (v ∷ []) (1 + f) (omega (arith, long)) (omega arith)) ∙ before
      go (is_same e) =
          let at : 1 + f ≡ suc j + 0 = omega arith in
          ap (none_or_taken ws) (ap (word (put (block_of ws s k) (suc j) (v ∷ []))) at ∙ word_put_in (block_of ws s k) (suc j) (v ∷ []) 0 (omega (arith, long)) (omega arith))
          ∙ ok (omega arith)

  kept_right : (j < r_in (block_of ws s k) → none_or_taken ws v ≡ true) → Right ws (class ws s) (put (block_of ws s k) (suc j) (v ∷ []))
  kept_right ok =
      let before = sound.right s k t in
      let head : word (put (block_of ws s k) (suc j) (v ∷ [])) 0 ≡ word (block_of ws s k) 0 = ap (λ (us : List ℕ). word us 0) (sym kept_own) ∙ kept_header in
      let same_n : n_in (put (block_of ws s k) (suc j) (v ∷ [])) ≡ n_in (block_of ws s k) = ap (field 0 12) head in
      let same_r : r_in (put (block_of ws s k) (suc j) (v ∷ [])) ≡ r_in (block_of ws s k) = ap (field 12 12) head in
      record {
        fits = ap class_of same_n ∙ before.fits;
        within = omega (arith, same_n, same_r, before.within);
        references = λ f l. kept_references ok f (omega (arith, same_r));
      }

  -- a word put behind the header keeps the arena sound, if it is no reference or one to none or to a taken block
  pub written : (j < r_in (block_of ws s k) → none_or_taken ws v ≡ true) → Written (put ws (block_offset ws s k + suc j) (v ∷ [])) ws s k (suc j) v
  written ok = record {
    sound_after =
        sound_front after ws sound (block_put_sized ws sound.size s k c b (suc j) (v ∷ []) (omega arith)) kept_front
        (λ s' k' t'. right_kept after ws kept_front (class ws s') (block_of after s' k') (go s' k' t' (ℕ_discrete s' s) (ℕ_discrete k' k)));
    front = kept_front;
    same_header = kept_header;
    own = kept_own;
    others = kept_others;
  }
    where
      after : List ℕ
      after = put ws (block_offset ws s k + suc j) (v ∷ [])

      other : (s' k' : ℕ) → taken_at ws s' k' ≡ true → (s' ≡ s → k' ≢ k) → Right ws (class ws s') (block_of after s' k')
      other s' k' t' apart =
          subst (λ (us : List ℕ). Right ws (class ws s') us) (sym (kept_others s' k' (taken_block ws s' k' t') apart)) (sound.right s' k' t')

      go : (s' k' : ℕ) → taken_at ws s' k' ≡ true → Dec (s' ≡ s) → Dec (k' ≡ k) → Right ws (class ws s') (block_of after s' k')
      go s' k' t' (yes e) (yes u) =
          subst (λ (x : ℕ). Right ws (class ws x) (block_of after x k')) (sym e)
          (subst (λ (x : ℕ). Right ws (class ws s) (block_of after s x)) (sym u)
          (subst (λ (us : List ℕ). Right ws (class ws s) us) (sym kept_own) (kept_right ok)))
      go s' k' t' (yes e) (no f) = other s' k' t' (λ _. f)
      go s' k' t' (no f) d = other s' k' t' (λ e. absurd (f e))

-- ---- the two writes of document 01

module _ (ws : List ℕ) (sound : Sound ws) (h : ℕ) (t : is_taken ws h ≡ true) (f v : ℕ) where
  at_block : taken_at ws (segment_of h) (index_of h) ≡ true
  at_block = (handle_facts ws h t).taken

  pub written_reference : f < r_in (block ws h) → none_or_taken ws v ≡ true
      → Written (put ws (offset ws h + 1 + f) (v ∷ [])) ws (segment_of h) (index_of h) (1 + f) v
  written_reference l ok =
      let place : offset ws h + suc f ≡ offset ws h + 1 + f = omega arith in
      let number : suc f ≡ 1 + f = omega arith in
      subst (λ (o : ℕ). Written (put ws o (v ∷ [])) ws (segment_of h) (index_of h) (1 + f) v) place
      (subst (λ (j : ℕ). Written (put ws (offset ws h + suc f) (v ∷ [])) ws (segment_of h) (index_of h) j v) number
      (written ws sound (segment_of h) (index_of h) at_block f v (omega (arith, reference_inside ws sound (segment_of h) (index_of h) at_block f l)) (λ _. ok)))

  pub written_plain : f < n_in (block ws h) - r_in (block ws h)
      → Written (put ws (offset ws h + 1 + r_in (block ws h) + f) (v ∷ [])) ws (segment_of h) (index_of h) (1 + r_in (block ws h) + f) v
  written_plain l =
      let r : ℕ = r_in (block ws h) in
      let place : offset ws h + suc (r + f) ≡ offset ws h + 1 + r + f = omega arith in
      let number : suc (r + f) ≡ 1 + r + f = omega arith in
      subst (λ (o : ℕ). Written (put ws o (v ∷ [])) ws (segment_of h) (index_of h) (1 + r + f) v) place
      (subst (λ (j : ℕ). Written (put ws (offset ws h + suc (r + f)) (v ∷ [])) ws (segment_of h) (index_of h) j v) number
      (written ws sound (segment_of h) (index_of h) at_block (r + f) v (omega (arith, plain_inside ws sound (segment_of h) (index_of h) at_block f l)) (λ u. absurd (omega arith))))
