-- Views after a write: what every view of an arena is once words inside one block, one place or one record have been put. The written part is
-- the new one, and all else is as before.
-- Assumes nothing.
use Prim.Native.Nat.{ℕ, suc, ◌+◌, ◌*◌, ◌≤◌, ◌<◌}
use mathlib.Core.Path.{◌≡◌, refl, sym, ap, ap₂, ◌∙◌, subst}
use mathlib.Core.Logic.{◌⊎◌, inl, inr, ◌≢◌}
use mathlib.Core.Bool.{Bool, true, false, not, ◌&&◌, ◌||◌}
use mathlib.Core.List.{List, [], ◌∷◌}
use native.Mathlib.Omega.{arith}
use native.Mathlib.Decide.{dec_lt}
use lib.ListN.{length, take, drop}
use lib.Dec.{eqb, ltb}
use borrow.Author.Tests.{ltb-true}
use Rattle.model.specs.Below.{one_if, count_below}
use Rattle.model.specs.Word.{word, part, put, field}
use Rattle.model.specs.Class.{is_class, blocks, block_words}
use Rattle.model.specs.Layout.{place_at, record_at, block_at, segment_of, index_of}
use Rattle.model.specs.View.{segments, place_rank, place_index, record_of, class_in, rank_in, count_in, bit_in, class, rank, count, bit_of, members, block_of, block_offset}
use Rattle.model.specs.Standing.{in_pool, is_block, before_place, taken_at, is_taken, none_or_taken, taken_count}
use Rattle.laws.proofs.Below.{count_below_ext, count_below_change}
use Rattle.laws.proofs.Splice.{length_part, length_put, word_put_in, word_put_before, word_put_behind, part_put, part_put_before, part_put_behind, drop_put, put_in_part}
use Rattle.words.proofs.ClassLaws.{class_bounds}
use Rattle.words.proofs.HandleLaws.{blocks_apart, segments_apart}
use Rattle.soundness.proofs.Tests.{not_passed, Order, order}
use Rattle.soundness.proofs.Tests.Order.{is_below, is_same, is_above}
use Rattle.soundness.proofs.Facts.{Member, Block, taken_block, Sized, block_end, block_length}

-- ---- the same words, the same views

-- vs has the head and the records of ws
pub record SameRecords (vs ws : List ℕ) : Type 0 where
  pub head : word vs 0 ≡ word ws 0
  pub records : (s : ℕ) → s < segments ws → record_of vs s ≡ record_of ws s

module _ (vs ws : List ℕ) (same : SameRecords vs ws) where
  pub same_segments : segments vs ≡ segments ws
  same_segments = ap (field 0 8) same.head

  module _ (s : ℕ) (l : s < segments ws) where
    pub same_class : class vs s ≡ class ws s
    same_class = ap class_in (same.records s l)

    pub same_rank : rank vs s ≡ rank ws s
    same_rank = ap rank_in (same.records s l)

    pub same_count : count vs s ≡ count ws s
    same_count = ap count_in (same.records s l)

    pub same_bit : (k : ℕ) → bit_of vs s k ≡ bit_of ws s k
    same_bit k = ap (λ (rec : List ℕ). bit_in rec k) (same.records s l)

    pub same_pool : in_pool vs s ≡ in_pool ws s
    same_pool = ap (λ (i : ℕ). eqb i 0) same_class

    pub same_offset : (k : ℕ) → block_offset vs s k ≡ block_offset ws s k
    same_offset k = ap₂ (λ (N i : ℕ). block_at N s i k) same_segments same_class

    pub same_block_part : (k : ℕ) → block_of vs s k ≡ part vs (block_offset ws s k) (block_words (class ws s))
    unfolding block_of
    same_block_part k = ap₂ (part vs) (same_offset k) (ap block_words same_class)

  pub same_members : (i : ℕ) → members vs i ≡ members ws i
  unfolding members
  same_members i =
      ap (λ (N : ℕ). count_below N (λ s. eqb (class vs s) i)) same_segments
      ∙ count_below_ext (segments ws) (λ s. eqb (class vs s) i) (λ s. eqb (class ws s) i) (λ s l. ap (λ (j : ℕ). eqb j i) (same_class s l))

  pub same_is_block : (s k : ℕ) → is_block vs s k ≡ is_block ws s k
  unfolding is_block
  same_is_block s k = ap (λ (N : ℕ). ltb s N && (not (in_pool vs s) && ltb k (blocks (class vs s)))) same_segments ∙ go (ltb s (segments ws)) refl
    where
      go : (t : Bool) → ltb s (segments ws) ≡ t → (t && (not (in_pool vs s) && ltb k (blocks (class vs s)))) ≡ (t && (not (in_pool ws s) && ltb k (blocks (class ws s))))
      go true e = ap (λ (i : ℕ). not (eqb i 0) && ltb k (blocks i)) (same_class s (ltb-true s (segments ws) e))
      go false e = refl

  -- the same segments are of a class
  pub member_after : (s : ℕ) → Member ws s → Member vs s
  member_after s m = record { below = omega (arith, same_segments); used = same_pool s m.below ∙ m.used }

  pub member_before : (s : ℕ) → Member vs s → Member ws s
  member_before s m =
      let l : s < segments ws = omega (arith, same_segments) in
      record { below = l; used = sym (same_pool s l) ∙ m.used }

-- vs has the places of ws too
pub record SameFront (vs ws : List ℕ) : Type 0 where
  pub same_records : SameRecords vs ws
  pub places : (i : ℕ) → i < 16 → word vs (place_at i) ≡ word ws (place_at i)

-- one segment's blocks are taken as before where its record and its class's place are
pub taken_same : (vs ws : List ℕ) (s k : ℕ) → word vs 0 ≡ word ws 0 → record_of vs s ≡ record_of ws s
    → word vs (place_at (class ws s)) ≡ word ws (place_at (class ws s)) → taken_at vs s k ≡ taken_at ws s k
unfolding taken_at is_block before_place
taken_same vs ws s k head rec place = rw (rec, head, place)

-- behind the last segment nothing is taken
outside : (ws : List ℕ) (s k : ℕ) → segments ws ≤ s → taken_at ws s k ≡ false
outside ws s k l = not_passed (taken_at ws s k) (λ t. omega (arith, (taken_block ws s k t).member.below))

module _ (vs ws : List ℕ) (front : SameFront vs ws) where
  pub same_place_rank : (i : ℕ) → i < 16 → place_rank vs i ≡ place_rank ws i
  same_place_rank i l = ap (field 0 8) (front.places i l)

  pub same_place_index : (i : ℕ) → i < 16 → place_index vs i ≡ place_index ws i
  same_place_index i l = ap (field 8 12) (front.places i l)

  -- the same blocks are taken
  pub same_taken : (s k : ℕ) → taken_at vs s k ≡ taken_at ws s k
  same_taken s k = go (dec_lt s (segments ws))
    where
      go : Dec (s < segments ws) → taken_at vs s k ≡ taken_at ws s k
      go (yes l) = taken_same vs ws s k front.same_records.head (front.same_records.records s l) (front.places (class ws s) (omega arith))
      go (no f) =
          let past : segments ws ≤ s = omega (arith, f) in
          outside vs s k (omega (arith, same_segments vs ws front.same_records)) ∙ sym (outside ws s k past)

  pub same_is_taken : (h : ℕ) → is_taken vs h ≡ is_taken ws h
  unfolding is_taken
  same_is_taken h = ap (λ (t : Bool). not (eqb h 0) && t) (same_taken (segment_of h) (index_of h))

  pub same_none_or_taken : (h : ℕ) → none_or_taken vs h ≡ none_or_taken ws h
  same_none_or_taken h = ap (λ (t : Bool). eqb h 0 || t) (same_is_taken h)

  pub same_taken_count : taken_count vs ≡ taken_count ws
  unfolding taken_count
  same_taken_count =
      ap (λ (N : ℕ). count_below (2048 * N) (λ x. is_taken vs (x + 1))) (same_segments vs ws front.same_records)
      ∙ count_below_ext (2048 * segments ws) (λ x. is_taken vs (x + 1)) (λ x. is_taken ws (x + 1)) (λ x _. same_is_taken (x + 1))

-- ---- a put inside a part, and blocks apart

pub part_put_within : (ws : List ℕ) (a n j : ℕ) (xs : List ℕ) → a + n ≤ length ws → j + length xs ≤ n → part (put ws (a + j) xs) a n ≡ put (part ws a n) j xs
part_put_within ws a n j xs h l =
    let ys : List ℕ = put (part ws a n) j xs in
    let long : length ys ≡ n = length_put (part ws a n) j xs (omega (arith, length_part ws a n h)) ∙ length_part ws a n h in
    ap (λ (us : List ℕ). part us a n) (sym (put_in_part ws a n j xs h l)) ∙ ap (part (put ws a ys) a) (sym long) ∙ part_put ws a ys (omega arith)

-- of two blocks one ends before the other begins
pub blocks_parted : (ws : List ℕ) (s k t m : ℕ) → is_class (class ws s) ≡ true → is_class (class ws t) ≡ true → Block ws s k → Block ws t m → (t ≡ s → m ≢ k)
    → (block_offset ws t m + block_words (class ws t) ≤ block_offset ws s k) ⊎ (block_offset ws s k + block_words (class ws s) ≤ block_offset ws t m)
blocks_parted ws s k t m cs ct bs bt apart = first (order t s)
  where
    Parted : ℕ → Type 0
    Parted t = (block_offset ws t m + block_words (class ws t) ≤ block_offset ws s k) ⊎ (block_offset ws s k + block_words (class ws s) ≤ block_offset ws t m)

    second : t ≡ s → Order m k → Parted s
    second e (is_below l) = inl (blocks_apart (segments ws) s (class ws s) m k l)
    second e (is_same u) = absurd (apart e u)
    second e (is_above l) = inr (blocks_apart (segments ws) s (class ws s) k m l)

    first : Order t s → Parted t
    first (is_below l) = inl (segments_apart (segments ws) t (class ws t) m s (class ws s) k l ct bt.inside)
    first (is_same e) = subst Parted (sym e) (second e (order m k))
    first (is_above l) = inr (segments_apart (segments ws) s (class ws s) k t (class ws t) m l cs bs.inside)

-- ---- any write behind word 0

pub sized_put : (ws : List ℕ) → Sized ws → (o : ℕ) (xs : List ℕ) → 0 < o → o + length xs ≤ length ws → Sized (put ws o xs)
sized_put ws z o xs p h =
    let head : segments (put ws o xs) ≡ segments ws = ap (field 0 8) (word_put_before ws o xs 0 (omega arith) p) in
    record {
      some = omega (arith, head, z.some);
      few = omega (arith, head, z.few);
      long = omega (arith, head, z.long, length_put ws o xs h);
    }

-- ---- words put into one block: words j to j + length xs of block k of segment s

module _ (ws : List ℕ) (z : Sized ws) (s k : ℕ) (c : is_class (class ws s) ≡ true) (b : Block ws s k) (j : ℕ) (xs : List ℕ) (fits : j + length xs ≤ block_words (class ws s)) where
  inside : block_offset ws s k + j + length xs ≤ length ws
  inside = omega (arith, block_end ws z s k c b)

  pub block_put_length : length (put ws (block_offset ws s k + j) xs) ≡ length ws
  block_put_length = length_put ws (block_offset ws s k + j) xs inside

  pub block_put_sized : Sized (put ws (block_offset ws s k + j) xs)
  block_put_sized = sized_put ws z (block_offset ws s k + j) xs (omega arith) inside

  -- head, places and records are as before
  pub block_put_front : SameFront (put ws (block_offset ws s k + j) xs) ws
  unfolding record_of
  block_put_front = record {
    same_records = record {
      head = word_put_before ws (block_offset ws s k + j) xs 0 (omega (arith, inside)) (omega arith);
      records = λ t l. part_put_before ws (block_offset ws s k + j) xs (record_at t) 68 inside (omega arith);
    };
    places = λ i l. word_put_before ws (block_offset ws s k + j) xs (place_at i) (omega (arith, inside)) (omega (arith, z.some));
  }

  -- the block has the words put
  pub block_put_same : block_of (put ws (block_offset ws s k + j) xs) s k ≡ put (block_of ws s k) j xs
  unfolding block_of
  block_put_same =
      same_block_part (put ws (block_offset ws s k + j) xs) ws block_put_front.same_records s b.member.below k
      ∙ part_put_within ws (block_offset ws s k) (block_words (class ws s)) j xs (block_end ws z s k c b) fits

  -- every other block is as before
  pub block_put_other : (t m : ℕ) → is_class (class ws t) ≡ true → Block ws t m → (t ≡ s → m ≢ k)
      → block_of (put ws (block_offset ws s k + j) xs) t m ≡ block_of ws t m
  unfolding block_of
  block_put_other t m ct bt apart =
      same_block_part (put ws (block_offset ws s k + j) xs) ws block_put_front.same_records t bt.member.below m
      ∙ go (blocks_parted ws s k t m c ct b bt apart)
    where
      go : (block_offset ws t m + block_words (class ws t) ≤ block_offset ws s k) ⊎ (block_offset ws s k + block_words (class ws s) ≤ block_offset ws t m)
          → part (put ws (block_offset ws s k + j) xs) (block_offset ws t m) (block_words (class ws t)) ≡ part ws (block_offset ws t m) (block_words (class ws t))
      go (inl l) = part_put_before ws (block_offset ws s k + j) xs (block_offset ws t m) (block_words (class ws t)) inside (omega arith)
      go (inr l) = part_put_behind ws (block_offset ws s k + j) xs (block_offset ws t m) (block_words (class ws t)) (omega (arith, inside)) (omega arith)

  -- past word 0 of the block its header is as before
  pub block_put_header : 0 < j → word (block_of (put ws (block_offset ws s k + j) xs) s k) 0 ≡ word (block_of ws s k) 0
  block_put_header p =
      ap (λ (us : List ℕ). word us 0) block_put_same
      ∙ word_put_before (block_of ws s k) j xs 0 (omega (arith, block_length ws z s k c b)) p

-- ---- one place written

module _ (ws : List ℕ) (z : Sized ws) (i : ℕ) (c : is_class i ≡ true) (w : ℕ) where
  in_front : (0 < place_at i) × (place_at i < 11) × (place_at i + 1 ≤ length ws)
  in_front = omega (arith, class_bounds i c, z.long)

  pub place_put_length : length (put ws (place_at i) (w ∷ [])) ≡ length ws
  place_put_length = length_put ws (place_at i) (w ∷ []) in_front.2

  pub place_put_sized : Sized (put ws (place_at i) (w ∷ []))
  place_put_sized = sized_put ws z (place_at i) (w ∷ []) in_front.0 in_front.2

  -- head, records and all behind the places are as before
  pub place_put_rest : (n : ℕ) → 11 ≤ n → drop n (put ws (place_at i) (w ∷ [])) ≡ drop n ws
  place_put_rest n l = drop_put ws (place_at i) (w ∷ []) n (omega (arith, in_front)) (omega (arith, in_front))

  pub place_put_record : (s : ℕ) → record_of (put ws (place_at i) (w ∷ [])) s ≡ record_of ws s
  unfolding record_of
  place_put_record s = ap (take 68) (place_put_rest (record_at s) (omega arith))

  pub place_put_records : SameRecords (put ws (place_at i) (w ∷ [])) ws
  place_put_records = record {
    head = word_put_before ws (place_at i) (w ∷ []) 0 (omega (arith, in_front)) in_front.0;
    records = λ s l. place_put_record s;
  }

  -- the place is the new one, every other is as before
  pub place_put_same : word (put ws (place_at i) (w ∷ [])) (place_at i) ≡ w
  place_put_same = ap (word (put ws (place_at i) (w ∷ []))) (omega arith) ∙ word_put_in ws (place_at i) (w ∷ []) 0 (omega (arith, in_front)) (omega arith)

  pub place_put_other : (j : ℕ) → j ≢ i → word (put ws (place_at i) (w ∷ [])) (place_at j) ≡ word ws (place_at j)
  place_put_other j apart = go (order (place_at j) (place_at i))
    where
      go : Order (place_at j) (place_at i) → word (put ws (place_at i) (w ∷ [])) (place_at j) ≡ word ws (place_at j)
      go (is_below l) = word_put_before ws (place_at i) (w ∷ []) (place_at j) (omega (arith, in_front)) l
      go (is_same e) = absurd (apart (omega (arith, class_bounds i c)))
      go (is_above l) = word_put_behind ws (place_at i) (w ∷ []) (place_at j) (omega (arith, in_front)) (omega arith)

  -- every block is as before, and those of other classes are taken as before
  pub place_put_block : (s k : ℕ) → s < segments ws → block_of (put ws (place_at i) (w ∷ [])) s k ≡ block_of ws s k
  unfolding block_of
  place_put_block s k l =
      same_block_part (put ws (place_at i) (w ∷ [])) ws place_put_records s l k
      ∙ ap (take (block_words (class ws s))) (place_put_rest (block_offset ws s k) (omega arith))

-- ---- one record written

module _ (ws : List ℕ) (z : Sized ws) (s : ℕ) (l : s < segments ws) (rec : List ℕ) (long : length rec ≡ 68) where
  in_records : (record_at s + 68 ≤ record_at (segments ws)) × (record_at s + length rec ≤ length ws)
  in_records = omega (arith, z.long)

  pub record_put_length : length (put ws (record_at s) rec) ≡ length ws
  record_put_length = length_put ws (record_at s) rec in_records.1

  pub record_put_sized : Sized (put ws (record_at s) rec)
  record_put_sized = sized_put ws z (record_at s) rec (omega arith) in_records.1

  -- head, places, other records and areas are as before
  pub record_put_before : (o : ℕ) → o < record_at s → word (put ws (record_at s) rec) o ≡ word ws o
  record_put_before o u = word_put_before ws (record_at s) rec o (omega (arith, in_records)) u

  pub record_put_head : word (put ws (record_at s) rec) 0 ≡ word ws 0
  record_put_head = record_put_before 0 (omega arith)

  pub record_put_segments : segments (put ws (record_at s) rec) ≡ segments ws
  record_put_segments = ap (field 0 8) record_put_head

  pub record_put_place : (i : ℕ) → i ≤ 12 → word (put ws (record_at s) rec) (place_at i) ≡ word ws (place_at i)
  record_put_place i u = record_put_before (place_at i) (omega arith)

  pub record_put_areas : (n : ℕ) → record_at (suc s) ≤ n → drop n (put ws (record_at s) rec) ≡ drop n ws
  record_put_areas n u = drop_put ws (record_at s) rec n (omega (arith, in_records)) (omega arith)

  pub record_put_same : record_of (put ws (record_at s) rec) s ≡ rec
  unfolding record_of
  record_put_same =
      ap (part (put ws (record_at s) rec) (record_at s)) (sym long) ∙ part_put ws (record_at s) rec (omega (arith, in_records))

  pub record_put_other : (t : ℕ) → t ≢ s → record_of (put ws (record_at s) rec) t ≡ record_of ws t
  unfolding record_of
  record_put_other t apart = go (order t s)
    where
      go : Order t s → part (put ws (record_at s) rec) (record_at t) 68 ≡ part ws (record_at t) 68
      go (is_below u) = part_put_before ws (record_at s) rec (record_at t) 68 in_records.1 (omega arith)
      go (is_same e) = absurd (apart e)
      go (is_above u) = part_put_behind ws (record_at s) rec (record_at t) 68 (omega (arith, in_records)) (omega arith)

  -- the blocks of other segments are as before, and taken as before; its own are cut as its new class has it
  pub record_put_block : (t k : ℕ) → t ≢ s → block_of (put ws (record_at s) rec) t k ≡ block_of ws t k
  unfolding block_of
  record_put_block t k apart =
      rw (record_put_other t apart, record_put_head) (ap (take (block_words (class ws t))) (record_put_areas (block_offset ws t k) (omega arith)))

  pub record_put_taken : (t k : ℕ) → t ≢ s → class ws t ≤ 12 → taken_at (put ws (record_at s) rec) t k ≡ taken_at ws t k
  record_put_taken t k apart u =
      taken_same (put ws (record_at s) rec) ws t k record_put_head (record_put_other t apart) (record_put_place (class ws t) u)

  -- of each class there are as many members as before, but for the old and the new class of s
  pub record_put_members : (i : ℕ) → members (put ws (record_at s) rec) i + one_if (eqb (class ws s) i) ≡ members ws i + one_if (eqb (class_in rec) i)
  unfolding members
  record_put_members i =
      let vs : List ℕ = put ws (record_at s) rec in
      ap (λ (N : ℕ). count_below N (λ t. eqb (class vs t) i) + one_if (eqb (class ws s) i)) record_put_segments
      ∙ count_below_change (segments ws) (λ t. eqb (class vs t) i) (λ t. eqb (class ws t) i) s l
      (λ t _ apart. ap (λ (r : List ℕ). eqb (class_in r) i) (record_put_other t apart))
      ∙ ap (λ (r : List ℕ). members ws i + one_if (eqb (class_in r) i)) record_put_same
