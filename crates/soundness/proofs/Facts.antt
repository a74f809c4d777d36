-- `sound` taken apart into what holds of each class, segment and block, and put together again: as a whole, and clause by clause.
-- Then where records and blocks lie in an arena of the right length.
-- Assumes nothing.
use Prim.Native.Nat.{ℕ, ◌+◌, ◌≤◌, ◌<◌}
use mathlib.Core.Path.{◌≡◌, sym, ap, ◌∙◌}
use mathlib.Core.Logic.{◌⊎◌, inl, inr, ◌≢◌}
use mathlib.Core.Bool.{Bool, true, false, not, ◌&&◌, ◌||◌}
use mathlib.Core.List.{List}
use native.Mathlib.Omega.{arith}
use lib.ListN.{length, replicate, length-replicate, get_or-replicate}
use lib.Seq.{ext_get_or}
use lib.Dec.{eqb, leb, ltb}
use borrow.Author.Tests.{eqb-true, eqb-false, eq-eqb, ne_eqb, leb-true, leb-false, le-leb, lt-leb, ltb-true, lt-ltb, not-true}
use Rattle.model.specs.Below.{all_below, count_below}
use Rattle.model.specs.Word.{word, part, unnamed}
use Rattle.model.specs.Class.{is_class, every_class, blocks, block_words, class_of}
use Rattle.model.specs.Layout.{arena_length, place_at, record_at}
use Rattle.model.specs.View.{segments, place_rank, place_index, record_of, class, rank, count, bit_of, members, block_offset, block_of, n_in, r_in, reference_in}
use Rattle.model.specs.Standing.{in_pool, is_block, before_place, taken_at, none_or_taken}
use Rattle.model.specs.Sound.{every_member, sized, unnamed_zero, classes, ranks, levels_right, levels, counts, behind, place_right, places, block_right, taken_right, sound}
use Rattle.laws.proofs.Below.{all_below_at, all_below_intro}
use Rattle.laws.proofs.Splice.{length_part, word_part, part_part}
use Rattle.words.proofs.ClassLaws.{class_rule, class_bounds}
use Rattle.words.proofs.HandleLaws.{block_in_arena}
use Rattle.soundness.proofs.Tests.{and_left, and_right, and_intro, or_cases, or_left, or_right, or_else, else_or, if_then, then_if, every_class_intro, either}

-- ---- what the facts are about

-- s is a segment of some class: one of the N, and not in the pool
pub record Member (ws : List ℕ) (s : ℕ) : Type 0 where
  pub below : s < segments ws
  pub used : in_pool ws s ≡ false

-- there is a block k of segment s
pub record Block (ws : List ℕ) (s k : ℕ) : Type 0 where
  pub member : Member ws s
  pub inside : k < blocks (class ws s)

pub block_facts : (ws : List ℕ) (s k : ℕ) → is_block ws s k ≡ true → Block ws s k
unfolding is_block
block_facts ws s k t =
    let rest : (not (in_pool ws s) && ltb k (blocks (class ws s))) ≡ true = and_right (ltb s (segments ws)) _ t in
    record {
      member = record {
        below = ltb-true _ _ (and_left (ltb s (segments ws)) (not (in_pool ws s) && ltb k (blocks (class ws s))) t);
        used = not-true _ (and_left (not (in_pool ws s)) (ltb k (blocks (class ws s))) rest);
      };
      inside = ltb-true _ _ (and_right (not (in_pool ws s)) (ltb k (blocks (class ws s))) rest);
    }

pub facts_block : (ws : List ℕ) (s k : ℕ) → Block ws s k → is_block ws s k ≡ true
unfolding is_block
facts_block ws s k b =
    and_intro (ltb s (segments ws)) _ (lt-ltb _ _ b.member.below)
    (and_intro (not (in_pool ws s)) _ (ap not b.member.used) (lt-ltb _ _ b.inside))

-- a taken block is a block
pub taken_block : (ws : List ℕ) (s k : ℕ) → taken_at ws s k ≡ true → Block ws s k
unfolding taken_at
taken_block ws s k t = block_facts ws s k (and_left (is_block ws s k) (before_place ws s k || bit_of ws s k) t)

-- ---- every segment of a class passes a test

pub member_at : (ws : List ℕ) (p : ℕ → Bool) → every_member ws p ≡ true → (s : ℕ) → Member ws s → p s ≡ true
member_at ws p t s m =
    or_else (in_pool ws s) (p s) (all_below_at (segments ws) (λ s. in_pool ws s || p s) t s m.below) m.used

pub member_intro : (ws : List ℕ) (p : ℕ → Bool) → ((s : ℕ) → Member ws s → p s ≡ true) → every_member ws p ≡ true
member_intro ws p h =
    all_below_intro (segments ws) (λ s. in_pool ws s || p s) (λ s l. else_or (in_pool ws s) (p s) (λ f. h s (record { below = l; used = f })))

-- ---- clause by clause

-- the length
pub record Sized (ws : List ℕ) : Type 0 where
  pub some : 1 ≤ segments ws
  pub few : segments ws ≤ 64
  pub long : length ws ≡ arena_length (segments ws)

pub sized_facts : (ws : List ℕ) → sized ws ≡ true → Sized ws
unfolding sized
sized_facts ws t =
    let rest = and_right (leb 1 (segments ws)) (leb (segments ws) 64 && eqb (length ws) (arena_length (segments ws))) t in
    record {
      some = leb-true _ _ (and_left (leb 1 (segments ws)) (leb (segments ws) 64 && eqb (length ws) (arena_length (segments ws))) t);
      few = leb-true _ _ (and_left (leb (segments ws) 64) (eqb (length ws) (arena_length (segments ws))) rest);
      long = eqb-true _ _ (and_right (leb (segments ws) 64) (eqb (length ws) (arena_length (segments ws))) rest);
    }

pub facts_sized : (ws : List ℕ) → Sized ws → sized ws ≡ true
unfolding sized
facts_sized ws z =
    and_intro (leb 1 (segments ws)) _ (le-leb _ _ z.some)
    (and_intro (leb (segments ws) 64) _ (le-leb _ _ z.few) (eq-eqb _ _ z.long))

-- records lie in the arena, before the areas
pub record_inside : (ws : List ℕ) → Sized ws → (s : ℕ) → s < segments ws → record_at s + 68 ≤ length ws
record_inside ws z s l = omega (arith, z.long)

pub record_length : (ws : List ℕ) → Sized ws → (s : ℕ) → s < segments ws → length (record_of ws s) ≡ 68
unfolding record_of
record_length ws z s l = length_part ws (record_at s) 68 (record_inside ws z s l)

pub record_word : (ws : List ℕ) (s j : ℕ) → j < 68 → word (record_of ws s) j ≡ word ws (record_at s + j)
unfolding record_of
record_word ws s j l = word_part ws (record_at s) 68 j l

-- the bits that are not named
pub record Zeros (ws : List ℕ) : Type 0 where
  pub head_zero : unnamed 8 (word ws 0) ≡ 0
  pub place_zero : (i : ℕ) → is_class i ≡ true → unnamed 20 (word ws (place_at i)) ≡ 0
  pub record_zero : (s : ℕ) → s < segments ws → unnamed 24 (word (record_of ws s) 0) ≡ 0

pub zeros_facts : (ws : List ℕ) → unnamed_zero ws ≡ true → Zeros ws
unfolding unnamed_zero
zeros_facts ws t =
    let head : Bool = eqb (unnamed 8 (word ws 0)) 0 in
    let place_test : ℕ → Bool = λ i. eqb (unnamed 20 (word ws (place_at i))) 0 in
    let record_test : ℕ → Bool = λ s. eqb (unnamed 24 (word (record_of ws s) 0)) 0 in
    let rest = and_right head (every_class place_test && all_below (segments ws) record_test) t in
    record {
      head_zero = eqb-true _ _ (and_left head (every_class place_test && all_below (segments ws) record_test) t);
      place_zero = λ i c. eqb-true _ _ (class_rule place_test (and_left (every_class place_test) (all_below (segments ws) record_test) rest) i c);
      record_zero = λ s l. eqb-true _ _ (all_below_at (segments ws) record_test (and_right (every_class place_test) (all_below (segments ws) record_test) rest) s l);
    }

pub facts_zeros : (ws : List ℕ) → Zeros ws → unnamed_zero ws ≡ true
unfolding unnamed_zero
facts_zeros ws z =
    let place_test : ℕ → Bool = λ i. eqb (unnamed 20 (word ws (place_at i))) 0 in
    let record_test : ℕ → Bool = λ s. eqb (unnamed 24 (word (record_of ws s) 0)) 0 in
    and_intro (eqb (unnamed 8 (word ws 0)) 0) (every_class place_test && all_below (segments ws) record_test) (eq-eqb _ _ z.head_zero)
    (and_intro (every_class place_test) (all_below (segments ws) record_test)
    (every_class_intro place_test (λ i c. eq-eqb _ _ (z.place_zero i c)))
    (all_below_intro (segments ws) record_test (λ s l. eq-eqb _ _ (z.record_zero s l))))

-- the classes, and the records of the pool
pub record Classes (ws : List ℕ) : Type 0 where
  pub classed : (s : ℕ) → Member ws s → is_class (class ws s) ≡ true
  pub pooled : (s : ℕ) → s < segments ws → in_pool ws s ≡ true → record_of ws s ≡ replicate 68 0

pub classes_facts : (ws : List ℕ) → Sized ws → classes ws ≡ true → Classes ws
unfolding classes
classes_facts ws z t =
    let zero_test : ℕ → ℕ → Bool = λ s j. eqb (word (record_of ws s) j) 0 in
    let pool_test : ℕ → Bool = λ s. not (in_pool ws s) || all_below 68 (zero_test s) in
    let first = and_left (every_member ws (λ s. is_class (class ws s))) (all_below (segments ws) pool_test) t in
    let second = and_right (every_member ws (λ s. is_class (class ws s))) (all_below (segments ws) pool_test) t in
    record {
      classed = member_at ws (λ s. is_class (class ws s)) first;
      pooled = λ s l p.
          let all = if_then (in_pool ws s) (all_below 68 (zero_test s)) (all_below_at (segments ws) pool_test second s l) p in
          let long = record_length ws z s l in
          ext_get_or 0 (record_of ws s) (replicate 68 0) (long ∙ sym (length-replicate {A = ℕ} 68 0))
          (λ j u. let v : j < 68 = omega arith in eqb-true _ _ (all_below_at 68 (zero_test s) all j v) ∙ sym (get_or-replicate 68 j 0 0 v));
    }

pub facts_classes : (ws : List ℕ) → Classes ws → classes ws ≡ true
unfolding classes
facts_classes ws c =
    let zero_test : ℕ → ℕ → Bool = λ s j. eqb (word (record_of ws s) j) 0 in
    let pool_test : ℕ → Bool = λ s. not (in_pool ws s) || all_below 68 (zero_test s) in
    and_intro (every_member ws (λ s. is_class (class ws s))) (all_below (segments ws) pool_test)
    (member_intro ws (λ s. is_class (class ws s)) c.classed)
    (all_below_intro (segments ws) pool_test
    (λ s l. then_if (in_pool ws s) (all_below 68 (zero_test s))
    (λ p. all_below_intro 68 (zero_test s)
    (λ j u. eq-eqb _ _ (ap (λ (rec : List ℕ). word rec j) (c.pooled s l p) ∙ get_or-replicate 68 j 0 0 u)))))

-- the ranks: each below the number of members, once
abbrev pub Ranks : List ℕ → Type 0
Ranks ws =
    (i q : ℕ) → is_class i ≡ true → q < members ws i → count_below (segments ws) (λ s. eqb (class ws s) i && eqb (rank ws s) q) ≡ 1

pub ranks_facts : (ws : List ℕ) → ranks ws ≡ true → Ranks ws
unfolding ranks
ranks_facts ws t i q c l =
    let rank_test : ℕ → ℕ → Bool = λ i q. eqb (count_below (segments ws) (λ s. eqb (class ws s) i && eqb (rank ws s) q)) 1 in
    eqb-true _ _ (all_below_at (members ws i) (rank_test i) (class_rule (λ i. all_below (members ws i) (rank_test i)) t i c) q l)

pub facts_ranks : (ws : List ℕ) → Ranks ws → ranks ws ≡ true
unfolding ranks
facts_ranks ws h =
    let rank_test : ℕ → ℕ → Bool = λ i q. eqb (count_below (segments ws) (λ s. eqb (class ws s) i && eqb (rank ws s) q)) 1 in
    every_class_intro (λ i. all_below (members ws i) (rank_test i)) (λ i c. all_below_intro (members ws i) (rank_test i) (λ q l. eq-eqb _ _ (h i q c l)))

-- the levels, segment by segment
pub levels_facts : (ws : List ℕ) → levels ws ≡ true → (s : ℕ) → Member ws s → levels_right (class ws s) (record_of ws s) ≡ true
unfolding levels
levels_facts ws t = member_at ws (λ s. levels_right (class ws s) (record_of ws s)) t

pub facts_levels : (ws : List ℕ) → ((s : ℕ) → Member ws s → levels_right (class ws s) (record_of ws s) ≡ true) → levels ws ≡ true
unfolding levels
facts_levels ws h = member_intro ws (λ s. levels_right (class ws s) (record_of ws s)) h

-- the counts
pub counts_facts : (ws : List ℕ) → counts ws ≡ true → (s : ℕ) → Member ws s → count ws s ≡ count_below (blocks (class ws s)) (bit_of ws s)
unfolding counts
counts_facts ws t s m = eqb-true _ _ (member_at ws (λ s. eqb (count ws s) (count_below (blocks (class ws s)) (bit_of ws s))) t s m)

pub facts_counts : (ws : List ℕ) → ((s : ℕ) → Member ws s → count ws s ≡ count_below (blocks (class ws s)) (bit_of ws s)) → counts ws ≡ true
unfolding counts
facts_counts ws h = member_intro ws (λ s. eqb (count ws s) (count_below (blocks (class ws s)) (bit_of ws s))) (λ s m. eq-eqb _ _ (h s m))

-- no segment behind its class's place is full
abbrev pub Behind : List ℕ → Type 0
Behind ws = (s : ℕ) → Member ws s → place_rank ws (class ws s) < rank ws s → count ws s < blocks (class ws s)

pub behind_facts : (ws : List ℕ) → behind ws ≡ true → Behind ws
unfolding behind
behind_facts ws t s m l =
    let before : ℕ → Bool = λ s. leb (rank ws s) (place_rank ws (class ws s)) in
    let free : ℕ → Bool = λ s. ltb (count ws s) (blocks (class ws s)) in
    ltb-true _ _ (or_else (before s) (free s) (member_at ws (λ s. before s || free s) t s m) (lt-leb _ _ l))

pub facts_behind : (ws : List ℕ) → Behind ws → behind ws ≡ true
unfolding behind
facts_behind ws h =
    let before : ℕ → Bool = λ s. leb (rank ws s) (place_rank ws (class ws s)) in
    let free : ℕ → Bool = λ s. ltb (count ws s) (blocks (class ws s)) in
    member_intro ws (λ s. before s || free s) (λ s m. else_or (before s) (free s) (λ f. lt-ltb _ _ (h s m (leb-false _ _ f))))

-- the places, class by class; and the two cases of one
pub places_facts : (ws : List ℕ) → places ws ≡ true → (i : ℕ) → is_class i ≡ true → place_right ws i ≡ true
unfolding places
places_facts ws t = class_rule (place_right ws) t

pub facts_places : (ws : List ℕ) → ((i : ℕ) → is_class i ≡ true → place_right ws i ≡ true) → places ws ≡ true
unfolding places
facts_places ws h = every_class_intro (place_right ws) h

pub record Place (ws : List ℕ) (i : ℕ) : Type 0 where
  pub unused : members ws i ≡ 0 → (place_rank ws i ≡ 0) × (place_index ws i ≡ 0)
  pub used : 0 < members ws i → place_rank ws i < members ws i
  pub index : place_index ws i ≤ blocks i

pub place_facts : (ws : List ℕ) (i : ℕ) → place_right ws i ≡ true → Place ws i
unfolding place_right
place_facts ws i t = go (or_cases (eqb (members ws i) 0 && zero_place) (ltb (place_rank ws i) (members ws i) && leb (place_index ws i) (blocks i)) t)
  where
    zero_place : Bool
    zero_place = eqb (place_rank ws i) 0 && eqb (place_index ws i) 0

    go : ((eqb (members ws i) 0 && zero_place) ≡ true) ⊎ ((ltb (place_rank ws i) (members ws i) && leb (place_index ws i) (blocks i)) ≡ true) → Place ws i
    go (inl e) =
        let none : members ws i ≡ 0 = eqb-true _ _ (and_left (eqb (members ws i) 0) zero_place e) in
        let both : zero_place ≡ true = and_right (eqb (members ws i) 0) zero_place e in
        let rank_zero : place_rank ws i ≡ 0 = eqb-true _ _ (and_left (eqb (place_rank ws i) 0) (eqb (place_index ws i) 0) both) in
        let index_zero : place_index ws i ≡ 0 = eqb-true _ _ (and_right (eqb (place_rank ws i) 0) (eqb (place_index ws i) 0) both) in
        record { unused = λ _. (rank_zero, index_zero); used = λ l. absurd (omega arith); index = omega arith }
    go (inr e) =
        let low : place_rank ws i < members ws i = ltb-true _ _ (and_left (ltb (place_rank ws i) (members ws i)) (leb (place_index ws i) (blocks i)) e) in
        let within : place_index ws i ≤ blocks i = leb-true _ _ (and_right (ltb (place_rank ws i) (members ws i)) (leb (place_index ws i) (blocks i)) e) in
        record { unused = λ z. absurd (omega arith); used = λ _. low; index = within }

pub facts_place : (ws : List ℕ) (i : ℕ) → Place ws i → place_right ws i ≡ true
unfolding place_right
facts_place ws i p = go (either (eqb (members ws i) 0))
  where
    goal : Bool
    goal =
        (eqb (members ws i) 0 && (eqb (place_rank ws i) 0 && eqb (place_index ws i) 0))
        || (ltb (place_rank ws i) (members ws i) && leb (place_index ws i) (blocks i))

    go : (eqb (members ws i) 0 ≡ true) ⊎ (eqb (members ws i) 0 ≡ false) → goal ≡ true
    go (inl z) =
        let both = p.unused (eqb-true _ _ z) in
        or_left (eqb (members ws i) 0 && (eqb (place_rank ws i) 0 && eqb (place_index ws i) 0)) _
        (and_intro (eqb (members ws i) 0) _ z (and_intro (eqb (place_rank ws i) 0) _ (eq-eqb _ _ both.0) (eq-eqb _ _ both.1)))
    go (inr f) =
        let some : members ws i ≢ 0 = eqb-false _ _ f in
        or_right (eqb (members ws i) 0 && (eqb (place_rank ws i) 0 && eqb (place_index ws i) 0)) _
        (and_intro (ltb (place_rank ws i) (members ws i)) _ (lt-ltb _ _ (p.used (omega arith))) (le-leb _ _ p.index))

-- a block whose header is right for a class, and whose references are none or taken
pub record Right (ws : List ℕ) (i : ℕ) (b : List ℕ) : Type 0 where
  pub fits : class_of (n_in b) ≡ i
  pub within : r_in b ≤ n_in b
  pub references : (f : ℕ) → f < r_in b → none_or_taken ws (reference_in b f) ≡ true

pub right_facts : (ws : List ℕ) (i : ℕ) (b : List ℕ) → block_right ws i b ≡ true → Right ws i b
unfolding block_right
right_facts ws i b t =
    let fit : Bool = eqb (class_of (n_in b)) i in
    let shape : Bool = leb (r_in b) (n_in b) in
    let refers : ℕ → Bool = λ f. none_or_taken ws (reference_in b f) in
    let rest = and_right fit (shape && all_below (r_in b) refers) t in
    record {
      fits = eqb-true _ _ (and_left fit (shape && all_below (r_in b) refers) t);
      within = leb-true _ _ (and_left shape (all_below (r_in b) refers) rest);
      references = all_below_at (r_in b) refers (and_right shape (all_below (r_in b) refers) rest);
    }

pub facts_right : (ws : List ℕ) (i : ℕ) (b : List ℕ) → Right ws i b → block_right ws i b ≡ true
unfolding block_right
facts_right ws i b h =
    let refers : ℕ → Bool = λ f. none_or_taken ws (reference_in b f) in
    and_intro (eqb (class_of (n_in b)) i) (leb (r_in b) (n_in b) && all_below (r_in b) refers) (eq-eqb _ _ h.fits)
    (and_intro (leb (r_in b) (n_in b)) (all_below (r_in b) refers) (le-leb _ _ h.within) (all_below_intro (r_in b) refers h.references))

-- every taken block is so
pub taken_facts : (ws : List ℕ) → taken_right ws ≡ true → (s k : ℕ) → taken_at ws s k ≡ true → Right ws (class ws s) (block_of ws s k)
unfolding taken_right
taken_facts ws t s k u =
    let b = taken_block ws s k u in
    let test : ℕ → ℕ → Bool = λ s k. not (taken_at ws s k) || block_right ws (class ws s) (block_of ws s k) in
    let all = member_at ws (λ s. all_below (blocks (class ws s)) (test s)) t s b.member in
    right_facts ws (class ws s) (block_of ws s k)
    (if_then (taken_at ws s k) (block_right ws (class ws s) (block_of ws s k)) (all_below_at (blocks (class ws s)) (test s) all k b.inside) u)

pub facts_taken : (ws : List ℕ) → ((s k : ℕ) → taken_at ws s k ≡ true → Right ws (class ws s) (block_of ws s k)) → taken_right ws ≡ true
unfolding taken_right
facts_taken ws h =
    let test : ℕ → ℕ → Bool = λ s k. not (taken_at ws s k) || block_right ws (class ws s) (block_of ws s k) in
    member_intro ws (λ s. all_below (blocks (class ws s)) (test s))
    (λ s m. all_below_intro (blocks (class ws s)) (test s)
    (λ k l. then_if (taken_at ws s k) (block_right ws (class ws s) (block_of ws s k)) (λ u. facts_right ws (class ws s) (block_of ws s k) (h s k u))))

-- ---- the whole

pub record Sound (ws : List ℕ) : Type 0 where
  pub size : Sized ws
  pub head_zero : unnamed 8 (word ws 0) ≡ 0
  pub place_zero : (i : ℕ) → is_class i ≡ true → unnamed 20 (word ws (place_at i)) ≡ 0
  pub record_zero : (s : ℕ) → s < segments ws → unnamed 24 (word (record_of ws s) 0) ≡ 0
  pub classed : (s : ℕ) → Member ws s → is_class (class ws s) ≡ true
  pub pooled : (s : ℕ) → s < segments ws → in_pool ws s ≡ true → record_of ws s ≡ replicate 68 0
  pub each_rank : Ranks ws
  pub levelled : (s : ℕ) → Member ws s → levels_right (class ws s) (record_of ws s) ≡ true
  pub counted : (s : ℕ) → Member ws s → count ws s ≡ count_below (blocks (class ws s)) (bit_of ws s)
  pub not_full_behind : Behind ws
  pub placed : (i : ℕ) → is_class i ≡ true → Place ws i
  pub right : (s k : ℕ) → taken_at ws s k ≡ true → Right ws (class ws s) (block_of ws s k)

-- the clauses as one row of tests
pub record Clauses (ws : List ℕ) : Type 0 where
  pub is_sized : sized ws ≡ true
  pub is_unnamed_zero : unnamed_zero ws ≡ true
  pub is_classes : classes ws ≡ true
  pub is_ranks : ranks ws ≡ true
  pub is_levels : levels ws ≡ true
  pub is_counts : counts ws ≡ true
  pub is_behind : behind ws ≡ true
  pub is_places : places ws ≡ true
  pub is_taken_right : taken_right ws ≡ true

pub sound_clauses : (ws : List ℕ) → sound ws ≡ true → Clauses ws
unfolding sound
sound_clauses ws t =
    let c8 : Bool = places ws && taken_right ws in
    let c7 : Bool = behind ws && c8 in
    let c6 : Bool = counts ws && c7 in
    let c5 : Bool = levels ws && c6 in
    let c4 : Bool = ranks ws && c5 in
    let c3 : Bool = classes ws && c4 in
    let c2 : Bool = unnamed_zero ws && c3 in
    let t2 : c2 ≡ true = and_right (sized ws) c2 t in
    let t3 : c3 ≡ true = and_right (unnamed_zero ws) c3 t2 in
    let t4 : c4 ≡ true = and_right (classes ws) c4 t3 in
    let t5 : c5 ≡ true = and_right (ranks ws) c5 t4 in
    let t6 : c6 ≡ true = and_right (levels ws) c6 t5 in
    let t7 : c7 ≡ true = and_right (counts ws) c7 t6 in
    let t8 : c8 ≡ true = and_right (behind ws) c8 t7 in
    record {
      is_sized = and_left (sized ws) c2 t;
      is_unnamed_zero = and_left (unnamed_zero ws) c3 t2;
      is_classes = and_left (classes ws) c4 t3;
      is_ranks = and_left (ranks ws) c5 t4;
      is_levels = and_left (levels ws) c6 t5;
      is_counts = and_left (counts ws) c7 t6;
      is_behind = and_left (behind ws) c8 t7;
      is_places = and_left (places ws) (taken_right ws) t8;
      is_taken_right = and_right (places ws) (taken_right ws) t8;
    }

pub clauses_sound : (ws : List ℕ) → Clauses ws → sound ws ≡ true
unfolding sound
clauses_sound ws c =
    and_intro (sized ws) _ c.is_sized
    (and_intro (unnamed_zero ws) _ c.is_unnamed_zero
    (and_intro (classes ws) _ c.is_classes
    (and_intro (ranks ws) _ c.is_ranks
    (and_intro (levels ws) _ c.is_levels
    (and_intro (counts ws) _ c.is_counts
    (and_intro (behind ws) _ c.is_behind
    (and_intro (places ws) (taken_right ws) c.is_places c.is_taken_right)))))))

-- a sound arena has all these facts, and one that has them is sound
pub sound_facts : (ws : List ℕ) → sound ws ≡ true → Sound ws
sound_facts ws t =
    let c = sound_clauses ws t in
    let z = sized_facts ws c.is_sized in
    let zeros = zeros_facts ws c.is_unnamed_zero in
    let in_classes = classes_facts ws z c.is_classes in
    record {
      size = z;
      head_zero = zeros.head_zero;
      place_zero = zeros.place_zero;
      record_zero = zeros.record_zero;
      classed = in_classes.classed;
      pooled = in_classes.pooled;
      each_rank = ranks_facts ws c.is_ranks;
      levelled = levels_facts ws c.is_levels;
      counted = counts_facts ws c.is_counts;
      not_full_behind = behind_facts ws c.is_behind;
      placed = λ i h. place_facts ws i (places_facts ws c.is_places i h);
      right = taken_facts ws c.is_taken_right;
    }

pub facts_sound : (ws : List ℕ) → Sound ws → sound ws ≡ true
facts_sound ws z = clauses_sound ws (record {
  is_sized = facts_sized ws z.size;
  is_unnamed_zero = facts_zeros ws (record { head_zero = z.head_zero; place_zero = z.place_zero; record_zero = z.record_zero });
  is_classes = facts_classes ws (record { classed = z.classed; pooled = z.pooled });
  is_ranks = facts_ranks ws z.each_rank;
  is_levels = facts_levels ws z.levelled;
  is_counts = facts_counts ws z.counted;
  is_behind = facts_behind ws z.not_full_behind;
  is_places = facts_places ws (λ i h. facts_place ws i (z.placed i h));
  is_taken_right = facts_taken ws z.right;
})

-- ---- where blocks lie

-- a segment is in the pool, or it is a member
pub pool_or_member : (ws : List ℕ) (s : ℕ) → s < segments ws → (in_pool ws s ≡ true) ⊎ Member ws s
pool_or_member ws s l = go (either (in_pool ws s))
  where
    go : (in_pool ws s ≡ true) ⊎ (in_pool ws s ≡ false) → (in_pool ws s ≡ true) ⊎ Member ws s
    go (inl p) = inl p
    go (inr f) = inr (record { below = l; used = f })

-- segments of a class are members
pub class_member : (ws : List ℕ) (s i : ℕ) → is_class i ≡ true → s < segments ws → class ws s ≡ i → Member ws s
class_member ws s i c l e = record { below = l; used = ne_eqb (class ws s) 0 (λ z. omega (arith, class_bounds i c)) }

-- a block's words are words of the arena, behind all records
pub block_end : (ws : List ℕ) → Sized ws → (s k : ℕ) → is_class (class ws s) ≡ true → Block ws s k
    → block_offset ws s k + block_words (class ws s) ≤ length ws
block_end ws z s k c b = omega (arith, z.long, block_in_arena (segments ws) s (class ws s) k b.member.below c b.inside)

pub block_length : (ws : List ℕ) → Sized ws → (s k : ℕ) → is_class (class ws s) ≡ true → Block ws s k
    → length (block_of ws s k) ≡ block_words (class ws s)
unfolding block_of
block_length ws z s k c b = length_part ws (block_offset ws s k) (block_words (class ws s)) (block_end ws z s k c b)

pub block_word : (ws : List ℕ) (s k j : ℕ) → j < block_words (class ws s) → word (block_of ws s k) j ≡ word ws (block_offset ws s k + j)
unfolding block_of
block_word ws s k j l = word_part ws (block_offset ws s k) (block_words (class ws s)) j l

pub block_part : (ws : List ℕ) → Sized ws → (s k : ℕ) → is_class (class ws s) ≡ true → Block ws s k → (a n : ℕ) → a + n ≤ block_words (class ws s)
    → part (block_of ws s k) a n ≡ part ws (block_offset ws s k + a) n
unfolding block_of
block_part ws z s k c b a n l = part_part ws (block_offset ws s k) (block_words (class ws s)) a n (block_end ws z s k c b) l
