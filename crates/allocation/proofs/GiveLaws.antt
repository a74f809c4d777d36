-- The words that giving a block leaves: a block's own, those of the arena with a lent part written, and those that document 01 says an
-- allocation leaves.
-- Assumes nothing.
use Prim.Native.Nat.{ℕ, ◌+◌, ◌-◌, ◌≤◌, ◌<◌}
use mathlib.Core.Path.{◌≡◌, sym, ap, ap₂, ◌∙◌}
use mathlib.Core.Bool.{Bool, true, false, cond}
use mathlib.Core.List.{List, [], ◌∷◌}
use native.Mathlib.Omega.{arith}
use lib.ListN.{length}
use borrow.Author.Tests.{ltb-true}
use Rattle.model.specs.Word.{part, put}
use Rattle.model.specs.Class.{is_class, blocks, block_words, class_of}
use Rattle.model.specs.Layout.{arena_length, record_head, place_at, place_word, record_at, record_words, block_at}
use Rattle.model.specs.View.{segments, class, members, ranked}
use Rattle.model.specs.Sound.{sound}
use Rattle.model.specs.Calls.{first_untaken, has_untaken, first_rank, class_has_untaken, first_pool, has_pool, given_segment, given_rank, given_index, joined, allocated}
use Rattle.model.specs.declared.Shape.{Shape}
use Rattle.laws.proofs.Below.{first_is}
use Rattle.laws.proofs.Splice.{length_part, length_put}
use Rattle.words.proofs.ClassLaws.{class_bounds, bounds_class, class_small, blocks_most, block_least}
use Rattle.words.proofs.HandleLaws.{block_in_arena}
use Rattle.bitmap.proofs.RecordLaws.{record_length}
use Rattle.soundness.proofs.Facts.{Sound, sound_facts}
use Rattle.soundness.proofs.Ranks.{ranked_class, ranked_member, members_le}
use Rattle.records.proofs.OwnLaws.{blocks_bounds}
use Rattle.allocation.specs.declared.find.Spot.{Spot}
use Rattle.allocation.specs.Spots.{Given}
use Rattle.allocation.specs.Gifts.{Cleared, Join, Take, GiveHere, GiveJoining, given_block, taken_words}

-- ---- one block

module _ (ws : List ℕ) (N i : ℕ) (spot : Spot) (shape : Shape) (h : Take ws N i spot shape) where
  -- the block ends within the arena, and has a header and a word at least
  pub block_ends : block_at N spot.segment i spot.index.0 + block_words i ≤ length ws
  block_ends = omega (arith, h.long, block_in_arena N spot.segment i spot.index.0 h.there (bounds_class i h.low h.high) h.inside)

  block_some : 2 ≤ block_words i
  block_some = block_least i (bounds_class i h.low h.high)

  -- the place behind it can be packed
  pub index_fits : spot.index.0 + 1 < 4096
  index_fits = omega (arith, h.inside, blocks_most i (bounds_class i h.low h.high))

  -- its part of the arena is so long
  part_long : (a w : ℕ) → a ≡ block_at N spot.segment i spot.index.0 → w ≡ block_words i → length (part ws a (a + w - a)) ≡ block_words i
  part_long a w ea ew = length_part ws a (a + w - a) (omega (arith, block_ends)) ∙ omega arith

  pub clear_asked : (a w : ℕ) → a ≡ block_at N spot.segment i spot.index.0 → w ≡ block_words i → Cleared (part ws a (a + w - a)) shape
  clear_asked a w ea ew = record { some = omega (arith, part_long a w ea ew, block_some); n_fits = h.n_fits; r_fits = h.r_fits }

-- ---- what is given is a block of the arena

-- an untaken block of the class's own segments
module _ (ws : List ℕ) (sound : Sound ws) (i : ℕ) (c : is_class i ≡ true) (some : class_has_untaken ws i ≡ true) where
  rank_inside : first_rank ws i < members ws i
  unfolding class_has_untaken
  rank_inside = ltb-true _ _ some

  has_one : has_untaken ws (ranked ws i (first_rank ws i)) ≡ true
  unfolding first_rank
  has_one = (first_is 0 (members ws i) (λ q. has_untaken ws (ranked ws i q))).found (omega (arith, rank_inside))

  pub here_segment : given_segment ws i < segments ws
  unfolding given_segment
  here_segment = rw some (ranked_member ws sound i (first_rank ws i) c rank_inside).below

  pub here_rank : given_rank ws i < 64
  unfolding given_rank
  here_rank = rw some (omega (arith, rank_inside, members_le ws i, sound.size.few))

  pub here_index : given_index ws i < blocks i
  unfolding given_index has_untaken
  here_index =
      rw some
      (omega (
        arith,
        ltb-true (first_untaken ws (ranked ws i (first_rank ws i))) (blocks (class ws (ranked ws i (first_rank ws i)))) has_one,
        ap blocks (ranked_class ws sound i (first_rank ws i) c rank_inside),
      ))

-- block 0 of a pool segment
module _ (ws : List ℕ) (sound : Sound ws) (i : ℕ) (c : is_class i ≡ true) (none : class_has_untaken ws i ≡ false) (pool : has_pool ws ≡ true) where
  pub pool_segment : given_segment ws i < segments ws
  unfolding given_segment has_pool
  pool_segment = rw none (ltb-true _ _ pool)

  pub pool_rank : given_rank ws i ≤ 64
  unfolding given_rank
  pool_rank = rw none (omega (arith, members_le ws i, sound.size.few))

  pub pool_index : given_index ws i < blocks i
  unfolding given_index
  pool_index = rw none (blocks_bounds i c).0

-- ---- what is left is what document 01 says

allocated_is : (ws vs : List ℕ) (i : ℕ) (spot : Spot) (shape : Shape) → i ≡ class_of shape.n → Given ws i spot → joined ws i ≡ vs
    → taken_words vs (segments ws) i spot shape ≡ allocated ws shape.n shape.r shape.tag
unfolding allocated
allocated_is ws vs i spot shape e g same = rw (g.segment, g.rank, g.index, ← same) (ap left e)
  where
    left : ℕ → List ℕ
    left i =
        let with_block = put (joined ws i) (block_at (segments ws) (given_segment ws i) i (given_index ws i)) (given_block i shape) in
        put with_block (place_at i) (place_word (given_rank ws i) (given_index ws i + 1) ∷ [])

-- a sound arena has a word 0
pub has_head : (ws : List ℕ) → sound ws ≡ true → 0 < length ws
has_head ws t = omega (arith, (sound_facts ws t).size.long)

pub shape_class : (n i : ℕ) → n ≤ 1023 → i ≡ class_of n → is_class i ≡ true
shape_class n i small e = ap is_class e ∙ class_small n small

module _ (ws : List ℕ) (i : ℕ) (spot : Spot) (shape : Shape) (N : ℕ) (count : N ≡ segments ws) where
  -- a block of the class's own segments
  module _ (h : GiveHere ws i spot shape) where
    facts : Sound ws
    facts = sound_facts ws h.is_sound

    c : is_class i ≡ true
    c = shape_class shape.n i h.small h.class

    pub here_take : Take ws N i spot shape
    here_take = record {
      few = omega (arith, facts.size.few);
      long = facts.size.long ∙ ap arena_length (sym count);
      there = omega (arith, h.given.segment, here_segment ws facts i c h.some);
      low = (class_bounds i c).0;
      high = (class_bounds i c).1;
      ranked = omega (arith, h.given.rank, here_rank ws facts i c h.some);
      inside = omega (arith, h.given.index, here_index ws facts i c h.some);
      n_fits = omega (arith, h.small);
      r_fits = omega (arith, h.small, h.within);
    }

    pub here_is : (us : List ℕ) → us ≡ taken_words ws N i spot shape → us ≡ allocated ws shape.n shape.r shape.tag
    unfolding joined
    here_is us e =
        e ∙ rw count
        (allocated_is ws ws i spot shape h.class h.given
        (ap (λ (t : Bool). cond t ws (put ws (record_at (first_pool ws)) (record_words i (members ws i) 0 (λ k. false)))) h.some))

  -- block 0 of a pool segment, whose record has been written
  module _ (h : GiveJoining ws i spot shape) where
    facts_joining : Sound ws
    facts_joining = sound_facts ws h.is_sound

    c_joining : is_class i ≡ true
    c_joining = shape_class shape.n i h.small h.class

    pub joining_join : Join ws spot.segment i spot.rank
    joining_join = record {
      few = facts_joining.size.few;
      long = facts_joining.size.long;
      there = omega (arith, h.given.segment, pool_segment ws facts_joining i c_joining h.none h.pool);
      class = c_joining;
      ranked = omega (arith, h.given.rank, pool_rank ws facts_joining i c_joining h.none h.pool);
    }

    module _ (vs : List ℕ) (joins : vs ≡ put ws (record_at spot.segment) (record_words i spot.rank 0 (λ k. false))) where
      pub joining_take : Take vs N i spot shape
      joining_take = record {
        few = omega (arith, facts_joining.size.few);
        long = ap length joins
            ∙ length_put ws (record_at spot.segment) (record_words i spot.rank 0 (λ k. false))
            (omega (arith, record_length (record_head i spot.rank 0) i (λ k. false), joining_join.long, joining_join.there))
            ∙ facts_joining.size.long ∙ ap arena_length (sym count);
        there = omega (arith, joining_join.there);
        low = (class_bounds i c_joining).0;
        high = (class_bounds i c_joining).1;
        ranked = joining_join.ranked;
        inside = omega (arith, h.given.index, pool_index ws facts_joining i c_joining h.none h.pool);
        n_fits = omega (arith, h.small);
        r_fits = omega (arith, h.small, h.within);
      }

      pub joining_is : (us : List ℕ) → us ≡ taken_words vs N i spot shape → us ≡ allocated ws shape.n shape.r shape.tag
      unfolding joined given_segment given_rank
      joining_is us e =
          let segment : spot.segment ≡ first_pool ws = h.given.segment ∙ ap (λ (t : Bool). cond t (ranked ws i (first_rank ws i)) (first_pool ws)) h.none in
          let rank : spot.rank ≡ members ws i = h.given.rank ∙ ap (λ (t : Bool). cond t (first_rank ws i) (members ws i)) h.none in
          e ∙ rw count
          (allocated_is ws vs i spot shape h.class h.given
          (ap (λ (t : Bool). cond t ws (put ws (record_at (first_pool ws)) (record_words i (members ws i) 0 (λ k. false)))) h.none
          ∙ ap₂ (λ (s q : ℕ). put ws (record_at s) (record_words i q 0 (λ k. false))) (sym segment) (sym rank) ∙ sym joins))
