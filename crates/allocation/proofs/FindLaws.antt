-- What the search finds is the block that document 01 says is given: by the ways out of the search.
-- Assumes nothing.
use Prim.Native.Nat.{ℕ, ◌+◌, ◌-◌, ◌≤◌, ◌<◌}
use mathlib.Core.Path.{◌≡◌, refl, sym, ap, ap₂, ◌∙◌}
use mathlib.Core.Bool.{Bool, true, false, not, cond}
use mathlib.Core.List.{List}
use native.Mathlib.Omega.{arith}
use lib.ListN.{length}
use Rattle.std.proofs.Common.{Option, Some, None}
use Rattle.std.specs.Option.{option_map}
use borrow.Author.Tests.{lt-ltb, le-ltb}
use Rattle.model.specs.Below.{first_from}
use Rattle.model.specs.Class.{blocks}
use Rattle.model.specs.View.{segments, place_rank, place_index, record_of, bit_in, class, bit_of, members, ranked}
use Rattle.model.specs.Sound.{levels_right, sound}
use Rattle.model.specs.Calls.{first_untaken, has_untaken, first_rank, class_has_untaken, first_pool, has_pool, given_segment, given_rank, given_index}
use Rattle.laws.proofs.Below.{up_to, first_is}
use Rattle.soundness.proofs.Facts.{Sound, sound_facts, record_length}
use Rattle.soundness.proofs.Ranks.{ranked_class, ranked_member}
use Rattle.arena.specs.Inside.{Segment}
use Rattle.records.specs.Judged.{Sized}
use Rattle.bitmap.specs.Tree.{FirstFree}
use Rattle.allocation.specs.Spots.{Whole, Search, FreeAt, FindsFree, Joining, Finds, below}
use Rattle.allocation.specs.declared.find.Spot.{Spot}
use Rattle.allocation.specs.declared.find.Found.TheVariants.{Here, Joins}
use Rattle.allocation.proofs.ChainLaws.{below_some, below_none}
use Rattle.allocation.proofs.FirstLaws.{none_earlier, first_at_place, first_behind, some_behind, has_at, segment_at, rank_at, index_at, has_none}

-- ---- what the search asks of the functions that it calls

pub whole : (ws : List ℕ) → sound ws ≡ true → Whole ws
whole ws t =
    let size = (sound_facts ws t).size in
    record { few = size.few; long = size.long }

pub members_asked : (ws : List ℕ) → sound ws ≡ true → Sized ws
members_asked ws t =
    let size = (sound_facts ws t).size in
    record { some = size.some; few = size.few; long = size.long }

pub joining_asked : (ws : List ℕ) (i m : ℕ) → Search ws i → m ≡ members ws i → class_has_untaken ws i ≡ false → Joining ws i m
joining_asked ws i m h e none =
    let size = whole ws h.is_sound in
    record { few = size.few; long = size.long; none = none; next = e }

-- the segment of a rank is one of the arena's, and its record is one in which a free block can be searched
pub ranked_there : (ws : List ℕ) (i q k : ℕ) → FreeAt ws i q k → ranked ws i q < segments ws
ranked_there ws i q k h = (ranked_member ws (sound_facts ws h.is_sound) i q h.class h.ranked).below

pub segment_ranked : (ws : List ℕ) (i q k s : ℕ) → FreeAt ws i q k → s ≡ ranked ws i q → Segment ws s
segment_ranked ws i q k s h e =
    let size = whole ws h.is_sound in
    record { few = size.few; long = size.long; there = omega (arith, e, ranked_there ws i q k h) }

pub free_asked : (ws : List ℕ) (i q k s : ℕ) (rec : List ℕ) → FreeAt ws i q k → s ≡ ranked ws i q → rec ≡ record_of ws s → FirstFree rec i k
free_asked ws i q k s rec h e same =
    let facts = sound_facts ws h.is_sound in
    let m = ranked_member ws facts i q h.class h.ranked in
    let is : rec ≡ record_of ws (ranked ws i q) = same ∙ ap (record_of ws) e in
    record {
      long = ap length is ∙ record_length ws facts.size (ranked ws i q) m.below;
      class = h.class;
      right =
          ap₂ levels_right (sym (ranked_class ws facts i q h.class h.ranked)) is
          ∙ facts.levelled (ranked ws i q) m;
      inside = h.inside;
    }

-- and what is found in it is found in the segment
pub free_is : (ws : List ℕ) (i q k s : ℕ) (rec : List ℕ) (r : ℕ) → s ≡ ranked ws i q → rec ≡ record_of ws s
    → r ≡ first_from k (blocks i - k) (λ j. not (bit_in rec j)) → r ≡ first_from k (blocks i - k) (λ j. not (bit_of ws (ranked ws i q) j))
free_is ws i q k s rec r e same is = rw (← e, ← same) is

-- short of the number of blocks it is one of them
pub free_inside : (i k r : ℕ) (p : ℕ → Bool) → k ≤ blocks i → r ≡ first_from k (blocks i - k) p → (r ≡ blocks i → ⊥) → r < blocks i
free_inside i k r p inside e short = omega (arith, e, (first_is k (blocks i - k) p).within, short)

pub free_none : (ws : List ℕ) (i q k : ℕ) (found : Option Spot) → FindsFree ws i q k found → ((spot : Spot) → found ≡ Some spot → ⊥) → FindsFree ws i q k None
free_none ws i q k None h none = h
free_none ws i q k (Some spot) h none = absurd (none spot refl)

-- ---- a class without segments

pub none_unused : (ws : List ℕ) (i : ℕ) → Search ws i → members ws i ≡ 0 → class_has_untaken ws i ≡ false
none_unused ws i h e = has_none ws (sound_facts ws h.is_sound) i h.class (λ q l. absurd (omega arith))

-- ---- a class with segments, in which the search begins at the place

-- the class has segments, and q and k are the rank and the index of its place
pub record AtPlace (ws : List ℕ) (i q k : ℕ) : Type 0 where
  pub search : Search ws i
  pub some : 0 < members ws i
  pub rank : q ≡ place_rank ws i
  pub index : k ≡ place_index ws i

module _ {ws : List ℕ} {i q k : ℕ} (h : AtPlace ws i q k) where
  facts : Sound ws
  facts = sound_facts ws h.search.is_sound

  -- the place is in the segment of a rank of the class
  pub place_ranked : place_rank ws i < members ws i
  place_ranked = (facts.placed i h.search.class).used h.some

  pub at_asked : FreeAt ws i q k
  at_asked = record {
    is_sound = h.search.is_sound;
    class = h.search.class;
    ranked = omega (arith, h.rank, place_ranked);
    inside = omega (arith, h.index, (facts.placed i h.search.class).index);
  }

  before_place : (j : ℕ) → j < q → has_untaken ws (ranked ws i j) ≡ false
  before_place j l = none_earlier ws facts i h.search.class j (omega (arith, at_asked.ranked)) (omega (arith, h.rank))

  -- what the search at or after the place finds is the first untaken block of the place's segment, if it has one
  first : first_untaken ws (ranked ws i q) ≡ first_from k (blocks i - k) (λ j. not (bit_of ws (ranked ws i q) j))
  first = rw (h.rank, h.index) (first_at_place ws facts i h.search.class place_ranked)

  pub found_here : {here : Spot} → FindsFree ws i q k (Some here) → Finds ws i (Some (Here here))
  found_here (free, inside) =
      let low : first_untaken ws (ranked ws i q) < blocks i = omega (arith, first, free.index) in (
        has_at ws facts i h.search.class q at_asked.ranked before_place low,
        record {
          segment = free.segment ∙ sym (segment_at ws facts i h.search.class q at_asked.ranked before_place low);
          rank = free.rank ∙ sym (rank_at ws facts i h.search.class q at_asked.ranked before_place low);
          index = free.index ∙ sym first ∙ sym (index_at ws facts i h.search.class q at_asked.ranked before_place low);
        },
      )

  -- if it has none, every block up to its rank is taken
  module _ (none : FindsFree ws i q k None) where
    taken_here : has_untaken ws (ranked ws i q) ≡ false
    unfolding has_untaken
    taken_here =
        le-ltb (first_untaken ws (ranked ws i q)) (blocks (class ws (ranked ws i q)))
        (omega (arith, first, none, ap blocks (ranked_class ws facts i q h.search.class at_asked.ranked)))

    taken_up_to : (j : ℕ) → j < q + 1 → has_untaken ws (ranked ws i j) ≡ false
    taken_up_to j l = up_to (λ (j : ℕ). has_untaken ws (ranked ws i j) ≡ false) taken_here before_place j (omega arith)

    -- then the segment behind it has one
    pub found_next : (next : Option Spot) → q + 1 < members ws i → FindsFree ws i (q + 1) 0 next → Finds ws i (option_map Here next)
    found_next next l = go next (some_behind ws facts i h.search.class (q + 1) l behind)
      where
        behind : place_rank ws i < q + 1
        behind = omega (arith, h.rank)

        go : (next : Option Spot) → first_untaken ws (ranked ws i (q + 1)) < blocks i → FindsFree ws i (q + 1) 0 next → Finds ws i (option_map Here next)
        go None low full = absurd (omega (arith, full, first_behind ws facts i h.search.class (q + 1) l behind))
        go (Some next) low (free, inside) = (
          has_at ws facts i h.search.class (q + 1) l taken_up_to low,
          record {
            segment = free.segment ∙ sym (segment_at ws facts i h.search.class (q + 1) l taken_up_to low);
            rank = free.rank ∙ sym (rank_at ws facts i h.search.class (q + 1) l taken_up_to low);
            index =
                free.index ∙ sym (first_behind ws facts i h.search.class (q + 1) l behind)
                ∙ sym (index_at ws facts i h.search.class (q + 1) l taken_up_to low);
          },
        )

    -- and where there is no segment behind it the class has none
    pub none_left : members ws i ≤ q + 1 → class_has_untaken ws i ≡ false
    none_left l = has_none ws facts i h.search.class (λ j u. taken_up_to j (omega arith))

-- ---- the pool

-- a pool segment
pub pool_joins : (ws : List ℕ) (i q : ℕ) (spot : Spot) → Joining ws i q → below (segments ws) (first_pool ws) ≡ Some spot.segment → spot.rank ≡ q
    → spot.index.0 ≡ 0 → Finds ws i (Some (Joins spot))
unfolding has_pool given_segment given_rank given_index
pool_joins ws i q spot j found er ek =
    let (es, there) = below_some found in (
      j.none,
      lt-ltb (first_pool ws) (segments ws) there,
      record {
        segment = es ∙ sym (ap (λ (t : Bool). cond t (ranked ws i (first_rank ws i)) (first_pool ws)) j.none);
        rank = er ∙ j.next ∙ sym (ap (λ (t : Bool). cond t (first_rank ws i) (members ws i)) j.none);
        index = ek ∙ sym (ap (λ (t : Bool). cond t (first_untaken ws (ranked ws i (first_rank ws i))) 0) j.none);
      },
    )

pub pool_empty : (ws : List ℕ) (i q : ℕ) → Joining ws i q → below (segments ws) (first_pool ws) ≡ None → Finds ws i None
unfolding has_pool
pool_empty ws i q j found = (j.none, le-ltb (first_pool ws) (segments ws) (below_none found))
