-- What the judge of a clause asks, which the clauses before it have shown; what each clause asks of one segment or class; and all clauses of
-- a sound arena but the last as one test.
-- Assumes nothing.
use Rattle.std.specs.Prelude.{ℕ, ◌≤◌, ◌<◌, ◌≡◌, Bool, true, false, not, ◌&&◌, ◌||◌, List, length, eqb, leb, ltb}
use Rattle.model.specs.Below.{all_below, count_below}
use Rattle.model.specs.Word.{word, unnamed}
use Rattle.model.specs.Class.{is_class, blocks}
use Rattle.model.specs.Layout.{arena_length, place_at}
use Rattle.model.specs.View.{segments, place_rank, record_of, class, rank, count, bit_of, members}
use Rattle.model.specs.Standing.{in_pool}
use Rattle.model.specs.Sound.{sized, unnamed_zero, classes, ranks, levels_right, levels, counts, behind, places}

-- ---- what is asked

-- the arena is sized
pub record Sized (ws : List ℕ) : Type 0 where
  pub some : 1 ≤ segments ws
  pub few : segments ws ≤ 64
  pub long : length ws ≡ arena_length (segments ws)

-- the same of one segment
pub record Member (ws : List ℕ) (s : ℕ) : Type 0 where
  pub few : segments ws ≤ 64
  pub long : length ws ≡ arena_length (segments ws)
  pub there : s < segments ws
  pub classed : in_pool ws s ≡ false → is_class (class ws s) ≡ true

-- a sized arena, and one of the ten classes
pub record SizedClass (ws : List ℕ) (i : ℕ) : Type 0 where
  pub some : 1 ≤ segments ws
  pub few : segments ws ≤ 64
  pub long : length ws ≡ arena_length (segments ws)
  pub low : 3 ≤ i
  pub high : i ≤ 12

-- ---- of one segment or class

-- what a place or the head of a record holds behind its named bits is 0
abbrev pub place_named : List ℕ → ℕ → Bool
place_named ws i = eqb (unnamed 20 (word ws (place_at i))) 0

abbrev pub head_named : List ℕ → ℕ → Bool
head_named ws s = eqb (unnamed 24 (word (record_of ws s) 0)) 0

-- a segment has a class, or it is in the pool and its whole record is 0
abbrev pub segment_classed : List ℕ → ℕ → Bool
segment_classed ws s =
    (in_pool ws s || is_class (class ws s)) && (not (in_pool ws s) || all_below 68 (λ j. eqb (word (record_of ws s) j) 0))

-- segment s is of class i; it has rank q there
abbrev pub has_class : List ℕ → ℕ → ℕ → Bool
has_class ws i s = eqb (class ws s) i

abbrev pub has_rank : List ℕ → ℕ → ℕ → ℕ → Bool
has_rank ws i q s = has_class ws i s && eqb (rank ws s) q

-- how many segments of class i have rank q
abbrev pub holders : List ℕ → ℕ → ℕ → ℕ
holders ws i q = count_below (segments ws) (has_rank ws i q)

-- the m segments of class i have the ranks 0 to m - 1, each once
abbrev pub class_ranked : List ℕ → ℕ → Bool
class_ranked ws i = all_below (members ws i) (λ q. eqb (holders ws i q) 1)

-- a segment that is not in the pool has right levels; it counts its set bits; if it is ranked behind the place, it is not full
abbrev pub member_levels : List ℕ → ℕ → Bool
member_levels ws s = in_pool ws s || levels_right (class ws s) (record_of ws s)

abbrev pub member_counts : List ℕ → ℕ → Bool
member_counts ws s = in_pool ws s || eqb (count ws s) (count_below (blocks (class ws s)) (bit_of ws s))

abbrev pub member_behind : List ℕ → ℕ → Bool
member_behind ws s = in_pool ws s || (leb (rank ws s) (place_rank ws (class ws s)) || ltb (count ws s) (blocks (class ws s)))

-- "With m = 0 the place is (0, 0); otherwise its rank is below m and its index is at most the number of blocks."
abbrev pub allowed : ℕ → ℕ → ℕ → ℕ → Bool
allowed m rank index blocks = (eqb m 0 && (eqb rank 0 && eqb index 0)) || (ltb rank m && leb index blocks)

-- all of a sound arena but that its taken blocks are right
unfoldable pub records_sound : List ℕ → Bool
records_sound ws =
    sized ws && (unnamed_zero ws && (classes ws && (ranks ws && (levels ws && (counts ws && (behind ws && places ws))))))
