-- Room of a class by the taken row: the ones of a segment's 64 words are its taken blocks, and what is left of its blocks is untaken.
-- Assumes nothing.
use Prim.Native.Nat.{ℕ, zero, suc, ◌+◌, ◌-◌, ◌*◌, ◌^◌, ◌≤◌, ◌<◌}
use native.Mathlib.Nat.{add-sub_of_le}
use native.Mathlib.Omega.{arith}
use mathlib.Core.Bool.{Bool, not, cond}
use mathlib.Core.List.{List}
use mathlib.Core.Path.{◌≡◌, refl, sym, ap, ap₂, ◌∙◌}
use borrow.Author.Tests.{eq-eqb}
use Rattle.model.specs.Below.{count_below, sum_below}
use Rattle.model.specs.Word.{word, bit, part}
use Rattle.model.specs.Class.{blocks}
use Rattle.model.specs.Layout.{handle}
use Rattle.model.specs.View.{segments, class}
use Rattle.model.specs.Standing.{taken_at}
use Rattle.model.specs.Calls.{room}
use Rattle.laws.proofs.Below.{count_below_ext, count_below_add, count_below_none, count_below_not, count_below_le}
use Rattle.words.proofs.ClassLaws.{bounds_class, blocks_most}
use Rattle.words.proofs.OnesLaws.{ones_of_part}
use Rattle.soundness.proofs.Taken.{past_untaken}
use Rattle.arena.specs.Rows.{row_bit}
use Rattle.taken.specs.Row.{TakenRow}
use Rattle.taken.proofs.RowLaws.{is_taken_at, row_bit_taken}
use Rattle.std.specs.List.{range_with_len}
use Rattle.std.proofs.lemmas.List.FromFn.{sum_by-map-range_with_len_more}
use Rattle.std.proofs.Common.{sum, map, add-one}
use Rattle.std.proofs.lemmas.Bool.Decides.{nat_tests}
use lib.ListN.{length}
use Rattle.drawing.specs.Rooms.{room_in}

-- ---- the words of a segment

-- bit k of segment s
abbrev pub segment_bit : List ℕ → ℕ → ℕ → Bool
segment_bit row s k = row_bit row (handle s k)

-- the ones of its 64 words
pub count_words : (row : List ℕ) (s : ℕ) → 1 + 64 * s + 64 ≤ length row
    → sum_below (length (part row (1 + 64 * s) 64)) (λ j. count_below 32 (bit (word (part row (1 + 64 * s) 64) j))) ≡ count_below 2048 (segment_bit row s)
count_words row s h =
    ones_of_part row (1 + 64 * s) 64 (segment_bit row s) h (λ j b u l. ap₂ (λ (p b : ℕ). bit (word row p) b) (omega arith) (omega arith))

-- ---- untaken blocks

module _ (ws row : List ℕ) (s i : ℕ) (t : TakenRow ws row) (there : s < segments ws) (low : 3 ≤ i) (high : i ≤ 12) (own : class ws s ≡ i) where
  most : blocks i ≤ 2048
  most = blocks_most i (bounds_class i low high)

  at : (k : ℕ) → handle s k ≡ 2048 * s + k + 1
  at k = omega arith

  -- past the class's blocks no bit is set
  ones_taken : count_below 2048 (segment_bit row s) ≡ count_below (blocks i) (taken_at ws s)
  ones_taken =
      count_below_ext 2048 (segment_bit row s) (taken_at ws s)
      (λ k l. ap (row_bit row) (at k) ∙ row_bit_taken t (2048 * s + k) (omega arith) ∙ is_taken_at ws (2048 * s + k) ∙ ap₂ (taken_at ws) (omega arith) (omega arith))
      ∙ ap (λ (n : ℕ). count_below n (taken_at ws s)) (sym (add-sub_of_le most))
      ∙ count_below_add (blocks i) (2048 - blocks i) (taken_at ws s)
      ∙ omega (
        arith,
        count_below_none (2048 - blocks i) (λ k. taken_at ws s (blocks i + k)) (λ k _. past_untaken ws s (blocks i + k) (omega (arith, ap blocks own))),
      )

  pub ones_within : count_below 2048 (segment_bit row s) ≤ blocks i
  ones_within = omega (arith, ones_taken, count_below_le (blocks i) (taken_at ws s))

  pub own_room : blocks i - count_below 2048 (segment_bit row s) ≡ room_in ws i s
  own_room =
      omega (arith, ones_taken, count_below_not (blocks i) (taken_at ws s))
      ∙ ap (λ (t : Bool). cond t (count_below (blocks i) (λ k. not (taken_at ws s k))) 0) (sym (eq-eqb (class ws s) i own))

-- ---- the segments together

room_most : (ws : List ℕ) (i s : ℕ) → 3 ≤ i → i ≤ 12 → room_in ws i s ≤ 2048
room_most ws i s low high =
    let few = count_below_le (blocks i) (λ k. not (taken_at ws s k)) in
    let most = blocks_most i (bounds_class i low high) in
    grind (arith, nat_tests)

module _ (ws : List ℕ) (i : ℕ) (low : 3 ≤ i) (high : i ≤ 12) where
  all_rooms : (n : ℕ) → sum (map (room_in ws i) (range_with_len 0 n)) ≡ sum_below n (room_in ws i)
  unfolding sum_below
  all_rooms zero = refl
  all_rooms (suc n) =
      ap (λ (m : ℕ). sum (map (room_in ws i) (range_with_len 0 m))) (sym (add-one n))
      ∙ sum_by-map-range_with_len_more (λ x. x) (room_in ws i) 0 n n (omega arith)
      ∙ ap (λ (r : ℕ). r + room_in ws i n) (all_rooms n)

  few_rooms : (n : ℕ) → sum_below n (room_in ws i) ≤ 2048 * n
  unfolding sum_below
  few_rooms zero = omega arith
  few_rooms (suc n) = omega (arith, few_rooms n, room_most ws i n low high)

  pub room_sum : sum (map (room_in ws i) (range_with_len 0 (segments ws))) ≡ room ws i
  unfolding room
  room_sum = all_rooms (segments ws)

  pub room_few : segments ws ≤ 64 → sum (map (room_in ws i) (range_with_len 0 (segments ws))) < 2 ^ 32
  room_few few = omega (arith, all_rooms (segments ws), few_rooms (segments ws))
