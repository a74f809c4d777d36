-- The marks of a segment: they are those of its blocks in the row, and the ones of their words are its live blocks.
-- Assumes nothing.
use Prim.Native.Nat.{ℕ, ◌+◌, ◌-◌, ◌*◌, ◌/◌, ◌%◌, ◌≤◌, ◌<◌}
use mathlib.Core.Path.{◌≡◌, sym, ap, ◌∙◌}
use mathlib.Core.Bool.{Bool, true, false, ◌||◌}
use mathlib.Core.List.{List}
use native.Mathlib.Omega.{arith}
use native.Mathlib.Nat.{add-sub_of_le}
use lib.ListN.{length}
use borrow.Author.Tests.{ne_eqb}
use Rattle.model.specs.Below.{count_below, sum_below}
use Rattle.model.specs.Word.{word, bit}
use Rattle.model.specs.Class.{blocks}
use Rattle.model.specs.Layout.{handle}
use Rattle.model.specs.View.{segments, class}
use Rattle.model.specs.Standing.{in_pool}
use Rattle.model.specs.Ways.{listed}
use Rattle.model.specs.Calls.{live}
use Rattle.laws.proofs.Below.{count_below_ext, count_below_add, count_below_le, count_below_none}
use Rattle.laws.proofs.Splice.{length_part, word_part}
use Rattle.words.proofs.ClassLaws.{blocks_most}
use Rattle.words.proofs.OnesLaws.{ones_are}
use Rattle.arena.specs.Rows.{row_bit, Marked}
use Rattle.arena.proofs.RowLaws.{row_bit_block}
use Rattle.soundness.proofs.Tests.{not_passed}
use Rattle.soundness.proofs.Facts.{sound_facts, taken_block}
use Rattle.soundness.proofs.Taken.{is_taken_handle}
use Rattle.ranking.specs.Anew.{Reached}
use Rattle.ranking.specs.Live.{marks_of, mark_in, live_in}

-- ---- the ones of 64 words

pub live_ones : (marks : List ℕ) (s : ℕ) → 1 + 64 * s + 64 ≤ length marks
    → sum_below (length (marks_of marks s)) (λ j. count_below 32 (bit (word (marks_of marks s) j))) ≡ live_in marks s
unfolding live_in
live_ones marks s h =
    ones_are m 64 (mark_in m) (length_part marks (1 + 64 * s) 64 h) (λ j b u l. same j b l)
  where
    m : List ℕ
    m = marks_of marks s

    same : (j b : ℕ) → b < 32 → bit (word m j) b ≡ mark_in m (j * 32 + b)
    same j b h =
        let own : (j * 32 + b) / 32 ≡ j = omega arith in
        let place : (j * 32 + b) % 32 ≡ b = omega arith in
        rw (own, place)

pub live_in_le : (marks : List ℕ) (s : ℕ) → live_in marks s ≤ 2048
unfolding live_in
live_in_le marks s = count_below_le 2048 (mark_in (marks_of marks s))

-- ---- the marks of a segment

mark_row : (marks : List ℕ) (s k : ℕ) → k < 2048 → mark_in (marks_of marks s) k ≡ row_bit marks (handle s k)
mark_row marks s k l = ap (λ (w : ℕ). bit w (k % 32)) (word_part marks (1 + 64 * s) 64 (k / 32) (omega arith)) ∙ sym (row_bit_block marks s k)

module _ (ws marks : List ℕ) (p : Reached ws marks) (s : ℕ) (l : s < segments ws) where
  -- they are of blocks alone
  pub mark_inside : (k : ℕ) → k < 2048 → mark_in (marks_of marks s) k ≡ true → k < blocks (class ws s)
  mark_inside k u t =
      let row : row_bit marks (handle s k) ≡ true = sym (mark_row marks s k u) ∙ t in
      (taken_block ws s k (sym (is_taken_handle ws s k u) ∙ p.taken (handle s k) (omega arith) (omega arith) row)).inside

  module _ (L : List ℕ) (m : Marked (segments ws) marks L) where
    -- and of listed ones
    pub mark_listed : (k : ℕ) → k < 2048 → mark_in (marks_of marks s) k ≡ listed L (handle s k)
    mark_listed k u =
        mark_row marks s k u ∙ m.at (handle s k) (omega arith) ∙ ap (λ (t : Bool). t || listed L (handle s k)) (ne_eqb (handle s k) 0 (omega arith))

    -- so a segment's marks are its live blocks
    pub live_is : in_pool ws s ≡ false → live_in marks s ≡ live ws L s
    unfolding live live_in
    live_is used =
        let b : ℕ = blocks (class ws s) in
        let test : ℕ → Bool = mark_in (marks_of marks s) in
        let most : b ≤ 2048 = blocks_most (class ws s) ((sound_facts ws p.is_sound).classed s (record { below = l; used = used })) in
        let behind : count_below (2048 - b) (λ k. test (b + k)) ≡ 0 =
        count_below_none (2048 - b) (λ k. test (b + k)) (λ k u. not_passed (test (b + k)) (λ t. omega (arith, mark_inside (b + k) (omega arith) t))) in
        omega (
          arith,
          ap (λ (x : ℕ). count_below x test) (sym (add-sub_of_le most)) ∙ count_below_add b (2048 - b) test,
          behind,
          count_below_ext b test (λ k. listed L (handle s k)) (λ k u. mark_listed k (omega arith)),
        )
