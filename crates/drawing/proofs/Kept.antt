-- A granted write keeps the arena sound, takes and frees no block, and leaves every other block's words. Assumes nothing.
use Prim.Native.Nat.{ℕ, ◌+◌, ◌-◌, ◌<◌}
use native.Mathlib.Omega.{arith}
use mathlib.Core.Bool.{true}
use mathlib.Core.List.{List, [], ◌∷◌}
use mathlib.Core.Logic.{◌≢◌}
use mathlib.Core.Path.{◌≡◌, ap, ◌∙◌}
use Rattle.std.proofs.lemmas.Bool.Decides.{nat_tests}
use Rattle.model.specs.Word.{put}
use Rattle.model.specs.Layout.{handle, segment_of, index_of}
use Rattle.model.specs.View.{block_of, block, n_in, r_in}
use Rattle.model.specs.Standing.{is_block, is_taken, none_or_taken, taken_count}
use Rattle.model.specs.Sound.{sound}
use Rattle.model.specs.Numbers.{Written, written_paper}
use Rattle.model.specs.Calls.{WriteReference, WritePlain}
use Rattle.words.proofs.HandleLaws.{handle_back}
use Rattle.soundness.proofs.Facts.{block_facts, sound_facts, facts_sound}
use Rattle.soundness.proofs.Taken.{handle_facts}
use Rattle.soundness.proofs.Views.{same_is_taken, same_taken_count}
use Rattle.soundness.proofs.Writes as writes
use Rattle.drawing.proofs.Outcomes.{number_is, words_granted}

-- word o of block h becomes v, and nothing else changes
pub record Kept (ws : List ℕ) (h o v : ℕ) (ws' : List ℕ) : Type 0 where
  pub still_sound : sound ws' ≡ true
  pub same_taken : (g : ℕ) → is_taken ws' g ≡ is_taken ws g
  pub same_count : taken_count ws' ≡ taken_count ws
  pub own : block ws' h ≡ put (block ws h) o (v ∷ [])
  pub others : (s k : ℕ) → is_block ws s k ≡ true → handle s k ≢ h → block_of ws' s k ≡ block_of ws s k

-- what soundness/Writes says of a word put into a block, in handles
kept : (ws : List ℕ) (h o v : ℕ) (ws' : List ℕ) → 0 < h → writes.Written ws' ws (segment_of h) (index_of h) o v → Kept ws h o v ws'
kept ws h o v ws' some w = record {
  still_sound = facts_sound ws' w.sound_after;
  same_taken = same_is_taken ws' ws w.front;
  same_count = same_taken_count ws' ws w.front;
  own = w.own;
  others = λ s k b apart.
      w.others s k (block_facts ws s k b)
      (λ es ek. apart (ap (λ (t : ℕ). handle t k) es ∙ ap (handle (segment_of h)) ek ∙ handle_back h some));
}

-- ---- the two writes

module _ (ws : List ℕ) (h f v : ℕ) (a : Written) (ws' : List ℕ) (granted : (written_paper a).number ≡ 0) where
  pub kept_reference : WriteReference ws h f v a ws' → Kept ws h (1 + f) v ws'
  kept_reference o =
      let none = number_is o in
      let s : sound ws ≡ true = grind (arith, nat_tests) in
      let t : is_taken ws h ≡ true = grind (arith, nat_tests) in
      let its : f < r_in (block ws h) = grind (arith, nat_tests) in
      let good : none_or_taken ws v ≡ true = grind (arith, nat_tests) in
      rw (words_granted o granted)
      (kept ws h (1 + f) v _ (handle_facts ws h t).positive (writes.written_reference ws (sound_facts ws s) h t f v its good))

  pub kept_plain : WritePlain ws h f v a ws' → Kept ws h (1 + r_in (block ws h) + f) v ws'
  kept_plain o =
      let none = number_is o in
      let s : sound ws ≡ true = grind (arith, nat_tests) in
      let t : is_taken ws h ≡ true = grind (arith, nat_tests) in
      let its : f < n_in (block ws h) - r_in (block ws h) = grind (arith, nat_tests) in
      rw (words_granted o granted)
      (kept ws h (1 + r_in (block ws h) + f) v _ (handle_facts ws h t).positive (writes.written_plain ws (sound_facts ws s) h t f v its))
