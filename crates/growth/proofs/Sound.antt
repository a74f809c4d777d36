-- A granted allocation keeps the arena sound: the given block's n has the segment's class, its r is not above n and its references are all 0, and
-- every other clause holds as before, or of the fresh record of a segment that joined.
-- Assumes nothing.
use Prim.Native.Nat.{ℕ, suc, ◌+◌, ◌-◌, ◌≤◌, ◌<◌}
use mathlib.Core.Path.{◌≡◌, refl, ap, ◌∙◌}
use mathlib.Core.Bool.{true}
use mathlib.Core.List.{List}
use native.Mathlib.Omega.{arith}
use lib.ListN.{get_or-replicate}
use Rattle.model.specs.Word.{word}
use Rattle.model.specs.Class.{block_words, class_of}
use Rattle.model.specs.View.{n_in, r_in, reference_in}
use Rattle.model.specs.Standing.{none_or_taken}
use Rattle.model.specs.Sound.{sound}
use Rattle.model.specs.Calls.{given_segment, given_rank, given_index, joined, allocated, allocate_refusal}
use Rattle.model.specs.Numbers.{granted}
use Rattle.words.proofs.ClassLaws.{class_room}
use Rattle.words.proofs.FieldLaws.{header_word_n, header_word_r}
use Rattle.soundness.proofs.Facts.{Right, Sound, facts_sound}
use Rattle.soundness.proofs.Taken.{none_zero}
use Rattle.growth.proofs.Giving.{sound_gave}
use Rattle.growth.proofs.After.{Grant, granted_facts, block_given, class_right, made_ready, gave_block}

-- ---- the given block's words

module _ (n r tag : ℕ) (small : n ≤ 1023) (within : r ≤ n) (byte : tag < 256) where
  pub block_given_n : n_in (block_given n r tag) ≡ n
  block_given_n = header_word_n n r tag (omega arith) (omega arith) byte

  pub block_given_r : r_in (block_given n r tag) ≡ r
  block_given_r = header_word_r n r tag (omega arith) (omega arith) byte

  -- behind the header all are 0
  pub block_given_zero : (f : ℕ) → f < r → reference_in (block_given n r tag) f ≡ 0
  block_given_zero f l =
      let at : 1 + f ≡ suc f = omega arith in
      ap (word (block_given n r tag)) at
      ∙ get_or-replicate (block_words (class_of n) - 1) f 0 0 (omega (arith, class_room n (class_of n) refl))

  -- so it is right in any arena
  pub block_given_right : (ws : List ℕ) → Right ws (class_of n) (block_given n r tag)
  block_given_right ws = record {
    fits = ap class_of block_given_n;
    within = omega (arith, block_given_n, block_given_r);
    references = λ f l. ap (none_or_taken ws) (block_given_zero f (omega (arith, block_given_r))) ∙ none_zero ws;
  }

-- ---- the arena after it

pub sound_after : (ws : List ℕ) (n r tag : ℕ) → Grant ws n r tag → Sound (allocated ws n r tag)
sound_after ws n r tag g =
    sound_gave (allocated ws n r tag) (joined ws (class_of n)) (class_of n) (given_segment ws (class_of n)) (given_rank ws (class_of n))
    (given_index ws (class_of n)) (block_given n r tag) (made_ready ws n r tag g).sound_ready (class_right ws n r tag g) (made_ready ws n r tag g).first
    (gave_block ws n r tag g) (block_given_right n r tag g.small g.within g.byte (joined ws (class_of n)))

pub allocated_sound : (ws : List ℕ) (n r tag : ℕ) → Grant ws n r tag → sound (allocated ws n r tag) ≡ true
allocated_sound ws n r tag g = facts_sound (allocated ws n r tag) (sound_after ws n r tag g)

pub granted_sound : (ws : List ℕ) (n r tag : ℕ) → tag < 256 → allocate_refusal ws n r ≡ granted → sound (allocated ws n r tag) ≡ true
granted_sound ws n r tag byte e = allocated_sound ws n r tag (granted_facts ws n r tag byte e)
