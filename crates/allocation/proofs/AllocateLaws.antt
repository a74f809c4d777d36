-- What is found and given is what document 01 promises of allocate behind refusals 2 and 3.
-- Assumes nothing.
use Prim.Native.Nat.{ℕ, ◌<◌}
use mathlib.Core.Path.{◌≡◌, sym, ap, ap₂, ◌∙◌, subst}
use mathlib.Core.Bool.{true, false, ◌||◌}
use mathlib.Core.List.{List, [], ◌∷◌}
use native.Mathlib.Omega.{arith}
use Rattle.std.proofs.Common.{Option, Some, None, Err}
use borrow.Author.Tests.{le-ltb}
use Rattle.model.specs.Class.{is_class, class_of}
use Rattle.model.specs.Layout.{handle}
use Rattle.model.specs.Calls.{class_has_untaken, has_pool, given_segment, given_index, allocated, allocate_refusal, Allocate}
use Rattle.model.specs.Numbers.{Allocated, paper, allocated_paper}
use Rattle.model.specs.declared.Refusal.TheVariants.{NoRoom as no_room}
use Rattle.words.proofs.ClassLaws.{blocks_most}
use Rattle.soundness.proofs.Tests.{or_left, or_right, or_fails}
use Rattle.soundness.proofs.Facts.{Sound, sound_facts}
use Rattle.allocation.specs.declared.find.Spot.{Spot}
use Rattle.allocation.specs.declared.find.Found.{Found}
use Rattle.allocation.specs.declared.find.Found.TheVariants.{Here, Joins}
use Rattle.allocation.specs.Spots.{Search, Given, Finds}
use Rattle.allocation.specs.Gifts.{Allowed}
use Rattle.allocation.proofs.GiveLaws.{shape_class, here_segment, here_index, pool_segment, pool_index}

-- ---- the refusal that applies

module _ (ws : List ℕ) (n r : ℕ) (h : Allowed ws n r) where
  granted : (class_has_untaken ws (class_of n) || has_pool ws) ≡ true → allocate_refusal ws n r ≡ 0
  unfolding allocate_refusal
  granted t = simp (h.is_sound, le-ltb 1023 n h.small, le-ltb n r h.within, t)

  refused : (class_has_untaken ws (class_of n) || has_pool ws) ≡ false → allocate_refusal ws n r ≡ 4
  unfolding allocate_refusal
  refused t = simp (h.is_sound, le-ltb 1023 n h.small, le-ltb n r h.within, t)

  -- and the outcome then
  given_outcome : (tag : ℕ) (a : Allocated) (ws' : List ℕ) → (class_has_untaken ws (class_of n) || has_pool ws) ≡ true
      → allocated_paper a ≡ paper 0 (handle (given_segment ws (class_of n)) (given_index ws (class_of n)) ∷ []) → ws' ≡ allocated ws n r tag
      → Allocate ws n r tag a ws'
  given_outcome tag a ws' t told ew = record {
    answered = rw (granted t) told;
    words = rw (granted t) ew;
  }

  none_outcome : (tag : ℕ) → (class_has_untaken ws (class_of n) || has_pool ws) ≡ false → Allocate ws n r tag (Err no_room) ws
  none_outcome tag t = record { answered = rw (refused t); words = rw (refused t) }

-- ---- what the search asks

pub search_asked : {ws : List ℕ} {n r i : ℕ} → Allowed ws n r → i ≡ class_of n → Search ws i
search_asked {ws} {n} {r} {i} h e = record { is_sound = h.is_sound; class = shape_class n i h.small e }

-- ---- what it found

-- for a shape of class i
pub record Searched (ws : List ℕ) (n r i : ℕ) (found : Option Found) : Type 0 where
  pub allowed : Allowed ws n r
  pub class : i ≡ class_of n
  pub finds : Finds ws i found

module _ {ws : List ℕ} {n r i : ℕ} {found : Option Found} (s : Searched ws n r i found) where
  facts : Sound ws
  facts = sound_facts ws s.allowed.is_sound

  class_is : is_class i ≡ true
  class_is = shape_class n i s.allowed.small s.class

  -- the class has an untaken block as that of n has one
  same_has : class_has_untaken ws (class_of n) ≡ class_has_untaken ws i
  same_has = ap (class_has_untaken ws) (sym s.class)

  -- the answer that gives a block
  told_is : (spot : Spot) (a : Allocated) → Given ws i spot → allocated_paper a ≡ paper 0 (handle spot.segment spot.index.0 ∷ [])
      → allocated_paper a ≡ paper 0 (handle (given_segment ws (class_of n)) (given_index ws (class_of n)) ∷ [])
  told_is spot a given told =
      told
      ∙ ap (λ (h : ℕ). paper 0 (h ∷ [])) (ap₂ handle (given.segment ∙ ap (given_segment ws) s.class) (given.index ∙ ap (given_index ws) s.class))

  -- an untaken block of the class's own segments
  module _ {spot : Spot} (is : found ≡ Some (Here spot)) where
    here : (class_has_untaken ws i ≡ true) × Given ws i spot
    here = subst (Finds ws i) is s.finds

    pub handle_asked : (spot.segment < 64) × (spot.index.0 < 2048)
    handle_asked = (
      omega (arith, here.1.segment, here_segment ws facts i class_is here.0, facts.size.few),
      omega (arith, here.1.index, here_index ws facts i class_is here.0, blocks_most i class_is),
    )

    pub given_here : (tag : ℕ) (a : Allocated) {ws' : List ℕ} → allocated_paper a ≡ paper 0 (handle spot.segment spot.index.0 ∷ [])
        → ws' ≡ allocated ws n r tag → Allocate ws n r tag a ws'
    given_here tag a {ws'} told ew =
        given_outcome ws n r s.allowed tag a ws' (or_left (class_has_untaken ws (class_of n)) (has_pool ws) (same_has ∙ here.0))
        (told_is spot a here.1 told) ew

  -- block 0 of a pool segment that joins
  module _ {spot : Spot} (is : found ≡ Some (Joins spot)) where
    joins : (class_has_untaken ws i ≡ false) × (has_pool ws ≡ true) × Given ws i spot
    joins = subst (Finds ws i) is s.finds

    pub joining_handle_asked : (spot.segment < 64) × (spot.index.0 < 2048)
    joining_handle_asked = (
      omega (arith, joins.2.segment, pool_segment ws facts i class_is joins.0 joins.1, facts.size.few),
      omega (arith, joins.2.index, pool_index ws facts i class_is joins.0 joins.1, blocks_most i class_is),
    )

    pub given_joining : (tag : ℕ) (a : Allocated) {ws' : List ℕ} → allocated_paper a ≡ paper 0 (handle spot.segment spot.index.0 ∷ [])
        → ws' ≡ allocated ws n r tag → Allocate ws n r tag a ws'
    given_joining tag a {ws'} told ew =
        given_outcome ws n r s.allowed tag a ws' (or_right (class_has_untaken ws (class_of n)) (has_pool ws) joins.1)
        (told_is spot a joins.2 told) ew

  -- neither
  pub none_given : (tag : ℕ) → found ≡ None → Allocate ws n r tag (Err no_room) ws
  none_given tag is =
      let none : (class_has_untaken ws i ≡ false) × (has_pool ws ≡ false) = subst (Finds ws i) is s.finds in
      none_outcome ws n r s.allowed tag (or_fails (class_has_untaken ws (class_of n)) (has_pool ws) (same_has ∙ none.0) none.1)
