-- What a granted collection comes to, in the words of demands 2 and 3. Assumes nothing.
use Prim.Native.Nat.{ℕ, ◌≤◌, ◌<◌}
use native.Mathlib.Omega.{arith}
use native.Mathlib.Decide.{dec_lt}
use mathlib.Core.Path.{◌≡◌, refl, sym, ap, ◌∙◌}
use mathlib.Core.Logic.{◌≢◌, ◌↔◌, ◌⊎◌, inl, inr}
use mathlib.Core.Bool.{Bool, true, false, not}
use mathlib.Core.List.{List}
use lib.ListN.{length, get_or, take, get_or-eq_default}
use lib.Dec.{ltb}
use borrow.Author.Tests.{lt-ltb, not-false}
use Rattle.model.specs.Below.{all_below}
use Rattle.model.specs.Layout.{handle, segment_of, index_of}
use Rattle.model.specs.View.{class, block, bit_of, r_in, reference_in}
use Rattle.model.specs.Standing.{is_taken, none_or_taken, taken_count, shape_in, shape_of}
use Rattle.model.specs.Sound.{sound}
use Rattle.model.specs.Numbers.{refuse}
use Rattle.model.specs.Ways.{step, Reachable, Listing, drawing, refers_in, listed}
use Rattle.model.specs.Calls.{collect_refusal, Granted, collected}
use Rattle.laws.proofs.Below.{all_below_at}
use Rattle.words.proofs.ClassLaws.{blocks_most}
use Rattle.soundness.proofs.Facts.{Sound, Block, sound_facts}
use Rattle.soundness.proofs.Taken.{none_or_taken_cases, handle_facts}
use Rattle.ways.proofs.Reach.{reachable_keeps, listed_reachable}
use Rattle.ways.proofs.Listing.{Alike, Agree, same_drawing}
use Rattle.ways.proofs.Arena.{drawing_bounded, taken_count_most}
use Rattle.kept.proofs.Kept.{Closed, is_taken_after, block_after, bit_after, collected_sound}

-- the roots of a granted collection: each 0 or a taken block
abbrev pub Rooted : List ℕ → List ℕ → Type 0
Rooted ws roots = (p : ℕ) → p < length roots → none_or_taken ws (get_or roots p 0) ≡ true

refers_is : (ws : List ℕ) (h f : ℕ) → is_taken ws h ≡ true → f < r_in (block ws h) → refers_in ws h f ≡ reference_in (block ws h) f
refers_is ws h f t l = rw (t, lt-ltb f (r_in (block ws h)) l)

module _ (ws roots : List ℕ) (was : Sound ws) (rooted : Rooted ws roots) where
  -- what is reachable is taken
  pub reachable_taken : (h : ℕ) → Reachable (drawing ws roots) h → is_taken ws h ≡ true
  reachable_taken = reachable_keeps (drawing ws roots) (drawing_bounded ws roots).nowhere (λ (h : ℕ). is_taken ws h ≡ true) from_root from_field
    where
      some : (h : ℕ) → h ≢ 0 → (h ≡ 0) ⊎ (is_taken ws h ≡ true) → is_taken ws h ≡ true
      some h e (inl z) = absurd (e z)
      some h e (inr t) = t

      from_root : (p : ℕ) → get_or roots p 0 ≢ 0 → is_taken ws (get_or roots p 0) ≡ true
      from_root p e = go (dec_lt p (length roots))
        where
          go : Dec (p < length roots) → is_taken ws (get_or roots p 0) ≡ true
          go (yes l) = some (get_or roots p 0) e (none_or_taken_cases ws (get_or roots p 0) (rooted p l))
          go (no l) = absurd (e (get_or-eq_default roots 0 (omega arith)))

      from_field : (h f : ℕ) → is_taken ws h ≡ true → refers_in ws h f ≢ 0 → is_taken ws (refers_in ws h f) ≡ true
      from_field h f t e = go (dec_lt f (r_in (block ws h)))
        where
          go : Dec (f < r_in (block ws h)) → is_taken ws (refers_in ws h f) ≡ true
          go (yes l) =
              some (refers_in ws h f) e
              (none_or_taken_cases ws (refers_in ws h f)
              (rw (refers_is ws h f t l) ((was.right (segment_of h) (index_of h) (handle_facts ws h t).taken).references f l)))
          go (no l) = absurd (e ((drawing_bounded ws roots).beyond h f (omega arith)))

  module _ (L : List ℕ) (listing : Listing (drawing ws roots) L) where
    -- the list of a collection is closed
    pub closed : Closed ws L
    closed = record {
      was_sound = was;
      were_taken = λ h e. reachable_taken h ((listed_reachable listing h).0 e);
      refers_inside = λ h f e l some.
          let r = (listed_reachable listing h).0 e in
          let t = reachable_taken h r in
          (listed_reachable listing (reference_in (block ws h) f)).1
          (some, (step r.1.0 f, ap (λ (g : ℕ). refers_in ws g f) r.1.1 ∙ refers_is ws h f t l));
    }

-- ---- a granted collection

-- its list, its arena, and what they rest on
pub record Collection (ws roots : List ℕ) (L ws' : List ℕ) : Type 0 where
  pub was : Sound ws
  pub rooted : Rooted ws roots
  pub listing : Listing (drawing ws roots) L
  pub arena : ws' ≡ collected ws L

module _ {ws roots L ws' : List ℕ} (c : Collection ws roots L ws') where
  pub its_list : Closed ws L
  its_list = closed ws roots c.was c.rooted L c.listing

  -- it leaves a sound arena
  pub leaves_sound : sound ws' ≡ true
  leaves_sound = rw c.arena (collected_sound ws L its_list)

  -- in which exactly the reachable blocks are taken
  pub taken_reachable : (h : ℕ) → (is_taken ws' h ≡ true) ↔ Reachable (drawing ws roots) h
  taken_reachable h = (
    λ t. (listed_reachable c.listing h).0 (sym (same h) ∙ t),
    λ r. same h ∙ (listed_reachable c.listing h).1 r,
  )
    where
      same : (h : ℕ) → is_taken ws' h ≡ listed L h
      same h = rw c.arena (is_taken_after ws L its_list h)

  -- a block's bit is set exactly if it is reachable
  pub bit_reachable : (s k : ℕ) → Block ws s k → (bit_of ws' s k ≡ true) ↔ Reachable (drawing ws roots) (handle s k)
  bit_reachable s k b = (
    λ t. (listed_reachable c.listing (handle s k)).0 (sym same ∙ t),
    λ r. same ∙ (listed_reachable c.listing (handle s k)).1 r,
  )
    where
      small : k < 2048
      small = omega (arith, b.inside, blocks_most (class ws s) (c.was.classed s b.member))

      same : bit_of ws' s k ≡ listed L (handle s k)
      same = rw c.arena (bit_after ws L its_list s k b small)

  -- and each has its words and its shape as before
  pub words_kept : (h : ℕ) → Reachable (drawing ws roots) h → block ws' h ≡ block ws h
  words_kept h r = rw c.arena (block_after ws L its_list h ((listed_reachable c.listing h).1 r))

  pub shape_kept : (h : ℕ) → Reachable (drawing ws roots) h → shape_of ws' h ≡ shape_of ws h
  shape_kept h r = ap shape_in (words_kept h r)

  -- the list is no longer than the taken blocks are many
  pub list_short : length L ≤ taken_count ws
  list_short = taken_count_most ws L c.listing.once (λ k l. reachable_taken ws roots c.was c.rooted (get_or L k 0) (c.listing.nothing_else k l))

-- two collections of the same drawing: the lists are equally long, and at each place stand blocks that the same ways reach
pub same_drawing_collected : {ws vs roots tops L M ws' vs' : List ℕ} → Collection ws roots L ws' → Collection vs tops M vs'
    → Alike (drawing ws roots) (drawing vs tops) → Agree (drawing ws roots) (drawing vs tops) L M
same_drawing_collected c d alike = same_drawing alike c.listing d.listing

-- where no refusal is given, no test for one holds
not_refused : (e : ℕ) (test : Bool) (higher : ℕ) → 0 < e → refuse e test higher ≡ 0 → (test ≡ false) × (higher ≡ 0)
not_refused e true higher some none = absurd (omega arith)
not_refused e false higher some none = (refl, none)

-- what collect's promise gives where it grants
pub granted_collection : {ws roots list ws' list' : List ℕ} {n : ℕ} → collect_refusal ws roots list ≡ 0 → Granted ws roots list n ws' list'
    → Collection ws roots (take n list') ws'
unfolding collect_refusal
granted_collection {ws} {roots} {list} none g =
    let roots_right = all_below (length roots) (λ p. none_or_taken ws (get_or roots p 0)) in
    let after_roots = refuse 9 (ltb (length list) (taken_count ws)) 0 in
    let first = not_refused 2 (not (sound ws)) (refuse 8 (not roots_right) after_roots) (omega arith) none in
    let second = not_refused 8 (not roots_right) after_roots (omega arith) first.1 in
    record {
      was = sound_facts ws (not-false (sound ws) first.0);
      rooted = all_below_at (length roots) (λ p. none_or_taken ws (get_or roots p 0)) (not-false roots_right second.0);
      listing = g.listing;
      arena = g.arena;
    }
