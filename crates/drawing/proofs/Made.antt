-- A made arena is sound, no block of it is taken, and it grants any allocation of a right shape. Assumes nothing.
use Prim.Native.Nat.{ℕ, zero, suc, ◌+◌, ◌-◌, ◌*◌, ◌≤◌, ◌<◌}
use native.Mathlib.Omega.{arith}
use mathlib.Core.Path.{◌≡◌, refl, sym, ap, ◌∙◌}
use mathlib.Core.Bool.{Bool, true, false, or-true}
use mathlib.Core.List.{List}
use lib.ListN.{length, replicate, length-replicate}
use lib.Seq.{ext_get_or}
use Rattle.std.proofs.lemmas.Bool.Decides.{nat_tests}
use Rattle.std.proofs.lemmas.Grind.{common_steps}
use Rattle.model.specs.Word.{word, field, unnamed}
use Rattle.model.specs.Class.{is_class}
use Rattle.model.specs.Layout.{arena_length, place_at, record_at}
use Rattle.model.specs.View.{segments, record_of, class, members}
use Rattle.model.specs.Standing.{is_taken, taken_count}
use Rattle.model.specs.Sound.{sound}
use Rattle.model.specs.Calls.{fresh, has_pool, allocate_refusal}
use Rattle.laws.proofs.Below.{count_below_none}
use Rattle.words.proofs.ClassLaws.{class_bounds}
use Rattle.words.proofs.FieldLaws.{arena_head_segments, arena_head_unnamed}
use lib.Dec.{eqb}
use borrow.Author.Tests.{ne_eqb, eqb-false, le-ltb}
use Rattle.soundness.proofs.Facts.{Sound, Sized, Member, record_length, record_word, facts_sound, taken_block}
use Rattle.soundness.proofs.Taken.{handle_facts}
use Rattle.growth.proofs.Room.{empty_pool}

zeros : (n o : ℕ) → word (replicate n 0) o ≡ 0
zeros n o = grind (arith, common_steps)

module _ (N : ℕ) (some : 1 ≤ N) (few : N ≤ 64) where
  made_segments : segments (fresh N) ≡ N
  made_segments = arena_head_segments N (omega arith)

  made_word : (o : ℕ) → 0 < o → word (fresh N) o ≡ 0
  made_word zero l = absurd (omega arith)
  made_word (suc o) l = zeros (arena_length N - 1) o

  made_sized : Sized (fresh N)
  made_sized =
      let long : length (fresh N) ≡ arena_length N = omega (arith, length-replicate {A = ℕ} (arena_length N - 1) 0) in
      record { some = rw made_segments some; few = rw made_segments few; long = long ∙ ap arena_length (sym made_segments) }

  made_record : (s : ℕ) → s < segments (fresh N) → record_of (fresh N) s ≡ replicate 68 0
  made_record s l =
      ext_get_or 0 (record_of (fresh N) s) (replicate 68 0) (record_length (fresh N) made_sized s l)
      (λ o h. record_word (fresh N) s o (omega (arith, record_length (fresh N) made_sized s l)) ∙ made_word (record_at s + o) (omega arith) ∙ sym (zeros 68 o))

  made_class : (s : ℕ) → s < segments (fresh N) → class (fresh N) s ≡ 0
  made_class s l = ap (λ (rec : List ℕ). field 0 4 (word rec 0)) (made_record s l)

  no_member : {A : Type 0} (s : ℕ) → Member (fresh N) s → A
  no_member s m = absurd (eqb-false (class (fresh N) s) 0 m.used (made_class s m.below))

  no_members : (i : ℕ) → is_class i ≡ true → members (fresh N) i ≡ 0
  unfolding members
  no_members i c =
      count_below_none (segments (fresh N)) (λ s. eqb (class (fresh N) s) i)
      (λ s l. ne_eqb (class (fresh N) s) i (omega (arith, made_class s l, class_bounds i c)))

  made_place : (i : ℕ) → is_class i ≡ true → word (fresh N) (place_at i) ≡ 0
  made_place i c = made_word (place_at i) (omega (arith, class_bounds i c))

  pub made_facts : Sound (fresh N)
  made_facts = record {
    size = made_sized;
    head_zero = arena_head_unnamed N;
    place_zero = λ i c. ap (unnamed 20) (made_place i c);
    record_zero = λ s l. ap (λ (rec : List ℕ). unnamed 24 (word rec 0)) (made_record s l);
    classed = λ s m. no_member s m;
    pooled = λ s l _. made_record s l;
    each_rank = λ i q c l. absurd (omega (arith, no_members i c, l));
    levelled = λ s m. no_member s m;
    counted = λ s m. no_member s m;
    not_full_behind = λ s m _. no_member s m;
    placed = λ i c. record {
      unused = λ _. (ap (field 0 8) (made_place i c), ap (field 8 12) (made_place i c));
      used = λ l. absurd (omega (arith, no_members i c, l));
      index = omega (arith, ap (field 8 12) (made_place i c));
    };
    right = λ s k t. no_member s (taken_block (fresh N) s k t).member;
  }

  pub made_sound : sound (fresh N) ≡ true
  made_sound = facts_sound (fresh N) made_facts

  pub made_none_taken : taken_count (fresh N) ≡ 0
  unfolding taken_count
  made_none_taken =
      count_below_none (2048 * segments (fresh N)) (λ x. is_taken (fresh N) (x + 1)) (λ x _. go x (is_taken (fresh N) (x + 1)) refl)
    where
      go : (x : ℕ) (t : Bool) → is_taken (fresh N) (x + 1) ≡ t → t ≡ false
      go x true e =
          let b = (handle_facts (fresh N) (x + 1) e).its_block in
          no_member _ b.member
      go x false e = refl

  made_pool : has_pool (fresh N) ≡ true
  made_pool =
      let first : 0 < segments (fresh N) = omega (arith, made_segments) in
      let pooled = made_class 0 first in
      let none = (empty_pool (fresh N)).0 in
      grind (arith, nat_tests)

  pub made_grants : (n r : ℕ) → n ≤ 1023 → r ≤ n → allocate_refusal (fresh N) n r ≡ 0
  unfolding allocate_refusal
  made_grants n r small within = rw (made_sound, le-ltb 1023 n small, le-ltb n r within, made_pool, or-true)
