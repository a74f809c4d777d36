-- What the first clauses of a sound arena give to the later ones, and what is left to judge where records and places are sound: the taken
-- blocks.
-- Assumes nothing.
use Prim.Native.Nat.{ℕ, zero, suc}
use mathlib.Core.Path.{◌≡◌, refl, ap, ◌∙◌}
use mathlib.Core.Bool.{Bool, true, false, not, ◌&&◌, ◌||◌, and_assoc}
use mathlib.Core.List.{List}
use native.Mathlib.Omega.{arith}
use lib.ListN.{length}
use lib.Dec.{eqb}
use borrow.Author.Tests.{ne_eqb}
use Rattle.model.specs.Below.{all_below}
use Rattle.model.specs.Word.{word}
use Rattle.model.specs.Class.{is_class}
use Rattle.model.specs.View.{segments, record_of, class}
use Rattle.model.specs.Standing.{in_pool}
use Rattle.model.specs.Sound.{every_segment, sized, classes, taken_right, sound}
use Rattle.bitmap.specs.Tree.{OfClass}
use Rattle.soundness.proofs.Facts as Facts
use Rattle.arena.specs.Inside.{Segment, Classed}
use Rattle.records.specs.Judged.{Sized, Member, segment_classed, records_sound}

-- ---- records and classes

pub record_length : (ws : List ℕ) (s : ℕ) → Segment ws s → length (record_of ws s) ≡ 68
record_length ws s h = Facts.record_length ws (record { some = omega arith; few = h.few; long = h.long }) s h.there

-- two tests of each number, one after the other or both at once
all_below_and : (n : ℕ) (p q : ℕ → Bool) → all_below n (λ k. p k && q k) ≡ (all_below n p && all_below n q)
unfolding all_below
all_below_and zero p q = refl
all_below_and (suc n) p q = ap (λ (t : Bool). t && (p n && q n)) (all_below_and n p q) ∙ exchange (all_below n p) (all_below n q) (p n) (q n)
  where
    exchange : (a b c d : Bool) → ((a && b) && (c && d)) ≡ ((a && c) && (b && d))
    exchange false b c d = refl
    exchange true false false d = refl
    exchange true false true d = refl
    exchange true true c d = refl

pub classes_is : (ws : List ℕ) → every_segment ws (segment_classed ws) ≡ classes ws
unfolding classes
classes_is ws =
    all_below_and (segments ws) (λ s. in_pool ws s || is_class (class ws s))
    (λ s. not (in_pool ws s) || all_below 68 (λ j. eqb (word (record_of ws s) j) 0))

-- ---- what the first clauses give to the later ones

pub sized_facts : {ws : List ℕ} → sized ws ≡ true → Sized ws
sized_facts {ws} t = let z = Facts.sized_facts ws t in record { some = z.some; few = z.few; long = z.long }

pub classed_facts : {ws : List ℕ} → sized ws ≡ true → classes ws ≡ true → Classed ws
classed_facts {ws} z t =
    let size = Facts.sized_facts ws z in
    record {
      some = size.some;
      few = size.few;
      long = size.long;
      classed = λ s l used. (Facts.classes_facts ws size t).classed s (record { below = l; used = used });
    }

-- ---- a member of a class

-- a segment that is not in the pool has a record of 68 words and one of the ten classes
pub member_record : {x : ℕ} {rec ws : List ℕ} {s : ℕ} → Member ws s → rec ≡ record_of ws s → x ≡ class ws s → (x ≡ 0 → ⊥) → OfClass rec x
member_record {ws = ws} {s = s} m r e f = record {
  long = ap length r ∙ record_length ws s (record { few = m.few; long = m.long; there = m.there });
  class = ap is_class e ∙ m.classed (ne_eqb (class ws s) 0 (λ z. f (e ∙ z)));
}

-- ---- what is left to judge

-- an arena is sound exactly if its records and places are, and its taken blocks are right
pub sound_is : (ws : List ℕ) → sound ws ≡ (records_sound ws && taken_right ws)
unfolding sound records_sound
sound_is ws = simp and_assoc
