-- The drawing that an arena holds is as the trace asks: handle 0 refers to nothing, and a block to nothing from its r on. The fields of a taken
-- block are the references that its words hold, and distinct taken blocks are at most as many as the taken blocks.
-- Assumes nothing.
use Prim.Native.Nat.{ℕ, ◌+◌, ◌-◌, ◌*◌, ◌<◌, ◌≤◌}
use mathlib.Core.Path.{◌≡◌, refl, subst}
use mathlib.Core.Logic.{◌≢◌}
use mathlib.Core.Bool.{Bool, true, false, cond, not, ◌&&◌, ◌||◌, and-eq-true_iff}
use mathlib.Core.List.{List}
use native.Mathlib.Omega.{arith}
use lib.ListN.{length, get_or}
use lib.Dec.{ltb, eqb}
use borrow.Author.Tests.{lt-ltb, le-ltb, ltb-true, eqb-false, not-true}
use Rattle.model.specs.Below.{words_below}
use Rattle.model.specs.Class.{blocks}
use Rattle.model.specs.Layout.{segment_of, index_of}
use Rattle.model.specs.View.{segments, class, bit_of, block, r_in, reference_in}
use Rattle.model.specs.Standing.{is_taken, taken_at, is_block, before_place, in_pool, taken_count}
use Rattle.model.specs.Ways.{drawing, refers_in}
use Rattle.laws.proofs.Below.{words_below_ext}
use Rattle.ways.proofs.Listed.{Distinct}
use Rattle.ways.proofs.Count.{distinct_count}
use Rattle.ways.proofs.Trace.{Bounded, fields}

-- the number of references of the block of a handle
abbrev pub references : List ℕ → ℕ → ℕ
references ws h = r_in (block ws h)

no_test : (a b : Bool) (x : ℕ) → b ≡ false → cond (a && b) x 0 ≡ 0
no_test true b x e = rw e
no_test false b x e = refl

pub drawing_bounded : (ws roots : List ℕ) → Bounded (drawing ws roots) (references ws)
unfolding is_taken
drawing_bounded ws roots = record {
  nowhere = λ f. refl;
  beyond = λ h f l. no_test (is_taken ws h) (ltb f (references ws h)) (reference_in (block ws h) f) (le-ltb f (references ws h) l);
}

pub fields_of_taken : (ws roots : List ℕ) (h : ℕ) → is_taken ws h ≡ true →
    fields (drawing ws roots) (references ws) h ≡ words_below (references ws h) (reference_in (block ws h))
fields_of_taken ws roots h t = words_below_ext (references ws h) (refers_in ws h) (reference_in (block ws h)) (λ f l. rw (t, lt-ltb f (references ws h) l))

-- a taken block's handle is x + 1 for a position x in a segment that there is

not_zero : (ws : List ℕ) (h : ℕ) → is_taken ws h ≡ true → h ≢ 0
unfolding is_taken
not_zero ws h t = eqb-false h 0 (not-true (eqb h 0) ((and-eq-true_iff (not (eqb h 0)) (taken_at ws (segment_of h) (index_of h))).0 t).0)

segment_there : (ws : List ℕ) (s k : ℕ) → taken_at ws s k ≡ true → s < segments ws
unfolding taken_at is_block
segment_there ws s k t =
    let block = ((and-eq-true_iff (is_block ws s k) (before_place ws s k || bit_of ws s k)).0 t).0 in
    ltb-true s (segments ws) ((and-eq-true_iff (ltb s (segments ws)) (not (in_pool ws s) && ltb k (blocks (class ws s)))).0 block).0

taken_segment : (ws : List ℕ) (h : ℕ) → is_taken ws h ≡ true → segment_of h < segments ws
unfolding is_taken
taken_segment ws h t =
    segment_there ws (segment_of h) (index_of h) ((and-eq-true_iff (not (eqb h 0)) (taken_at ws (segment_of h) (index_of h))).0 t).1

pub taken_position : (ws : List ℕ) (h : ℕ) → is_taken ws h ≡ true →
    (x : ℕ) × (x < 2048 * segments ws) × (h ≡ x + 1) × (is_taken ws (x + 1) ≡ true)
taken_position ws h t =
    let n = not_zero ws h t in
    let e : h ≡ h - 1 + 1 = omega arith in
    (h - 1, omega (arith, taken_segment ws h t), e, subst (λ (g : ℕ). is_taken ws g ≡ true) e t)

-- so distinct taken blocks are at most as many as all taken blocks
pub taken_count_most : (ws L : List ℕ) → Distinct L → ((k : ℕ) → k < length L → is_taken ws (get_or L k 0) ≡ true) → length L ≤ taken_count ws
unfolding taken_count
taken_count_most ws L d t = distinct_count L (2048 * segments ws) (λ x. is_taken ws (x + 1)) d (λ k l. taken_position ws (get_or L k 0) (t k l))
