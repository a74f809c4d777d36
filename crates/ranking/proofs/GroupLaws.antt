-- The groups of the code are those of a collection: which segments stay, and which of them are full.
-- Assumes nothing.
use Prim.Native.Nat.{ℕ, ◌<◌}
use mathlib.Core.Path.{◌≡◌, refl, sym, ap, ap₂, ◌∙◌}
use mathlib.Core.Bool.{Bool, true, false, not, cond, ◌&&◌, ◌||◌}
use mathlib.Core.List.{List}
use native.Mathlib.Omega.{arith}
use lib.Dec.{eqb}
use Rattle.model.specs.Word.{word}
use Rattle.model.specs.Class.{blocks}
use Rattle.model.specs.View.{segments, class}
use Rattle.model.specs.Standing.{in_pool}
use Rattle.model.specs.Calls.{live, stays, stays_full}
use Rattle.soundness.proofs.Tests.{or_fails_left}
use Rattle.ranking.specs.Groups.{pool, full, rest, group_of}

-- ---- the three groups as tests

gone : ℕ → ℕ → Bool
gone i n = eqb i 0 || eqb n 0

group_pool : (i n : ℕ) → eqb (group_of i n) pool ≡ gone i n
unfolding group_of gone
group_pool i n = go (eqb i 0 || eqb n 0) (eqb n (blocks i))
  where
    go : (a b : Bool) → eqb (cond a pool (cond b full rest)) pool ≡ a
    go true b = refl
    go false true = refl
    go false false = refl

group_full : (i n : ℕ) → eqb (group_of i n) full ≡ (not (gone i n) && eqb n (blocks i))
unfolding group_of gone
group_full i n = go (eqb i 0 || eqb n 0) (eqb n (blocks i))
  where
    go : (a b : Bool) → eqb (cond a pool (cond b full rest)) full ≡ (not a && b)
    go true b = refl
    go false true = refl
    go false false = refl

group_rest : (i n : ℕ) → eqb (group_of i n) rest ≡ (not (gone i n) && not (eqb n (blocks i)))
unfolding group_of gone
group_rest i n = go (eqb i 0 || eqb n 0) (eqb n (blocks i))
  where
    go : (a b : Bool) → eqb (cond a pool (cond b full rest)) rest ≡ (not a && not b)
    go true b = refl
    go false true = refl
    go false false = refl

-- a segment whose group is not the pool has a class
pub group_used : (i n : ℕ) → eqb (group_of i n) pool ≡ false → eqb i 0 ≡ false
unfolding gone
group_used i n e = or_fails_left (eqb i 0) (eqb n 0) (sym (group_pool i n) ∙ e)

pub not_not : (a : Bool) → not (not a) ≡ a
not_not true = refl
not_not false = refl

and_not_and : (a b : Bool) → (a && not b) ≡ (a && not (a && b))
and_not_and true b = refl
and_not_and false b = refl

pub group_lt : (i n : ℕ) → group_of i n < 3
unfolding group_of
group_lt i n = go (eqb i 0 || eqb n 0) (eqb n (blocks i))
  where
    go : (a b : Bool) → cond a pool (cond b full rest) < 3
    go true b = omega arith
    go false true = omega arith
    go false false = omega arith

-- ---- the groups of a collection whose live blocks are counted

module _ (ws L lives : List ℕ) (lives_is : (s : ℕ) → s < segments ws → in_pool ws s ≡ false → word lives s ≡ live ws L s) where
  abbrev group : ℕ → ℕ
  group s = group_of (class ws s) (word lives s)

  stays_gone : (s : ℕ) → s < segments ws → stays ws L s ≡ not (gone (class ws s) (word lives s))
  unfolding stays gone
  stays_gone s l = go (in_pool ws s) refl
    where
      go : (t : Bool) → in_pool ws s ≡ t → (not t && not (eqb (live ws L s) 0)) ≡ not (t || eqb (word lives s) 0)
      go true e = refl
      go false e = ap (λ (n : ℕ). not (eqb n 0)) (sym (lives_is s l e))

  full_gone : (s : ℕ) → s < segments ws → stays_full ws L s ≡ (not (gone (class ws s) (word lives s)) && eqb (word lives s) (blocks (class ws s)))
  unfolding stays_full stays gone
  full_gone s l = go (in_pool ws s) refl
    where
      go : (t : Bool) → in_pool ws s ≡ t
          → ((not t && not (eqb (live ws L s) 0)) && eqb (live ws L s) (blocks (class ws s))) ≡ (not (t || eqb (word lives s) 0) && eqb (word lives s) (blocks (class ws s)))
      go true e = refl
      go false e = ap (λ (n : ℕ). not (eqb n 0) && eqb n (blocks (class ws s))) (sym (lives_is s l e))

  pub stays_is : (s : ℕ) → s < segments ws → eqb (group s) pool ≡ not (stays ws L s)
  stays_is s l = group_pool (class ws s) (word lives s) ∙ sym (not_not (gone (class ws s) (word lives s))) ∙ ap not (sym (stays_gone s l))

  pub full_is : (s : ℕ) → s < segments ws → eqb (group s) full ≡ stays_full ws L s
  full_is s l = group_full (class ws s) (word lives s) ∙ sym (full_gone s l)

  pub rest_is : (s : ℕ) → s < segments ws → eqb (group s) rest ≡ (stays ws L s && not (stays_full ws L s))
  rest_is s l =
      group_rest (class ws s) (word lives s) ∙ and_not_and (not (gone (class ws s) (word lives s))) (eqb (word lives s) (blocks (class ws s)))
      ∙ ap₂ (λ (a b : Bool). a && not b) (sym (stays_gone s l)) (sym (full_gone s l))
