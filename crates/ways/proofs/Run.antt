-- A run of several heads at once: their fields, gathered end to end and put on as one row, are the fields of one head after the other.
-- Assumes nothing.
use Prim.Native.Nat.{ℕ, zero, suc, ◌+◌, ◌<◌, ◌≤◌}
use mathlib.Core.Path.{◌≡◌, refl, sym, ◌∙◌, ap, subst}
use mathlib.Core.List.{List, ◌++◌}
use native.Mathlib.Omega.{arith}
use native.Mathlib.Nat.{add-zero}
use lib.ListN.{length, get_or}
use Rattle.model.specs.Below.{lists_below}
use Rattle.model.specs.Ways.{Drawing}
use Rattle.ways.proofs.Put.{put_all, put_all_append, put_all_at, put_all_length}
use Rattle.ways.proofs.Trace.{Inv, Bounded, fields, advance}

-- the list after n heads from q on, one after the other; F gives a block's fields
unfoldable pub heads : (ℕ → List ℕ) → List ℕ → ℕ → ℕ → List ℕ
heads F L q zero = L
heads F L q (suc n) = put_all (heads F L q n) (F (get_or (heads F L q n) (q + n) 0))

-- the fields of the n blocks from place q on, end to end
abbrev pub gathered : (ℕ → List ℕ) → List ℕ → ℕ → ℕ → List ℕ
gathered F L q n = lists_below n (λ i. F (get_or L (q + i) 0))

-- one block more in the row
pub gathered_suc : (F : ℕ → List ℕ) (L : List ℕ) (q n : ℕ) → gathered F L q (suc n) ≡ gathered F L q n ++ F (get_or L (q + n) 0)
unfolding lists_below
gathered_suc F L q n = refl

-- the row put on, and one head more
run_suc : (F : ℕ → List ℕ) (L : List ℕ) (q n : ℕ) → q + n < length L →
    let M = put_all L (gathered F L q n) in put_all M (F (get_or M (q + n) 0)) ≡ put_all L (gathered F L q (suc n))
run_suc F L q n l =
    let M = put_all L (gathered F L q n) in
    ap (λ (h : ℕ). put_all M (F h)) (put_all_at L (gathered F L q n) (q + n) l)
    ∙ sym (put_all_append L (gathered F L q n) (F (get_or L (q + n) 0)))
    ∙ ap (λ (hs : List ℕ). put_all L hs) (sym (gathered_suc F L q n))

pub heads_run : (F : ℕ → List ℕ) (L : List ℕ) (q n : ℕ) → q + n ≤ length L → heads F L q n ≡ put_all L (gathered F L q n)
unfolding heads lists_below put_all
heads_run F L q zero l = refl
heads_run F L q (suc n) l = ap (λ (M : List ℕ). put_all M (F (get_or M (q + n) 0))) (heads_run F L q n (omega arith)) ∙ run_suc F L q n (omega arith)

-- the trace over several heads

advance_heads : {D : Drawing} {arity : ℕ → ℕ} → Bounded D arity → {L : List ℕ} {q : ℕ} → Inv D L q → (n : ℕ) → q + n ≤ length L →
    Inv D (heads (fields D arity) L q n) (q + n)
unfolding heads
advance_heads {D} {arity} b {L} {q} c zero l = rw add-zero c
advance_heads {D} {arity} b {L} {q} c (suc n) l =
    let F = fields D arity in
    let long : length L ≤ length (heads F L q n) = rw (heads_run F L q n (omega arith)) (put_all_length L (gathered F L q n)) in
    let e : q + n + 1 ≡ q + suc n = omega arith in
    subst (λ (m : ℕ). Inv D (put_all (heads F L q n) (F (get_or (heads F L q n) (q + n) 0))) m) e (advance b (advance_heads b c n (omega arith)) (omega arith))

pub advance_run : {D : Drawing} {arity : ℕ → ℕ} → Bounded D arity → {L : List ℕ} {q : ℕ} → Inv D L q → (n : ℕ) → q + n ≤ length L →
    Inv D (put_all L (gathered (fields D arity) L q n)) (q + n)
advance_run {D} {arity} b {L} {q} c n l = subst (λ (M : List ℕ). Inv D M (q + n)) (heads_run (fields D arity) L q n l) (advance_heads b c n l)
