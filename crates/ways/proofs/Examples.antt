-- The definitions tried on small drawings: the collections of document 01's run, and roots with zeros and doubles over a ring with a shared block.
-- Assumes nothing.
use Prim.Native.Nat.{ℕ}
use mathlib.Core.Path.{◌≡◌, refl, ap}
use mathlib.Core.Bool.{cond}
use mathlib.Core.List.{List, [], ◌∷◌}
use native.Mathlib.Omega.{arith}
use lib.ListN.{length, get_or, get_or-eq_default}
use lib.Dec.{eqb}
use Rattle.model.specs.Below.{lists_below}
use Rattle.model.specs.Ways.{Drawing, Listing, listed}
use Rattle.ways.proofs.Listing.{listing_unique}
use Rattle.ways.proofs.Put.{put_on, put_all}
use Rattle.ways.proofs.Trace.{Bounded, start, advance, traced}
use Rattle.ways.proofs.Run.{advance_run}

-- a drawing by a table: a handle's fields, none for a handle that is not there
abbrev pub row : List (ℕ × List ℕ) → ℕ → List ℕ
row [] h = []
row (b ∷ bs) h = cond (eqb b.0 h) b.1 (row bs h)

abbrev pub table : List ℕ → List (ℕ × List ℕ) → Drawing
table roots bs = record { roots = roots; refers = λ h f. get_or (row bs h) f 0 }

abbrev pub arity : List (ℕ × List ℕ) → ℕ → ℕ
arity bs h = length (row bs h)

bounded : (roots : List ℕ) (bs : List (ℕ × List ℕ)) → row bs 0 ≡ [] → Bounded (table roots bs) (arity bs)
bounded roots bs none = record { nowhere = λ f. rw none; beyond = λ h f l. get_or-eq_default (row bs h) 0 l }

-- document 01's run: block 1 refers to 2050 and 2049, in this order
abbrev pub first_fields : List (ℕ × List ℕ)
first_fields = (1, 2050 ∷ 2049 ∷ []) ∷ []

pub first_collection : Listing (table (1 ∷ []) first_fields) (1 ∷ 2050 ∷ 2049 ∷ [])
unfolding put_all put_on listed lists_below
first_collection =
    let b = bounded (1 ∷ []) first_fields refl in
    let c = start (table (1 ∷ []) first_fields) in
    traced b (advance b (advance b (advance b c (omega arith)) (omega arith)) (omega arith))

-- then its field 0 is 0
abbrev pub second_fields : List (ℕ × List ℕ)
second_fields = (1, 0 ∷ 2049 ∷ []) ∷ []

pub second_collection : Listing (table (1 ∷ []) second_fields) (1 ∷ 2049 ∷ [])
unfolding put_all put_on listed lists_below
second_collection =
    let b = bounded (1 ∷ []) second_fields refl in
    let c = start (table (1 ∷ []) second_fields) in
    traced b (advance b (advance b c (omega arith)) (omega arith))

-- and no root frees everything
pub third_collection : Listing (table [] second_fields) []
unfolding put_all
third_collection = traced (bounded [] second_fields refl) (start (table [] second_fields))

-- another order is none: the last field first
pub not_backwards : Listing (table (1 ∷ []) first_fields) (1 ∷ 2049 ∷ 2050 ∷ []) → ⊥
not_backwards a =
    let e = listing_unique first_collection a in
    let z : ◌≡◌ {A = ℕ} 2050 2049 = ap (λ (L : List ℕ). get_or L 1 0) e in
    omega arith

-- roots with zeros and doubles; 5 and 3 refer to one another, 7 is shared and refers to itself, 4 is not reached
abbrev pub ring_fields : List (ℕ × List ℕ)
ring_fields = (3, 5 ∷ 7 ∷ []) ∷ (4, 3 ∷ []) ∷ (5, 3 ∷ 5 ∷ 0 ∷ 2 ∷ 7 ∷ []) ∷ (7, 7 ∷ []) ∷ []

abbrev pub ring_roots : List ℕ
ring_roots = 0 ∷ 5 ∷ 0 ∷ 5 ∷ 3 ∷ 5 ∷ []

pub ring_collection : Listing (table ring_roots ring_fields) (5 ∷ 3 ∷ 2 ∷ 7 ∷ [])
unfolding put_all put_on listed lists_below
ring_collection =
    let b = bounded ring_roots ring_fields refl in
    let c = start (table ring_roots ring_fields) in
    traced b (advance_run b (advance_run b c 2 (omega arith)) 2 (omega arith))
