-- Putting handles on a list, one after the other: 0 and what is there already are passed over, the rest goes on its end. The list only grows
-- at its end, nothing is put on twice, what is there is from the list or from what was put on, and a row may be put on in parts.
-- Assumes nothing.
use Prim.Native.Nat.{ℕ, suc, ◌<◌, ◌≤◌}
use mathlib.Core.Path.{◌≡◌, refl, sym, ◌∙◌, ap, subst}
use mathlib.Core.Logic.{◌⊎◌, inl, inr, ◌≢◌}
use mathlib.Core.Bool.{Bool, true, false, cond, ◌||◌, true≢false}
use mathlib.Core.List.{List, [], ◌∷◌, ◌++◌, append_assoc, append-nil}
use native.Mathlib.Omega.{arith}
use lib.ListN.{length, get_or, take, length-append, get_or-append}
use lib.Seq.{take-append_seam, take-suc}
use lib.Dec.{eqb}
use borrow.Author.Tests.{eqb-true, eqb-false, eq-eqb, ne_eqb}
use Rattle.model.specs.Ways.{In, listed}
use Rattle.ways.proofs.Listed.{Distinct, listed_in, in_listed, LastOr, last_or, in_or}

-- h on the list's end, unless it is 0 or there already
unfoldable pub put_on : List ℕ → ℕ → List ℕ
put_on L h = cond (eqb h 0 || listed L h) L (L ++ (h ∷ []))

-- a row of handles in turn
unfoldable pub put_all : List ℕ → List ℕ → List ℕ
put_all L [] = L
put_all L (h ∷ hs) = put_all (put_on L h) hs

-- 0 or there already
abbrev pub Known : List ℕ → ℕ → Type 0
Known L h = (h ≡ 0) ⊎ In h L

-- what one handle does

pub put_on_known : (L : List ℕ) (h : ℕ) → Known L h → put_on L h ≡ L
unfolding put_on
put_on_known L h (inl z) = rw (eq-eqb h 0 z)
put_on_known L h (inr i) = go (eqb h 0)
  where
    go : (b : Bool) → cond (b || listed L h) L (L ++ (h ∷ [])) ≡ L
    go true = refl
    go false = rw (in_listed L h i)

pub put_on_new : (L : List ℕ) (h : ℕ) → h ≢ 0 → (In h L → ⊥) → put_on L h ≡ L ++ (h ∷ [])
unfolding put_on
put_on_new L h n out = rw (ne_eqb h 0 n) (go (listed L h) refl)
  where
    go : (b : Bool) → listed L h ≡ b → cond (listed L h) L (L ++ (h ∷ [])) ≡ L ++ (h ∷ [])
    go true e = absurd (out (listed_in L h e))
    go false e = rw e

pub known_or : (L : List ℕ) (h : ℕ) → Known L h ⊎ ((h ≢ 0) × (In h L → ⊥))
known_or L h = go (eqb h 0) refl (listed L h) refl
  where
    go : (b : Bool) → eqb h 0 ≡ b → (c : Bool) → listed L h ≡ c → Known L h ⊎ ((h ≢ 0) × (In h L → ⊥))
    go true e c q = inl (inl (eqb-true h 0 e))
    go false e true q = inl (inr (listed_in L h q))
    go false e false q = inr (eqb-false h 0 e, λ i. true≢false (sym (in_listed L h i) ∙ q))

-- what holds of the list in either case holds after it
pub put_on_case : (P : List ℕ → Type 0) (L : List ℕ) (h : ℕ) → (Known L h → P L) → (h ≢ 0 → (In h L → ⊥) → P (L ++ (h ∷ []))) → P (put_on L h)
put_on_case P L h same new = go (known_or L h)
  where
    go : Known L h ⊎ ((h ≢ 0) × (In h L → ⊥)) → P (put_on L h)
    go (inl k) = rw (put_on_known L h k) (same k)
    go (inr n) = rw (put_on_new L h n.0 n.1) (new n.0 n.1)

-- what each handle keeps the row keeps
pub put_all_keeps : (P : List ℕ → Type 0) → ((L : List ℕ) (h : ℕ) → P L → P (put_on L h)) → (hs L : List ℕ) → P L → P (put_all L hs)
unfolding put_all
put_all_keeps P step [] L p = p
put_all_keeps P step (h ∷ hs) L p = put_all_keeps P step hs (put_on L h) (step L h p)

-- a row in parts

pub put_all_append : (L xs ys : List ℕ) → put_all L (xs ++ ys) ≡ put_all (put_all L xs) ys
unfolding put_all
put_all_append L [] ys = refl
put_all_append L (x ∷ xs) ys = put_all_append (put_on L x) xs ys

pub put_all_last : (L hs : List ℕ) (h : ℕ) → put_all L (hs ++ (h ∷ [])) ≡ put_on (put_all L hs) h
unfolding put_all
put_all_last L hs h = put_all_append L hs (h ∷ [])

-- the row as far as it has been read, and one handle more
pub put_all_next : (L hs : List ℕ) (i : ℕ) → i < length hs → put_all L (take (suc i) hs) ≡ put_on (put_all L (take i hs)) (get_or hs i 0)
put_all_next L hs i l = rw (take-suc hs i 0 l) (put_all_last L (take i hs) (get_or hs i 0))

-- the list grows at its end

pub put_all_grows : (L hs : List ℕ) → (R : List ℕ) × (put_all L hs ≡ L ++ R)
put_all_grows L hs = put_all_keeps Grown step hs L ([], sym (append-nil L))
  where
    Grown : List ℕ → Type 0
    Grown M = (R : List ℕ) × (M ≡ L ++ R)

    step : (M : List ℕ) (h : ℕ) → Grown M → Grown (put_on M h)
    step M h g = put_on_case Grown M h (λ _. g) (λ _ _. (g.0 ++ (h ∷ []), ap (λ (m : List ℕ). m ++ (h ∷ [])) g.1 ∙ append_assoc L g.0 (h ∷ [])))

pub put_all_take : (L hs : List ℕ) → take (length L) (put_all L hs) ≡ L
put_all_take L hs = let g = put_all_grows L hs in rw g.1 (take-append_seam L g.0)

pub put_all_length : (L hs : List ℕ) → length L ≤ length (put_all L hs)
put_all_length L hs = let g = put_all_grows L hs in rw g.1 (omega (arith, length-append L g.0))

pub put_all_at : (L hs : List ℕ) (k : ℕ) → k < length L → get_or (put_all L hs) k 0 ≡ get_or L k 0
put_all_at L hs k l = let g = put_all_grows L hs in rw g.1 (get_or-append L g.0 0 k l)

-- what was put on is there, and what is there was there or was put on

pub put_on_from : (L : List ℕ) (g h : ℕ) → In h (put_on L g) → In h L ⊎ (h ≡ g)
put_on_from L g h = put_on_case (λ M. In h M → In h L ⊎ (h ≡ g)) L g (λ _ i. inl i) (λ _ _. in_or L g h)

pub put_all_from : (L hs : List ℕ) (h : ℕ) → In h (put_all L hs) → In h L ⊎ In h hs
unfolding put_all
put_all_from L [] h i = inl i
put_all_from L (g ∷ hs) h i = go (put_all_from (put_on L g) hs h i)
  where
    or : In h L ⊎ (h ≡ g) → In h L ⊎ In h (g ∷ hs)
    or (inl a) = inl a
    or (inr e) = inr (0, omega arith, sym e)

    go : In h (put_on L g) ⊎ In h hs → In h L ⊎ In h (g ∷ hs)
    go (inl a) = or (put_on_from L g h a)
    go (inr b) = inr (suc b.0, omega (arith, b.1), b.2)

-- nothing is there twice, and no zero is put on

put_on_distinct : (L : List ℕ) (h : ℕ) → Distinct L → Distinct (put_on L h)
put_on_distinct L h d = put_on_case Distinct L h (λ _. d) (λ _ out j k l m. go out j k l m (last_or L h k m))
  where
    go : (In h L → ⊥) → (j k : ℕ) → j < k → k < length (L ++ (h ∷ [])) → LastOr L h k → get_or (L ++ (h ∷ [])) j 0 ≢ get_or (L ++ (h ∷ [])) k 0
    go out j k l m (inl a) e = d j k l a.0 (sym (get_or-append L (h ∷ []) 0 j (omega arith)) ∙ e ∙ a.1)
    go out j k l m (inr b) e = out (j, omega arith, sym (get_or-append L (h ∷ []) 0 j (omega arith)) ∙ e ∙ b.1)

pub put_all_distinct : (L hs : List ℕ) → Distinct L → Distinct (put_all L hs)
put_all_distinct L hs d = put_all_keeps Distinct put_on_distinct hs L d

pub put_all_blocks : (L hs : List ℕ) → (In 0 L → ⊥) → In 0 (put_all L hs) → ⊥
put_all_blocks L hs b = put_all_keeps (λ M. In 0 M → ⊥) (λ M h n i. go M h n (put_on_from M h 0 i) i) hs L b
  where
    go : (M : List ℕ) (h : ℕ) → (In 0 M → ⊥) → In 0 M ⊎ (0 ≡ h) → In 0 (put_on M h) → ⊥
    go M h n (inl i) _ = n i
    go M h n (inr e) i = n (subst (λ (N : List ℕ). In 0 N) (put_on_known M h (inl (sym e))) i)
