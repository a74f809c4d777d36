-- What a letter and numbers mean, case by case, and the meaning of a text by its first two bytes.
-- Assumes nothing.
use Prim.Native.Nat.{ℕ, suc, ◌-◌, ◌≤◌, ◌<◌}
use mathlib.Core.Path.{◌≡◌, refl, sym, ◌∙◌}
use mathlib.Core.Bool.{Bool, true, false, cond, ◌&&◌}
use mathlib.Core.List.{List, [], ◌∷◌, map}
use native.Mathlib.Omega.{arith}
use lib.ListN.{length, get_or, take, drop, length-map, length-drop}
use lib.Seq.{take_all}
use lib.Dec.{eqb, leb}
use Rattle.std.proofs.lemmas.Bool.{eq-eqb, ne_eqb, eqb-true, le-leb, lt-leb, leb-false}
use Rattle.lines.specs.Line.{space, joined, fields, all_numbers, value, allocates, links, collects, bad, said, meant, meaning}

-- a test that decides nothing
cond_same : {A : Type 0} (t : Bool) (a : A) → cond t a a ≡ a
cond_same true a = refl
cond_same false a = refl

-- ---- a letter and numbers

module _ (letter : ℕ) (ns : List ℕ) where
  pub said_allocates : letter ≡ 78 → length ns ≡ 3 → get_or ns 2 0 ≤ 255 → allocates (get_or ns 0 0) (get_or ns 1 0) (get_or ns 2 0) ≡ said letter ns
  unfolding said
  said_allocates e n tag = simp (e, eq-eqb (length ns) 3 n, le-leb (get_or ns 2 0) 255 tag)

  pub said_tag : letter ≡ 78 → length ns ≡ 3 → 255 < get_or ns 2 0 → bad ≡ said letter ns
  unfolding said
  said_tag e n tag = simp (e, eq-eqb (length ns) 3 n, lt-leb (get_or ns 2 0) 255 tag)

  pub said_links : letter ≡ 76 → length ns ≡ 3 → links (get_or ns 0 0) (get_or ns 1 0) (get_or ns 2 0) ≡ said letter ns
  unfolding said
  said_links e n = simp (e, eq-eqb (length ns) 3 n)

  pub said_collects : letter ≡ 75 → length ns ≤ 16 → collects ns ≡ said letter ns
  unfolding said
  said_collects e n = simp (e, le-leb (length ns) 16 n)

  pub said_count : (letter ≡ 75 → ⊥) → (length ns ≡ 3 → ⊥) → bad ≡ said letter ns
  unfolding said
  said_count k n = simp (ne_eqb (length ns) 3 n, ne_eqb letter 75 k, cond_same)

  pub said_other : (letter ≡ 78 → ⊥) → (letter ≡ 76 → ⊥) → (letter ≡ 75 → ⊥) → bad ≡ said letter ns
  unfolding said
  said_other n l k = simp (ne_eqb letter 75 k, ne_eqb letter 76 l, ne_eqb letter 78 n)

  -- more than 16 numbers are too many behind any letter
  said_many : leb (length ns) 16 ≡ false → said letter ns ≡ bad
  unfolding said
  said_many h =
      let m : 16 < length ns = omega (arith, leb-false (length ns) 16 h) in
      simp (ne_eqb (length ns) 3 (λ e. omega arith), h, cond_same)

  -- a space is no letter
  said_space : eqb letter space ≡ true → said letter ns ≡ bad
  unfolding said
  said_space e = rw (eqb-true letter 32 e)

-- ---- a text by its first two bytes

by_letter : (a : ℕ) → (s : Bool) → eqb a space ≡ s → meant (fields (a ∷ [])) ≡ said a []
unfolding meant fields all_numbers
by_letter a true s = rw (s, said_space a [] s)
by_letter a false s = rw s

by_space : (a : ℕ) (rest : List ℕ) → (s : Bool) → eqb a space ≡ s
    → meant (fields (a ∷ space ∷ rest)) ≡ cond (all_numbers (fields rest)) (said a (map value (fields rest))) bad
unfolding meant fields
by_space a rest true s = rw (s, said_space a (map value (fields rest)) s, cond_same)
by_space a rest false s = rw s

by_other : (a b : ℕ) (fs : List (List ℕ)) → (s : Bool) → eqb a space ≡ s → meant (cond s ([] ∷ joined b fs) (joined a (joined b fs))) ≡ bad
unfolding meant
by_other a b fs true s = refl
by_other a b [] false s = refl
by_other a b (f ∷ fs) false s = rw (ne_eqb (suc (suc (length f))) 1 (λ e. omega arith))

pub long_means : (text : List ℕ) → 80 < length text → bad ≡ meaning text
unfolding meaning
long_means text h = rw (lt-leb (length text) 80 h)

pub empty_means : (text : List ℕ) → length text ≡ 0 → bad ≡ meaning text
unfolding meaning meant fields
empty_means [] e = refl
empty_means (b ∷ text) e = absurd (omega arith)

pub letter_means : (text : List ℕ) → length text ≡ 1 → said (get_or text 0 0) [] ≡ meaning text
unfolding meaning
letter_means [] e = absurd (omega arith)
letter_means (a ∷ []) e = sym (by_letter a (eqb a space) refl)
letter_means (a ∷ b ∷ text) e = absurd (omega arith)

pub other_means : (text : List ℕ) → 2 ≤ length text → (get_or text 1 0 ≡ 32 → ⊥) → bad ≡ meaning text
unfolding meaning fields
other_means [] l e = absurd (omega arith)
other_means (a ∷ []) l e = absurd (omega arith)
other_means (a ∷ b ∷ text) l e = rw (ne_eqb b 32 e, by_other a b (fields text) (eqb a space) refl, cond_same)

-- letter, space and what is behind them
space_means : (text : List ℕ) → 2 ≤ length text → length text ≤ 80 → get_or text 1 0 ≡ 32
    → cond (all_numbers (fields (drop 2 text))) (said (get_or text 0 0) (map value (fields (drop 2 text)))) bad ≡ meaning text
unfolding meaning
space_means [] l few e = absurd (omega arith)
space_means (a ∷ []) l few e = absurd (omega arith)
space_means (a ∷ b ∷ text) l few e = rw (le-leb (length (a ∷ b ∷ text)) 80 few, e) (sym (by_space a text (eqb a space) refl))

not_all : (letter : ℕ) (g : Bool) (ns : List ℕ) → (g && leb (length ns) 16) ≡ false → bad ≡ cond g (said letter ns) bad
not_all letter true ns h = sym (said_many letter ns h)
not_all letter false ns h = refl

-- what is cut out from there to the end
pub cut_off : (text : List ℕ) → take (length text - 2) (drop 2 text) ≡ drop 2 text
cut_off text = take_all (length text - 2) (drop 2 text) (omega (arith, length-drop 2 text))

module _ (text : List ℕ) (l : 2 ≤ length text) (few : length text ≤ 80) (e : get_or text 1 0 ≡ 32) where
  pub numbers_mean : all_numbers (fields (drop 2 text)) ≡ true → said (get_or text 0 0) (map value (fields (drop 2 text))) ≡ meaning text
  numbers_mean all = rw all at (space_means text l few e)

  pub bad_means : (all_numbers (fields (drop 2 text)) && leb (length (fields (drop 2 text))) 16) ≡ false → bad ≡ meaning text
  bad_means h =
      not_all (get_or text 0 0) (all_numbers (fields (drop 2 text))) (map value (fields (drop 2 text))) (rw length-map h)
      ∙ space_means text l few e
