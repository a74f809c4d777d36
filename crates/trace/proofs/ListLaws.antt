-- Handles put on a list, by what `mark` tells: one, and a row of them.
-- Assumes nothing.
use Prim.Native.Nat.{ℕ, ◌+◌, ◌-◌, ◌*◌, ◌≤◌, ◌<◌}
use mathlib.Core.Path.{◌≡◌, refl, sym, ap, ◌∙◌, subst}
use mathlib.Core.Bool.{Bool, true, false, not, cond, ◌||◌}
use mathlib.Core.List.{List, [], ◌∷◌, ◌++◌, append_assoc, append-nil}
use native.Mathlib.Nat.{add-zero}
use native.Mathlib.Omega.{arith}
use native.Mathlib.Numerals.{add-one}
use lib.Dec.{eqb}
use mir.Val.{bool_byte}
use lib.ListN.{length, get_or, take, drop, set, length-set, length-append}
use lib.Seq.{take-suc-set, take-set-le, drop-set-lt, length-take-le, drop-drop}
use Rattle.model.specs.Ways.{listed}
use Rattle.ways.proofs.Put.{put_on, put_all, put_all_next, put_all_length}
use Rattle.arena.specs.Rows.{row_bit, Marked}
use Rattle.trace.specs.Marks.{Mark}
use Rattle.trace.specs.List.{On, PutRoot, Kept}
use Rattle.trace.proofs.MarkLaws.{mark_new, mark_put_on}

-- ---- one handle

-- what is put on, where `new` tells whether the handle is new
put_on_is : (L : List ℕ) (h : ℕ) (new : Bool) → new ≡ not (eqb h 0 || listed L h) → put_on L h ≡ cond new (L ++ (h ∷ [])) L
unfolding put_on
put_on_is L h new e = rw e (go (eqb h 0 || listed L h))
  where
    go : (t : Bool) → cond t L (L ++ (h ∷ [])) ≡ cond (not t) (L ++ (h ∷ [])) L
    go true = refl
    go false = refl

-- a root that is new, and one that is not
module _ (h : ℕ) (list : List ℕ) (c : ℕ) {marks marks' : List ℕ} {new : Bool} (k : Mark marks h new marks') (N : ℕ) (l : h ≤ 2048 * N)
    (m : Marked N marks (take c list)) where
  pub root_new : c < length list → new ≡ true → On N (put_on (take c list) h) list (c + 1) (set list c h) marks'
  root_new u o = record {
    within = rw (length-set list c h) (omega arith);
    first = rw (add-one, take-suc-set list c h u) (sym (put_on_is (take c list) h new (mark_new m l k) ∙ rw o));
    later = drop-set-lt (c + 1) list c h (omega arith);
    marks = mark_put_on m l k;
  }

  pub root_old : c ≤ length list → new ≡ false → On N (put_on (take c list) h) list c list marks'
  root_old u o = record {
    within = u;
    first = sym (put_on_is (take c list) h new (mark_new m l k) ∙ rw o);
    later = refl;
    marks = mark_put_on m l k;
  }

-- ---- the words of the list

pub on_length : (N : ℕ) (L list : List ℕ) (c : ℕ) (list' marks' : List ℕ) → On N L list c list' marks' → length L ≡ c
on_length N L list c list' marks' o = sym (ap length o.first) ∙ length-take-le c list' o.within

-- one after the other
pub on_then : (N : ℕ) (L M list : List ℕ) (c : ℕ) (list' marks' : List ℕ) (c' : ℕ) (list'' marks'' : List ℕ) → length L ≤ length M →
    On N L list c list' marks' → On N M list' c' list'' marks'' → On N M list c' list'' marks''
on_then N L M list c list' marks' c' list'' marks'' l o p = record {
  within = p.within;
  first = p.first;
  later = p.later ∙ ap (λ (d : ℕ). drop d list') whole ∙ sym (drop-drop (c' - c) c list') ∙ ap (drop (c' - c)) o.later ∙ drop-drop (c' - c) c list
      ∙ ap (λ (d : ℕ). drop d list) (sym whole);
  marks = p.marks;
}
  where
    whole : c' ≡ c + (c' - c)
    whole = omega (arith, on_length N L list c list' marks' o, on_length N M list' c' list'' marks'' p)

-- ---- the roots

pub roots_none : (N : ℕ) (roots list marks : List ℕ) → Marked N marks [] → On N (put_all [] (take 0 roots)) list 0 list marks
unfolding put_all
roots_none N roots list marks m = record { within = omega arith; first = refl; later = refl; marks = m }

module _ (N : ℕ) (roots list : List ℕ) (c : ℕ) (list' marks' : List ℕ) (p : ℕ) (l : p < length roots) (small : get_or roots p 0 ≤ 2048 * N)
    (o : On N (put_all [] (take p roots)) list c list' marks') where
  one_root : put_all [] (take (p + 1) roots) ≡ put_on (put_all [] (take p roots)) (get_or roots p 0)
  one_root = rw add-one (put_all_next [] roots p l)

  longer : length (put_all [] (take p roots)) ≤ length (put_all [] (take (p + 1) roots))
  unfolding put_all
  longer = rw one_root (put_all_length (put_all [] (take p roots)) (get_or roots p 0 ∷ []))

  -- there is room for a root that is new
  pub root_room : length (put_all [] (take (p + 1) roots)) ≤ length list' → row_bit marks' (get_or roots p 0) ≡ false → c < length list'
  root_room room e =
      omega
      (arith, room, on_length N (put_all [] (take p roots)) list c list' marks' o, ap length (one_root ∙ new), length-append L (h ∷ []))
    where
      L : List ℕ
      L = put_all [] (take p roots)

      h : ℕ
      h = get_or roots p 0

      new : put_on L h ≡ L ++ (h ∷ [])
      new = put_on_is L h true (ap not (sym e ∙ o.marks.at h small))

  -- and it is put on
  pub root_on : {c' : ℕ} {list'' marks'' : List ℕ} → PutRoot (get_or roots p 0) list' c marks' c' list'' marks'' →
      On N (put_all [] (take (p + 1) roots)) list c' list'' marks''
  root_on {c'} {list''} {marks''} f =
      on_then N (put_all [] (take p roots)) (put_all [] (take (p + 1) roots)) list c list' marks' c' list'' marks'' longer o
      (subst (λ (M : List ℕ). On N M list' c' list'' marks'') (ap (λ (M : List ℕ). put_on M (get_or roots p 0)) o.first ∙ sym one_root)
      (f N small (subst (λ (M : List ℕ). Marked N marks' M) (sym o.first) o.marks)))

-- ---- a row

-- one word more, kept if it is new
kept_on : (L M row : List ℕ) (i h : ℕ) (new : Bool) → i < length row → L ++ take i row ≡ M → new ≡ not (eqb h 0 || listed M h) →
    L ++ take (i + bool_byte new) (set row i h) ≡ put_on M h
kept_on L M row i h new l e t = go new ∙ sym (put_on_is M h new t)
  where
    go : (new : Bool) → L ++ take (i + bool_byte new) (set row i h) ≡ cond new (M ++ (h ∷ [])) M
    go false = rw (add-zero, take-set-le i row i h (omega arith)) e
    go true = rw (add-one, take-suc-set row i h l, ← append_assoc) (ap (λ (P : List ℕ). P ++ (h ∷ [])) e)

pub kept_none : (row marks : List ℕ) → Kept row 0 marks 0 row marks
unfolding put_all
kept_none row marks = record { within = omega arith; words = λ N L p m. append-nil L; marked = λ N L p m. m }

one_most : (t : Bool) → bool_byte t ≤ 1
one_most true = omega arith
one_most false = omega arith

pub kept_more : (row : List ℕ) (k : ℕ) (marks : List ℕ) (kept : ℕ) (row' marks' : List ℕ) (h : ℕ) (new : Bool) (marks'' : List ℕ) →
    Kept row k marks kept row' marks' → k < length row → kept < length row' → h ≡ get_or row k 0 → Mark marks' h new marks'' →
    Kept row (k + 1) marks (kept + bool_byte new) (set row' kept h) marks''
kept_more row k marks kept row' marks' h new marks'' so_far l u is_h mark = record {
  within = omega (arith, so_far.within, one_most new);
  words = λ N L p m.
      next L (kept_on L (put_all L (take k row)) row' kept h new u (so_far.words N L (low N p) m)
      (mark_new (so_far.marked N L (low N p) m) (small N p) mark));
  marked = λ N L p m.
      subst (λ (M : List ℕ). Marked N marks'' M) (sym (one_on L)) (mark_put_on (so_far.marked N L (low N p) m) (small N p) mark);
}
  where
    one_on : (L : List ℕ) → put_all L (take (k + 1) row) ≡ put_on (put_all L (take k row)) h
    one_on L = rw (add-one, is_h) (put_all_next L row k l)

    next : (L : List ℕ) {M : List ℕ} → M ≡ put_on (put_all L (take k row)) h → M ≡ put_all L (take (k + 1) row)
    next L e = e ∙ sym (one_on L)

    low : (N : ℕ) → ((j : ℕ) → j < k + 1 → get_or row j 0 ≤ 2048 * N) → (j : ℕ) → j < k → get_or row j 0 ≤ 2048 * N
    low N p j v = p j (omega arith)

    small : (N : ℕ) → ((j : ℕ) → j < k + 1 → get_or row j 0 ≤ 2048 * N) → h ≤ 2048 * N
    small N p = rw is_h (p k (omega arith))
