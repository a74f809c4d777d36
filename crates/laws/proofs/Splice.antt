-- Laws of a part of a list of words, and of words put into a list of words.
-- Two lists of words are equal where their lengths and their words are: `lib.Seq.ext_get_or 0`.
-- Assumes nothing.
use Prim.Native.Nat.{ℕ, ◌+◌, ◌-◌, ◌≤◌, ◌<◌}
use mathlib.Core.Path.{◌≡◌, refl, sym, ap, ◌∙◌}
use mathlib.Core.List.{List, [], ◌∷◌, ◌++◌, append_assoc}
use native.Mathlib.Nat.{le_refl, add_assoc}
use native.Mathlib.Omega.{arith}
use native.Mathlib.Numerals.{add-one}
use lib.ListN.{length, take, drop, set, length-append, length-take, length-drop, take-append-drop, get_or-append}
use lib.Seq.{length-take-le, take_at, drop_at, take-take, drop-drop, take-append-le, drop-append-le, take-append-add, drop-append-add, get_or-take, get_or-drop, set_split, ext_get_or}
use Rattle.model.specs.Word.{word, part, put}

-- ---- part

pub length_part : (ws : List ℕ) (o n : ℕ) → o + n ≤ length ws → length (part ws o n) ≡ n
length_part ws o n h = simp (length-take, length-drop) (omega arith)

pub word_part : (ws : List ℕ) (o n k : ℕ) → k < n → word (part ws o n) k ≡ word ws (o + k)
word_part ws o n k h = rw (get_or-take, get_or-drop)

-- parts with the same words
pub part_ext : (vs ws : List ℕ) (o p n : ℕ) → o + n ≤ length vs → p + n ≤ length ws → ((k : ℕ) → k < n → word vs (o + k) ≡ word ws (p + k))
    → part vs o n ≡ part ws p n
part_ext vs ws o p n hv hw h = ext_get_or 0 (part vs o n) (part ws p n) (length_part vs o n hv ∙ sym (length_part ws p n hw)) same
  where
    same : (k : ℕ) → k < length (part vs o n) → word (part vs o n) k ≡ word (part ws p n) k
    same k l =
        let u : k < n = omega (arith, length_part vs o n hv) in
        word_part vs o n k u ∙ h k u ∙ sym (word_part ws p n k u)

pub part_part : (ws : List ℕ) (o n a m : ℕ) → o + n ≤ length ws → a + m ≤ n → part (part ws o n) a m ≡ part ws (o + a) m
part_part ws o n a m h l =
    part_ext (part ws o n) ws a (o + a) m (omega (arith, length_part ws o n h)) (omega arith)
    (λ k u. word_part ws o n (a + k) (omega arith) ∙ ap (word ws) (omega arith))

pub part_append : (xs ys : List ℕ) (o n : ℕ) → o + n ≤ length xs → part (xs ++ ys) o n ≡ part xs o n
part_append xs ys o n h = part_ext (xs ++ ys) xs o o n (simp length-append (omega arith)) h (λ k l. get_or-append xs ys 0 (o + k) (omega arith))

-- ---- put

pub length_put : (ws : List ℕ) (o : ℕ) (xs : List ℕ) → o + length xs ≤ length ws → length (put ws o xs) ≡ length ws
length_put ws o xs h = simp (length-append, length-take, length-drop) (omega arith)

-- what lies before, from o on, and behind
pub take_put : (ws : List ℕ) (o : ℕ) (xs : List ℕ) (n : ℕ) → o ≤ length ws → n ≤ o → take n (put ws o xs) ≡ take n ws
take_put ws o xs n h l = take-append-le n (take o ws) (xs ++ drop (o + length xs) ws) (omega (arith, length-take-le o ws h)) ∙ take-take n o ws l

pub from_put : (ws : List ℕ) (o : ℕ) (xs : List ℕ) → o ≤ length ws → drop o (put ws o xs) ≡ xs ++ drop (o + length xs) ws
from_put ws o xs h = drop_at (take o ws) (xs ++ drop (o + length xs) ws) o (length-take-le o ws h)

pub drop_put : (ws : List ℕ) (o : ℕ) (xs : List ℕ) (n : ℕ) → o ≤ length ws → o + length xs ≤ n → drop n (put ws o xs) ≡ drop n ws
drop_put ws o xs n h l =
    let r : ℕ = n - (o + length xs) in
    let whole : n ≡ o + (length xs + r) = omega arith in
    let end : o + length xs + r ≡ n = omega arith in
    ap (λ (i : ℕ). drop i (put ws o xs)) whole ∙ sym (drop-drop (length xs + r) o (put ws o xs))
    ∙ ap (drop (length xs + r)) (from_put ws o xs h) ∙ drop-append-add xs (drop (o + length xs) ws) r ∙ drop-drop r (o + length xs) ws
    ∙ ap (λ (i : ℕ). drop i ws) end

pub word_put_in : (ws : List ℕ) (o : ℕ) (xs : List ℕ) (k : ℕ) → o ≤ length ws → k < length xs → word (put ws o xs) (o + k) ≡ word xs k
word_put_in ws o xs k h l = sym (get_or-drop o (put ws o xs) k 0) ∙ rw (from_put ws o xs h) (get_or-append xs (drop (o + length xs) ws) 0 k l)

pub word_put_before : (ws : List ℕ) (o : ℕ) (xs : List ℕ) (k : ℕ) → o ≤ length ws → k < o → word (put ws o xs) k ≡ word ws k
word_put_before ws o xs k h l = sym (get_or-take o (put ws o xs) k 0 l) ∙ rw (take_put ws o xs o h (le_refl o)) (get_or-take o ws k 0 l)

pub word_put_behind : (ws : List ℕ) (o : ℕ) (xs : List ℕ) (k : ℕ) → o ≤ length ws → o + length xs ≤ k → word (put ws o xs) k ≡ word ws k
word_put_behind ws o xs k h l =
    let r : ℕ = k - (o + length xs) in
    let whole : k ≡ o + length xs + r = omega arith in
    rw (whole, ← get_or-drop (o + length xs) ws r 0, ← get_or-drop (o + length xs) (put ws o xs) r 0, drop_put ws o xs (o + length xs) h (le_refl (o + length xs)))

pub part_put : (ws : List ℕ) (o : ℕ) (xs : List ℕ) → o ≤ length ws → part (put ws o xs) o (length xs) ≡ xs
part_put ws o xs h = rw (from_put ws o xs h) (take_at xs (drop (o + length xs) ws) (length xs) refl)

pub part_put_before : (ws : List ℕ) (o : ℕ) (xs : List ℕ) (a n : ℕ) → o + length xs ≤ length ws → a + n ≤ o → part (put ws o xs) a n ≡ part ws a n
part_put_before ws o xs a n h l =
    part_ext (put ws o xs) ws a a n (omega (arith, length_put ws o xs h)) (omega arith)
    (λ k u. word_put_before ws o xs (a + k) (omega arith) (omega arith))

pub part_put_behind : (ws : List ℕ) (o : ℕ) (xs : List ℕ) (a n : ℕ) → o ≤ length ws → o + length xs ≤ a → part (put ws o xs) a n ≡ part ws a n
part_put_behind ws o xs a n h l = ap (take n) (drop_put ws o xs a h l)

-- ---- puts that are nothing, one store, or one put

pub put_same : (ws : List ℕ) (o n : ℕ) → o + n ≤ length ws → put ws o (part ws o n) ≡ ws
put_same ws o n h = rw (length_part ws o n h, ← drop-drop n o ws, take-append-drop, take-append-drop)

pub put_one : (ws : List ℕ) (o v : ℕ) → o < length ws → put ws o (v ∷ []) ≡ set ws o v
put_one ws o v h = rw add-one (sym (set_split ws o v h))

-- in the front, and in the rest
pub put_append : (vs ws : List ℕ) (o : ℕ) (xs : List ℕ) → o + length xs ≤ length vs → put (vs ++ ws) o xs ≡ put vs o xs ++ ws
put_append vs ws o xs h =
    let l : o ≤ length vs = omega arith in
    rw (take-append-le o vs ws, drop-append-le (o + length xs) vs ws, append_assoc, append_assoc)

pub put_append_rest : (vs ws : List ℕ) (n o : ℕ) (xs : List ℕ) → n ≡ length vs + o → put (vs ++ ws) n xs ≡ vs ++ put ws o xs
put_append_rest vs ws n o xs e = rw (e, take-append-add, add_assoc, drop-append-add, append_assoc)

-- what a lent part becomes: `put_mid a (e - a) ws ys` of `borrow.Rule.Slice.PartMut`
pub put_mid_is : (a n : ℕ) (ws ys : List ℕ) → length ys ≡ n → take a ws ++ (ys ++ drop n (drop a ws)) ≡ put ws a ys
put_mid_is a n ws ys e = rw (drop-drop n a ws, e)

-- a put in a lent part
pub put_in_part : (ws : List ℕ) (a n j : ℕ) (xs : List ℕ) → a + n ≤ length ws → j + length xs ≤ n
    → put ws a (put (part ws a n) j xs) ≡ put ws (a + j) xs
put_in_part ws a n j xs h l =
    ap (λ (m : ℕ). take a ws ++ (put (part ws a n) j xs ++ drop (a + m) ws)) (length_put (part ws a n) j xs fits)
    ∙ ap (λ (vs : List ℕ). take a ws ++ vs) (sym (put_append (part ws a n) behind j xs fits))
    ∙ sym (put_append_rest (take a ws) (part ws a n ++ behind) (a + j) j xs (omega (arith, length-take-le a ws (omega arith))))
    ∙ ap (λ (vs : List ℕ). put vs (a + j) xs) (put_same ws a n h)
  where
    behind : List ℕ
    behind = drop (a + length (part ws a n)) ws

    fits : j + length xs ≤ length (part ws a n)
    fits = omega (arith, length_part ws a n h)
