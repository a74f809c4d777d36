-- Laws of an arena with other records in the place of its first ones: its first words, and one record more.
-- Assumes nothing.
use Prim.Native.Nat.{ℕ, suc, ◌+◌, ◌*◌, ◌≤◌, ◌<◌}
use mathlib.Core.Path.{◌≡◌, sym, ap, ◌∙◌}
use mathlib.Core.Bool.{Bool, true, false, cond}
use mathlib.Core.List.{List, ◌∷◌, ◌++◌, append_assoc}
use native.Mathlib.Omega.{arith}
use native.Mathlib.Nat.{zero-add}
use native.Mathlib.Numerals.{add-one}
use lib.ListN.{length, replicate, length-replicate, take, drop, take-append-drop, get_or-append}
use lib.Seq.{length-take-le, drop-drop, get_or-take}
use lib.Dec.{eqb}
use Rattle.model.specs.Below.{lists_below}
use Rattle.model.specs.Word.{word, put, field}
use Rattle.model.specs.Layout.{record_at, level_rows}
use Rattle.model.specs.View.{segments}
use Rattle.laws.proofs.Below.{lists_below_ext, length_lists_below}
use Rattle.laws.proofs.Splice.{put_append_rest}
use Rattle.bitmap.proofs.RecordLaws.{record_length}
use Rattle.ranking.specs.Live.{mark_in}
use Rattle.ranking.specs.Records.{with_records, marked_record}

module _ (ws : List ℕ) (n : ℕ) (f : ℕ → List ℕ) (long : (k : ℕ) → k < n → length (f k) ≡ 68) (fits : record_at n ≤ length ws) where
  front_length : length (take 11 ws) ≡ 11
  front_length = length-take-le 11 ws (omega arith)

  records_length : length (lists_below n f) ≡ 68 * n
  records_length = length_lists_below n 68 f long

  -- what stands before the records
  with_word : (o : ℕ) → o < 11 → word (with_records ws n f) o ≡ word ws o
  unfolding with_records
  with_word o l = get_or-append (take 11 ws) (lists_below n f ++ drop (record_at n) ws) 0 o (omega (arith, front_length)) ∙ get_or-take 11 ws o 0 l

  pub with_segments : segments (with_records ws n f) ≡ segments ws
  with_segments = ap (field 0 8) (with_word 0 (omega arith))

  -- one record more
  pub with_next : length (f n) ≡ 68 → put (with_records ws n f) (record_at n) (f n) ≡ with_records ws (n + 1) f
  unfolding with_records lists_below
  with_next size =
      let at : record_at n + 68 ≡ record_at (suc n) = omega arith in
      put_append_rest (take 11 ws) (lists_below n f ++ drop (record_at n) ws) (record_at n) (68 * n) (f n) (omega (arith, front_length))
      ∙ ap (λ (b : List ℕ). take 11 ws ++ b)
      (put_append_rest (lists_below n f) (drop (record_at n) ws) (68 * n) 0 (f n) (omega (arith, records_length))
      ∙ rw (zero-add, size, drop-drop, add-one) (sym (append_assoc (lists_below n f) (f n) (drop (record_at n + 68) ws)) ∙ rw at))

pub with_ext : (ws : List ℕ) (n : ℕ) (f g : ℕ → List ℕ) → ((k : ℕ) → k < n → f k ≡ g k) → with_records ws n f ≡ with_records ws n g
unfolding with_records
with_ext ws n f g same = ap (λ (b : List ℕ). take 11 ws ++ (b ++ drop (record_at n) ws)) (lists_below_ext n f g same)

-- none replaced
pub with_none : (ws : List ℕ) (f : ℕ → List ℕ) → with_records ws 0 f ≡ ws
unfolding with_records lists_below
with_none ws f = take-append-drop 11 ws

-- a new record has 68 words
pub marked_length : (head : ℕ) (marks : List ℕ) → length (marked_record head marks) ≡ 68
unfolding marked_record
marked_length head marks = go (eqb head 0)
  where
    go : (t : Bool) → length (cond t (replicate 68 0) (head ∷ level_rows (field 0 4 head) (mark_in marks))) ≡ 68
    go true = length-replicate {A = ℕ} 68 0
    go false = record_length head (field 0 4 head) (mark_in marks)
