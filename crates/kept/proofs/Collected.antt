-- The words of a collected arena, part by part: its length and head, its places, its records and its areas. Assumes nothing.
use Prim.Native.Nat.{ℕ, suc, ◌+◌, ◌-◌, ◌*◌, ◌/◌, ◌%◌, ◌^◌, ◌≤◌, ◌<◌}
use native.Mathlib.Omega.{arith}
use mathlib.Core.Path.{◌≡◌, refl, sym, ap, ap₂, ◌∙◌}
use mathlib.Core.Bool.{Bool, true, false, cond}
use mathlib.Core.List.{List, ◌∷◌, ◌++◌}
use lib.ListN.{length, take, drop, replicate, length-append, length-drop, length-replicate, get_or-append}
use lib.Seq.{drop-append-add, drop-drop}
use Rattle.model.specs.Below.{words_below, lists_below}
use Rattle.model.specs.Word.{word, part}
use Rattle.model.specs.Class.{is_class, block_words}
use Rattle.model.specs.Layout.{arena_length, record_words, place_at, record_at, block_at}
use Rattle.model.specs.View.{segments, record_of, class, block_of, block_offset}
use Rattle.model.specs.Calls.{stays, new_rank, live, new_record, new_place, collected}
use Rattle.model.specs.Ways.{listed}
use Rattle.model.specs.Layout.{handle, record_head}
use Rattle.laws.proofs.Below.{length_words_below, word_words_below, length_lists_below, part_lists_below}
use Rattle.laws.proofs.Splice.{part_append}
use Rattle.words.proofs.ClassLaws.{class_bounds}
use Rattle.bitmap.proofs.RecordLaws.{record_length}
use Rattle.soundness.proofs.Facts.{Sized}

pub new_record_length : (ws L : List ℕ) (s : ℕ) → length (new_record ws L s) ≡ 68
unfolding new_record
new_record_length ws L s = go (stays ws L s)
  where
    go : (t : Bool) → length (cond t (record_words (class ws s) (new_rank ws L s) (live ws L s) (λ k. listed L (handle s k))) (replicate 68 0)) ≡ 68
    go true = record_length (record_head (class ws s) (new_rank ws L s) (live ws L s)) (class ws s) (λ k. listed L (handle s k))
    go false = length-replicate {A = ℕ} 68 0

module _ (ws L : List ℕ) (z : Sized ws) where
  places : List ℕ
  places = words_below 10 (λ c. new_place ws L (c + 3))

  records : List ℕ
  records = lists_below (segments ws) (new_record ws L)

  areas : List ℕ
  areas = drop (record_at (segments ws)) ws

  places_length : length places ≡ 10
  unfolding places
  places_length = length_words_below 10 (λ c. new_place ws L (c + 3))

  records_length : length records ≡ 68 * segments ws
  unfolding records
  records_length = length_lists_below (segments ws) 68 (new_record ws L) (λ s _. new_record_length ws L s)

  collected_is : collected ws L ≡ word ws 0 ∷ (places ++ (records ++ areas))
  unfolding collected places records areas
  collected_is = refl

  areas_length : length areas ≡ length ws - record_at (segments ws)
  unfolding areas
  areas_length = length-drop (record_at (segments ws)) ws

  front_length : length (word ws 0 ∷ places) ≡ 11
  front_length = ap suc places_length

  pub collected_length : length (collected ws L) ≡ length ws
  collected_length =
      ap length collected_is
      ∙ omega (arith, length-append places (records ++ areas), length-append records areas, places_length, records_length, areas_length, z.long)

  pub collected_head : word (collected ws L) 0 ≡ word ws 0
  collected_head = ap (λ (xs : List ℕ). word xs 0) collected_is

  pub collected_segments : segments (collected ws L) ≡ segments ws
  collected_segments = ap (λ (w : ℕ). w / 2 ^ 24 % 2 ^ 8) collected_head

  pub collected_sized : Sized (collected ws L)
  collected_sized = record {
    some = rw collected_segments z.some;
    few = rw collected_segments z.few;
    long = collected_length ∙ z.long ∙ ap arena_length (sym collected_segments);
  }

  pub collected_place : (i : ℕ) → is_class i ≡ true → word (collected ws L) (place_at i) ≡ new_place ws L i
  unfolding places
  collected_place i c =
      let bounds : (3 ≤ i) × (i ≤ 12) = class_bounds i c in
      let at : i - 2 ≡ suc (i - 3) = omega arith in
      let back : i - 3 + 3 ≡ i = omega arith in
      let inside : i - 3 < 10 = omega arith in
      let inside' : i - 3 < length places = omega (arith, places_length) in
      ap₂ word collected_is at
      ∙ get_or-append places (records ++ areas) 0 (i - 3) inside'
      ∙ word_words_below 10 (λ c. new_place ws L (c + 3)) (i - 3) inside
      ∙ ap (new_place ws L) back

  -- what stands behind head and places
  behind_places : (n : ℕ) → drop (11 + n) (collected ws L) ≡ drop n (records ++ areas)
  behind_places n =
      let at : 11 + n ≡ length (word ws 0 ∷ places) + n = omega (arith, front_length) in
      ap₂ (λ (k : ℕ) (xs : List ℕ). drop k xs) at collected_is ∙ drop-append-add (word ws 0 ∷ places) (records ++ areas) n

  pub collected_record : (s : ℕ) → s < segments ws → record_of (collected ws L) s ≡ new_record ws L s
  unfolding record_of records
  collected_record s h =
      let inside : 68 * s + 68 ≤ length records = omega (arith, records_length) in
      ap (λ (xs : List ℕ). take 68 xs) (behind_places (68 * s))
      ∙ part_append records areas (68 * s) 68 inside
      ∙ part_lists_below (segments ws) 68 (new_record ws L) (λ t _. new_record_length ws L t) s h

  pub collected_areas : drop (record_at (segments ws)) (collected ws L) ≡ drop (record_at (segments ws)) ws
  unfolding areas
  collected_areas =
      let at : 68 * segments ws ≡ length records + 0 = omega (arith, records_length) in
      behind_places (68 * segments ws)
      ∙ ap (λ (k : ℕ). drop k (records ++ areas)) at
      ∙ drop-append-add records areas 0

  -- a block whose segment keeps its class has its words as before
  pub collected_block : (s k : ℕ) → class (collected ws L) s ≡ class ws s → block_of (collected ws L) s k ≡ block_of ws s k
  unfolding block_of
  collected_block s k same =
      let from : block_offset ws s k ≡ record_at (segments ws) + (block_offset ws s k - record_at (segments ws)) = omega arith in
      ap₂ (λ (o w : ℕ). part (collected ws L) o w)
      (ap₂ (λ (N i : ℕ). block_at N s i k) collected_segments same)
      (ap block_words same)
      ∙ ap (λ (xs : List ℕ). take (block_words (class ws s)) xs) (areas_from (block_offset ws s k) from)
    where
      areas_from : (o : ℕ) → o ≡ record_at (segments ws) + (o - record_at (segments ws)) → drop o (collected ws L) ≡ drop o ws
      areas_from o e =
          ap (λ (k : ℕ). drop k (collected ws L)) e
          ∙ sym (drop-drop (o - record_at (segments ws)) (record_at (segments ws)) (collected ws L))
          ∙ ap (λ (xs : List ℕ). drop (o - record_at (segments ws)) xs) collected_areas
          ∙ drop-drop (o - record_at (segments ws)) (record_at (segments ws)) ws
          ∙ ap (λ (k : ℕ). drop k ws) (sym e)
