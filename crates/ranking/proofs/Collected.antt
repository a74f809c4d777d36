-- The records and places that the code makes are those of a collection: from counts, groups, heads and places that are right, the arena
-- afterwards is `collected`.
-- Assumes nothing.
use Prim.Native.Nat.{ℕ, ◌+◌, ◌≤◌, ◌<◌}
use mathlib.Core.Path.{◌≡◌, refl, sym, ap, ap₂, ◌∙◌}
use mathlib.Core.Logic.{◌⊎◌, inl, inr, ◌≢◌}
use mathlib.Core.Bool.{Bool, true, false, not, cond}
use mathlib.Core.List.{List, [], ◌∷◌, ◌++◌, append-nil}
use native.Mathlib.Omega.{arith}
use lib.ListN.{length, take, drop, replicate, drop_of_length-le}
use lib.Seq.{ext_get_or, length-take-le, take-take, take-suc}
use lib.Dec.{eqb}
use borrow.Author.Tests.{eq-eqb, ne_eqb}
use Rattle.model.specs.Below.{words_below, lists_below}
use Rattle.model.specs.Word.{word, put, field}
use Rattle.model.specs.Class.{is_class}
use Rattle.model.specs.Layout.{record_at, record_head, record_words, level_rows, handle}
use Rattle.model.specs.View.{segments, class}
use Rattle.model.specs.Standing.{in_pool}
use Rattle.model.specs.Ways.{listed}
use Rattle.model.specs.Calls.{live, stays, new_rank, new_record, new_place, collected}
use Rattle.laws.proofs.Below.{length_words_below, word_words_below}
use Rattle.laws.proofs.Splice.{put_append}
use Rattle.words.proofs.ClassLaws.{class_bounds, blocks_most}
use Rattle.words.proofs.FieldLaws.{record_head_class}
use Rattle.arena.specs.Rows.{Marked}
use Rattle.bitmap.proofs.RecordLaws.{rows_ext}
use Rattle.soundness.proofs.Tests.{either}
use Rattle.soundness.proofs.Facts.{Sound, sound_facts}
use Rattle.ranking.specs.Anew.{Reached}
use Rattle.ranking.specs.Live.{marks_of, mark_in, Live}
use Rattle.ranking.specs.Groups.{pool, group_of}
use Rattle.ranking.specs.Keys.{Keys}
use Rattle.ranking.specs.Heads.{rank_by, head_by, Heads}
use Rattle.ranking.specs.Places.{Places}
use Rattle.ranking.specs.Records.{with_records, marked_record, Head}
use Rattle.ranking.proofs.LiveLaws.{live_in_le, mark_listed, live_is}
use Rattle.ranking.proofs.GroupLaws.{group_used, stays_is}
use Rattle.ranking.proofs.KeyLaws.{rank_by_le, key_class, key_group, rank_is, place_is}
use Rattle.ranking.proofs.RecordLaws.{with_ext}

-- ---- the new arena, part by part

-- its first word and its places
places_written : (ws places X : List ℕ) → 11 ≤ length ws → length places ≡ 10 → put (take 11 ws ++ X) 1 places ≡ word ws 0 ∷ (places ++ X)
places_written ws places X l ten =
    put_append (take 11 ws) X 1 places (omega (arith, length-take-le 11 ws l))
    ∙ ap (λ (front : List ℕ). front ++ X) whole
  where
    whole : put (take 11 ws) 1 places ≡ word ws 0 ∷ places
    whole =
        let none : drop (1 + length places) (take 11 ws) ≡ [] = drop_of_length-le (take 11 ws) {i = 1 + length places} (omega (arith, length-take-le 11 ws l)) in
        let first : take 1 (take 11 ws) ≡ word ws 0 ∷ [] = take-take 1 11 ws (omega arith) ∙ take-suc ws 0 0 (omega arith) in
        ap₂ (λ (a b : List ℕ). a ++ (places ++ b)) first none ∙ ap (λ (b : List ℕ). word ws 0 ∷ b) (append-nil places)

-- with the new records and the new places it is the collected arena
pub collected_is : (ws L places : List ℕ) → 11 ≤ length ws → length places ≡ 10 → ((c : ℕ) → c < 10 → word places c ≡ new_place ws L (c + 3))
    → put (with_records ws (segments ws) (new_record ws L)) 1 places ≡ collected ws L
unfolding with_records collected
collected_is ws L places l ten placed =
    places_written ws places (lists_below (segments ws) (new_record ws L) ++ drop (record_at (segments ws)) ws) l ten
    ∙ ap (λ (ps : List ℕ). word ws 0 ∷ (ps ++ (lists_below (segments ws) (new_record ws L) ++ drop (record_at (segments ws)) ws))) same
  where
    new : ℕ → ℕ
    new c = new_place ws L (c + 3)

    same : places ≡ words_below 10 new
    same =
        ext_get_or 0 places (words_below 10 new) (ten ∙ sym (length_words_below 10 new))
        (λ c u. let low : c < 10 = omega (arith, ten) in placed c low ∙ sym (word_words_below 10 new c low))

-- ---- from the marks to the arena

module _ (ws marks : List ℕ) (p : Reached ws marks) (lives keys heads : List ℕ) (counted : Live marks (segments ws) lives)
    (keyed : Keys ws lives keys) (headed : Heads keys lives (segments ws) heads) where
  facts : Sound ws
  facts = sound_facts ws p.is_sound

  abbrev group : ℕ → ℕ
  group s = group_of (class ws s) (word lives s)

  module _ (s : ℕ) (l : s < segments ws) where
    head_pool : eqb (group s) pool ≡ true → word heads s ≡ 0
    unfolding head_by
    head_pool e = headed.headed s l ∙ rw (key_group ws lives keys keyed s l, e)

    -- of a segment that does not go to the pool
    module _ (e : eqb (group s) pool ≡ false) where
      its_class : is_class (class ws s) ≡ true
      its_class =
          facts.classed s (record { below = l; used = group_used (class ws s) (word lives s) e })

      head_is : word heads s ≡ record_head (class ws s) (rank_by keys (segments ws) (word keys s)) (word lives s)
      unfolding head_by
      head_is = headed.headed s l ∙ rw (key_group ws lives keys keyed s l, e, key_class ws lives keys keyed s l)

      head_class : field 0 4 (word heads s) ≡ class ws s
      head_class =
          ap (field 0 4) head_is
          ∙ record_head_class (class ws s) (rank_by keys (segments ws) (word keys s)) (word lives s) (omega (arith, class_bounds (class ws s) its_class))
          (omega (arith, rank_by_le keys (segments ws) (word keys s), facts.size.few)) (omega (arith, counted.counted s l, live_in_le marks s))

      head_some : word heads s ≢ 0
      head_some z = omega (arith, head_class, class_bounds (class ws s) its_class)

    -- every head is 0 or has a class
    pub heads_right : Head (word heads s)
    heads_right = go (either (eqb (group s) pool))
      where
        go : (eqb (group s) pool ≡ true) ⊎ (eqb (group s) pool ≡ false) → Head (word heads s)
        go (inl e) = inl (head_pool e)
        go (inr e) = inr (ap is_class (head_class e) ∙ its_class e)

  module _ (L : List ℕ) (m : Marked (segments ws) marks L) where
    lives_are : (s : ℕ) → s < segments ws → in_pool ws s ≡ false → word lives s ≡ live ws L s
    lives_are s l used = counted.counted s l ∙ live_is ws marks p s l L m used

    -- the records are those of the collection
    record_new : (s : ℕ) → s < segments ws → marked_record (word heads s) (marks_of marks s) ≡ new_record ws L s
    unfolding marked_record new_record
    record_new s l = go (stays ws L s) refl (stays_is ws L lives lives_are s l)
      where
        bits : List ℕ
        bits = marks_of marks s

        new : List ℕ
        new = record_words (class ws s) (new_rank ws L s) (live ws L s) (λ k. listed L (handle s k))

        go : (t : Bool) → stays ws L s ≡ t → eqb (group s) pool ≡ not t
            → cond (eqb (word heads s) 0) (replicate 68 0) (word heads s ∷ level_rows (field 0 4 (word heads s)) (mark_in bits)) ≡ cond t new (replicate 68 0)
        go true t e =
            let used : in_pool ws s ≡ false = group_used (class ws s) (word lives s) e in
            ap (λ (t : Bool). cond t (replicate 68 0) (word heads s ∷ level_rows (field 0 4 (word heads s)) (mark_in bits))) (ne_eqb (word heads s) 0 (head_some s l e))
            ∙ ap₂ ◌∷◌ (head_is s l e ∙ ap₂ (record_head (class ws s)) (rank_is ws L lives keys lives_are keyed s l t) (lives_are s l used))
            (ap (λ (i : ℕ). level_rows i (mark_in bits)) (head_class s l e)
            ∙ rows_ext (class ws s) (mark_in bits) (λ k. listed L (handle s k))
            (λ k u. mark_listed ws marks p s l L m k (omega (arith, blocks_most (class ws s) (its_class s l e)))))
        go false t e =
            ap (λ (t : Bool). cond t (replicate 68 0) (word heads s ∷ level_rows (field 0 4 (word heads s)) (mark_in bits))) (eq-eqb (word heads s) 0 (head_pool s l e))

    -- ---- the whole

    pub all_collected : (places : List ℕ) → Places keys (segments ws) places
        → put (with_records ws (segments ws) (λ s. marked_record (word heads s) (marks_of marks s))) 1 places ≡ collected ws L
    all_collected places placed =
        ap (λ (vs : List ℕ). put vs 1 places) (with_ext ws (segments ws) (λ s. marked_record (word heads s) (marks_of marks s)) (new_record ws L) record_new)
        ∙ collected_is ws L places (omega (arith, facts.size.long)) placed.long
        (λ c l. placed.placed c l ∙ place_is ws L lives keys lives_are keyed (c + 3))
