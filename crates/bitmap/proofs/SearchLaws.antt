-- The ways out of the search for a free bit, each the first free bit of its level at or after k, or none where there is none up to the level's end.
-- Assumes nothing.
use Prim.Native.Nat.{ℕ, suc, ◌+◌, ◌-◌, ◌*◌, ◌/◌, ◌%◌, ◌^◌, ◌≤◌, ◌<◌}
use native.Mathlib.Omega.{arith}
use native.Mathlib.Numerals.{add-one}
use native.Mathlib.Decide.{dec_lt, ℕ_discrete}
use mathlib.Core.Path.{◌≡◌, refl, sym, ap, ◌∙◌}
use mathlib.Core.Logic.{◌≢◌}
use mathlib.Core.Bool.{Bool, true, false, cond, not, ◌||◌, true≢false}
use mathlib.Core.List.{List}
use lib.ListN.{length}
use lib.Dec.{ltb}
use Rattle.std.specs.Prelude.{Option, Some, None, unwrap_or}
use borrow.Author.Tests.{lt-leb, le-leb, lt-ltb, le-ltb, ltb-true, ltb-false, not-true, not-false}
use Rattle.model.specs.Below.{first_from}
use Rattle.model.specs.Word.{word, bit, full}
use Rattle.model.specs.Class.{is_class, level_words, level_end, levels}
use Rattle.model.specs.Layout.{level_at, level_room, level_word}
use Rattle.model.specs.View.{bit_in}
use Rattle.model.specs.Sound.{levels_right}
use Rattle.laws.proofs.Below.{First, first_is, first_unique}
use Rattle.laws.proofs.Bits.{full_bit, free_bit}
use Rattle.bitmap.specs.Tree.{level_bit, before_end}
use Rattle.bitmap.proofs.LevelLaws.{used_one, level_set, level_word_lt, words_room, words_hold, words_next, used_level, unused_level}
use Rattle.bitmap.proofs.RecordLaws.{right_level, level_bit_is}

-- a record whose levels are right, a level that its class uses, and a place that may be the level's end
pub record Search (rec : List ℕ) (i l k : ℕ) : Type 0 where
  pub long : length rec ≡ 68
  pub class : is_class i ≡ true
  pub right : levels_right i rec ≡ true
  pub level : l < levels i
  pub inside : k ≤ level_end i l

-- the free bits of a word, and of a level
abbrev free : ℕ → ℕ → Bool
free w b = not (bit w b)

abbrev free_at : List ℕ → ℕ → ℕ → Bool
free_at rec l j = not (level_bit rec l j)

-- the first free bit of a level at or after k
abbrev pub first_bit : List ℕ → ℕ → ℕ → ℕ → Option ℕ
first_bit rec i l k = before_end (level_end i l) (first_from k (level_end i l - k) (free_at rec l))

-- ---- a bit before the end, or none

pub some_before : (end r n : ℕ) → n ≡ r → n < end → Some n ≡ before_end end r
some_before end r n e h = rw (lt-ltb r end (omega arith), e)

pub none_before : (end r : ℕ) → end ≤ r → None ≡ before_end end r
none_before end r h = rw (le-ltb r end h)

pub before_some : (end r n : ℕ) → Some n ≡ before_end end r → (n ≡ r) × (n < end)
before_some end r n = go (ltb r end) refl
  where
    go : (t : Bool) → ltb r end ≡ t → Some n ≡ cond t (Some r) None → (n ≡ r) × (n < end)
    go true e same = let n_r : n ≡ r = cc in (n_r, omega (arith, ltb-true r end e))
    go false e same = cc

pub before_none : (end r : ℕ) → None ≡ before_end end r → end ≤ r
before_none end r = go (ltb r end) refl
  where
    go : (t : Bool) → ltb r end ≡ t → ◌≡◌ {A = Option ℕ} None (cond t (Some r) None) → end ≤ r
    go true e same = cc
    go false e same = ltb-false r end e

pub not_before : (end r : ℕ) (o : Option ℕ) → o ≡ before_end end r → ((x : ℕ) → o ≢ Some x) → end ≤ r
not_before end r None e f = before_none end r e
not_before end r (Some x) e f = absurd (f x refl)

-- an answer at or after the end is the same as none
first_past : (p : ℕ → Bool) (a end : ℕ) → a ≤ end → None ≡ before_end end (first_from a (end - a) p) → first_from a (end - a) p ≡ end
first_past p a end h e = omega (arith, (first_is a (end - a) p).within, before_none end (first_from a (end - a) p) e)

-- with the end for none it is the first itself
pub first_or_end : (p : ℕ → Bool) (a end : ℕ) → a ≤ end → unwrap_or (before_end end (first_from a (end - a) p)) end ≡ first_from a (end - a) p
first_or_end p a end h = go (ltb (first_from a (end - a) p) end) refl
  where
    go : (t : Bool) → ltb (first_from a (end - a) p) end ≡ t → unwrap_or (cond t (Some (first_from a (end - a) p)) None) end ≡ first_from a (end - a) p
    go true e = refl
    go false e = omega (arith, (first_is a (end - a) p).within, ltb-false (first_from a (end - a) p) end e)

-- the answer at a level that is the same
pub same_level : (x : Option ℕ) (k : ℕ) {r rec : List ℕ} {j i m l : ℕ} → (r ≡ rec) × (j ≡ i) × (m ≡ l) → x ≡ first_bit r j m k → x ≡ first_bit rec i l k
same_level x k same e = rw (sym same.0, sym same.1, sym same.2) e

module _ {rec : List ℕ} {i l k : ℕ} (s : Search rec i l k) where
  pub l<3 : l < 3
  l<3 = used_one i l s.class s.level

  used : 0 < level_words i l
  used = used_level i l s.class (omega (arith, s.level))

  hold : level_end i l ≤ 32 * level_words i l
  hold = words_hold i l s.class l<3 used

  -- the words that a search reads are the level's
  pub own_room : k < level_end i l → k / 32 < level_room l
  own_room k<end = omega (arith, hold, words_room i l s.class l<3)

  -- one level higher the next word is at the end at most
  pub higher : k < level_end i l → k / 32 + 1 ≤ level_end i (l + 1)
  unfolding level_end
  higher k<end = rw (add-one l) (omega (arith, hold))

  -- a bit past the level's end is set, so a free one stands before it
  inside : (j : ℕ) → j < 32 * level_words i l → level_bit rec l j ≡ false → j < level_end i l
  inside j h e = go (dec_lt j (level_end i l))
    where
      go : Dec (j < level_end i l) → j < level_end i l
      go (yes u) = u
      go (no u) =
          absurd (true≢false
          (sym (level_bit_is i (bit_in rec) rec l s.class l<3 (right_level i rec s.right l l<3) j h
          ∙ ap (λ (t : Bool). t || level_set i (bit_in rec) l j) (le-leb (level_end i l) j (omega arith)))
          ∙ e))

  -- a bit of the next level tells that a word is full
  next_bit : (j : ℕ) → suc l < levels i → j < level_words i l → level_bit rec (suc l) j ≡ full (word rec (level_at l + j))
  unfolding level_end
  next_bit j more h =
      let l+1<3 : suc l < 3 = used_one i (suc l) s.class more in
      let above : 0 < level_words i (suc l) = used_level i (suc l) s.class more in
      level_bit_is i (bit_in rec) rec (suc l) s.class l+1<3 (right_level i rec s.right (suc l) l+1<3) j
      (omega (arith, words_hold i (suc l) s.class l+1<3 above))
      ∙ ap (λ (t : Bool). t || full (level_word i (bit_in rec) l j)) (lt-leb (level_words i l) j h)
      ∙ ap full (sym (right_level i rec s.right l l<3 j (omega (arith, words_room i l s.class l<3))))

  -- a free bit before which all are set from k on is the answer, and where all are set up to the end that is
  first_at : (r : ℕ) → k ≤ r → r < 32 * level_words i l → level_bit rec l r ≡ false → ((x : ℕ) → k ≤ x → x < r → level_bit rec l x ≡ true)
      → Some r ≡ first_bit rec i l k
  first_at r low high e before =
      let h : r < level_end i l = inside r high e in
      some_before (level_end i l) _ r (first_unique (record {
        from = low;
        within = omega arith;
        before = λ x g u. ap not (before x g u);
        found = λ _. ap not e;
      })) h

  first_none : ((x : ℕ) → k ≤ x → x < level_end i l → level_bit rec l x ≡ true) → None ≡ first_bit rec i l k
  first_none all =
      let last : level_end i l ≡ first_from k (level_end i l - k) (free_at rec l) = first_unique (record {
        from = s.inside;
        within = omega (arith, s.inside);
        before = λ x g u. ap not (all x g u);
        found = λ u. absurd (omega arith);
      }) in
      none_before (level_end i l) _ (omega arith)

  -- ---- the ways out

  -- k is the end
  pub at_end : k ≡ level_end i l → None ≡ first_bit rec i l k
  at_end e = first_none (λ x low high. absurd (omega arith))

  module _ (b : ℕ) (here : b ≡ first_from (k % 32) (32 - k % 32) (free (word rec (level_at l + k / 32)))) where
    first_here : First (k % 32) (32 - k % 32) (free (word rec (level_at l + k / 32))) b
    first_here = rw here (first_is (k % 32) (32 - k % 32) (free (word rec (level_at l + k / 32))))

    -- bits of k's own word, up to b
    own_word : (x : ℕ) → k ≤ x → x / 32 ≡ k / 32 → x % 32 < b → level_bit rec l x ≡ true
    own_word x low same h = rw same (not-false _ (first_here.before (x % 32) (omega arith) h))

    -- k's own word has a free bit
    pub in_word : k < level_end i l → b < 32 → Some (32 * (k / 32) + b) ≡ first_bit rec i l k
    in_word k<end h =
        let word_of : (32 * (k / 32) + b) / 32 ≡ k / 32 = omega arith in
        let bit_of : (32 * (k / 32) + b) % 32 ≡ b = omega arith in
        first_at (32 * (k / 32) + b) (omega (arith, first_here.from)) (omega (arith, hold)) (rw (word_of, bit_of) (not-true _ (first_here.found (omega arith))))
        (λ x low high. own_word x low (omega arith) (omega arith))

    -- it has none, and there is no next level
    pub no_level : 32 ≤ b → l + 1 ≡ levels i → None ≡ first_bit rec i l k
    no_level h e =
        let one : level_words i l ≤ 1 = one_word (dec_lt 1 (level_words i l)) in
        first_none (λ x low high. own_word x low (omega (arith, hold)) (omega arith))
      where
        one_word : Dec (1 < level_words i l) → level_words i l ≤ 1
        one_word (yes u) =
            let last : level_words i (suc l) ≡ 0 = unused_level i (suc l) s.class (omega (arith, l<3)) (omega (arith, s.level)) in
            absurd (omega (arith, words_next i l s.class l<3 u))
        one_word (no u) = omega arith

    -- there is one, and it tells of no other word
    module _ (more : l + 1 < levels i) (full_word : 32 ≤ b) (next : ℕ)
        (up : next ≡ first_from (k / 32 + 1) (level_end i (l + 1) - (k / 32 + 1)) (free_at rec (l + 1))) where
      first_up : First (k / 32 + 1) (level_end i (suc l) - (k / 32 + 1)) (free_at rec (suc l)) next
      first_up = rw (rw (add-one l) at up) (first_is (k / 32 + 1) (level_end i (suc l) - (k / 32 + 1)) (free_at rec (suc l)))

      next_end : next < level_end i (l + 1) → next < level_words i l
      unfolding level_end
      next_end h = rw (add-one l) at h

      pub next_room : next < level_end i (l + 1) → next < level_room l
      next_room h = omega (arith, next_end h, words_room i l s.class l<3)

      -- bits of the words before that one
      words_before : (x : ℕ) → k ≤ x → x / 32 < next → x / 32 < level_words i l → level_bit rec l x ≡ true
      words_before x low h used_word = go (ℕ_discrete (x / 32) (k / 32))
        where
          go : Dec (x / 32 ≡ k / 32) → level_bit rec l x ≡ true
          go (yes e) = own_word x low e (omega arith)
          go (no e) =
              full_bit (word rec (level_at l + x / 32)) (x % 32) (omega arith)
              (sym (next_bit (x / 32) (omega arith) used_word) ∙ not-false _ (first_up.before (x / 32) (omega arith) h))

      pub no_word : k < level_end i l → next ≡ level_end i (l + 1) → None ≡ first_bit rec i l k
      unfolding level_end
      no_word k<end e =
          let e : next ≡ level_end i (suc l) = rw (add-one l) at e in
          first_none (λ x low high. words_before x low (omega (arith, hold)) (omega (arith, hold)))

      -- it tells of one: that word has a free bit
      pub has_free : k < level_end i l → next < level_end i (l + 1) → first_from 0 32 (free (word rec (level_at l + next))) < 32
      unfolding level_end
      has_free k<end h =
          let used_next = next_end h in
          let not_full : full (word rec (level_at l + next)) ≡ false =
          sym (next_bit next (omega arith) used_next) ∙ not-true _ (first_up.found (omega (arith, hold))) in
          let small : word rec (level_at l + next) < 2 ^ 32 =
          rw (right_level i rec s.right l l<3 next (omega (arith, words_room i l s.class l<3))) (level_word_lt i (bit_in rec) l next) in
          stops_there (first_is 0 32 (free (word rec (level_at l + next)))) (free_bit (word rec (level_at l + next)) small not_full) (dec_lt _ 32)
        where
          stops_there : {c : ℕ} → First 0 32 (free (word rec (level_at l + next))) c
              → (b : ℕ) × (b < 32) × (bit (word rec (level_at l + next)) b ≡ false) → Dec (c < 32) → c < 32
          stops_there f z (yes h) = h
          stops_there f z (no h) = absurd (true≢false (sym (not-false _ (f.before z.0 (omega arith) (omega (arith, z.1)))) ∙ z.2))

      -- and there the search comes down
      pub down : k < level_end i l → next < level_end i (l + 1) → (c : ℕ) → c ≡ first_from 0 32 (free (word rec (level_at l + next)))
          → Some (32 * next + c) ≡ first_bit rec i l k
      unfolding level_end
      down k<end h c there =
          let used_next = next_end h in
          let first_there : First 0 32 (free (word rec (level_at l + next))) c = rw there (first_is 0 32 (free (word rec (level_at l + next)))) in
          let c<32 : c < 32 = rw there (has_free k<end h) in
          let word_of : (32 * next + c) / 32 ≡ next = omega arith in
          let bit_of : (32 * next + c) % 32 ≡ c = omega arith in
          first_at (32 * next + c) (omega (arith, first_up.from)) (omega arith) (rw (word_of, bit_of) (not-true _ (first_there.found c<32)))
          (λ x low high. at_or_before c first_there used_next x low high (dec_lt (x / 32) next))
        where
          at_or_before : (c : ℕ) → First 0 32 (free (word rec (level_at l + next))) c → next < level_words i l
              → (x : ℕ) → k ≤ x → x < 32 * next + c → Dec (x / 32 < next) → level_bit rec l x ≡ true
          at_or_before c f used_next x low high (yes h) = words_before x low h (omega arith)
          at_or_before c f used_next x low high (no h) =
              let same : x / 32 ≡ next = omega (arith, f.within) in
              rw same (not-false _ (f.before (x % 32) (omega arith) (omega (arith, f.within))))

    -- ---- the same, by what the search one level higher answers

    pub none_above : l + 1 < levels i → 32 ≤ b → k < level_end i l → None ≡ first_bit rec i (l + 1) (k / 32 + 1) → None ≡ first_bit rec i l k
    none_above more full_word k<end e =
        no_word more full_word (first_from (k / 32 + 1) (level_end i (l + 1) - (k / 32 + 1)) (free_at rec (l + 1))) refl k<end
        (first_past (free_at rec (l + 1)) (k / 32 + 1) (level_end i (l + 1)) (higher k<end) e)

    module _ (more : l + 1 < levels i) (full_word : 32 ≤ b) (next : ℕ) (told : Some next ≡ first_bit rec i (l + 1) (k / 32 + 1)) where
      next_is : (next ≡ first_from (k / 32 + 1) (level_end i (l + 1) - (k / 32 + 1)) (free_at rec (l + 1))) × (next < level_end i (l + 1))
      next_is = before_some (level_end i (l + 1)) (first_from (k / 32 + 1) (level_end i (l + 1) - (k / 32 + 1)) (free_at rec (l + 1))) next told

      pub room_above : next < level_room l
      room_above = next_room more full_word next next_is.0 next_is.1

      pub free_above : k < level_end i l → first_from 0 32 (free (word rec (level_at l + next))) < 32
      free_above k<end = has_free more full_word next next_is.0 k<end next_is.1

      pub found_above : k < level_end i l → (c : ℕ) → c ≡ first_from 0 32 (free (word rec (level_at l + next))) → Some (32 * next + c) ≡ first_bit rec i l k
      found_above k<end c there = down more full_word next next_is.0 k<end next_is.1 c there
