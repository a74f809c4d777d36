-- To store a word of level 0 that does not become full, or all but one bit of it and then that bit, leaves the levels of the set that has the
-- word's bits as well; and to do so with each word of the marks leaves those of the marks.
-- Assumes nothing.
use Prim.Native.Nat.{ℕ, zero, suc, ◌+◌, ◌-◌, ◌*◌, ◌/◌, ◌%◌, ◌^◌, ◌≤◌, ◌<◌}
use mathlib.Core.Path.{◌≡◌, refl, sym, ap, ap₂, ◌∙◌}
use mathlib.Core.Logic.{◌≢◌}
use mathlib.Core.Bool.{Bool, true, false, not, cond, ◌&&◌, ◌||◌, or-false}
use mathlib.Core.List.{List, ◌∷◌}
use native.Mathlib.Decide.{ℕ_discrete}
use native.Mathlib.Omega.{arith}
use lib.ListN.{length, set, length-set}
use lib.Seq.{get_or-set_same, get_or-set_other}
use lib.Bits.{bit_or, or_lt}
use lib.Dec.{eqb, leb, ltb}
use borrow.Author.Tests.{leb-true, le-leb, eq-eqb, ne_eqb, lt-ltb, le-ltb}
use Rattle.model.specs.Word.{word, bit, ones, full, word_of_bits}
use Rattle.model.specs.Class.{is_class, blocks, words_for, level_words, level_end}
use Rattle.model.specs.Layout.{level_at, level_word, level_rows}
use Rattle.model.specs.View.{bit_in}
use Rattle.model.specs.Sound.{levels_right}
use Rattle.laws.proofs.Bits.{bit_not, bit_ones, bit_of_or, bit_pow, bit_word_of_bits, word_of_bits_lt, word_of_bits_ext, word_ext, not_full}
use Rattle.bitmap.proofs.LevelLaws.{padded_used, words_begin, words_room, levels_apart, level_word_is, level_word_lt, level_ext}
use Rattle.bitmap.proofs.ClimbLaws.{Level}
use Rattle.bitmap.proofs.RecordLaws.{right_level, level_right, right_is, record_length, record_right, level_bit_is, set_of_record, rows_ext}
use Rattle.soundness.proofs.Tests.{Order, order, is_below, is_same, is_above}
use Rattle.ranking.specs.Live.{mark_in}
use Rattle.ranking.specs.Levels.{with_word, PutWord}

-- ---- there is such a word, and it has a first block

module _ (rec : List ℕ) (i j : ℕ) (p : PutWord rec i j) where
  pub inside : j < 64
  unfolding level_words
  inside = omega (arith, words_room i 0 p.class (omega arith), p.used)

  pub begins : 32 * j < blocks i
  unfolding level_words level_end
  begins = words_begin i 0 j p.class (omega arith) p.used

-- ---- a word that is not full in the place of another: no level above tells of it

module _ (rec : List ℕ) (i j v : ℕ) (p : PutWord rec i j) (fits : v < 2 ^ 32)
    (padded : (b : ℕ) → b < 32 → blocks i ≤ 32 * j + b → bit v b ≡ true) (some : full v ≡ false) where
  abbrev stored : List ℕ
  stored = set rec (1 + j) v

  abbrev f : ℕ → Bool
  f = bit_in rec

  abbrev g : ℕ → Bool
  g = bit_in stored

  room : j < 64
  room = inside rec i j p

  here : word stored (1 + j) ≡ v
  here = get_or-set_same rec (1 + j) v 0 (omega (arith, p.long, room))

  elsewhere : (o : ℕ) → o ≢ 1 + j → word stored o ≡ word rec o
  elsewhere o apart = get_or-set_other rec (1 + j) o v 0 apart

  -- the words of level 0 of the new set
  word_here : level_word i g 0 j ≡ v
  unfolding level_words level_end
  word_here =
      level_word_is i g 0 j
      ∙ padded_used (level_words i 0) (level_end i 0) g j p.used
      ∙ word_ext (word_of_bits bits) v (word_of_bits_lt bits) fits (λ b l. bit_word_of_bits bits b l ∙ at b l)
    where
      bits : ℕ → Bool
      bits b = leb (blocks i) (32 * j + b) || g (32 * j + b)

      at : (b : ℕ) → b < 32 → bits b ≡ bit v b
      at b l = go (leb (blocks i) (32 * j + b)) refl
        where
          go : (past : Bool) → leb (blocks i) (32 * j + b) ≡ past → (past || g (32 * j + b)) ≡ bit v b
          go true e = sym (padded b l (leb-true (blocks i) (32 * j + b) e))
          go false e =
              let word_at : (32 * j + b) / 32 ≡ j = omega arith in
              let bit_at : (32 * j + b) % 32 ≡ b = omega arith in
              rw (word_at, bit_at, here)

  word_elsewhere : (t : ℕ) → t ≢ j → level_word i g 0 t ≡ level_word i f 0 t
  word_elsewhere t apart =
      level_word_is i g 0 t
      ∙ ap (λ (w : ℕ). cond (ltb t (level_words i 0)) w 0)
      (word_of_bits_ext (λ b. leb (level_end i 0) (32 * t + b) || g (32 * t + b)) (λ b. leb (level_end i 0) (32 * t + b) || f (32 * t + b))
      (λ b l. ap (λ (w : ℕ). leb (level_end i 0) (32 * t + b) || bit w ((32 * t + b) % 32)) (elsewhere (1 + (32 * t + b) / 32) (λ e. apart (omega arith)))))
      ∙ sym (level_word_is i f 0 t)

  -- those that are full are the same
  was_some : full (level_word i f 0 j) ≡ false
  was_some =
      let word_at : 32 * j / 32 ≡ j = omega arith in
      let bit_at : 32 * j % 32 ≡ 0 = omega arith in
      let first : bit (word rec (1 + j)) 0 ≡ false = ap₂ (λ (o b : ℕ). bit (word rec (1 + o)) b) (sym word_at) (sym bit_at) ∙ p.free in
      not_full (level_word i f 0 j) 0 (level_word_lt i f 0 j) (omega arith)
      (ap (λ (w : ℕ). bit w 0) (sym (right_level i rec p.right 0 (omega arith) j room)) ∙ first)

  same_full : (t : ℕ) → full (level_word i f 0 t) ≡ full (level_word i g 0 t)
  same_full t = go (ℕ_discrete t j)
    where
      go : Dec (t ≡ j) → full (level_word i f 0 t) ≡ full (level_word i g 0 t)
      go (yes e) = rw e (was_some ∙ sym (ap full word_here ∙ some))
      go (no apart) = ap full (sym (word_elsewhere t apart))

  stored_right : levels_right i stored ≡ true
  stored_right = level_right i stored levels
    where
      levels : (l : ℕ) → l < 3 → Level i g stored l
      levels zero h t r = go (ℕ_discrete t j)
        where
          go : Dec (t ≡ j) → word stored (1 + t) ≡ level_word i g 0 t
          go (yes e) = rw e (here ∙ sym word_here)
          go (no apart) = elsewhere (1 + t) (λ e. apart (omega arith)) ∙ right_level i rec p.right 0 h t r ∙ sym (word_elsewhere t apart)
      levels (suc l) h t r =
          elsewhere (level_at (suc l) + t) (λ e. omega (arith, levels_apart 0 (suc l) j t (omega arith) h room r))
          ∙ right_level i rec p.right (suc l) h t r
          ∙ level_ext i f g 1 (λ k _. same_full k) (suc l) (omega arith) t

-- ---- the bits of w in word j

module _ (rec : List ℕ) (i j w : ℕ) (p : PutWord rec i j) (fits : w < 2 ^ 32) where
  abbrev old : ℕ
  old = word rec (1 + j)

  abbrev both : ℕ
  both = bit_or old w

  old_lt : old < 2 ^ 32
  old_lt = rw (right_level i rec p.right 0 (omega arith) j (inside rec i j p)) (level_word_lt i (bit_in rec) 0 j)

  both_lt : both < 2 ^ 32
  both_lt = or_lt 32 old w old_lt fits

  -- it is padded already
  both_padded : (b : ℕ) → b < 32 → blocks i ≤ 32 * j + b → bit both b ≡ true
  unfolding level_words level_end
  both_padded b l h =
      let k : ℕ = 32 * j + b in
      let word_at : (32 * j + b) / 32 ≡ j = omega arith in
      let bit_at : (32 * j + b) % 32 ≡ b = omega arith in
      let past : bit old b ≡ true =
      ap₂ (λ (o b : ℕ). bit (word rec (1 + o)) b) (sym word_at) (sym bit_at)
      ∙ level_bit_is i (bit_in rec) rec 0 p.class (omega arith) (right_level i rec p.right 0 (omega arith)) k (omega (arith, p.used))
      ∙ ap (λ (t : Bool). t || bit_in rec (32 * j + b)) (le-leb (blocks i) (32 * j + b) h) in
      bit_of_or old w b ∙ ap (λ (t : Bool). t || bit w b) past

  -- the blocks of word j, and the others
  own : (k : ℕ) → k / 32 ≡ j → with_word rec j w k ≡ bit both (k % 32)
  own k e = rw (eq-eqb (k / 32) j e, e) (sym (bit_of_or old w (k % 32)))

  other : (k : ℕ) → k / 32 ≢ j → with_word rec j w k ≡ bit_in rec k
  other k n = rw (ne_eqb (k / 32) j n) (or-false (bit_in rec k))

  module _ (v : ℕ) where
    stored_own : (k : ℕ) → k / 32 ≡ j → bit_in (set rec (1 + j) v) k ≡ bit v (k % 32)
    stored_own k e = rw e (ap (λ (x : ℕ). bit x (k % 32)) (get_or-set_same rec (1 + j) v 0 (omega (arith, p.long, inside rec i j p))))

    stored_other : (k : ℕ) → k / 32 ≢ j → bit_in (set rec (1 + j) v) k ≡ bit_in rec k
    stored_other k n = ap (λ (x : ℕ). bit x (k % 32)) (get_or-set_other rec (1 + j) (1 + k / 32) v 0 (λ e. n (omega arith)))

    stored_head : word (set rec (1 + j) v) 0 ≡ word rec 0
    stored_head = get_or-set_other rec (1 + j) 0 v 0 (omega arith)

  -- it does not become full
  pub put_some : both ≢ ones → set rec (1 + j) both ≡ word rec 0 ∷ level_rows i (with_word rec j w)
  put_some some =
      let new : List ℕ = set rec (1 + j) both in
      right_is i new (length-set rec (1 + j) both ∙ p.long) (stored_right rec i j both p both_lt both_padded (ne_eqb both ones some))
      ∙ ap₂ ◌∷◌ (stored_head both) (rows_ext i (bit_in new) (with_word rec j w) (λ k _. go k (ℕ_discrete (k / 32) j)))
    where
      go : (k : ℕ) → Dec (k / 32 ≡ j) → bit_in (set rec (1 + j) both) k ≡ with_word rec j w k
      go k (yes e) = stored_own both k e ∙ sym (own k e)
      go k (no n) = stored_other both k n ∙ sym (other k n)

  -- it does: v is all of it but its first bit
  module _ (v : ℕ) (all : both ≡ ones) (but_first : v ≡ ones - 1) where
    first_out : (b : ℕ) → b < 32 → bit v b ≡ not (eqb b 0)
    first_out b l = ap (λ (x : ℕ). bit x b) but_first ∙ bit_not 1 b (omega arith) l ∙ ap not (bit_pow 0 b)

    pub put_right : levels_right i (set rec (1 + j) v) ≡ true
    put_right =
        stored_right rec i j v p (omega arith)
        (λ b l h. first_out b l ∙ ap not (ne_eqb b 0 (omega (arith, begins rec i j p)))) (ne_eqb v ones (omega arith))

    pub put_full : (k : ℕ) → k ≡ 32 * j
        → word (set rec (1 + j) v) 0 ∷ level_rows i (λ x. eqb x k || bit_in (set rec (1 + j) v) x) ≡ word rec 0 ∷ level_rows i (with_word rec j w)
    put_full k first =
        ap₂ ◌∷◌ (stored_head v)
        (rows_ext i (λ x. eqb x k || bit_in (set rec (1 + j) v) x) (with_word rec j w) (λ x _. go x (ℕ_discrete (x / 32) j) (ℕ_discrete x k)))
      where
        go : (x : ℕ) → Dec (x / 32 ≡ j) → Dec (x ≡ k) → (eqb x k || bit_in (set rec (1 + j) v) x) ≡ with_word rec j w x
        go x (yes e) (yes q) =
            ap (λ (t : Bool). t || bit_in (set rec (1 + j) v) x) (eq-eqb x k q)
            ∙ sym (own x e ∙ ap (λ (y : ℕ). bit y (x % 32)) all ∙ bit_ones (x % 32) (omega arith))
        go x (yes e) (no n) =
            ap (λ (t : Bool). t || bit_in (set rec (1 + j) v) x) (ne_eqb x k n)
            ∙ stored_own v x e ∙ first_out (x % 32) (omega arith) ∙ ap not (ne_eqb (x % 32) 0 (λ z. n (omega arith)))
            ∙ sym (own x e ∙ ap (λ (y : ℕ). bit y (x % 32)) all ∙ bit_ones (x % 32) (omega arith))
        go x (no n) d =
            ap (λ (t : Bool). t || bit_in (set rec (1 + j) v) x) (ne_eqb x k (λ q. n (omega arith)))
            ∙ stored_other v x n ∙ sym (other x n)

-- ---- word by word

-- the marks of the first n words
abbrev pub passed : List ℕ → ℕ → ℕ → Bool
passed marks n k = ltb (k / 32) n && mark_in marks k

module _ (rec : List ℕ) (head i : ℕ) (marks : List ℕ) (n : ℕ) (class : is_class i ≡ true) (made : rec ≡ head ∷ level_rows i (passed marks n)) where
  passed_bit : (k : ℕ) → k < blocks i → bit_in rec k ≡ passed marks n k
  passed_bit k l = ap (λ (ws : List ℕ). bit_in ws k) made ∙ set_of_record head i (passed marks n) class k l

  pub next_word : n < words_for (blocks i) → PutWord rec i n
  next_word used = record {
    long = ap length made ∙ record_length head i (passed marks n);
    class = class;
    right = ap (levels_right i) made ∙ record_right head i (passed marks n) class;
    used = used;
    free = passed_bit (32 * n) (omega arith) ∙ ap (λ (t : Bool). t && mark_in marks (32 * n)) (le-ltb (32 * n / 32) n (omega arith));
  }

  pub next_passed : (rec' : List ℕ) (w : ℕ) → rec' ≡ word rec 0 ∷ level_rows i (with_word rec n w) → w ≡ word marks n
      → rec' ≡ head ∷ level_rows i (passed marks (n + 1))
  next_passed rec' w put its =
      put
      ∙ ap₂ ◌∷◌ (ap (λ (ws : List ℕ). word ws 0) made)
      (rows_ext i (with_word rec n w) (passed marks (n + 1)) (λ k l. ap (λ (t : Bool). t || (eqb (k / 32) n && bit w (k % 32))) (passed_bit k l) ∙ go k (order (k / 32) n)))
    where
      go : (k : ℕ) → Order (k / 32) n → (passed marks n k || (eqb (k / 32) n && bit w (k % 32))) ≡ passed marks (n + 1) k
      go k (is_below h) =
          rw (lt-ltb (k / 32) n h, lt-ltb (k / 32) (n + 1) (omega arith), ne_eqb (k / 32) n (omega arith)) (or-false (mark_in marks k))
      go k (is_same e) =
          rw (le-ltb (k / 32) n (omega arith), lt-ltb (k / 32) (n + 1) (omega arith), eq-eqb (k / 32) n e) (ap (λ (x : ℕ). bit x (k % 32)) (its ∙ ap (word marks) (sym e)))
      go k (is_above h) = rw (le-ltb (k / 32) n (omega arith), le-ltb (k / 32) (n + 1) (omega arith), ne_eqb (k / 32) n (omega arith))

  pub all_passed : words_for (blocks i) ≤ n → rec ≡ head ∷ level_rows i (mark_in marks)
  all_passed all =
      made ∙ ap (λ (ws : List ℕ). head ∷ ws) (rows_ext i (passed marks n) (mark_in marks) (λ k l. ap (λ (t : Bool). t && mark_in marks k) (lt-ltb (k / 32) n (omega arith))))
