-- Setting a bit and climbing where the word has become full leaves the levels of the set with one block more, and every other word as it was.
-- Assumes nothing.
use Prim.Native.Nat.{ℕ, zero, suc, ◌+◌, ◌-◌, ◌/◌, ◌%◌, ◌≤◌, ◌<◌}
use native.Mathlib.Omega.{arith}
use native.Mathlib.Decide.{dec_lt, ℕ_discrete}
use native.Mathlib.Nat.{le_refl}
use native.Mathlib.Numerals.{add-one}
use mathlib.Core.Path.{◌≡◌, refl, sym, ap, ◌∙◌}
use mathlib.Core.Logic.{◌≢◌, ◌⊎◌, inl, inr}
use mathlib.Core.Bool.{Bool, true, false, cond, ◌||◌, or-true}
use mathlib.Core.List.{List}
use lib.ListN.{length, set, length-set}
use lib.Seq.{get_or-set_same, get_or-set_other}
use lib.Dec.{eqb}
use borrow.Author.Tests.{eq-eqb, ne_eqb}
use Rattle.model.specs.Word.{word, bit, full, word_of_bits}
use Rattle.model.specs.Class.{is_class, level_words, level_end, levels}
use Rattle.model.specs.Layout.{level_at, level_room, level_word}
use Rattle.laws.proofs.Bits.{bit_word_of_bits, full_bit, full_of_bits}
use Rattle.bitmap.specs.Tree.{with_level_bit, climbed}
use Rattle.bitmap.proofs.LevelLaws.{level_set, level_word_is, level_word_lt, level_ext, unused_above, unused_word, level_inside, levels_apart, words_room, words_hold, levels_le, used_level, unused_level, padded_more, padded_other}

-- every word of level l of the record is that of the set
abbrev pub Level : ℕ → (ℕ → Bool) → List ℕ → ℕ → Type 0
Level i set rec l = (j : ℕ) → j < level_room l → word rec (level_at l + j) ≡ level_word i set l j

-- the record on its way up: below l its levels are those of g, from l on still those of f, and at l bit k is wanting
pub record Climbing (i l k : ℕ) (f g : ℕ → Bool) (rec : List ℕ) : Type 0 where
  pub long : length rec ≡ 68
  pub below : (m : ℕ) → m < l → Level i g rec m
  pub above : (m : ℕ) → l ≤ m → m < 3 → Level i f rec m
  pub used : l < 3 → 0 < level_words i l
  pub inside : l < 3 → k < level_end i l
  pub more : (x : ℕ) → x < level_end i l → level_set i g l x ≡ (eqb x k || level_set i f l x)

-- ---- one level: what setting one bit of it does

module _ (i l k : ℕ) (f g : ℕ → Bool) (rec : List ℕ) (class : is_class i ≡ true) (l<3 : l < 3) (c : Climbing i l k f g rec) where
  k_word : k / 32 < level_words i l
  k_word = omega (arith, words_hold i l class l<3 (c.used l<3), c.inside l<3)

  k_room : k / 32 < level_room l
  k_room = omega (arith, words_room i l class l<3, k_word)

  -- the word of bit k in the new set, and the other words
  word_more : level_word i g l (k / 32) ≡ word_of_bits (λ b. eqb b (k % 32) || bit (level_word i f l (k / 32)) b)
  word_more =
      level_word_is i g l (k / 32)
      ∙ padded_more (level_words i l) (level_end i l) (level_set i f l) (level_set i g l) k (c.inside l<3) c.more k_word
      ∙ ap (λ (w : ℕ). word_of_bits (λ b. eqb b (k % 32) || bit w b)) (sym (level_word_is i f l (k / 32)))

  word_other : (j : ℕ) → j ≢ k / 32 → level_word i g l j ≡ level_word i f l j
  word_other j apart =
      level_word_is i g l j
      ∙ padded_other (level_words i l) (level_end i l) (level_set i f l) (level_set i g l) k (c.inside l<3) c.more j apart
      ∙ sym (level_word_is i f l j)

  -- what stands at other levels, and in the head, is as it was
  elsewhere : (o : ℕ) → o ≢ level_at l + k / 32 → word (with_level_bit rec l k) o ≡ word rec o
  elsewhere o apart = get_or-set_other rec (level_at l + k / 32) o _ 0 apart

  other_level : (m j : ℕ) → m < 3 → m ≢ l → j < level_room m → word (with_level_bit rec l k) (level_at m + j) ≡ word rec (level_at m + j)
  other_level m j m<3 apart r = elsewhere (level_at m + j) (go (dec_lt m l))
    where
      go : Dec (m < l) → level_at m + j ≢ level_at l + k / 32
      go (yes h) = omega (arith, levels_apart m l j (k / 32) h l<3 r k_room)
      go (no h) = omega (arith, levels_apart l m (k / 32) j (omega arith) m<3 k_room r)

  set_word : word (with_level_bit rec l k) (level_at l + k / 32) ≡ level_word i g l (k / 32)
  set_word =
      get_or-set_same rec (level_at l + k / 32) _ 0 (omega (arith, level_inside l (k / 32) l<3 k_room, c.long))
      ∙ ap (λ (w : ℕ). word_of_bits (λ b. eqb b (k % 32) || bit w b)) (c.above l (le_refl l) l<3 (k / 32) k_room)
      ∙ sym word_more

  level_more : Level i g (with_level_bit rec l k) l
  level_more j r = go (ℕ_discrete j (k / 32))
    where
      go : Dec (j ≡ k / 32) → word (with_level_bit rec l k) (level_at l + j) ≡ level_word i g l j
      go (yes e) = rw e set_word
      go (no apart) = elsewhere (level_at l + j) (λ e. apart (omega arith)) ∙ c.above l (le_refl l) l<3 j r ∙ sym (word_other j apart)

  -- so up to l the levels are those of g, and above it still those of f
  up_to : (m : ℕ) → m ≤ l → Level i g (with_level_bit rec l k) m
  up_to m h j r = go (ℕ_discrete m l)
    where
      go : Dec (m ≡ l) → word (with_level_bit rec l k) (level_at m + j) ≡ level_word i g m j
      go (yes e) = rw e (level_more j (rw e at r))
      go (no apart) = other_level m j (omega arith) apart r ∙ c.below m (omega arith) j r

  still : (m : ℕ) → l < m → m < 3 → Level i f (with_level_bit rec l k) m
  still m h m<3 j r = other_level m j m<3 (omega arith) r ∙ c.above m (omega arith) m<3 j r

  -- where the word has become full, the next level has one bit more: the word's own
  next_more : full (level_word i g l (k / 32)) ≡ true
      → (x : ℕ) → full (level_word i g l x) ≡ (eqb x (k / 32) || full (level_word i f l x))
  next_more e x = go (ℕ_discrete x (k / 32))
    where
      go : Dec (x ≡ k / 32) → full (level_word i g l x) ≡ (eqb x (k / 32) || full (level_word i f l x))
      go (yes q) = ap (λ (y : ℕ). full (level_word i g l y)) q ∙ e ∙ sym (ap (λ (t : Bool). t || full (level_word i f l x)) (eq-eqb x (k / 32) q))
      go (no q) = ap full (word_other x q) ∙ sym (ap (λ (t : Bool). t || full (level_word i f l x)) (ne_eqb x (k / 32) q))

  -- where it has not, it was not full before, and all above is as it was
  was_not_full : full (level_word i g l (k / 32)) ≡ false → full (level_word i f l (k / 32)) ≡ false
  was_not_full e = go (full (level_word i f l (k / 32))) refl
    where
      go : (t : Bool) → full (level_word i f l (k / 32)) ≡ t → t ≡ false
      go false p = refl
      go true p =
          sym (full_of_bits (level_word i g l (k / 32)) (level_word_lt i g l (k / 32)) (λ b h.
          ap (λ (w : ℕ). bit w b) word_more
          ∙ bit_word_of_bits (λ b. eqb b (k % 32) || bit (level_word i f l (k / 32)) b) b h
          ∙ ap (λ (t : Bool). eqb b (k % 32) || t) (full_bit (level_word i f l (k / 32)) b h p)
          ∙ or-true (eqb b (k % 32))))
          ∙ e

  next_same : full (level_word i g l (k / 32)) ≡ false → (x : ℕ) → full (level_word i f l x) ≡ full (level_word i g l x)
  next_same e x = go (ℕ_discrete x (k / 32))
    where
      go : Dec (x ≡ k / 32) → full (level_word i f l x) ≡ full (level_word i g l x)
      go (yes q) = rw q (was_not_full e ∙ sym e)
      go (no q) = ap full (sym (word_other x q))

  -- a turn that climbs leaves the record on its way at the next level
  climbs : full (level_word i g l (k / 32)) ≡ true → 0 < level_words i (suc l) → Climbing i (suc l) (k / 32) f g (with_level_bit rec l k)
  unfolding level_end
  climbs e next =
      record {
        long = length-set rec _ _ ∙ c.long;
        below = λ m h. up_to m (omega arith);
        above = λ m h. still m (omega arith);
        used = λ _. next;
        inside = λ _. k_word;
        more = λ x _. next_more e x;
      }

  -- a turn that does not climb is the last
  stops : (full (level_word i g l (k / 32)) ≡ false) ⊎ (level_words i (suc l) ≡ 0) → (m : ℕ) → m < 3 → Level i g (with_level_bit rec l k) m
  unfolding level_end
  stops why m m<3 = go (dec_lt l m)
    where
      same : (why : (full (level_word i g l (k / 32)) ≡ false) ⊎ (level_words i (suc l) ≡ 0)) → suc l ≤ m → (j : ℕ) → level_word i f m j ≡ level_word i g m j
      same (inl e) h j = level_ext i f g (suc l) (λ x _. next_same e x) m h j
      same (inr z) h j = unused_word i f m j (unused_above i (suc l) z m h) ∙ sym (unused_word i g m j (unused_above i (suc l) z m h))

      go : Dec (l < m) → Level i g (with_level_bit rec l k) m
      go (yes h) j r = still m h m<3 j r ∙ same why h j
      go (no h) j r = up_to m (omega arith) j r

-- ---- all levels

module _ (i : ℕ) (f g : ℕ → Bool) (class : is_class i ≡ true) where
  pub climbed_right : (left l k : ℕ) (rec : List ℕ) → l + left + 1 ≡ levels i → Climbing i l k f g rec → (m : ℕ) → m < 3
      → Level i g (climbed left l k rec) m
  unfolding climbed
  climbed_right zero l k rec last c m m<3 =
      stops i l k f g rec class (omega (arith, levels_le i class)) c (inr (unused_level i (suc l) class (omega (arith, levels_le i class)) (omega arith))) m m<3
  climbed_right (suc left) l k rec last c m m<3 =
      go (climbed_right left (suc l) (k / 32) (with_level_bit rec l k) (omega arith)) (full (word (with_level_bit rec l k) (level_at l + k / 32))) refl
    where
      l<3 : l < 3
      l<3 = omega (arith, levels_le i class)

      next : full (level_word i g l (k / 32)) ≡ full (word (with_level_bit rec l k) (level_at l + k / 32))
      next = ap full (sym (set_word i l k f g rec class l<3 c))

      go : (Climbing i (suc l) (k / 32) f g (with_level_bit rec l k) → (m : ℕ) → m < 3 → Level i g (climbed left (suc l) (k / 32) (with_level_bit rec l k)) m)
          → (t : Bool) → full (word (with_level_bit rec l k) (level_at l + k / 32)) ≡ t
          → Level i g (cond t (climbed left (suc l) (k / 32) (with_level_bit rec l k)) (with_level_bit rec l k)) m
      go ih true e = ih (climbs i l k f g rec class l<3 c (next ∙ e) (used_level i (suc l) class (omega arith))) m m<3
      go ih false e = stops i l k f g rec class l<3 c (inl (next ∙ e)) m m<3

-- ---- the ways out of a turn, after which the record is `once`

module _ (l k : ℕ) (rec once : List ℕ) (turn : once ≡ with_level_bit rec l k) where
  -- there is no level left
  pub climbed_last : (left : ℕ) → left ≡ 0 → once ≡ climbed left l k rec
  unfolding climbed
  climbed_last zero e = turn
  climbed_last (suc left) e = absurd (omega arith)

  -- the word is not full
  pub climbed_stops : (left : ℕ) → full (word once (level_at l + k / 32)) ≡ false → once ≡ climbed left l k rec
  unfolding climbed
  climbed_stops zero e = turn
  climbed_stops (suc left) e = rw (← turn, e)

  -- it is, and the next level gets its bit
  pub climbed_higher : (left : ℕ) → 0 < left → full (word once (level_at l + k / 32)) ≡ true
      → climbed (left - 1) (l + 1) (k / 32) once ≡ climbed left l k rec
  unfolding climbed
  climbed_higher zero h e = absurd (omega arith)
  climbed_higher (suc left) h e = let back : suc left - 1 ≡ left = omega arith in rw (← turn, e, back, add-one l)

-- the length stays, and what stands before the levels
pub climbed_length : (left l k : ℕ) (rec : List ℕ) → length (climbed left l k rec) ≡ length rec
unfolding climbed
climbed_length zero l k rec = length-set rec _ _
climbed_length (suc left) l k rec =
    go (climbed_length left (suc l) (k / 32) (with_level_bit rec l k)) (full (word (with_level_bit rec l k) (level_at l + k / 32)))
  where
    go : length (climbed left (suc l) (k / 32) (with_level_bit rec l k)) ≡ length (with_level_bit rec l k)
        → (t : Bool) → length (cond t (climbed left (suc l) (k / 32) (with_level_bit rec l k)) (with_level_bit rec l k)) ≡ length rec
    go ih true = ih ∙ length-set rec _ _
    go ih false = length-set rec _ _

before_levels : (l : ℕ) → 0 < level_at l
before_levels zero = omega arith
before_levels (suc zero) = omega arith
before_levels (suc (suc l)) = omega arith

pub climbed_head : (left l k : ℕ) (rec : List ℕ) → word (climbed left l k rec) 0 ≡ word rec 0
unfolding climbed
climbed_head zero l k rec = get_or-set_other rec (level_at l + k / 32) 0 _ 0 (omega (arith, before_levels l))
climbed_head (suc left) l k rec =
    go (climbed_head left (suc l) (k / 32) (with_level_bit rec l k)) (full (word (with_level_bit rec l k) (level_at l + k / 32)))
  where
    head : word (with_level_bit rec l k) 0 ≡ word rec 0
    head = get_or-set_other rec (level_at l + k / 32) 0 _ 0 (omega (arith, before_levels l))

    go : word (climbed left (suc l) (k / 32) (with_level_bit rec l k)) 0 ≡ word (with_level_bit rec l k) 0
        → (t : Bool) → word (cond t (climbed left (suc l) (k / 32) (with_level_bit rec l k)) (with_level_bit rec l k)) 0 ≡ word rec 0
    go ih true = ih ∙ head
    go ih false = head
