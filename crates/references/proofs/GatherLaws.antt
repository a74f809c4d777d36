-- Laws of gathering: the references of a segment's taken blocks end to end, block by block, by the set bits of a word, and word by word.
-- Assumes nothing.
use Prim.Native.Nat.{ℕ, ◌+◌, ◌-◌, ◌*◌, ◌^◌, ◌≤◌, ◌<◌, zero, suc}
use mathlib.Core.Path.{◌≡◌, refl, sym, ap, ap₂, subst, ◌∙◌}
use mathlib.Core.Bool.{Bool, true, false, not, ◌&&◌, ◌||◌, and-true, and-false, and-eq-true_iff, false≢true}
use mathlib.Core.List.{List, [], ◌++◌}
use native.Mathlib.Nat.{mul-add, mul-le-mul_left, mul-le-mul_right, mul-suc}
use native.Mathlib.Omega.{arith}
use Rattle.std.proofs.Common.{Option, Some, None}
use lib.Dec.{eqb, leb, ltb}
use lib.Bits.{bit_and, and_le_r}
use lib.Count.{count_trailing_zeros, trailing_le, trailing_of_zero}
use lib.ListN.{length, take, drop, length-take, length-drop}
use lib.Seq.{length-take-le, get_or-take, take-append-le, take-append-add}
use borrow.Author.Tests.{le-ltb, ltb-true, ltb-false, eqb-true, eqb-false, ne_eqb, leb-true}
use Rattle.model.specs.Below.{all_below}
use Rattle.model.specs.Word.{word, part, bit}
use Rattle.model.specs.Class.{is_class, blocks, block_words, words_for, class_of}
use Rattle.model.specs.Layout.{block_at}
use Rattle.model.specs.View.{segments, class, block_offset, block_of, n_in, r_in}
use Rattle.model.specs.Standing.{taken_at}
use Rattle.laws.proofs.Below.{all_below_ext, all_below_intro, all_below_step, all_below_add, all_below_split, first_is}
use Rattle.laws.proofs.Bits.{bit_zero, bit_and_pred, trailing_first, word_ext}
use Rattle.laws.proofs.Splice.{length_part, word_part}
use Rattle.words.proofs.ClassLaws.{class_rule, bounds_class, class_room}
use Rattle.words.proofs.HandleLaws.{block_inside, block_in_arena}
use Rattle.taken.specs.Row.{all_words, TakenRow}
use Rattle.references.specs.Gather.{header_right, references_in, headed, references_of, Added, Gathered, GatheredBelow, Of, AtWord}
use Rattle.taken.proofs.RowLaws.{all_words_append, taken_at_inside, is_taken_at, row_bit_taken}

-- ---- a test of each word of a list

pub all_words_take : (p : ℕ → Bool) (n : ℕ) (xs : List ℕ) → n ≤ length xs → all_words p (take n xs) ≡ all_below n (λ f. p (word xs f))
all_words_take p n xs l =
    ap (λ (m : ℕ). all_below m (λ f. p (word (take n xs) f))) (length-take-le n xs l)
    ∙ all_below_ext n (λ f. p (word (take n xs) f)) (λ f. p (word xs f)) (λ f u. ap p (get_or-take n xs f 0 u))

pub all_words_ext : (p q : ℕ → Bool) (xs : List ℕ) → ((x : ℕ) → p x ≡ q x) → all_words p xs ≡ all_words q xs
all_words_ext p q xs h = all_below_ext (length xs) (λ f. p (word xs f)) (λ f. q (word xs f)) (λ f _. h (word xs f))

pub all_words_part : (p : ℕ → Bool) (xs : List ℕ) (o n : ℕ) → o + n ≤ length xs → all_words p (part xs o n) ≡ all_below n (λ f. p (word xs (o + f)))
all_words_part p xs o n l =
    ap (λ (m : ℕ). all_below m (λ f. p (word (part xs o n) f))) (length_part xs o n l)
    ∙ all_below_ext n (λ f. p (word (part xs o n) f)) (λ f. p (word xs (o + f))) (λ f u. ap p (word_part xs o n f u))

-- ---- the first words of a row

-- how many they are
pub first_words : (words : List ℕ) {refs : List ℕ} {n : ℕ} → (n ≤ 4096) × (length words ≡ 4096) → take n words ≡ refs → n ≡ length refs
first_words words {refs} {n} (l, e) same = sym (length-take-le n words (omega arith)) ∙ ap length same

-- there is room for as many words as are missing
pub words_behind : (words : List ℕ) (n : ℕ) → (n ≤ 4096) × (length words ≡ 4096) → length (take (4096 - n) (drop n words)) ≡ 4096 - n
words_behind words n (l, e) = simp (length-take, length-drop) (omega arith)

-- and m of those that are put behind them
pub longer_words : (words rest post : List ℕ) {refs : List ℕ} {n : ℕ} (m : ℕ) → (n ≤ 4096) × (length words ≡ 4096) → take n words ≡ refs → m ≤ length rest
    → take (n + m) (take n words ++ (rest ++ post)) ≡ refs ++ take m rest
longer_words words rest post {refs} {n} m (l, e) same u =
    ap (λ (k : ℕ). take (k + m) (take n words ++ (rest ++ post))) (sym (length-take-le n words (omega arith)))
    ∙ take-append-add (take n words) (rest ++ post) m ∙ ap₂ ◌++◌ same (take-append-le m rest post u)

-- ---- headers

-- a right header leaves room for itself: r is less than the block's words
pub header_room : (i : ℕ) (b : List ℕ) → header_right i b ≡ true → r_in b < block_words i
unfolding header_right
header_room i b t =
    let both = (and-eq-true_iff (eqb (class_of (n_in b)) i) (leb (r_in b) (n_in b))).0 t in
    omega (arith, class_room (n_in b) i (eqb-true (class_of (n_in b)) i both.0), leb-true (r_in b) (n_in b) both.1)

-- ---- blocks that are not taken add nothing

all_skip : (a n : ℕ) (p : ℕ → Bool) → ((k : ℕ) → k < n → p (a + k) ≡ true) → all_below (a + n) p ≡ all_below a p
all_skip a n p h = all_below_add a n p ∙ rw (all_below_intro n (λ k. p (a + k)) h) (and-true (all_below a p))

module _ (ws : List ℕ) (s : ℕ) where
  pub headed_free : (k : ℕ) → taken_at ws s k ≡ false → headed ws s k ≡ true
  unfolding headed
  headed_free k e = rw e

  pub headed_taken : (k : ℕ) → taken_at ws s k ≡ true → headed ws s k ≡ header_right (class ws s) (block_of ws s k)
  unfolding headed
  headed_taken k e = rw e

  pub references_free : (k : ℕ) → taken_at ws s k ≡ false → references_of ws s k ≡ []
  unfolding references_of
  references_free k e = rw e

  pub references_taken : (k : ℕ) → taken_at ws s k ≡ true → references_of ws s k ≡ references_in (block_of ws s k)
  unfolding references_of
  references_taken k e = rw e

  module _ (a b : ℕ) (l : a ≤ b) (free : (k : ℕ) → a ≤ k → k < b → taken_at ws s k ≡ false) where
    whole : b ≡ a + (b - a)
    whole = omega arith

    skip_headed : all_below b (headed ws s) ≡ all_below a (headed ws s)
    skip_headed =
        ap (λ (n : ℕ). all_below n (headed ws s)) whole
        ∙ all_skip a (b - a) (headed ws s) (λ k u. headed_free (a + k) (free (a + k) (omega arith) (omega arith)))

    skip_tests : (p : ℕ → Bool) → all_below b (λ k. all_words p (references_of ws s k)) ≡ all_below a (λ k. all_words p (references_of ws s k))
    unfolding all_below
    skip_tests p =
        ap (λ (n : ℕ). all_below n (λ k. all_words p (references_of ws s k))) whole
        ∙ all_skip a (b - a) (λ k. all_words p (references_of ws s k))
        (λ k u. ap (all_words p) (references_free (a + k) (free (a + k) (omega arith) (omega arith))))

-- ---- from block to block

-- nothing is gathered yet
pub gathered_none : (ws : List ℕ) (s : ℕ) → Gathered ws s 0 []
unfolding all_below
gathered_none ws s = record { headers = refl; room = omega arith; few = omega arith; tests = λ p none. refl }

-- so there is room for those of one block more
pub gathered_room : {ws : List ℕ} {s k : ℕ} {refs : List ℕ} → Gathered ws s k refs → is_class (class ws s) ≡ true
    → k < blocks (class ws s) → length refs + (block_words (class ws s) - 1) ≤ 4096
gathered_room {ws} {s} {k} g c l =
    omega (
      arith,
      g.few,
      block_inside (class ws s) k c l,
      mul-le-mul_right k (less (block_words (class ws s))),
    )
  where
    less : (w : ℕ) → w - 1 ≤ w
    less w = omega arith

-- and all of them fit
pub gathered_within : {ws : List ℕ} {s : ℕ} (end : ℕ) {refs : List ℕ} → Gathered ws s end refs → is_class (class ws s) ≡ true
    → end ≤ blocks (class ws s) → length refs ≤ 4096
gathered_within {ws} {s} zero g c l = omega (arith, g.few)
gathered_within {ws} {s} (suc k) g c l =
    omega (
      arith,
      g.few,
      block_inside (class ws s) k c l,
      mul-suc (block_words (class ws s)) k,
      mul-le-mul_right (suc k) (less (block_words (class ws s))),
    )
  where
    less : (w : ℕ) → w - 1 ≤ w
    less w = omega arith

pub gathered_step : {ws : List ℕ} {s k i : ℕ} {b refs : List ℕ} (added : Option (List ℕ)) → Gathered ws s k refs
    → taken_at ws s k ≡ true → i ≡ class ws s → b ≡ block_of ws s k → Added i b refs added → GatheredBelow ws s (k + 1) added
gathered_step {ws} {s} {k} {i} {b} {refs} None g t e u wrong =
    all_below_step k (headed ws s) ∙ ap₂ ◌&&◌ g.headers (headed_taken ws s k t ∙ sym (ap₂ header_right e u) ∙ wrong)
gathered_step {ws} {s} {k} {i} {b} {refs} (Some refs') g t e u a = record {
  headers = all_below_step k (headed ws s) ∙ ap₂ ◌&&◌ g.headers (headed_taken ws s k t ∙ sym (ap₂ header_right e u) ∙ a.header);
  room = a.room;
  few = omega (arith, a.few, g.few, ap block_words e, mul-add (block_words (class ws s) - 1) k 1);
  tests = λ p none.
      ap (all_words p) a.words ∙ all_words_append p refs (references_in b)
      ∙ ap₂ ◌&&◌ (g.tests p none) (ap (all_words p) (ap references_in u ∙ sym (references_taken ws s k t)))
      ∙ sym (all_below_step k (λ k. all_words p (references_of ws s k)));
}

pub gathered_skip : {ws : List ℕ} {s a b : ℕ} {refs : List ℕ} → Gathered ws s a refs → a ≤ b
    → ((k : ℕ) → a ≤ k → k < b → taken_at ws s k ≡ false) → Gathered ws s b refs
gathered_skip {ws} {s} {a} {b} g l free = record {
  headers = skip_headed ws s a b l free ∙ g.headers;
  room = g.room;
  few = omega (arith, g.few, mul-le-mul_left (block_words (class ws s) - 1) l);
  tests = λ p none. g.tests p none ∙ sym (skip_tests ws s a b l free p);
}

-- one wrong header is enough
pub gathered_wrong : (ws : List ℕ) (s a b : ℕ) → all_below a (headed ws s) ≡ false → a ≤ b → all_below b (headed ws s) ≡ false
gathered_wrong ws s a b e l = all_below_split a b (headed ws s) l ∙ ap (λ (t : Bool). t && all_below (b - a) (λ k. headed ws s (a + k))) e

-- ---- by the set bits of a word

-- the lowest set bit, and the bits below it
pub trailing_before : (w b : ℕ) → b < count_trailing_zeros 32 w → bit w b ≡ false
trailing_before w b l =
    (first_is 0 32 (bit w)).before b (omega arith) (omega (arith, trailing_first 32 w))

pub trailing_found : (w : ℕ) → count_trailing_zeros 32 w < 32 → bit w (count_trailing_zeros 32 w) ≡ true
trailing_found w l = rw (trailing_first 32 w) ((first_is 0 32 (bit w)).found (omega (arith, trailing_first 32 w)))

pub trailing_lt : (w : ℕ) → w < 2 ^ 32 → (w ≡ 0 → ⊥) → count_trailing_zeros 32 w < 32
trailing_lt w h some = go (ltb (count_trailing_zeros 32 w) 32) refl
  where
    go : (t : Bool) → ltb (count_trailing_zeros 32 w) 32 ≡ t → count_trailing_zeros 32 w < 32
    go true e = ltb-true (count_trailing_zeros 32 w) 32 e
    go false e =
        absurd (some (word_ext w 0 h (omega arith) (λ b l. trailing_before w b (omega (arith, ltb-false (count_trailing_zeros 32 w) 32 e)) ∙ sym (bit_zero b))))

-- what is left of a word's bits once the lowest is cleared
module _ (w : ℕ) (h : w < 2 ^ 32) (some : w ≡ 0 → ⊥) where
  left_bit : (b : ℕ) → (b ≡ count_trailing_zeros 32 w → ⊥) → bit (bit_and w (w - 1)) b ≡ bit w b
  left_bit b f = bit_and_pred w b (omega arith) h ∙ rw (ne_eqb b (count_trailing_zeros 32 w) f) (and-true (bit w b))

  cleared : (b : ℕ) → b ≤ count_trailing_zeros 32 w → bit (bit_and w (w - 1)) b ≡ false
  cleared b l = bit_and_pred w b (omega arith) h ∙ go (eqb b (count_trailing_zeros 32 w)) refl
    where
      go : (t : Bool) → eqb b (count_trailing_zeros 32 w) ≡ t → (bit w b && not t) ≡ false
      go true e = and-false (bit w b)
      go false e = rw (trailing_before w b (omega (arith, eqb-false b (count_trailing_zeros 32 w) e)))

  pub left_later : count_trailing_zeros 32 w < count_trailing_zeros 32 (bit_and w (w - 1))
  left_later = go (ltb (count_trailing_zeros 32 w) (count_trailing_zeros 32 (bit_and w (w - 1)))) refl
    where
      go : (t : Bool) → ltb (count_trailing_zeros 32 w) (count_trailing_zeros 32 (bit_and w (w - 1))) ≡ t → count_trailing_zeros 32 w < count_trailing_zeros 32 (bit_and w (w - 1))
      go true e = ltb-true _ _ e
      go false e =
          let early = ltb-false (count_trailing_zeros 32 w) (count_trailing_zeros 32 (bit_and w (w - 1))) e in
          absurd (false≢true (
          sym (cleared (count_trailing_zeros 32 (bit_and w (w - 1))) early)
          ∙ trailing_found (bit_and w (w - 1)) (omega (arith, trailing_lt w h some))
          ))

  pub left_less : bit_and w (w - 1) < w
  left_less = omega (arith, and_le_r w (w - 1))

-- the blocks of word j before the lowest bit that is left are gathered, and from there on the bits left are the word's
pub record Left (ws : List ℕ) (s j w left : ℕ) (refs : List ℕ) : Type 0 where
  pub small : left < 2 ^ 32
  pub bits : (b : ℕ) → b < 32 → count_trailing_zeros 32 left ≤ b → bit left b ≡ bit w b
  pub gathered : Gathered ws s (32 * j + count_trailing_zeros 32 left) refs

module _ {ws : List ℕ} {s j w : ℕ} {refs : List ℕ} where
  pub left_all : AtWord ws s j w refs → w < 2 ^ 32 → Left ws s j w w refs
  left_all a h = record {
    small = h;
    bits = λ b l u. refl;
    gathered = gathered_skip a.gathered (omega arith) (λ k l u. free k l u (k - 32 * j) (omega arith));
  }
    where
      free : (k : ℕ) → 32 * j ≤ k → k < 32 * j + count_trailing_zeros 32 w → (b : ℕ) → k ≡ 32 * j + b → taken_at ws s k ≡ false
      free k l u b e =
          ap (taken_at ws s) e ∙ sym (a.bits b (omega (arith, trailing_le 32 w))) ∙ trailing_before w b (omega arith)

  -- one block more: those between it and the next set bit are not taken
  pub left_step : {left : ℕ} {refs' refs'' : List ℕ} → AtWord ws s j w refs → Left ws s j w left refs' → (left ≡ 0 → ⊥)
      → Gathered ws s (32 * j + count_trailing_zeros 32 left + 1) refs'' → Left ws s j w (bit_and left (left - 1)) refs''
  left_step {left} a h some g = record {
    small = omega (arith, h.small, left_less left h.small some);
    bits = λ b l u. left_bit left h.small some b (λ e. omega (arith, later)) ∙ h.bits b l (omega (arith, later));
    gathered = gathered_skip g (omega (arith, later)) (λ k l u. free k l u (k - 32 * j) (omega arith));
  }
    where
      later : count_trailing_zeros 32 left < count_trailing_zeros 32 (bit_and left (left - 1))
      later = left_later left h.small some

      free : (k : ℕ) → 32 * j + count_trailing_zeros 32 left + 1 ≤ k → k < 32 * j + count_trailing_zeros 32 (bit_and left (left - 1)) → (b : ℕ) → k ≡ 32 * j + b → taken_at ws s k ≡ false
      free k l u b e =
          let small : b < 32 = omega (arith, trailing_le 32 (bit_and left (left - 1))) in
          ap (taken_at ws s) e ∙ sym (a.bits b small) ∙ sym (h.bits b small (omega arith))
          ∙ sym (left_bit left h.small some b (λ d. omega arith)) ∙ trailing_before (bit_and left (left - 1)) b (omega arith)

  -- the block of the lowest bit that is left is taken
  pub left_taken : {left : ℕ} {refs' : List ℕ} → AtWord ws s j w refs → Left ws s j w left refs' → (left ≡ 0 → ⊥)
      → taken_at ws s (32 * j + count_trailing_zeros 32 left) ≡ true
  left_taken {left} a h some =
      let small = trailing_lt left h.small some in
      sym (a.bits (count_trailing_zeros 32 left) small) ∙ sym (h.bits (count_trailing_zeros 32 left) small (omega arith)) ∙ trailing_found left small

pub left_none : {ws : List ℕ} {s j w left : ℕ} {refs : List ℕ} → Left ws s j w left refs → left ≡ 0 → Gathered ws s (32 * j + 32) refs
left_none {ws} {s} {j} {w} {left} {refs} h e =
    rw (ap (λ (x : ℕ). 32 * j + count_trailing_zeros 32 x) e, trailing_of_zero 32) at h.gathered

-- ---- blocks of the arena

pub taken_inside : (ws : List ℕ) (s k : ℕ) → taken_at ws s k ≡ true → k < blocks (class ws s)
taken_inside ws s k t = go (ltb k (blocks (class ws s))) refl
  where
    go : (u : Bool) → ltb k (blocks (class ws s)) ≡ u → k < blocks (class ws s)
    go true e = ltb-true k (blocks (class ws s)) e
    go false e = absurd (false≢true (sym (taken_at_inside ws s k (ltb-false k (blocks (class ws s)) e)) ∙ t))

module _ {ws : List ℕ} {N s i : ℕ} (o : Of ws N s i) where
  pub of_class : is_class (class ws s) ≡ true
  of_class = ap is_class (sym o.member.class) ∙ bounds_class i o.member.low o.member.high

  -- the part of the arena that is handed on as a block is the block
  pub block_handed : {b : List ℕ} (k : ℕ) → b ≡ part ws (block_at N s i k) (block_words i) → b ≡ block_of ws s k
  unfolding block_of
  block_handed k e = e ∙ ap₂ (λ (n c : ℕ). part ws (block_at n s c k) (block_words c)) o.all o.member.class

  pub block_long : (k : ℕ) → k < blocks (class ws s) → length (block_of ws s k) ≡ block_words (class ws s)
  unfolding block_of
  block_long k l =
      length_part ws (block_offset ws s k) (block_words (class ws s))
      (omega (arith, o.member.long, block_in_arena (segments ws) s (class ws s) k o.member.there of_class l))

  pub handed_long : {b : List ℕ} (k : ℕ) → b ≡ block_of ws s k → k < blocks (class ws s) → length b ≡ block_words i
  handed_long k e l = ap length e ∙ block_long k l ∙ ap block_words (sym o.member.class)

-- ---- word by word

-- the blocks of a class up to 7 are a multiple of 32
pub whole_words : (i : ℕ) → 3 ≤ i → i ≤ 7 → 32 * words_for (blocks i) ≡ blocks i
unfolding all_below
whole_words i low small =
    eqb-true (32 * words_for (blocks i)) (blocks i)
    (sym (ap (λ (t : Bool). t || eqb (32 * words_for (blocks i)) (blocks i)) (le-ltb 7 i small))
    ∙ class_rule (λ j. ltb 7 j || eqb (32 * words_for (blocks j)) (blocks j)) refl i (bounds_class i low (omega arith)))

pub row_word_bits : {ws row : List ℕ} → TakenRow ws row → (s j b : ℕ) → s < segments ws → j < 64 → b < 32
    → bit (word row (1 + 64 * s + j)) b ≡ taken_at ws s (32 * j + b)
row_word_bits {ws} {row} t s j b there inside small =
    let x : ℕ = 2048 * s + 32 * j + b in
    ap₂ (λ (o c : ℕ). bit (word row o) c) (omega arith) (omega arith) ∙ row_bit_taken t x (omega arith) ∙ is_taken_at ws x
    ∙ ap₂ (taken_at ws) (omega arith) (omega arith)

-- where blocks are not large, their bits fill whole words
pub gathered_end : {ws : List ℕ} {s end : ℕ} {refs : List ℕ} {i : ℕ} → Gathered ws s end refs → 3 ≤ i → i ≤ 7
    → end ≡ 32 * words_for (blocks i) → Gathered ws s (blocks i) refs
gathered_end {ws} {s} {end} {refs} {i} g low small e = subst (λ (n : ℕ). Gathered ws s n refs) (e ∙ whole_words i low small) g
