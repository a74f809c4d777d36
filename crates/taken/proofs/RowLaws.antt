-- Laws of the taken row: the words that it is made of, what asking it tells of the arena, and its count of ones.
-- Assumes nothing.
use Prim.Native.Nat.{ℕ, zero, suc, ◌+◌, ◌-◌, ◌*◌, ◌/◌, ◌%◌, ◌^◌, ◌≤◌, ◌<◌}
use mathlib.Core.Path.{◌≡◌, refl, sym, ap, ap₂, ◌∙◌}
use mathlib.Core.Bool.{Bool, true, false, not, ◌&&◌, ◌||◌, and_comm, and-false}
use mathlib.Core.List.{List, ◌++◌}
use native.Mathlib.Omega.{arith}
use lib.Dec.{eqb, ltb, leb}
use lib.ListN.{length, replicate, length-replicate, get_or-replicate, get_or-eq_default, length-append, get_or-append}
use native.Mathlib.Decide.{dec_lt}
use lib.Seq.{get_or-append-add}
use lib.Bits.{bit_and, bit_or, or_lt, and_lt, or_add_and, and_le_l, and_le_r}
use borrow.Author.Tests.{lt-ltb, le-ltb, eq-eqb, ne_eqb, ltb-true, ltb-false, lt-leb, le-leb}
use Rattle.model.specs.Below.{count_below, sum_below, all_below}
use Rattle.model.specs.Word.{word, part, bit, ones, word_of_bits, put}
use Rattle.model.specs.Class.{blocks, words_for}
use Rattle.model.specs.Layout.{arena_length, record_at, segment_of, index_of}
use Rattle.model.specs.View.{segments, place_rank, place_index, record_of, class, rank, bit_of}
use Rattle.model.specs.Standing.{in_pool, is_block, before_place, taken_at, is_taken, none_or_taken, taken_count}
use Rattle.laws.proofs.Below.{all_below_ext, all_below_add, count_below_ext}
use Rattle.laws.proofs.Splice.{length_part, word_part, length_put, word_put_in, word_put_before, word_put_behind}
use Rattle.laws.proofs.Bits.{bit_zero, bit_pow, bit_of_and, bit_of_or, bit_word_of_bits, word_of_bits_lt, word_of_bits_ext, word_ext, bit_not}
use Rattle.words.proofs.OnesLaws.{ones_of_part}
use Rattle.arena.specs.Rows.{row_bit}
use Rattle.taken.specs.Row.{asked_bit, TakenRow, row_taken, row_none_or_taken, Limit, row_word, Filled, ZeroRow, Fill, taken_word, Segment, all_words, seen_right}

-- ---- the word of the ones below a limit

-- `!ones_from(limit.saturating_sub(from))`
pub below_is : (from limit : ℕ) → ones - word_of_bits (λ b. leb (limit - from) b) ≡ word_of_bits (λ b. ltb (from + b) limit)
below_is from limit =
    word_ext (ones - word_of_bits behind) (word_of_bits f) (omega arith) (word_of_bits_lt f)
    (λ b l.
    bit_not (word_of_bits behind) b (word_of_bits_lt behind) l ∙ ap not (bit_word_of_bits behind b l)
    ∙ each b (f b) refl ∙ sym (bit_word_of_bits f b l))
  where
    f : ℕ → Bool
    f b = ltb (from + b) limit

    behind : ℕ → Bool
    behind b = leb (limit - from) b

    each : (b : ℕ) (t : Bool) → f b ≡ t → not (behind b) ≡ f b
    each b true e = ap not (lt-leb (limit - from) b (omega (arith, ltb-true (from + b) limit e))) ∙ sym e
    each b false e = ap not (le-leb (limit - from) b (omega (arith, ltb-false (from + b) limit e))) ∙ sym e

-- `(below(limit, j) | w) & below(blocks, j)`
pub taken_word_is : (w limit blocks j : ℕ) → w < 2 ^ 32
    → bit_and (bit_or (word_of_bits (λ b. ltb (32 * j + b) limit)) w) (word_of_bits (λ b. ltb (32 * j + b) blocks)) ≡ taken_word w limit blocks j
unfolding taken_word
taken_word_is w limit blocks j h =
    let f : ℕ → Bool = λ b. ltb (32 * j + b) limit in
    let g : ℕ → Bool = λ b. ltb (32 * j + b) blocks in
    let v = word_of_bits f in
    let u = word_of_bits g in
    let e : ℕ → Bool = λ b. (f b || bit w b) && g b in
    word_ext (bit_and (bit_or v w) u) (word_of_bits e)
    (and_lt 32 (bit_or v w) u (or_lt 32 v w (word_of_bits_lt f) h) (word_of_bits_lt g)) (word_of_bits_lt e)
    (λ b l.
    bit_of_and (bit_or v w) u b
    ∙ ap₂ ◌&&◌ (bit_of_or v w b ∙ ap (λ (t : Bool). t || bit w b) (bit_word_of_bits f b l)) (bit_word_of_bits g b l)
    ∙ sym (bit_word_of_bits e b l))

-- ---- the limit of a segment

module _ (ws : List ℕ) (s : ℕ) where
  pub limit_before : rank ws s < place_rank ws (class ws s) → Limit ws s (blocks (class ws s))
  unfolding before_place
  limit_before h = record { before = λ k l. lt-ltb k (blocks (class ws s)) l ∙ rw (lt-ltb (rank ws s) (place_rank ws (class ws s)) h) }

  pub limit_at : rank ws s ≡ place_rank ws (class ws s) → Limit ws s (place_index ws (class ws s))
  unfolding before_place
  limit_at e = record { before = λ k l. rw (le-ltb (rank ws s) (place_rank ws (class ws s)) (omega arith), eq-eqb (rank ws s) (place_rank ws (class ws s)) e) }

  pub limit_behind : place_rank ws (class ws s) < rank ws s → Limit ws s 0
  unfolding before_place
  limit_behind h = record {
    before = λ k l.
        le-ltb k 0 (omega arith)
        ∙ rw (le-ltb (rank ws s) (place_rank ws (class ws s)) (omega arith), ne_eqb (rank ws s) (place_rank ws (class ws s)) (λ e. omega arith));
  }

-- ---- the words of a segment

pub record_long : (ws : List ℕ) (s : ℕ) → length ws ≡ arena_length (segments ws) → s < segments ws → length (record_of ws s) ≡ 68
unfolding record_of
record_long ws s e l = length_part ws (record_at s) 68 (omega arith)

-- ---- taken, segment by segment

-- a segment in the pool has no taken block
pub taken_at_pool : (ws : List ℕ) (s k : ℕ) → in_pool ws s ≡ true → taken_at ws s k ≡ false
unfolding taken_at is_block
taken_at_pool ws s k p = rw p (ap (λ (t : Bool). t && (before_place ws s k || bit_of ws s k)) (and-false (ltb s (segments ws))))

-- of another a block is taken before the place, or by its bit
pub taken_at_member : (ws : List ℕ) (s k : ℕ) → s < segments ws → in_pool ws s ≡ false
    → taken_at ws s k ≡ ((before_place ws s k || bit_of ws s k) && ltb k (blocks (class ws s)))
unfolding taken_at is_block
taken_at_member ws s k l p = rw (p, lt-ltb s (segments ws) l) (and_comm (ltb k (blocks (class ws s))) (before_place ws s k || bit_of ws s k))

-- what is taken is one of the segment's blocks
pub taken_at_inside : (ws : List ℕ) (s k : ℕ) → blocks (class ws s) ≤ k → taken_at ws s k ≡ false
unfolding taken_at is_block
taken_at_inside ws s k l =
    rw (le-ltb k (blocks (class ws s)) l, and-false (not (in_pool ws s)), and-false (ltb s (segments ws)))

pub row_word_at : (ws : List ℕ) (s j : ℕ) → j < 64 → row_word ws (64 * s + j) ≡ word_of_bits (λ b. taken_at ws s (32 * j + b))
unfolding row_word
row_word_at ws s j l =
    ap₂ (λ (t i : ℕ). word_of_bits (λ b. taken_at ws t (32 * i + b))) (omega arith) (omega arith)

pub member_word : (ws : List ℕ) (s limit j : ℕ) → s < segments ws → in_pool ws s ≡ false → Limit ws s limit → j < 64
    → taken_word (word (record_of ws s) (1 + j)) limit (blocks (class ws s)) j ≡ row_word ws (64 * s + j)
unfolding taken_word
member_word ws s limit j there p h l =
    word_of_bits_ext (λ b. (ltb (32 * j + b) limit || bit w b) && inside (32 * j + b)) (λ b. taken_at ws s (32 * j + b))
    (λ b u. each (32 * j + b) b (omega arith) (omega arith) (inside (32 * j + b)) refl ∙ sym (taken_at_member ws s (32 * j + b) there p))
    ∙ sym (row_word_at ws s j l)
  where
    w : ℕ
    w = word (record_of ws s) (1 + j)

    inside : ℕ → Bool
    inside k = ltb k (blocks (class ws s))

    each : (k b : ℕ) → k / 32 ≡ j → k % 32 ≡ b → (t : Bool) → inside k ≡ t
        → ((ltb k limit || bit w b) && inside k) ≡ ((before_place ws s k || bit_of ws s k) && inside k)
    each k b ej eb true e =
        ap₂ (λ (t u : Bool). (t || u) && inside k) (h.before k (ltb-true k (blocks (class ws s)) e))
        (sym (ap₂ (λ (i c : ℕ). bit (word (record_of ws s) (1 + i)) c) ej eb))
    each k b ej eb false e =
        rw e (and-false (ltb k limit || bit w b) ∙ sym (and-false (before_place ws s k || bit_of ws s k)))

-- past a segment's blocks, and in the pool, the words of a row are 0
pub no_blocks : (ws : List ℕ) (s j : ℕ) → j < 64 → ((b : ℕ) → b < 32 → taken_at ws s (32 * j + b) ≡ false) → 0 ≡ row_word ws (64 * s + j)
no_blocks ws s j l free =
    let f : ℕ → Bool = λ b. taken_at ws s (32 * j + b) in
    word_ext 0 (word_of_bits f) (omega arith) (word_of_bits_lt f) (λ b u. bit_zero b ∙ sym (bit_word_of_bits f b u ∙ free b u))
    ∙ sym (row_word_at ws s j l)

-- ---- a row that is filled

pub zeros : (n o : ℕ) → word (replicate n 0) o ≡ 0
zeros n o = go (dec_lt o n)
  where
    go : Dec (o < n) → word (replicate n 0) o ≡ 0
    go (yes l) = get_or-replicate n o 0 0 l
    go (no l) = get_or-eq_default (replicate n 0) 0 (omega (arith, length-replicate {A = ℕ} n 0))

pub zero_row : ZeroRow (replicate 8192 0)
zero_row = record { long = length-replicate {A = ℕ} 8192 0; zero = zeros 8192 }

-- a segment in the pool needs no words
pub filled_pool : {ws row : List ℕ} {s : ℕ} → Fill ws row s → in_pool ws s ≡ true → Filled ws row (64 * s + 64)
filled_pool {ws} {row} {s} f p = record {
  long = f.filled.long;
  first = f.filled.first;
  right = λ o l. go o l (ltb o (64 * s)) refl;
  behind = λ o l. f.filled.behind o (omega arith);
}
  where
    go : (o : ℕ) → o < 64 * s + 64 → (t : Bool) → ltb o (64 * s) ≡ t → word row (1 + o) ≡ row_word ws o
    go o l true u = f.filled.right o (ltb-true o (64 * s) u)
    go o l false u =
        let past : 64 * s ≤ o = ltb-false o (64 * s) u in
        let j : ℕ = o - 64 * s in
        let there : 64 * s + j ≡ o = omega arith in
        f.filled.behind o past ∙ no_blocks ws s j (omega arith) (λ b _. taken_at_pool ws s (32 * j + b) p) ∙ ap (row_word ws) there

-- the words of any are 64
pub own_long : {ws row : List ℕ} {s : ℕ} → Fill ws row s → length (part row (1 + 64 * s) (1 + 64 * s + 64 - (1 + 64 * s))) ≡ 64
own_long {ws} {row} {s} f =
    let room : 1 + 64 * s + 64 ≤ length row = omega (arith, f.filled.long, f.classed.few, f.there) in
    omega (arith, length_part row (1 + 64 * s) (1 + 64 * s + 64 - (1 + 64 * s)) (omega (arith, room)))

-- the words of another, as far as it has blocks
pub filled_step : {ws row own rec : List ℕ} {s limit n : ℕ} → Fill ws row s → length own ≡ 64
    → Segment rec limit n (part row (1 + 64 * s) 64) own (words_for n) → n ≡ blocks (class ws s) → n ≤ 2048
    → ((j : ℕ) → j < 64 → taken_word (word rec (1 + j)) limit n j ≡ row_word ws (64 * s + j)) → Filled ws (put row (1 + 64 * s) own) (64 * s + 64)
filled_step {ws} {row} {own} {rec} {s} {limit} {n} f long g same few h = record {
  long = length_put row at own (omega (arith, room, long, f.filled.long)) ∙ f.filled.long;
  first = word_put_before row at own 0 there (omega arith) ∙ f.filled.first;
  right = λ o l. go o l (ltb o (64 * s)) refl;
  behind = λ o l. word_put_behind row at own (1 + o) there (omega (arith, long)) ∙ f.filled.behind o (omega arith);
}
  where
    at : ℕ
    at = 1 + 64 * s

    room : at + 64 ≤ 8192
    room = omega (arith, f.classed.few, f.there)

    there : at ≤ length row
    there = omega (arith, room, f.filled.long)

    here : (j : ℕ) → j < 64 → (t : Bool) → ltb j (words_for n) ≡ t → word own j ≡ row_word ws (64 * s + j)
    here j l true t = g.words j (ltb-true j (words_for n) t) ∙ h j l
    here j l false t =
        let unused : words_for n ≤ j = ltb-false j (words_for n) t in
        let behind : at + j ≡ 1 + (64 * s + j) = omega arith in
        g.behind j unused ∙ word_part row at 64 j l ∙ ap (word row) behind ∙ f.filled.behind (64 * s + j) (omega arith)
        ∙ no_blocks ws s j l (λ b _. taken_at_inside ws s (32 * j + b) (omega (arith, same)))

    go : (o : ℕ) → o < 64 * s + 64 → (t : Bool) → ltb o (64 * s) ≡ t → word (put row at own) (1 + o) ≡ row_word ws o
    go o l true t =
        let before : o < 64 * s = ltb-true o (64 * s) t in
        word_put_before row at own (1 + o) there (omega arith) ∙ f.filled.right o before
    go o l false t =
        let past : 64 * s ≤ o = ltb-false o (64 * s) t in
        let j : ℕ = o - 64 * s in
        let same : 1 + o ≡ at + j = omega arith in
        let back : 64 * s + j ≡ o = omega arith in
        ap (word (put row at own)) same ∙ word_put_in row at own j there (omega (arith, long)) ∙ here j (omega arith) (ltb j (words_for n)) refl
        ∙ ap (row_word ws) back

-- the block at position x, which is its handle less 1
pub is_taken_at : (ws : List ℕ) (x : ℕ) → is_taken ws (x + 1) ≡ taken_at ws (x / 2048) (x % 2048)
unfolding is_taken
is_taken_at ws x = rw (ne_eqb (x + 1) 0 (λ e. omega arith)) (ap₂ (taken_at ws) (omega arith) (omega arith))

-- one behind the last segment is not taken
past_not_taken : (ws : List ℕ) (x : ℕ) → 2048 * segments ws ≤ x → is_taken ws (x + 1) ≡ false
unfolding taken_at is_block
past_not_taken ws x l = is_taken_at ws x ∙ rw (le-ltb (x / 2048) (segments ws) (omega arith))

some_handle : (ws : List ℕ) (x : ℕ) → none_or_taken ws (x + 1) ≡ is_taken ws (x + 1)
some_handle ws x = rw (ne_eqb (x + 1) 0 (λ e. omega arith))

-- all_below handle below 262,144 asks its own bit, or one that is 0
module _ {ws row : List ℕ} (few : segments ws ≤ 64) (f : Filled ws row (64 * segments ws)) where
  asked_inside : (x : ℕ) → x < 2048 * segments ws → asked_bit row (x + 1) ≡ is_taken ws (x + 1)
  unfolding row_word
  asked_inside x l =
      ap₂ (λ (o b : ℕ). bit (word row o) b) (omega arith) (omega arith)
      ∙ ap (λ (w : ℕ). bit w (x % 32)) (f.right (x / 32) (omega arith))
      ∙ bit_word_of_bits (λ b. taken_at ws (x / 32 / 64) (32 * (x / 32 % 64) + b)) (x % 32) (omega arith)
      ∙ ap₂ (taken_at ws) (omega arith) (omega arith)
      ∙ sym (is_taken_at ws x)

  asked_behind : (x : ℕ) → 2048 * segments ws ≤ x → x < 262112 → asked_bit row (x + 1) ≡ false
  asked_behind x l u =
      let here : (x + 1 + 31) / 32 % 8192 ≡ 1 + x / 32 = omega arith in
      ap (λ (w : ℕ). bit w ((x + 1 + 31) % 32)) (ap (word row) here ∙ f.behind (x / 32) (omega arith)) ∙ bit_zero ((x + 1 + 31) % 32)

  -- the last of them ask word 0, of which only bit 31 is set
  asked_again : (x : ℕ) → 262112 ≤ x → x < 262143 → asked_bit row (x + 1) ≡ false
  asked_again x l u =
      let here : (x + 1 + 31) / 32 % 8192 ≡ 0 = omega arith in
      let there : ((x + 1 + 31) % 32 ≡ 31 → ⊥) = λ e. omega arith in
      ap (λ (w : ℕ). bit w ((x + 1 + 31) % 32)) (ap (word row) here ∙ f.first) ∙ bit_pow 31 ((x + 1 + 31) % 32) ∙ ne_eqb ((x + 1 + 31) % 32) 31 there

  asked_none : asked_bit row 0 ≡ true
  asked_none = ap (λ (w : ℕ). bit w 31) f.first ∙ bit_pow 31 31

  pub filled_taken : TakenRow ws row
  filled_taken = record { few = few; asked = go }
    where
      some : (x : ℕ) → x < 262143 → (t : Bool) → ltb x (2048 * segments ws) ≡ t → (u : Bool) → ltb x 262112 ≡ u → asked_bit row (x + 1) ≡ none_or_taken ws (x + 1)
      some x l true t u w = asked_inside x (ltb-true x (2048 * segments ws) t) ∙ sym (some_handle ws x)
      some x l false t true w =
          let past = ltb-false x (2048 * segments ws) t in
          asked_behind x past (ltb-true x 262112 w) ∙ sym (some_handle ws x ∙ past_not_taken ws x past)
      some x l false t false w =
          asked_again x (ltb-false x 262112 w) l ∙ sym (some_handle ws x ∙ past_not_taken ws x (ltb-false x (2048 * segments ws) t))

      go : (h : ℕ) → h < 262144 → asked_bit row h ≡ none_or_taken ws h
      go zero l = asked_none
      go (suc x) l =
          let same : x + 1 ≡ suc x = omega arith in
          ap (asked_bit row) (sym same) ∙ some x (omega arith) (ltb x (2048 * segments ws)) refl (ltb x 262112) refl ∙ ap (none_or_taken ws) same

-- ---- asking a row

-- the row of an arena tells of all_below handle whether it is 0 or that of a taken block
pub row_none_or_taken_is : {ws row : List ℕ} → TakenRow ws row → (h : ℕ) → row_none_or_taken row h ≡ none_or_taken ws h
row_none_or_taken_is {ws} {row} t h = go (ltb h 262144) refl
  where
    go : (u : Bool) → ltb h 262144 ≡ u → (u && asked_bit row h) ≡ none_or_taken ws h
    go true e = t.asked h (ltb-true h 262144 e)
    go false e =
        let past : 262144 ≤ h = ltb-false h 262144 e in
        let back : h - 1 + 1 ≡ h = omega arith in
        sym (ap (none_or_taken ws) (sym back) ∙ some_handle ws (h - 1) ∙ past_not_taken ws (h - 1) (omega (arith, t.few)))

pub row_taken_is : {ws row : List ℕ} → TakenRow ws row → (h : ℕ) → row_taken row h ≡ is_taken ws h
unfolding is_taken
row_taken_is {ws} {row} t h = ap (λ (u : Bool). not (eqb h 0) && u) (row_none_or_taken_is t h) ∙ go (eqb h 0)
  where
    go : (z : Bool) → (not z && (z || (not z && taken_at ws (segment_of h) (index_of h)))) ≡ (not z && taken_at ws (segment_of h) (index_of h))
    go true = refl
    go false = refl

-- the bit of the block at position x
pub row_bit_taken : {ws row : List ℕ} → TakenRow ws row → (x : ℕ) → x < 2048 * segments ws → row_bit row (x + 1) ≡ is_taken ws (x + 1)
row_bit_taken {ws} {row} t x l =
    let here : (x + 1 + 31) / 32 ≡ (x + 1 + 31) / 32 % 8192 = omega (arith, t.few) in
    ap (λ (o : ℕ). bit (word row o) ((x + 1 + 31) % 32)) here ∙ t.asked (x + 1) (omega (arith, t.few)) ∙ some_handle ws x

-- its count of ones, but for that of handle 0, is the number of taken blocks
pub row_count : {ws row : List ℕ} {N : ℕ} → TakenRow ws row → segments ws ≡ N → count_below (2048 * N) (λ x. row_bit row (x + 1)) ≡ taken_count ws
unfolding taken_count
row_count {ws} {row} t e =
    ap (λ (n : ℕ). count_below (2048 * n) (λ x. row_bit row (x + 1))) (sym e)
    ∙ count_below_ext (2048 * segments ws) (λ x. row_bit row (x + 1)) (λ x. is_taken ws (x + 1)) (row_bit_taken t)

-- the ones of n words behind the first
pub count_words : (row : List ℕ) (n : ℕ) → 1 + n ≤ length row
    → sum_below (length (part row 1 n)) (λ j. count_below 32 (bit (word (part row 1 n) j))) ≡ count_below (n * 32) (λ x. row_bit row (x + 1))
count_words row n h =
    ones_of_part row 1 n (λ x. row_bit row (x + 1)) h (λ j b u l. ap₂ (λ (p b : ℕ). bit (word row p) b) (omega arith) (omega arith))

-- ---- asking it of many words

-- a number is below a power of two exactly if it has no bit from there on
or_below : (a b : ℕ) → ltb (bit_or a b) 262144 ≡ (ltb a 262144 && ltb b 262144)
or_below a b = go (ltb a 262144) refl (ltb b 262144) refl
  where
    go : (s : Bool) → ltb a 262144 ≡ s → (t : Bool) → ltb b 262144 ≡ t → ltb (bit_or a b) 262144 ≡ (s && t)
    go true s true t = lt-ltb (bit_or a b) 262144 (or_lt 18 a b (ltb-true a 262144 s) (ltb-true b 262144 t))
    go true s false t = le-ltb (bit_or a b) 262144 (omega (arith, ltb-false b 262144 t, or_add_and a b, and_le_l a b))
    go false s u t = le-ltb (bit_or a b) 262144 (omega (arith, ltb-false a 262144 s, or_add_and a b, and_le_r a b))

-- the words of two lists
pub all_words_append : (p : ℕ → Bool) (xs ys : List ℕ) → all_words p (xs ++ ys) ≡ (all_words p xs && all_words p ys)
all_words_append p xs ys =
    ap (λ (n : ℕ). all_below n (λ f. p (word (xs ++ ys) f))) (length-append xs ys)
    ∙ all_below_add (length xs) (length ys) (λ f. p (word (xs ++ ys) f))
    ∙ ap₂ ◌&&◌
    (all_below_ext (length xs) (λ f. p (word (xs ++ ys) f)) (λ f. p (word xs f)) (λ f l. ap p (get_or-append xs ys 0 f l)))
    (all_below_ext (length ys) (λ f. p (word (xs ++ ys) (length xs + f))) (λ f. p (word ys f)) (λ f l. ap p (get_or-append-add xs ys f 0)))

-- one word more
pub seen_word : (all over w h : ℕ) (row : List ℕ) → bit w 0 ≡ asked_bit row h
    → seen_right (bit_and all w) (bit_or over h) ≡ (seen_right all over && row_none_or_taken row h)
seen_word all over w h row e =
    ap₂ ◌&&◌ (or_below over h) (bit_of_and all w 0 ∙ ap (λ (t : Bool). bit all 0 && t) e)
    ∙ exchange (ltb over 262144) (ltb h 262144) (bit all 0) (asked_bit row h)
  where
    exchange : (a b c d : Bool) → ((a && b) && (c && d)) ≡ ((a && c) && (b && d))
    exchange true true c d = refl
    exchange true false true d = refl
    exchange true false false d = refl
    exchange false b c d = refl
