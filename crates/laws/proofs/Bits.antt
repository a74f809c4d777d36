-- Laws of a word's bits: a word is its bits, the bits of what the code does to a word, the first set or free bit, and how many are set.
-- Assumes nothing.
use Prim.Native.Nat.{ℕ, zero, suc, ◌+◌, ◌-◌, ◌*◌, ◌/◌, ◌%◌, ◌^◌, ◌≤◌, ◌<◌, min, max}
use mathlib.Core.Path.{◌≡◌, refl, sym, ap, ap₂, ◌∙◌}
use mathlib.Core.Logic.{◌⊎◌, inl, inr}
use mathlib.Core.Bool.{Bool, true, false, not, cond, ◌&&◌, ◌||◌, and_self, and-true, or_comm, false≢true}
use native.Mathlib.Nat.{mod-lt, mod-eq_of_lt, div-one, zero-div, pow-suc, add_comm, add-suc, add-zero, one-mul, zero-mul, div-eq_of_lt, pow-succ', mod-one, mul-add-mod_self_right, mul-mod_left, mul-div_cancel, lt_of_lt_of_le, lt_of_le_of_lt, suc-add, zero-add}
use native.Mathlib.Omega.{arith}
use native.Mathlib.Numerals.{add-one, one-add}
use lib.Dec.{eqb, eqb-suc-suc, eqb-suc-zero, eqb-zero-suc}
use lib.Pow.{pow_pos, pow_mono, pow-lt, shr-shr, shr_le, high, low, field, mod-mod-pow, mod-pow-add}
use lib.Arith.{digits_lt}
use lib.Bits.{bit_and, bit_or, and_step, or_step, and_shr, or_shr, or_lt}
use lib.Count.{count_trailing_zeros, under, ones_cat}
use borrow.Author.Tests.{eq-eqb, ne_eqb, eqb-true}
use Rattle.model.specs.Below.{one_if, all_below, count_below, sum_below, first_from}
use Rattle.model.specs.Word.{bit, ones, full, word_of_bits}
use Rattle.laws.proofs.Below.{up_to, all_below_at, all_below_intro, all_below_fails, all_below_finds, sum_below_ext, first_ext, first_shift, first_shorter}

-- ---- a binary digit

-- is it 0 or 1
pub digit : (w : ℕ) → (w % 2 ≡ 0) ⊎ (w % 2 ≡ 1)
digit w = go (w % 2) (mod-lt w (omega arith))
  where
    go : (d : ℕ) → d < 2 → (d ≡ 0) ⊎ (d ≡ 1)
    go zero h = inl refl
    go (suc zero) h = inr refl
    go (suc (suc d)) h = absurd (omega arith)

-- a shift
pub bit_shift : (w b j : ℕ) → bit (w / 2 ^ b) j ≡ bit w (b + j)
bit_shift w b j = rw shr-shr

-- the lowest bit, and those above it
pub bit_low : (w : ℕ) → bit w 0 ≡ eqb (w % 2) 1
bit_low w = rw div-one

pub bit_suc : (w b : ℕ) → bit w (suc b) ≡ bit (w / 2) b
bit_suc w b = sym (bit_shift w 1 b ∙ ap (bit w) (one-add b))

pub bit_zero : (b : ℕ) → bit 0 b ≡ false
bit_zero b = rw zero-div

-- bits that a remainder keeps
pub bit_mod : (w k b : ℕ) → b < k → bit (w % 2 ^ k) b ≡ bit w b
bit_mod w k b h =
    let j : ℕ = k - suc b in
    let whole : k ≡ j + 1 + b = omega arith in
    ap (λ (m : ℕ). bit (w % 2 ^ m) b) whole ∙ ap (λ (x : ℕ). eqb (x % 2) 1) (field w (j + 1) b) ∙ ap (λ (x : ℕ). eqb x 1) (mod-mod-pow (w / 2 ^ b) j 1)

-- ---- a word is its bits, at any width

abbrev bits_below : ℕ → (ℕ → Bool) → ℕ
bits_below k f = sum_below k (λ b. cond (f b) (2 ^ b) 0)

top : (k : ℕ) (f : ℕ → Bool) → bits_below (suc k) f ≡ one_if (f k) * 2 ^ k + bits_below k f
unfolding sum_below
top k f = add_comm (bits_below k f) (cond (f k) (2 ^ k) 0) ∙ ap (λ (x : ℕ). x + bits_below k f) (weight (f k))
  where
    weight : (t : Bool) → cond t (2 ^ k) 0 ≡ one_if t * 2 ^ k
    weight true = sym (one-mul (2 ^ k))
    weight false = sym (zero-mul (2 ^ k))

one_if_lt : (t : Bool) → one_if t < 2
one_if_lt true = omega arith
one_if_lt false = omega arith

one_if_digit : (w : ℕ) → one_if (eqb (w % 2) 1) ≡ w % 2
one_if_digit w = elim (digit w) [ inl e ↦ rw e | inr e ↦ rw e ]

eqb_one_if : (t : Bool) → eqb (one_if t % 2) 1 ≡ t
eqb_one_if true = refl
eqb_one_if false = refl

bits_lt : (k : ℕ) (f : ℕ → Bool) → bits_below k f < 2 ^ k
unfolding sum_below
bits_lt zero f = omega arith
bits_lt (suc k) f = rw (top k f, pow-succ') (digits_lt (one_if_lt (f k)) (bits_lt k f))

bit_bits : (k : ℕ) (f : ℕ → Bool) (b : ℕ) → b < k → bit (bits_below k f) b ≡ f b
bit_bits zero f b h = absurd (omega arith)
bit_bits (suc k) f b h = up_to (λ (b : ℕ). bit (bits_below (suc k) f) b ≡ f b) last (λ b l. lower b l ∙ bit_bits k f b l) b h
  where
    last : bit (bits_below (suc k) f) k ≡ f k
    last = rw (top k f, high (one_if (f k)) k (bits_lt k f)) (eqb_one_if (f k))

    lower : (b : ℕ) → b < k → bit (bits_below (suc k) f) b ≡ bit (bits_below k f) b
    lower b l = sym (bit_mod (bits_below (suc k) f) k b l) ∙ rw (top k f, low (one_if (f k)) k (bits_lt k f))

bits_of : (k w : ℕ) → bits_below k (bit w) ≡ w % 2 ^ k
unfolding sum_below
bits_of zero w = sym (mod-one w)
bits_of (suc k) w =
    top k (bit w) ∙ ap₂ (λ (d r : ℕ). d * 2 ^ k + r) (one_if_digit (w / 2 ^ k)) (bits_of k w)
    ∙ sym (ap (λ (m : ℕ). w % 2 ^ m) (sym (one-add k)) ∙ mod-pow-add w 1 k)

-- ---- words of 32 bits

pub bit_word_of_bits : (f : ℕ → Bool) (b : ℕ) → b < 32 → bit (word_of_bits f) b ≡ f b
unfolding word_of_bits
bit_word_of_bits f b h = bit_bits 32 f b h

pub word_of_bits_lt : (f : ℕ → Bool) → word_of_bits f < 2 ^ 32
unfolding word_of_bits
word_of_bits_lt f = bits_lt 32 f

pub word_of_bits_ext : (f g : ℕ → Bool) → ((b : ℕ) → b < 32 → f b ≡ g b) → word_of_bits f ≡ word_of_bits g
unfolding word_of_bits
word_of_bits_ext f g h = sum_below_ext 32 _ _ (λ b l. ap (λ (t : Bool). cond t (2 ^ b) 0) (h b l))

pub word_of_its_bits : (w : ℕ) → w < 2 ^ 32 → word_of_bits (bit w) ≡ w
unfolding word_of_bits
word_of_its_bits w h = bits_of 32 w ∙ mod-eq_of_lt h

-- a word is determined by its bits
pub word_ext : (w v : ℕ) → w < 2 ^ 32 → v < 2 ^ 32 → ((b : ℕ) → b < 32 → bit w b ≡ bit v b) → w ≡ v
word_ext w v hw hv h = sym (word_of_its_bits w hw) ∙ word_of_bits_ext (bit w) (bit v) h ∙ word_of_its_bits v hv

-- ---- the bits of what the code does to a word

-- an operation that works digit by digit
bit_op : (op f : ℕ → ℕ → ℕ) (g : Bool → Bool → Bool) → ((x y : ℕ) → op x y ≡ op (x / 2) (y / 2) * 2 + f (x % 2) (y % 2))
    → ((x y k : ℕ) → op x y / 2 ^ k ≡ op (x / 2 ^ k) (y / 2 ^ k)) → ((t u : Bool) → eqb (f (one_if t) (one_if u) % 2) 1 ≡ g t u)
    → (v w b : ℕ) → bit (op v w) b ≡ g (bit v b) (bit w b)
bit_op op f g step shr table v w b =
    rw (shr v w b, step (v / 2 ^ b) (w / 2 ^ b), mul-add-mod_self_right)
    (ap₂ (λ (d e : ℕ). eqb (f d e % 2) 1) (sym (one_if_digit (v / 2 ^ b))) (sym (one_if_digit (w / 2 ^ b))) ∙ table (bit v b) (bit w b))

-- of two digits the less is 1 where both are, the greater where one is
digit_and : (t u : Bool) → eqb (min (one_if t) (one_if u) % 2) 1 ≡ (t && u)
digit_and true true = refl
digit_and true false = refl
digit_and false true = refl
digit_and false false = refl

digit_or : (t u : Bool) → eqb (max (one_if t) (one_if u) % 2) 1 ≡ (t || u)
digit_or true true = refl
digit_or true false = refl
digit_or false true = refl
digit_or false false = refl

-- `v & w`
pub bit_of_and : (v w b : ℕ) → bit (bit_and v w) b ≡ (bit v b && bit w b)
bit_of_and = bit_op bit_and min ◌&&◌ and_step and_shr digit_and

-- `v | w`
pub bit_of_or : (v w b : ℕ) → bit (bit_or v w) b ≡ (bit v b || bit w b)
bit_of_or = bit_op bit_or max ◌||◌ or_step or_shr digit_or

-- one set bit
pub bit_pow : (b j : ℕ) → bit (2 ^ b) j ≡ eqb j b
bit_pow zero zero = refl
bit_pow zero (suc j) = bit_suc 1 j ∙ bit_zero j ∙ sym (eqb-suc-zero j)
bit_pow (suc b) zero = rw (bit_low, pow-suc, mul-mod_left, eqb-zero-suc b)
bit_pow (suc b) (suc j) = rw (bit_suc, pow-suc, mul-div_cancel (2 ^ b) (pow_pos 1), eqb-suc-suc) (bit_pow b j)

-- `1 << b`
pub shl_one : (b : ℕ) → b < 32 → 1 * 2 ^ b % 2 ^ 32 ≡ 2 ^ b
shl_one b h = rw one-mul (mod-eq_of_lt (pow-lt h))

-- `w | (1 << b)`
pub bit_or_shift : (w b j : ℕ) → b < 32 → bit (bit_or w (1 * 2 ^ b % 2 ^ 32)) j ≡ (eqb j b || bit w j)
bit_or_shift w b j h = rw (shl_one b h, bit_of_or, bit_pow, or_comm (bit w j))

pub or_shift_lt : (w b : ℕ) → w < 2 ^ 32 → bit_or w (1 * 2 ^ b % 2 ^ 32) < 2 ^ 32
or_shift_lt w b h = or_lt 32 w (1 * 2 ^ b % 2 ^ 32) h (mod-lt (1 * 2 ^ b) (pow_pos 32))

-- `!w`
flip : (x y : ℕ) → x % 2 ≡ 1 - y % 2 → eqb (x % 2) 1 ≡ not (eqb (y % 2) 1)
flip x y e = elim (digit y) [ inl d ↦ rw (e, d) | inr d ↦ rw (e, d) ]

not_at : (k w b : ℕ) → w < 2 ^ k → b < k → bit (2 ^ k - 1 - w) b ≡ not (bit w b)
not_at zero w b h l = absurd (omega arith)
not_at (suc k) w zero h l =
    let twice : 2 ^ suc k ≡ 2 ^ k * 2 = pow-suc 2 k in
    rw (bit_low (2 ^ suc k - 1 - w), bit_low w) (flip (2 ^ suc k - 1 - w) w (omega arith))
not_at (suc k) w (suc b) h l =
    let twice : 2 ^ suc k ≡ 2 ^ k * 2 = pow-suc 2 k in
    let half : (2 ^ suc k - 1 - w) / 2 ≡ 2 ^ k - 1 - w / 2 = omega arith in
    rw (bit_suc (2 ^ suc k - 1 - w) b, bit_suc w b, half) (not_at k (w / 2) b (omega arith) (omega arith))

pub bit_not : (w b : ℕ) → w < 2 ^ 32 → b < 32 → bit (ones - w) b ≡ not (bit w b)
bit_not w b h l = not_at 32 w b h l

pub bit_ones : (b : ℕ) → b < 32 → bit ones b ≡ true
bit_ones b h = bit_not 0 b (omega arith) h ∙ ap not (bit_zero b)

-- `w & (w - 1)`, which clears the lowest set bit
pred_at : (k w j : ℕ) → 0 < w → w < 2 ^ k → (bit w j && bit (w - 1) j) ≡ (bit w j && not (eqb j (count_trailing_zeros k w)))
unfolding count_trailing_zeros
pred_at zero w j p h = absurd (omega arith)
pred_at (suc k) w zero p h = go (digit w)
  where
    go : (w % 2 ≡ 0) ⊎ (w % 2 ≡ 1) → (bit w 0 && bit (w - 1) 0) ≡ (bit w 0 && not (eqb 0 (under (w % 2) (count_trailing_zeros k (w / 2)))))
    go (inl e) = rw (bit_low w, e)
    go (inr e) =
        let even : (w - 1) % 2 ≡ 0 = omega arith in
        rw (bit_low w, e, bit_low (w - 1), even)
pred_at (suc k) w (suc j) p h = go (digit w) (λ q. pred_at k (w / 2) j q (omega (arith, pow-suc 2 k)))
  where
    go : (w % 2 ≡ 0) ⊎ (w % 2 ≡ 1)
        → (0 < w / 2 → (bit (w / 2) j && bit (w / 2 - 1) j) ≡ (bit (w / 2) j && not (eqb j (count_trailing_zeros k (w / 2)))))
        → (bit w (suc j) && bit (w - 1) (suc j)) ≡ (bit w (suc j) && not (eqb (suc j) (under (w % 2) (count_trailing_zeros k (w / 2)))))
    go (inl e) rest =
        let half : (w - 1) / 2 ≡ w / 2 - 1 = omega arith in
        rw (bit_suc w j, bit_suc (w - 1) j, half, e, eqb-suc-suc) (rest (omega arith))
    go (inr e) rest =
        let half : (w - 1) / 2 ≡ w / 2 = omega arith in
        rw (bit_suc w j, bit_suc (w - 1) j, half, e, eqb-suc-zero) (and_self (bit (w / 2) j) ∙ sym (and-true (bit (w / 2) j)))

pub bit_and_pred : (w j : ℕ) → 0 < w → w < 2 ^ 32 → bit (bit_and w (w - 1)) j ≡ (bit w j && not (eqb j (count_trailing_zeros 32 w)))
bit_and_pred w j p h = bit_of_and w (w - 1) j ∙ pred_at 32 w j p h

-- ---- a word of ones

pub full_all : (w : ℕ) → w < 2 ^ 32 → full w ≡ all_below 32 (bit w)
full_all w h = go (all_below 32 (bit w)) refl
  where
    go : (t : Bool) → all_below 32 (bit w) ≡ t → full w ≡ t
    go true e = eq-eqb w ones (word_ext w ones h (omega arith) (λ b l. all_below_at 32 (bit w) e b l ∙ sym (bit_ones b l)))
    go false e =
        let free = all_below_finds 32 (bit w) e in
        ne_eqb w ones (λ same. false≢true (sym free.2 ∙ ap (λ (x : ℕ). bit x free.0) same ∙ bit_ones free.0 free.1))

pub full_of_bits : (w : ℕ) → w < 2 ^ 32 → ((b : ℕ) → b < 32 → bit w b ≡ true) → full w ≡ true
full_of_bits w h f = full_all w h ∙ all_below_intro 32 (bit w) f

pub full_bit : (w b : ℕ) → b < 32 → full w ≡ true → bit w b ≡ true
full_bit w b h e = ap (λ (x : ℕ). bit x b) (eqb-true w ones e) ∙ bit_ones b h

-- a word with a free bit is not full, and one that is not full has a free bit
pub not_full : (w b : ℕ) → w < 2 ^ 32 → b < 32 → bit w b ≡ false → full w ≡ false
not_full w b h l e = full_all w h ∙ all_below_fails 32 (bit w) b l e

pub free_bit : (w : ℕ) → w < 2 ^ 32 → full w ≡ false → (b : ℕ) × (b < 32) × (bit w b ≡ false)
free_bit w h e = all_below_finds 32 (bit w) (sym (full_all w h) ∙ e)

-- ---- the first set bit, and the first free one

-- past a word's width all bits are 0
pub bit_past : (k w j : ℕ) → w < 2 ^ k → k ≤ j → bit w j ≡ false
bit_past k w j h l = rw (div-eq_of_lt (lt_of_lt_of_le h (pow_mono l)))

trailing_from : (a k w : ℕ) → a + count_trailing_zeros k (w / 2 ^ a) ≡ first_from a k (bit w)
unfolding count_trailing_zeros first_from
trailing_from a zero w = add-zero a
trailing_from a (suc k) w = go (digit (w / 2 ^ a)) (trailing_from (suc a) k w)
  where
    go : (w / 2 ^ a % 2 ≡ 0) ⊎ (w / 2 ^ a % 2 ≡ 1)
        → suc a + count_trailing_zeros k (w / 2 ^ suc a) ≡ first_from (suc a) k (bit w)
        → a + under (w / 2 ^ a % 2) (count_trailing_zeros k (w / 2 ^ a / 2)) ≡ cond (bit w a) a (first_from (suc a) k (bit w))
    go (inl e) rest = rw (e, shr-shr w a 1, add-one, add-suc, ← suc-add) rest
    go (inr e) rest = rw (e, add-zero)

pub trailing_first : (k w : ℕ) → count_trailing_zeros k w ≡ first_from 0 k (bit w)
trailing_first k w = rw (← trailing_from 0 k w, div-one, zero-add)

-- `b + (!(w >> b)).trailing_zeros()`
pub first_free : (w b : ℕ) → w < 2 ^ 32 → b < 32 → b + count_trailing_zeros 32 (ones - w / 2 ^ b) ≡ first_from b (32 - b) (λ j. not (bit w j))
first_free w b h l =
    ap (λ (x : ℕ). b + x)
    (trailing_first 32 (ones - w / 2 ^ b)
    ∙ first_ext 0 32 (bit (ones - w / 2 ^ b)) (λ j. free (b + j)) (λ j _ u. bit_not (w / 2 ^ b) j (lt_of_le_of_lt (shr_le w b) h) (omega arith) ∙ ap not (bit_shift w b j)))
    ∙ first_shift b 0 32 free ∙ rw add-zero (sym (first_shorter b (32 - b) 32 free (omega arith) (λ _. ap not (bit_past 32 w (b + (32 - b)) h (omega arith)))))
  where
    free : ℕ → Bool
    free j = not (bit w j)

-- ---- how many bits are set

pub ones_mod : (k w : ℕ) → lib.Count.ones (w % 2 ^ k) ≡ count_below k (bit w)
unfolding lib.Count.ones lib.Count.ones_in count_below
ones_mod zero w = ap lib.Count.ones (mod-one w)
ones_mod (suc k) w =
    ap lib.Count.ones (ap (λ (m : ℕ). w % 2 ^ m) (sym (one-add k)) ∙ mod-pow-add w 1 k)
    ∙ ones_cat k (w / 2 ^ k % 2) (w % 2 ^ k) (mod-lt w (pow_pos k))
    ∙ add_comm (lib.Count.ones (w / 2 ^ k % 2)) (lib.Count.ones (w % 2 ^ k)) ∙ ap₂ ◌+◌ (ones_mod k w) (one (w / 2 ^ k))
  where
    one : (x : ℕ) → lib.Count.ones (x % 2) ≡ one_if (eqb (x % 2) 1)
    one x = elim (digit x) [ inl e ↦ rw e | inr e ↦ rw e ]

pub ones_count : (k w : ℕ) → w < 2 ^ k → lib.Count.ones w ≡ count_below k (bit w)
ones_count k w h = ap lib.Count.ones (sym (mod-eq_of_lt h)) ∙ ones_mod k w
