-- The promise of every public call: over the words at entry, the arguments, the answer and the words at exit, for all inputs and all refusals.
-- Assumes nothing.
use Rattle.std.specs.Prelude.{ℕ, ◌+◌, ◌-◌, ◌≤◌, ◌≡◌, ◌≢◌, Bool, false, not, cond, ◌&&◌, ◌||◌, List, [], ◌∷◌, ◌++◌, length, get_or, take, drop, replicate, eqb, leb, ltb}
use Rattle.model.specs.Below.{all_below, count_below, sum_below, words_below, lists_below, first_below}
use Rattle.model.specs.Word.{word, put}
use Rattle.model.specs.Class.{is_class, blocks, block_words, class_of}
use Rattle.model.specs.Layout.{arena_length, arena_head, place_at, place_word, record_at, record_words, block_at, header_word, handle}
use Rattle.model.specs.View.{segments, class, rank, members, ranked, n_in, r_in, reference_in, plain_in, plain_words_in, offset, block}
use Rattle.model.specs.Standing.{in_pool, taken_at, is_taken, none_or_taken, taken_count, shape_of, standing_of}
use Rattle.model.specs.Sound.{sound}
use Rattle.model.specs.Numbers.{Paper, paper, refuse, granted, shape_values, standing_values, Made, Allocated, Stood, Shaped, Read, Written, Room, Collected, made_paper, allocated_paper, stood_paper, shaped_paper, read_paper, written_paper, room_paper, collected_paper}
use Rattle.model.specs.Ways.{Listing, drawing, listed}

-- What a call gives and leaves: its answer is refusal number e or the values of a grant, and the words are those of the grant, or as before.
-- "All lent memory stands as before."
pub record Outcome (e : ℕ) (values : List ℕ) (after : List ℕ) (ws : List ℕ) (answer : Paper) (ws' : List ℕ) : Type 0 where
  pub answered : answer ≡ paper e values
  pub words : ws' ≡ cond (eqb e granted) after ws

-- ---- Make

-- "Make fills the slice with 0 but for word 0."
abbrev pub fresh : ℕ → List ℕ
fresh N = arena_head N ∷ replicate (arena_length N - 1) 0

-- "N not 1 to 64, or the length differs"
unfoldable pub make_refusal : List ℕ → ℕ → ℕ
make_refusal ws N = refuse 1 (not (leb 1 N && (leb N 64 && eqb (length ws) (arena_length N)))) granted

abbrev pub Make : List ℕ → ℕ → Made → List ℕ → Type 0
Make ws N a ws' = Outcome (make_refusal ws N) [] (fresh N) ws (made_paper a) ws'

-- ---- Allocate

-- the first untaken block of a segment, and whether there is one
unfoldable pub first_untaken : List ℕ → ℕ → ℕ
first_untaken ws s = first_below (blocks (class ws s)) (λ k. not (taken_at ws s k))

unfoldable pub has_untaken : List ℕ → ℕ → Bool
has_untaken ws s = ltb (first_untaken ws s) (blocks (class ws s))

-- the first rank of a class with an untaken block, and whether there is one
unfoldable pub first_rank : List ℕ → ℕ → ℕ
first_rank ws i = first_below (members ws i) (λ q. has_untaken ws (ranked ws i q))

unfoldable pub class_has_untaken : List ℕ → ℕ → Bool
class_has_untaken ws i = ltb (first_rank ws i) (members ws i)

-- the lowest-numbered pool segment, and whether there is one
unfoldable pub first_pool : List ℕ → ℕ
first_pool ws = first_below (segments ws) (in_pool ws)

unfoldable pub has_pool : List ℕ → Bool
has_pool ws = ltb (first_pool ws) (segments ws)

-- the block that is given: segment, rank and index
unfoldable pub given_segment : List ℕ → ℕ → ℕ
given_segment ws i = cond (class_has_untaken ws i) (ranked ws i (first_rank ws i)) (first_pool ws)

unfoldable pub given_rank : List ℕ → ℕ → ℕ
given_rank ws i = cond (class_has_untaken ws i) (first_rank ws i) (members ws i)

unfoldable pub given_index : List ℕ → ℕ → ℕ
given_index ws i = cond (class_has_untaken ws i) (first_untaken ws (ranked ws i (first_rank ws i))) 0

-- a segment that joins has the next rank, count 0 and no bit set
unfoldable pub joined : List ℕ → ℕ → List ℕ
joined ws i =
    cond (class_has_untaken ws i) ws (put ws (record_at (first_pool ws)) (record_words i (members ws i) 0 (λ k. false)))

-- "The block gets its header and is 0 up to its end. The place becomes (its rank, its index + 1)."
unfoldable pub allocated : List ℕ → ℕ → ℕ → ℕ → List ℕ
allocated ws n r tag =
    let i = class_of n in
    let block_given = header_word n r tag ∷ replicate (block_words i - 1) 0 in
    let with_block = put (joined ws i) (block_at (segments ws) (given_segment ws i) i (given_index ws i)) block_given in
    put with_block (place_at i) (place_word (given_rank ws i) (given_index ws i + 1) ∷ [])

unfoldable pub allocate_refusal : List ℕ → ℕ → ℕ → ℕ
allocate_refusal ws n r =
    refuse 2 (not (sound ws))
    (refuse 3 (ltb 1023 n || ltb n r)
    (refuse 4 (not (class_has_untaken ws (class_of n) || has_pool ws))
    granted))

abbrev pub Allocate : List ℕ → ℕ → ℕ → ℕ → Allocated → List ℕ → Type 0
Allocate ws n r tag a ws' =
    Outcome (allocate_refusal ws n r) (handle (given_segment ws (class_of n)) (given_index ws (class_of n)) ∷ []) (allocated ws n r tag) ws
    (allocated_paper a) ws'

-- ---- Calls that read

-- refusals 2 and 5, and then what the call adds
abbrev pub block_refusal : List ℕ → ℕ → ℕ → ℕ
block_refusal ws h higher = refuse 2 (not (sound ws)) (refuse 5 (not (is_taken ws h)) higher)

abbrev pub AskStanding : List ℕ → ℕ → Stood → List ℕ → Type 0
AskStanding ws h a ws' = Outcome (refuse 2 (not (sound ws)) granted) (standing_values (standing_of ws h)) ws ws (stood_paper a) ws'

abbrev pub AskShape : List ℕ → ℕ → Shaped → List ℕ → Type 0
AskShape ws h a ws' = Outcome (block_refusal ws h granted) (shape_values (shape_of ws h)) ws ws (shaped_paper a) ws'

-- "Reference field not below r; plain field not below n - r"
abbrev pub reference_refusal : List ℕ → ℕ → ℕ → ℕ → ℕ
reference_refusal ws h f higher = block_refusal ws h (refuse 6 (not (ltb f (r_in (block ws h)))) higher)

abbrev pub plain_refusal : List ℕ → ℕ → ℕ → ℕ
plain_refusal ws h f = block_refusal ws h (refuse 6 (not (ltb f (n_in (block ws h) - r_in (block ws h)))) granted)

abbrev pub ReadReference : List ℕ → ℕ → ℕ → Read → List ℕ → Type 0
ReadReference ws h f a ws' =
    Outcome (reference_refusal ws h f granted) (reference_in (block ws h) f ∷ []) ws ws (read_paper a) ws'

abbrev pub ReadPlain : List ℕ → ℕ → ℕ → Read → List ℕ → Type 0
ReadPlain ws h f a ws' = Outcome (plain_refusal ws h f) (plain_in (block ws h) f ∷ []) ws ws (read_paper a) ws'

-- "The answer is that part of the arena itself, no copy, only to be read; empty on any refusal."
pub record PlainWords (ws : List ℕ) (h : ℕ) (answer : List ℕ) (ws' : List ℕ) : Type 0 where
  pub answered : answer ≡ cond (eqb (block_refusal ws h granted) granted) (plain_words_in (block ws h)) []
  pub words : ws' ≡ ws

-- "The number of its untaken blocks in its segments."
unfoldable pub room : List ℕ → ℕ → ℕ
room ws i =
    sum_below (segments ws) (λ s. cond (eqb (class ws s) i) (count_below (blocks i) (λ k. not (taken_at ws s k))) 0)

abbrev pub AskRoom : List ℕ → ℕ → Room → List ℕ → Type 0
AskRoom ws i a ws' =
    Outcome (refuse 2 (not (sound ws)) (refuse 3 (not (is_class i)) granted)) (room ws i ∷ []) ws ws (room_paper a) ws'

-- ---- Calls that write one word

abbrev pub WriteReference : List ℕ → ℕ → ℕ → ℕ → Written → List ℕ → Type 0
WriteReference ws h f v a ws' =
    Outcome (reference_refusal ws h f (refuse 7 (not (none_or_taken ws v)) granted)) [] (put ws (offset ws h + 1 + f) (v ∷ [])) ws
    (written_paper a) ws'

abbrev pub WritePlain : List ℕ → ℕ → ℕ → ℕ → Written → List ℕ → Type 0
WritePlain ws h f v a ws' =
    Outcome (plain_refusal ws h f) [] (put ws (offset ws h + 1 + r_in (block ws h) + f) (v ∷ [])) ws (written_paper a) ws'

-- ---- Collect: the arena after it, for the list L of the reachable blocks

-- how many blocks of a segment are in the list; a segment without any goes to the pool; one with all is full
unfoldable pub live : List ℕ → List ℕ → ℕ → ℕ
live ws L s = count_below (blocks (class ws s)) (λ k. listed L (handle s k))

unfoldable pub stays : List ℕ → List ℕ → ℕ → Bool
stays ws L s = not (in_pool ws s) && not (eqb (live ws L s) 0)

unfoldable pub stays_full : List ℕ → List ℕ → ℕ → Bool
stays_full ws L s = stays ws L s && eqb (live ws L s) (blocks (class ws s))

-- how many segments of class i stay, and how many of those are full
unfoldable pub staying : List ℕ → List ℕ → ℕ → ℕ
staying ws L i = count_below (segments ws) (λ s. eqb (class ws s) i && stays ws L s)

unfoldable pub staying_full : List ℕ → List ℕ → ℕ → ℕ
staying_full ws L i = count_below (segments ws) (λ s. eqb (class ws s) i && stays_full ws L s)

-- of segments of the same class and group as s those whose former rank is below that of s
unfoldable pub ranked_before : List ℕ → (ℕ → Bool) → ℕ → ℕ
ranked_before ws group s = count_below (segments ws) (λ t. eqb (class ws t) (class ws s) && (group t && ltb (rank ws t) (rank ws s)))

-- "The others are ranked anew: full ones first, then the rest, each group in its former order."
unfoldable pub new_rank : List ℕ → List ℕ → ℕ → ℕ
new_rank ws L s =
    cond (stays_full ws L s) (ranked_before ws (stays_full ws L) s)
    (staying_full ws L (class ws s) + ranked_before ws (λ t. stays ws L t && not (stays_full ws L t)) s)

-- "Bits, levels and counts become those of the reachable blocks. Segments with count 0 go to the pool."
unfoldable pub new_record : List ℕ → List ℕ → ℕ → List ℕ
new_record ws L s =
    cond (stays ws L s) (record_words (class ws s) (new_rank ws L s) (live ws L s) (λ k. listed L (handle s k))) (replicate 68 0)

-- "The place is (rank of the first segment that isn't full, 0); if all m are full, (m - 1, number of blocks); if m = 0, (0, 0)."
unfoldable pub new_place : List ℕ → List ℕ → ℕ → ℕ
new_place ws L i =
    cond (eqb (staying ws L i) 0) (place_word 0 0)
    (cond (ltb (staying_full ws L i) (staying ws L i)) (place_word (staying_full ws L i) 0) (place_word (staying ws L i - 1) (blocks i)))

-- "No block word changes."
unfoldable pub collected : List ℕ → List ℕ → List ℕ
collected ws L =
    word ws 0
    ∷ (words_below 10 (λ c. new_place ws L (c + 3)) ++ (lists_below (segments ws) (new_record ws L) ++ drop (record_at (segments ws)) ws))

-- "A root is neither 0 nor a taken block"; "work list shorter than the number of taken blocks"
unfoldable pub collect_refusal : List ℕ → List ℕ → List ℕ → ℕ
collect_refusal ws roots list =
    refuse 2 (not (sound ws))
    (refuse 8 (not (all_below (length roots) (λ p. none_or_taken ws (get_or roots p 0))))
    (refuse 9 (ltb (length list) (taken_count ws))
    granted))

-- "The answer is the number of reachable blocks, c; the first c words of the work list hold their handles in the order of demand 3, the later
-- ones are unchanged."
pub record Granted (ws roots list : List ℕ) (c : ℕ) (ws' list' : List ℕ) : Type 0 where
  pub same_length : length list' ≡ length list
  pub within : c ≤ length list
  pub listing : Listing (drawing ws roots) (take c list')
  pub later : drop c list' ≡ drop c list
  pub arena : ws' ≡ collected ws (take c list')

-- the answer carries some c, and the words are those of a collection that gave it
pub record Collect (ws roots list : List ℕ) (a : Collected) (ws' list' : List ℕ) : Type 0 where
  pub live_count : ℕ
  pub answered : collected_paper a ≡ paper (collect_refusal ws roots list) (live_count ∷ [])
  pub refused : collect_refusal ws roots list ≢ granted → (ws' ≡ ws) × (list' ≡ list)
  pub collected_so : collect_refusal ws roots list ≡ granted → Granted ws roots list live_count ws' list'
