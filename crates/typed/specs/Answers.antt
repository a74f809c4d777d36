-- The words of an answer, byte by byte. "Prints `block` and the handle", "prints `ok`", "prints `live c:` and the handles, each after a space",
-- "a refusal prints `refused` and its number", "anything else prints `bad line`". Every answer ends with a newline. The number and the values are
-- those of the answer on paper.
-- Assumes nothing.
use Rattle.std.specs.Prelude.{ℕ, ◌^◌, cond, List, [], ◌∷◌, ◌++◌, get_or, take, eqb, ltb}
use Rattle.typed.specs.Digits.{last_digits}
use Rattle.model.specs.Below.{first_from}
use Rattle.model.specs.Numbers.{granted, Allocated, Written, Collected, allocated_paper, written_paper, collected_paper}
use Rattle.typed.specs.declared.Answer.{Answer}
use Rattle.typed.specs.declared.Answer.TheVariants as answer

-- a number in decimal: of 1 to 10 digits the fewest that hold it
unfoldable pub places : ℕ → ℕ
places v = first_from 1 9 (λ k. ltb v (10 ^ k))

unfoldable pub decimal : ℕ → List ℕ
decimal v = last_digits 10 (places v) v

-- handles, each after a space
unfoldable pub spelled : List ℕ → List ℕ
spelled [] = []
spelled (h ∷ handles) = (32 ∷ decimal h) ++ spelled handles

-- a newline, and a colon
abbrev pub newline : List ℕ
newline = 10 ∷ []

abbrev pub colon : List ℕ
colon = 58 ∷ []

-- "block ", "ok", "live ", "refused " and "bad line"
abbrev pub block_word : List ℕ
block_word = 98 ∷ 108 ∷ 111 ∷ 99 ∷ 107 ∷ 32 ∷ []

abbrev pub ok_word : List ℕ
ok_word = 111 ∷ 107 ∷ []

abbrev pub live_word : List ℕ
live_word = 108 ∷ 105 ∷ 118 ∷ 101 ∷ 32 ∷ []

abbrev pub refused_word : List ℕ
refused_word = 114 ∷ 101 ∷ 102 ∷ 117 ∷ 115 ∷ 101 ∷ 100 ∷ 32 ∷ []

abbrev pub bad_line_words : List ℕ
bad_line_words = 98 ∷ 97 ∷ 100 ∷ 32 ∷ 108 ∷ 105 ∷ 110 ∷ 101 ∷ newline

-- a word, a number and what ends it
abbrev pub numbered : List ℕ → ℕ → List ℕ → List ℕ
numbered word v end = word ++ (decimal v ++ end)

-- the number of a refusal, or the words of a grant
abbrev pub said : ℕ → List ℕ → List ℕ
said number words = cond (eqb number granted) words (numbered refused_word number newline)

abbrev pub allocated_words : Allocated → List ℕ
allocated_words a = said (allocated_paper a).number (numbered block_word (get_or (allocated_paper a).values 0 0) newline)

abbrev pub written_words : Written → List ℕ
written_words a = said (written_paper a).number (ok_word ++ newline)

-- a collection's answer up to the handles, and all of it: the list holds the handles of the blocks that live
abbrev pub collected_head : Collected → List ℕ
collected_head a = said (collected_paper a).number (numbered live_word (get_or (collected_paper a).values 0 0) colon)

abbrev pub live_words : ℕ → List ℕ → List ℕ
live_words c list = numbered live_word c colon ++ (spelled (take c list) ++ newline)

abbrev pub collected_words : Collected → List ℕ → List ℕ
collected_words a list = said (collected_paper a).number (live_words (get_or (collected_paper a).values 0 0) list)

-- an answer, with the list as it is then
abbrev pub answer_words : Answer → List ℕ → List ℕ
answer_words (answer.Allocated a) list = allocated_words a
answer_words (answer.Written a) list = written_words a
answer_words (answer.Collected a) list = collected_words a list
answer_words answer.BadLine list = bad_line_words
