-- Packed words and their fields. Reading a packed word gives its fields back, a packed word fits a word and has nothing in its unnamed bits,
-- and a word with nothing there is the packing of its fields.
-- Assumes nothing.
use Prim.Native.Nat.{ℕ, ◌+◌, ◌*◌, ◌/◌, ◌%◌, ◌^◌, ◌<◌}
use mathlib.Core.Path.{◌≡◌}
use native.Mathlib.Omega.{arith}
use Rattle.model.specs.Word.{field, unnamed}
use Rattle.model.specs.Layout.{arena_head, place_word, record_head, header_word}

-- ---- word 0 of the arena

pub arena_head_segments : (n : ℕ) → n < 256 → field 0 8 (arena_head n) ≡ n
arena_head_segments n h = omega arith

pub arena_head_unnamed : (n : ℕ) → unnamed 8 (arena_head n) ≡ 0
arena_head_unnamed n = omega arith

pub arena_head_fits : (n : ℕ) → n < 256 → arena_head n < 2 ^ 32
arena_head_fits n h = omega arith

pub arena_head_whole : (w : ℕ) → w < 2 ^ 32 → unnamed 8 w ≡ 0 → arena_head (field 0 8 w) ≡ w
arena_head_whole w h u = omega arith

-- ---- places

module _ (rank index : ℕ) (hr : rank < 256) (hi : index < 4096) where
  pub place_word_rank : field 0 8 (place_word rank index) ≡ rank
  place_word_rank = omega arith

  pub place_word_index : field 8 12 (place_word rank index) ≡ index
  place_word_index = omega arith

  pub place_word_fits : place_word rank index < 2 ^ 32
  place_word_fits = omega arith

pub place_word_unnamed : (rank index : ℕ) → unnamed 20 (place_word rank index) ≡ 0
place_word_unnamed rank index = omega arith

pub place_word_whole : (w : ℕ) → w < 2 ^ 32 → unnamed 20 w ≡ 0 → place_word (field 0 8 w) (field 8 12 w) ≡ w
place_word_whole w h u = omega arith

-- ---- record heads

module _ (class rank count : ℕ) (hc : class < 16) (hr : rank < 256) (hn : count < 4096) where
  pub record_head_class : field 0 4 (record_head class rank count) ≡ class
  record_head_class = omega arith

  pub record_head_rank : field 4 8 (record_head class rank count) ≡ rank
  record_head_rank = omega arith

  pub record_head_count : field 12 12 (record_head class rank count) ≡ count
  record_head_count = omega arith

  pub record_head_fits : record_head class rank count < 2 ^ 32
  record_head_fits = omega arith

pub record_head_unnamed : (class rank count : ℕ) → unnamed 24 (record_head class rank count) ≡ 0
record_head_unnamed class rank count = omega arith

pub record_head_whole : (w : ℕ) → w < 2 ^ 32 → unnamed 24 w ≡ 0 → record_head (field 0 4 w) (field 4 8 w) (field 12 12 w) ≡ w
record_head_whole w h u =
    let high : w / 2 ^ 20 ≡ field 0 4 w * 2 ^ 8 + field 4 8 w = omega arith in
    let low : w % 2 ^ 20 ≡ field 12 12 w * 2 ^ 8 = omega arith in
    omega arith

-- ---- headers, which name all their bits

module _ (n r tag : ℕ) (hn : n < 4096) (hr : r < 4096) (ht : tag < 256) where
  pub header_word_n : field 0 12 (header_word n r tag) ≡ n
  header_word_n = omega arith

  pub header_word_r : field 12 12 (header_word n r tag) ≡ r
  header_word_r = omega arith

  pub header_word_tag : field 24 8 (header_word n r tag) ≡ tag
  header_word_tag = omega arith

  pub header_word_fits : header_word n r tag < 2 ^ 32
  header_word_fits = omega arith

pub header_word_whole : (w : ℕ) → w < 2 ^ 32 → header_word (field 0 12 w) (field 12 12 w) (field 24 8 w) ≡ w
header_word_whole w h = omega arith
