-- Handles and blocks: a handle gives its segment and index back, and blocks lie inside the arena, apart from each other.
-- Assumes nothing.
use Prim.Native.Nat.{ℕ, suc, ◌+◌, ◌*◌, ◌≤◌, ◌<◌}
use mathlib.Core.Path.{◌≡◌}
use mathlib.Core.Bool.{true}
use native.Mathlib.Nat.{le_trans, mul-suc, mul_comm, mul-le-mul_left}
use native.Mathlib.Omega.{arith}
use Rattle.model.specs.Class.{is_class, blocks, block_words}
use Rattle.model.specs.Layout.{handle, segment_of, index_of, area_at, block_at, arena_length}
use Rattle.words.proofs.ClassLaws.{blocks_fill}

-- ---- a handle, its segment and its index

pub handle_segment : (s k : ℕ) → k < 2048 → segment_of (handle s k) ≡ s
handle_segment s k h = omega arith

pub handle_index : (s k : ℕ) → k < 2048 → index_of (handle s k) ≡ k
handle_index s k h = omega arith

pub handle_back : (h : ℕ) → 0 < h → handle (segment_of h) (index_of h) ≡ h
handle_back h p = omega arith

pub index_small : (h : ℕ) → index_of h < 2048
index_small h = omega arith

-- ---- blocks in the arena

-- what the blocks before k and block k itself take up of an area
pub block_inside : (i k : ℕ) → is_class i ≡ true → k < blocks i → block_words i * k + block_words i ≤ 4096
block_inside i k c h = omega (arith, blocks_fill i c, mul_comm (blocks i) (block_words i), mul-suc (block_words i) k, mul-le-mul_left (block_words i) h)

pub block_in_area : (N s i k : ℕ) → is_class i ≡ true → k < blocks i → block_at N s i k + block_words i ≤ area_at N (suc s)
block_in_area N s i k c h = omega (arith, block_inside i k c h)

pub area_in_arena : (N s : ℕ) → s < N → area_at N (suc s) ≤ arena_length N
area_in_arena N s h = omega arith

pub block_in_arena : (N s i k : ℕ) → s < N → is_class i ≡ true → k < blocks i → block_at N s i k + block_words i ≤ arena_length N
block_in_arena N s i k l c h = le_trans (block_in_area N s i k c h) (area_in_arena N s l)

-- a block ends before a later one of its segment, and before any of a later segment
pub blocks_apart : (N s i k j : ℕ) → k < j → block_at N s i k + block_words i ≤ block_at N s i j
blocks_apart N s i k j h = omega (arith, mul-suc (block_words i) k, mul-le-mul_left (block_words i) h)

pub segments_apart : (N s i k t i' j : ℕ) → s < t → is_class i ≡ true → k < blocks i → block_at N s i k + block_words i ≤ block_at N t i' j
segments_apart N s i k t i' j l c h = omega (arith, block_in_area N s i k c h)
