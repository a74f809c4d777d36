-- New ranks by keys, and the heads of the new records.
-- Assumes nothing.
use Rattle.std.specs.Prelude.{ℕ, ◌/◌, ◌%◌, ◌<◌, ◌≡◌, cond, List, length, eqb}
use Rattle.model.specs.Word.{word}
use Rattle.model.specs.Layout.{record_head}
use Rattle.ranking.specs.Groups.{pool, full}
use Rattle.ranking.specs.Keys.{key_of, keys_in}

-- how many segments of its class that stay come before a key's own
unfoldable pub rank_by : List ℕ → ℕ → ℕ → ℕ
rank_by keys n own = keys_in keys n (key_of (own / 1024) full 0) own

-- the head of a segment's record, 0 in the pool
unfoldable pub head_by : List ℕ → List ℕ → ℕ → ℕ → ℕ
head_by keys lives n s =
    cond (eqb (word keys s / 256 % 4) pool) 0 (record_head (word keys s / 1024) (rank_by keys n (word keys s)) (word lives s))

-- what that asks: a class fits the head's 4 bits, and a count its 12 bits
pub record HeadOf (keys lives : List ℕ) (n s : ℕ) : Type 0 where
  pub there : s < n
  pub small : word keys s < 16384
  pub fits : word lives s < 4096

pub record HeadsOf (keys lives : List ℕ) (n : ℕ) : Type 0 where
  pub small : (s : ℕ) → s < n → word keys s < 16384
  pub fits : (s : ℕ) → s < n → word lives s < 4096

pub record Heads (keys lives : List ℕ) (n : ℕ) (heads : List ℕ) : Type 0 where
  pub long : length heads ≡ 64
  pub headed : (s : ℕ) → s < n → word heads s ≡ head_by keys lives n s
