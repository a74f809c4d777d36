-- The keys by which segments are ranked anew.
-- Assumes nothing.
use Rattle.std.specs.Prelude.{ℕ, ◌+◌, ◌*◌, ◌≤◌, ◌<◌, ◌≡◌, Bool, ◌&&◌, List, length, leb, ltb}
use Rattle.model.specs.Below.{count_below}
use Rattle.model.specs.Word.{word}
use Rattle.model.specs.Layout.{arena_length}
use Rattle.model.specs.View.{segments, class, rank}
use Rattle.ranking.specs.Groups.{group_of}

-- an arena of at most 64 segments has their length
pub record Whole (ws : List ℕ) : Type 0 where
  pub few : segments ws ≤ 64
  pub long : length ws ≡ arena_length (segments ws)

-- class, group and former rank of a segment, most significant first
abbrev pub key_of : ℕ → ℕ → ℕ → ℕ
key_of i g q = i * 1024 + g * 256 + q

pub record Keys (ws lives keys : List ℕ) : Type 0 where
  pub long : length keys ≡ 64
  pub keyed : (s : ℕ) → s < segments ws → word keys s ≡ key_of (class ws s) (group_of (class ws s) (word lives s)) (rank ws s)

-- a key lies from `from` on and before `to`
abbrev pub between : ℕ → ℕ → ℕ → Bool
between from to key = leb from key && ltb key to

-- how many of the first n keys do so
unfoldable pub keys_in : List ℕ → ℕ → ℕ → ℕ → ℕ
keys_in keys n from to = count_below n (λ t. between from to (word keys t))
