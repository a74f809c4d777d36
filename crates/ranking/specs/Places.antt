-- New places by keys.
-- Assumes nothing.
use Rattle.std.specs.Prelude.{ℕ, ◌+◌, ◌-◌, ◌≤◌, ◌<◌, ◌≡◌, cond, List, length, eqb, ltb}
use Rattle.model.specs.Word.{word}
use Rattle.model.specs.Class.{blocks}
use Rattle.model.specs.Layout.{place_word}
use Rattle.ranking.specs.Groups.{pool, full, rest}
use Rattle.ranking.specs.Keys.{key_of, keys_in}

-- the place of class i, of whose m segments so many are full: the first segment that isn't stands behind those
unfoldable pub place_for : ℕ → ℕ → ℕ → ℕ
place_for i before m = cond (eqb m 0) (place_word 0 0) (cond (ltb before m) (place_word before 0) (place_word (m - 1) (blocks i)))

pub record PlaceFor (i before m : ℕ) : Type 0 where
  pub low : 3 ≤ i
  pub high : i ≤ 12
  pub few : m ≤ 64

-- the full ones lie before the rest, and all that stay before the next class
unfoldable pub place_by : List ℕ → ℕ → ℕ → ℕ
place_by keys n i =
    place_for i (keys_in keys n (key_of i full 0) (key_of i rest 0)) (keys_in keys n (key_of i full 0) (key_of (i + 1) pool 0))

pub record Places (keys : List ℕ) (n : ℕ) (places : List ℕ) : Type 0 where
  pub long : length places ≡ 10
  pub placed : (c : ℕ) → c < 10 → word places c ≡ place_by keys n (c + 3)

pub record WritePlaces (ws places : List ℕ) : Type 0 where
  pub room : 11 ≤ length ws
  pub ten : length places ≡ 10
