-- The groups in which segments are ranked anew.
-- Assumes nothing.
use Rattle.std.specs.Prelude.{ℕ, cond, ◌||◌, eqb}
use Rattle.model.specs.Class.{blocks}
use Rattle.ranking.specs.declared.groups.Group.{Group}
use Rattle.ranking.specs.declared.groups.Group.TheVariants.{Pool, Full, Rest}

-- those that go to the pool or are there, the full ones, and the rest
abbrev pub pool : ℕ
pool = 0

abbrev pub full : ℕ
full = 1

abbrev pub rest : ℕ
rest = 2

-- the group of a segment of class i with n marked blocks
unfoldable pub group_of : ℕ → ℕ → ℕ
group_of i n = cond (eqb i 0 || eqb n 0) pool (cond (eqb n (blocks i)) full rest)

-- the number of a group
abbrev pub number : Group → ℕ
number Pool = pool
number Full = full
number Rest = rest
