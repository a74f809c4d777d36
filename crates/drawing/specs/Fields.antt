-- The fields of a block, be they references or plain words: which there are, where each stands, and what a call gives that reads or writes one.
-- Assumes nothing.
use Rattle.std.specs.Prelude.{ℕ, ◌+◌, ◌-◌, Bool, true, List, ltb}
use Rattle.model.specs.View.{n_in, r_in}
use Rattle.model.specs.Standing.{none_or_taken}
use Rattle.model.specs.Numbers.{Read, Written}
use Rattle.model.specs.Calls.{ReadReference, ReadPlain, WriteReference, WritePlain}
use Rattle.drawing.specs.declared.block.Field.{Field}
use Rattle.drawing.specs.declared.block.Field.TheVariants.{Reference, Plain}

-- on a block's own words
abbrev pub has_field : List ℕ → Field → Bool
has_field b (Reference f) = ltb f (r_in b)
has_field b (Plain f) = ltb f (n_in b - r_in b)

abbrev pub field_at : List ℕ → Field → ℕ
field_at b (Reference f) = 1 + f
field_at b (Plain f) = 1 + r_in b + f

-- what it may be in an arena
abbrev pub may_hold : List ℕ → Field → ℕ → Bool
may_hold ws (Reference f) v = none_or_taken ws v
may_hold ws (Plain f) v = true

-- the promise of the call that reads such a field, and of the one that writes it
abbrev pub ReadField : List ℕ → ℕ → Field → Read → List ℕ → Type 0
ReadField ws h (Reference f) a ws' = ReadReference ws h f a ws'
ReadField ws h (Plain f) a ws' = ReadPlain ws h f a ws'

abbrev pub WriteField : List ℕ → ℕ → Field → ℕ → Written → List ℕ → Type 0
WriteField ws h (Reference f) v a ws' = WriteReference ws h f v a ws'
WriteField ws h (Plain f) v a ws' = WritePlain ws h f v a ws'
