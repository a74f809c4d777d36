-- `bitmap::search::Level::free_in` meets its contract: the first free bit of the word that stands there, or none where that is past its bits.
-- Assumes nothing.
use Prim.Native.Nat.{ℕ, ◌+◌, ◌-◌}
use native.Mathlib.Omega.{arith}
use mathlib.Core.Path.{◌≡◌, ap, ◌∙◌}
use mathlib.Core.Bool.{not}
use Rattle.model.specs.Below.{first_from}
use Rattle.model.specs.Word.{word, bit}
use Rattle.model.specs.Layout.{level_at}
use Rattle.bitmap.proofs.LevelLaws.{used_one}
use Rattle.bitmap.proofs.SearchLaws.{some_before, none_before}
use Rattle.bitmap.proofs.search.Level.free_in.Goals as goal
use Rattle.bitmap.proofs.search.Level.free_in.Goals.{After-first_free-free}

pub word_at-requires : goal.word_at-requires
word_at-requires c = let s = c.args.self in (used_one s.class s.level s.classed s.used, c.requires.0)

-- the first free bit, or 32
first : (c : After-first_free-free) → c.first_free-free.result ≡ first_from c.args.b (32 - c.args.b) (λ x. not (bit (word c.args.self.rec.now (level_at c.args.self.level + c.args.j)) x))
first c =
    let a = c.args in
    c.first_free-free.ensures ∙ ap (λ (o : ℕ). first_from a.b (32 - a.b) (λ x. not (bit (word a.self.rec.now o) x))) c.word_at.ensures.0

pub returns-then-free-lt32 : goal.returns-then-free-lt32
returns-then-free-lt32 c = some_before 32 _ _ (first (goal.at.returns-then-free-lt32 c).After-first_free-free) c.if-free-lt32.true

pub returns-else-free-lt32 : goal.returns-else-free-lt32
returns-else-free-lt32 c = none_before 32 _ (omega (arith, first (goal.at.returns-else-free-lt32 c).After-first_free-free, c.if-free-lt32.false))
