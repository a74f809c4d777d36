-- `bitmap::fresh::pad` meets its contract: a level of no words stays, and any other gets its last word.
-- Assumes nothing.
use Prim.Native.Nat.{ℕ, ◌-◌, ◌*◌, ◌≤◌, ◌<◌}
use native.Mathlib.Omega.{arith}
use mathlib.Core.Path.{◌≡◌, ap, ap₂, ◌∙◌}
use mathlib.Core.Bool.{true}
use mathlib.Core.Logic.{◌≢◌}
use lib.ListN.{set}
use lib.Dec.{leb}
use borrow.Author.Tests.{lt-ltb}
use Rattle.model.specs.Word.{word_of_bits}
use Rattle.model.specs.Class.{is_class, level_words, level_end}
use Rattle.bitmap.proofs.LevelLaws.{words_room, words_begin}
use Rattle.bitmap.proofs.FreshLaws.{padding_is}
use Rattle.bitmap.proofs.fresh.pad.Goals as goal

-- the last word begins before the level's end
begins : (i l n end : ℕ) → is_class i ≡ true → l < 3 → n ≢ 0 → n ≡ level_words i l → end ≡ level_end i l → 32 * (n - 1) ≤ end
begins i l n end class l<3 some words ends = omega (arith, words_begin i l (n - 1) class l<3 (omega arith))

pub overflow_mul-bits : goal.overflow_mul-bits
overflow_mul-bits c =
    omega (arith, begins c.args.class c.args.level _ _ c.requires.class c.requires.level c.if-words-eq0.false c.level_words-words.ensures c.level_end.ensures)

pub overflow_sub-bits : goal.overflow_sub-bits
overflow_sub-bits c =
    begins c.args.class c.args.level _ _ c.requires.class c.requires.level c.if-words-eq0.false c.level_words-words.ensures c.level_end.ensures

pub word_at-requires : goal.word_at-requires
word_at-requires c = (c.requires.level, omega (arith, words_room c.args.class c.args.level c.requires.class c.requires.level))

pub returns : goal.returns
returns c =
    let a = c.args in
    let p = c.requires in
    let bits : c.level_end.result - 32 * (c.level_words-words.result - 1) ≡ level_end a.class a.level - 32 * (level_words a.class a.level - 1) = omega arith in
    rw (lt-ltb 0 (level_words a.class a.level) (omega arith))
    (ap₂ (λ (o v : ℕ). set a.rec.now o v) (omega arith)
    (c.ones_from.ensures ∙ ap (λ (n : ℕ). word_of_bits (λ b. leb n b)) bits ∙ padding_is a.class a.level p.class p.level (omega arith)))
