-- `bitmap::search::Level::first_free` meets its contract: each way out is a law of SearchLaws. Assumes nothing.
use Prim.Native.Nat.{ℕ, ◌+◌, ◌-◌, ◌/◌, ◌%◌, ◌≤◌, ◌<◌}
use native.Mathlib.Omega.{arith}
use mathlib.Core.Path.{◌≡◌, refl, sym, ◌∙◌}
use mathlib.Core.Bool.{not}
use borrow.Author.Rules.{rules}
use Rattle.std.specs.Prelude.{Some, None}
use Rattle.model.specs.Below.{first_from}
use Rattle.model.specs.Word.{word, bit}
use Rattle.model.specs.Class.{level_end, levels}
use Rattle.model.specs.Layout.{level_at, level_room}
use Rattle.bitmap.specs.declared.search.Level.{Level}
use Rattle.bitmap.proofs.LevelLaws.{level_inside}
use Rattle.bitmap.proofs.SearchLaws.{Search, l<3, own_room, higher, first_bit, same_level, at_end, in_word, no_level, none_above, room_above, free_above, found_above, before_some, before_none, not_before}
use Rattle.bitmap.proofs.search.Level.+first_free.Goals as goal
use Rattle.bitmap.proofs.search.Level.+first_free.Goals.{Else-k-end, In_ok-next}

at_level : (s : Level) {k : ℕ} → k ≤ level_end s.class s.level → Search s.rec.now s.class s.level k
at_level s h = record { long = s.long; class = s.classed; right = s.right; level = s.used; inside = h }

-- the level above is used
used_above : (s up : Level) → (up.rec.now ≡ s.rec.now) × (up.class ≡ s.class) × (up.level ≡ s.level + 1) → s.level + 1 < levels s.class
used_above s up same = rw (same.1, same.2) at up.used

-- past the first test k stands before the level's end
not_end : (t : ℕ) (c : Else-k-end t) → c.args.k < level_end c.args.self.class c.args.self.level
not_end t c = omega arith

-- the first free bit of a word at or after b, or 32
abbrev first_of : Level → ℕ → ℕ → ℕ
first_of s j b = first_from b (32 - b) (λ x. not (bit (word s.rec.now (level_at s.level + j)) x))

abbrev own_free : Level → ℕ → ℕ
own_free s k = first_of s (k / 32) (k % 32)

pub returns-then-k-end : goal.returns-then-k-end
returns-then-k-end t c = at_end (at_level c.args.self c.requires) (c.if-k-end.true ∙ c.end.ensures)

pub free_in-requires : goal.free_in-requires
free_in-requires t c =
    (own_room (at_level c.args.self c.requires) (not_end t (goal.at.free_in-requires t c).Else-k-end), search rules)

-- its own word has a free bit, or none
pub returns-in-Some : goal.returns-in-Some
returns-in-Some t c =
    let here = before_some 32 (own_free c.args.self c.args.k) _ (sym c.in-Some.is ∙ c.free_in.ensures) in
    in_word (at_level c.args.self c.requires) _ here.0 (not_end t (goal.at.returns-in-Some t c).Else-k-end) here.1

pub returns-in_err-above : goal.returns-in_err-above
returns-in_err-above t c =
    c.from_residual.ensures
    ∙ no_level (at_level c.args.self c.requires) (own_free c.args.self c.args.k) refl (not_before 32 (own_free c.args.self c.args.k) _ c.free_in.ensures c.in_default.not-Some) c.in_err-above.ensures

pub first_free-requires : goal.first_free-requires
first_free-requires t c =
    let same = c.in_ok-above.ensures in
    (search rules, rw (same.1, same.2) (higher (at_level c.args.self c.requires) (not_end t (goal.at.first_free-requires t c).Else-k-end)))

pub returns-in_err-next : goal.returns-in_err-next
returns-in_err-next t c =
    c.from_residual-in_err-next.ensures
    ∙ none_above (at_level c.args.self c.requires) (own_free c.args.self c.args.k) refl
    (used_above c.args.self c.in_ok-above.field-0 c.in_ok-above.ensures) (not_before 32 (own_free c.args.self c.args.k) _ c.free_in.ensures c.in_default.not-Some)
    (not_end t (goal.at.returns-in_err-next t c).Else-k-end)
    (same_level None (c.args.k / 32 + 1) c.in_ok-above.ensures c.in_err-next.ensures)

-- what it tells of a word with a free bit
told : (t : ℕ) (c : In_ok-next t) → Some c.in_ok-next.next ≡ first_bit c.args.self.rec.now c.args.self.class (c.args.self.level + 1) (c.args.k / 32 + 1)
told t c = same_level (Some c.in_ok-next.next) (c.args.k / 32 + 1) c.in_ok-above.ensures c.in_ok-next.ensures

-- that word is one of the level's
word_inside : (t : ℕ) (c : In_ok-next t) → c.in_ok-next.next < level_room c.args.self.level
word_inside t c =
    room_above (at_level c.args.self c.requires) (own_free c.args.self c.args.k) refl
    (used_above c.args.self c.in_ok-above.field-0 c.in_ok-above.ensures) (not_before 32 (own_free c.args.self c.args.k) _ c.free_in.ensures c.in_default.not-Some) c.in_ok-next.next (told t c)

pub overflow_mul-result-2 : goal.overflow_mul-result-2
overflow_mul-result-2 t c =
    let s = at_level c.args.self c.requires in
    omega (arith, level_inside c.args.self.level c.in_ok-next.next (l<3 s) (word_inside t (goal.at.overflow_mul-result-2 t c).In_ok-next))

pub free_in-requires-2 : goal.free_in-requires-2
free_in-requires-2 t c = (word_inside t (goal.at.free_in-requires-2 t c).In_ok-next, search rules)

-- so there is always one there
pub returns-in_err-free_in : goal.returns-in_err-free_in
returns-in_err-free_in t c =
    let n = (goal.at.returns-in_err-free_in t c).In_ok-next in
    let free =
    free_above (at_level c.args.self c.requires) (own_free c.args.self c.args.k) refl
    (used_above c.args.self c.in_ok-above.field-0 c.in_ok-above.ensures) (not_before 32 (own_free c.args.self c.args.k) _ c.free_in.ensures c.in_default.not-Some) c.in_ok-next.next (told t n)
    (not_end t (goal.at.returns-in_err-free_in t c).Else-k-end) in
    absurd (omega (arith, free, before_none 32 (first_of c.args.self c.in_ok-next.next 0) c.in_err-free_in.ensures))

pub overflow_add-result-2 : goal.overflow_add-result-2
overflow_add-result-2 t c =
    let s = at_level c.args.self c.requires in
    let there = before_some 32 (first_of c.args.self c.in_ok-next.next 0) _ c.in_ok-free_in.ensures in
    omega (arith, there.1, level_inside c.args.self.level c.in_ok-next.next (l<3 s) (word_inside t (goal.at.overflow_add-result-2 t c).In_ok-next))

pub returns : goal.returns
returns t c =
    let n = (goal.at.returns t c).In_ok-next in
    found_above (at_level c.args.self c.requires) (own_free c.args.self c.args.k) refl
    (used_above c.args.self c.in_ok-above.field-0 c.in_ok-above.ensures) (not_before 32 (own_free c.args.self c.args.k) _ c.free_in.ensures c.in_default.not-Some) c.in_ok-next.next (told t n)
    (not_end t (goal.at.returns t c).Else-k-end) _ (before_some 32 (first_of c.args.self c.in_ok-next.next 0) _ c.in_ok-free_in.ensures).0
