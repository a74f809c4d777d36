-- `taken::row::fill_segment` meets its contract: a segment in the pool has no taken block, and one of a class those of its limit and its bits.
-- Assumes nothing.
use Prim.Native.Nat.{ℕ, ◌+◌, ◌-◌, ◌*◌, ◌≤◌}
use native.Mathlib.Omega.{arith}
use mathlib.Core.Path.{◌≡◌, ap, ap₂, subst, ◌∙◌, sym}
use mathlib.Core.Bool.{true, false}
use mathlib.Core.List.{List}
use lib.ListN.{length}
use borrow.Author.Tests.{eq-eqb, ne_eqb}
use Rattle.model.specs.Word.{word, part}
use Rattle.model.specs.Class.{is_class, blocks, words_for}
use Rattle.model.specs.View.{class}
use Rattle.model.specs.Standing.{in_pool}
use Rattle.laws.proofs.Splice.{put_mid_is}
use Rattle.words.proofs.ClassLaws.{blocks_most}
use Rattle.taken.specs.Row.{taken_word, Filled, Segment}
use Rattle.taken.proofs.RowLaws.{record_long, own_long, filled_pool, member_word, filled_step}
use Rattle.taken.proofs.row.fill_segment.Goals as goal
use Rattle.taken.proofs.row.fill_segment.Goals.{Else-class-eq0}

-- past the test the segment has a class
used : (c : Else-class-eq0) → in_pool c.args.arena.now c.args.s ≡ false
used c = ne_eqb _ 0 (λ z. c.if-class-eq0.false (c.class-class.ensures ∙ z))

classed : (c : Else-class-eq0) → is_class (class c.args.arena.now c.args.s) ≡ true
classed c = let p = c.requires in p.classed.classed _ p.there (used c)

few : (c : Else-class-eq0) → blocks (class c.args.arena.now c.args.s) ≤ 2048
few c = blocks_most _ (classed c)

pub returns-then-class-eq0 : goal.returns-then-class-eq0
returns-then-class-eq0 c = filled_pool c.requires (eq-eqb _ 0 (sym c.class-class.ensures ∙ c.if-class-eq0.true))

pub fill_words-requires : goal.fill_words-requires
fill_words-requires c =
    let a = c.args in
    let p = c.requires in
    record {
      record_long = ap length c.record_of-rec.ensures ∙ record_long a.arena.now a.s p.classed.long p.there;
      long = own_long p;
      most = omega (arith, c.blocks-2.ensures, ap blocks c.class-class.ensures, few (goal.at.fill_words-requires c).Else-class-eq0);
    }

pub returns : goal.returns
returns c =
    let a = c.args in
    let p = c.requires in
    let same = c.class-class.ensures in
    let limit = c.limit_of in
    let all = c.blocks-2.ensures ∙ ap blocks same in
    let row = a.row.now in
    let own = c.fill_words.new.own in
    let at : ℕ = 1 + 64 * a.s in
    let size : at + 64 - at ≡ 64 = omega arith in
    let long : length own ≡ 64 = omega (arith, c.fill_words.auto.own, own_long p) in
    subst (λ (xs : List ℕ). Filled a.arena.now xs (64 * a.s + 64)) (sym (put_mid_is at (at + 64 - at) row own (long ∙ sym size)))
    (filled_step p long (subst (λ (n : ℕ). Segment c.record_of-rec.result.now limit.result c.blocks-2.result (part row at n) own (words_for c.blocks-2.result)) size c.fill_words.ensures)
    all (omega (arith, all, few (goal.at.returns c).Else-class-eq0))
    (λ j l.
    ap₂ (λ (rec : List ℕ) (n : ℕ). taken_word (word rec (1 + j)) limit.result n j) c.record_of-rec.ensures all
    ∙ member_word a.arena.now a.s limit.result j p.there (used (goal.at.returns c).Else-class-eq0) limit.ensures l))
