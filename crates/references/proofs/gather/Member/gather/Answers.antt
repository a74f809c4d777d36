-- `references::gather::Member::gather` meets its contract.
-- Assumes nothing.
use Prim.Native.Nat.{ℕ, ◌+◌, ◌*◌, ◌≤◌}
use native.Mathlib.Omega.{arith}
use mathlib.Core.Path.{◌≡◌, ap, ◌∙◌}
use Rattle.model.specs.Word.{bit}
use Rattle.model.specs.Class.{blocks, words_for}
use Rattle.laws.proofs.Splice.{word_part}
use Rattle.words.proofs.ClassLaws.{bounds_class, blocks_most}
use Rattle.references.proofs.GatherLaws.{row_word_bits, gathered_none, gathered_wrong, whole_words, gathered_end}
use Rattle.references.proofs.gather.Member.gather.Goals as goal
use Rattle.references.proofs.gather.Member.gather.Goals.{After-div_ceil-words}

-- the loop goes over the words of the segment's blocks, at most 64
words : (c : After-div_ceil-words) → c.div_ceil-words.result ≡ words_for (blocks c.args.self.class)
words c = omega (arith, c.div_ceil-words.ensures, c.blocks-2.ensures)

few : (c : After-div_ceil-words) → c.div_ceil-words.result ≤ 64
few c =
    let m = c.args.self.of.member in
    omega (arith, words c, blocks_most c.args.self.class (bounds_class c.args.self.class m.low m.high))

pub loop-j-init : goal.loop-j-init
loop-j-init c =
    let m = c.args.self in
    rw c.requires.none (gathered_none m.arena.now m.s)

pub gather_word-requires : goal.gather_word-requires
gather_word-requires c =
    let m = c.args.self in
    let inside = few (goal.at.gather_word-requires c).After-div_ceil-words in
    record {
      inside = omega (arith, inside, c.loop-j-test.true);
      bits = λ b l.
          ap (λ (w : ℕ). bit w b) (word_part m.row.now (1 + 64 * m.s) _ c.loop-j.j (omega (arith, c.loop-j-test.true)))
          ∙ row_word_bits m.taken m.s c.loop-j.j b m.of.member.there (omega (arith, inside, c.loop-j-test.true)) l;
      gathered = c.loop-j.invariant;
    }

pub returns-in_err-refs : goal.returns-in_err-refs
returns-in_err-refs c =
    let m = c.args.self in
    let all = whole_words m.class m.of.member.low c.requires.small in
    rw c.from_residual.ensures
    (gathered_wrong m.arena.now m.s _ _ c.in_err-refs.ensures (omega (arith, all, words (goal.at.returns-in_err-refs c).After-div_ceil-words, c.loop-j-test.true)))

pub returns : goal.returns
returns c =
    let m = c.args.self in
    gathered_end c.loop-j.invariant m.of.member.low c.requires.small (omega (arith, words (goal.at.returns c).After-div_ceil-words, c.loop-j-test.false))
