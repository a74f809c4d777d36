-- `ranking::levels::write_levels` meets its contract (LevelLaws). Assumes nothing.
use Prim.Native.Nat.{ℕ}
use mathlib.Core.Path.{◌≡◌, sym, ap, ◌∙◌}
use mathlib.Core.Bool.{true}
use mathlib.Core.List.{List, ◌∷◌}
use native.Mathlib.Omega.{arith}
use lib.ListN.{length, take}
use lib.Seq.{length-take-le}
use Rattle.model.specs.Word.{word}
use Rattle.model.specs.Class.{is_class, blocks}
use Rattle.model.specs.Layout.{level_rows}
use Rattle.std.specs.Int.{div_ceil}
use Rattle.std.proofs.lemmas.List.{get_or-take}
use Rattle.words.proofs.ClassLaws.{blocks_most}
use Rattle.ranking.specs.Live.{mark_in}
use Rattle.ranking.specs.Levels.{PutWord}
use Rattle.ranking.proofs.LevelLaws.{next_word, next_passed, all_passed}
use Rattle.ranking.proofs.levels.write_levels.Goals as goal
use Rattle.ranking.proofs.levels.write_levels.Goals.{In-loop-j}

-- a segment's marks have the words that its class uses
long : (i n words : ℕ) (marks : List ℕ) → is_class i ≡ true → length marks ≡ 64 → n ≡ blocks i → words ≡ div_ceil n 32 → length (take words marks) ≡ words
long i n words marks c row e f = length-take-le words marks (omega (arith, blocks_most i c, row, e, f))

-- the word passed next
next : (d : In-loop-j) → PutWord d.loop-j.rec d.args.class d.loop-j.j
next d =
    let a = d.args in
    let x = d.loop-j in
    let size = long a.class d.blocks-2.result d.div_ceil-words.result a.marks.now d.requires.class d.requires.row d.blocks-2.ensures d.div_ceil-words.ensures in
    next_word x.rec (word d.unset.new.rec 0) a.class a.marks.now x.j d.requires.class x.invariant (omega (arith, size, d.loop-j-test.true, d.blocks-2.ensures, d.div_ceil-words.ensures))

pub slice_bounds-w-items-end : goal.slice_bounds-w-items-end
slice_bounds-w-items-end c =
    sym (long c.args.class c.blocks-2.result c.div_ceil-words.result c.args.marks.now c.requires.class c.requires.row c.blocks-2.ensures c.div_ceil-words.ensures)

pub put_word-requires : goal.put_word-requires
put_word-requires c = next (goal.at.put_word-requires c).In-loop-j

pub loop-j-preserved : goal.loop-j-preserved
loop-j-preserved c =
    let a = c.args in
    let x = c.loop-j in
    let size = long a.class c.blocks-2.result c.div_ceil-words.result a.marks.now c.requires.class c.requires.row c.blocks-2.ensures c.div_ceil-words.ensures in
    next_passed x.rec (word c.unset.new.rec 0) a.class a.marks.now x.j c.requires.class x.invariant c.put_word.new.rec _ c.put_word.ensures
    (get_or-take c.div_ceil-words.result a.marks.now x.j 0 (omega (arith, size, c.loop-j-test.true)))

pub returns : goal.returns
returns c =
    let a = c.args in
    let x = c.loop-j in
    let size = long a.class c.blocks-2.result c.div_ceil-words.result a.marks.now c.requires.class c.requires.row c.blocks-2.ensures c.div_ceil-words.ensures in
    all_passed x.rec (word c.unset.new.rec 0) a.class a.marks.now x.j c.requires.class x.invariant (omega (arith, size, c.loop-j-test.false, c.blocks-2.ensures, c.div_ceil-words.ensures))
    ∙ ap (λ (ws : List ℕ). word ws 0 ∷ level_rows a.class (mark_in a.marks.now)) c.unset.ensures
