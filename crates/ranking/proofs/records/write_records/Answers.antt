-- `ranking::records::write_records` meets its contract. Assumes nothing.
use Prim.Native.Nat.{ℕ, ◌≤◌, ◌<◌}
use mathlib.Core.Path.{◌≡◌, sym, ap, ◌∙◌}
use mathlib.Core.List.{List}
use native.Mathlib.Omega.{arith}
use lib.ListN.{length}
use lib.Seq.{length-take-le}
use Rattle.std.proofs.lemmas.List.{get_or-take}
use Rattle.model.specs.Word.{word, put}
use Rattle.model.specs.Layout.{record_at}
use Rattle.model.specs.View.{segments}
use Rattle.ranking.specs.Live.{marks_of}
use Rattle.ranking.specs.Records.{marked_record}
use Rattle.ranking.proofs.RecordLaws.{marked_length, with_none, with_next, with_segments}
use Rattle.ranking.proofs.records.write_records.Goals as goal
use Rattle.ranking.proofs.records.write_records.Goals.{In-loop-s}

-- the new record of segment t
abbrev new : List ℕ → List ℕ → ℕ → List ℕ
new heads marks t = marked_record (word heads t) (marks_of marks t)

new-length : (heads marks : List ℕ) (t : ℕ) → length (new heads marks t) ≡ 68
new-length heads marks t = marked_length (word heads t) (marks_of marks t)

-- the loop is at a segment
passed : (d : In-loop-s) → d.loop-s.s < d.segments-n.result
passed d =
    omega (arith, d.loop-s-test.true, length-take-le d.segments-n.result d.args.heads.now (omega (arith, d.told-heads, d.segments-n.ensures, d.requires.few)))

-- the new records leave the number of segments
kept : (d : In-loop-s) → segments d.loop-s.arena ≡ segments d.args.arena.now
kept d =
    let a = d.args in
    let x = d.loop-s in
    ap (λ (ws : List ℕ). segments ws) x.invariant
    ∙ with_segments a.arena.now x.s (new a.heads.now a.marks.now) (λ k _. new-length a.heads.now a.marks.now k)
    (omega (arith, passed d, d.segments-n.ensures, d.requires.long))

pub loop-s-init : goal.loop-s-init
loop-s-init c = sym (with_none c.args.arena.now (new c.args.heads.now c.args.marks.now))

pub write_record-requires : goal.write_record-requires
write_record-requires c =
    let p = c.requires in
    let same = kept (goal.at.write_record-requires c).In-loop-s in
    let there : c.loop-s.s < segments c.args.arena.now = omega (arith, passed (goal.at.write_record-requires c).In-loop-s, c.segments-n.ensures) in
    record {
      few = omega (arith, same, p.few);
      long = omega (arith, same, p.long);
      there = omega (arith, same);
      right = rw (get_or-take c.segments-n.result c.args.heads.now c.loop-s.s 0 (passed (goal.at.write_record-requires c).In-loop-s)) (p.right c.loop-s.s there);
      row = omega (arith, same, p.row);
    }

pub loop-s-preserved : goal.loop-s-preserved
loop-s-preserved c =
    let a = c.args in
    let x = c.loop-s in
    let at = passed (goal.at.loop-s-preserved c).In-loop-s in
    let made : ℕ → List ℕ = new a.heads.now a.marks.now in
    let inside : record_at x.s ≤ length a.arena.now = omega (arith, at, c.segments-n.ensures, c.requires.long) in
    let same = get_or-take c.segments-n.result a.heads.now x.s 0 at in
    c.write_record.ensures ∙ ap (λ (h : ℕ). put x.arena (record_at x.s) (marked_record h (marks_of a.marks.now x.s))) same ∙ ap (λ (ws : List ℕ). put ws (record_at x.s) (made x.s)) x.invariant
    ∙ with_next a.arena.now x.s made (λ k _. new-length a.heads.now a.marks.now k) inside (new-length a.heads.now a.marks.now x.s)
