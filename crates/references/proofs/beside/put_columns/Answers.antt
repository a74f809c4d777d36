-- `references::beside::put_columns` meets its contract: the chunks are the blocks, of which there are 32.
-- Assumes nothing.
use Prim.Native.Nat.{ℕ, ◌+◌, ◌-◌, ◌*◌}
use native.Mathlib.Omega.{arith}
use mathlib.Core.Path.{◌≡◌, sym, ap, subst, ◌∙◌}
use lib.ListN.{drop}
use Rattle.std.specs.Iterator.Adapters.{enumerate_source, enumerate_count}
use Rattle.std.specs.Slice.Iter.{chunks_exact_rest, chunks_exact_size}
use Rattle.references.specs.Beside.{FieldsPut, InColumns}
use Rattle.references.proofs.BesideLaws.{chunk_beside, chunk_left, chunk_inside, chunks_end, columns_none, columns_step}
use Rattle.references.proofs.beside.put_columns.Goals as goal

pub loop-k-init : goal.loop-k-init
loop-k-init c =
    let a = c.args in
    let same = c.into_iter-k-iterator.ensures.into_iter_gives in
    let none : enumerate_count c.into_iter-k-iterator.result ≡ 0 = ap enumerate_count same ∙ c.enumerate-k-items.ensures.count in
    let start : 0 ≡ a.size * enumerate_count c.into_iter-k-iterator.result = omega (arith, ap (λ (n : ℕ). a.size * n) none) in
    let from = ap enumerate_source same ∙ c.enumerate-k-items.ensures.source in (
      omega arith,
      omega (arith, none),
      ap chunks_exact_size from ∙ c.chunks_exact.ensures.size,
      ap chunks_exact_rest from ∙ c.chunks_exact.ensures.rest ∙ ap (λ (n : ℕ). drop n a.words.now) start,
      subst (λ (n : ℕ). InColumns a.class a.words.now a.size n a.rest.now 0) (sym none) (columns_none c.requires.beside a.class a.rest.now),
    )

pub loop-k-preserved : goal.loop-k-preserved
loop-k-preserved c =
    let a = c.args in
    let b = c.requires.beside in
    let loop = c.loop-k in
    let inv = loop.invariant in
    let step = c.in-Some.ensures.steps in
    let cut = step.0.1 in
    let own = cut.1 ∙ inv.2 in
    let inside = chunk_inside b _ _ _ inv.3 cut.0 own in
    let put = subst (λ (k : ℕ). FieldsPut c.in-Some.block.now k (a.size - 1) loop.rest c.put_fields.new.rest) step.1 c.put_fields.ensures in (
      omega (arith, step.2, inv.0, c.is_wrong-wrong.ensures.1),
      omega (arith, step.2, inside),
      step.0.0 ∙ inv.2,
      chunk_left b _ _ _ inv.3 cut.0 own ∙ ap (λ (n : ℕ). drop (a.size * n) a.words.now) (sym step.2),
      subst (λ (n : ℕ). InColumns a.class a.words.now a.size n c.put_fields.new.rest (loop.wrong + c.is_wrong-wrong.result)) (sym step.2)
          (columns_step b inv.4 (chunk_beside b _ _ _ inv.3 cut.0 own) put inside c.is_wrong-wrong.ensures.0),
    )

pub returns : goal.returns
returns c =
    let a = c.args in
    let loop = c.loop-k in
    let inv = loop.invariant in
    let all = chunks_end c.requires.beside inv.3 (omega (arith, c.in-None.ensures.steps.0.1.0, inv.2)) inv.1 in
    subst (λ (n : ℕ). InColumns a.class a.words.now a.size n loop.rest loop.wrong) all inv.4
