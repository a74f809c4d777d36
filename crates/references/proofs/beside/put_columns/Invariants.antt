-- `references::beside::put_columns` meets its contract. The loop's invariant: the references of the first k blocks are put, and their wrong headers counted.
-- Assumes nothing.
use Prim.Native.Nat.{◌≤◌, ◌*◌}
use mathlib.Core.Path.{◌≡◌}
use lib.ListN.{drop}
use Rattle.std.specs.Iterator.Adapters.{enumerate_source, enumerate_count}
use Rattle.std.specs.Slice.Iter.{chunks_exact_rest, chunks_exact_size}
use Rattle.references.specs.Beside.{InColumns}
use Rattle.references.proofs.beside.put_columns.Given as goal

abbrev pub invariant-loop-k : goal.invariant-loop-k
invariant-loop-k l =
    let n = enumerate_count l.k-iterator in
    let chunks = enumerate_source l.k-iterator in
    (l.wrong ≤ n) × (n ≤ 32) × (chunks_exact_size chunks ≡ l.size) × (chunks_exact_rest chunks ≡ drop (l.size * n) l.words) × InColumns l.class l.words l.size n l.rest l.wrong
