-- Two outcomes of reading the same line are the same order, with the same roots.
-- Assumes nothing.
use Prim.Native.Nat.{ℕ}
use mathlib.Core.Path.{◌≡◌, refl, ap}
use mathlib.Core.List.{List}
use Rattle.std.specs.Prelude.{Option, Some, None}
use Rattle.lines.specs.Line.{order_meaning}
use Rattle.lines.specs.declared.Order.{Order}
use Rattle.lines.specs.declared.Order.TheVariants as order

pub same_order : (r s : Option Order) → order_meaning r ≡ order_meaning s → r ≡ s
same_order (Some (order.Allocate a b c)) (Some (order.Allocate a' b' c')) e = cc
same_order (Some (order.Allocate a b c)) (Some (order.Link a' b' c')) e = cc
same_order (Some (order.Allocate a b c)) (Some (order.Collect n')) e = cc
same_order (Some (order.Allocate a b c)) None e = cc
same_order (Some (order.Link a b c)) (Some (order.Allocate a' b' c')) e = cc
same_order (Some (order.Link a b c)) (Some (order.Link a' b' c')) e = cc
same_order (Some (order.Link a b c)) (Some (order.Collect n')) e = cc
same_order (Some (order.Link a b c)) None e = cc
same_order (Some (order.Collect n)) (Some (order.Allocate a' b' c')) e = cc
same_order (Some (order.Collect n)) (Some (order.Link a' b' c')) e = cc
same_order (Some (order.Collect n)) (Some (order.Collect n')) e =
    let roots : n ≡ n' = cc in
    ap (λ (l : List ℕ). Some (order.Collect l)) roots
same_order (Some (order.Collect n)) None e = cc
same_order None (Some (order.Allocate a' b' c')) e = cc
same_order None (Some (order.Link a' b' c')) e = cc
same_order None (Some (order.Collect n')) e = cc
same_order None None e = refl
