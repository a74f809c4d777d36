-- What an order is answered, the line is answered that means it, and an answer speaks of no more handles than the list has. Nothing rests on
-- `obeyed` and `listed_within`; docs/PORT.md names them.
-- Assumes nothing.
use Prim.Native.Nat.{ℕ, ◌≤◌}
use mathlib.Core.Path.{◌≡◌, ◌∙◌, sym, ap, subst}
use mathlib.Core.List.{List}
use native.Mathlib.Omega.{arith}
use lib.ListN.{length, get_or}
use Rattle.std.specs.Prelude.{Option, Ok, Err}
use Rattle.model.specs.Numbers.{Paper, Collected}
use Rattle.model.specs.Calls.{Collect, collect_refusal}
use Rattle.lines.specs.Line.{Meaning, allocates, links, collects, bad, order_meaning}
use Rattle.lines.specs.declared.Order.{Order}
use Rattle.typed.specs.declared.Answer.{Answer}
use Rattle.typed.specs.Orders.{Obeyed, live_count, listed_count}

pub obeyed : (o o' : Option Order) (m : Meaning) (ws list : List ℕ) (x : Answer) (ws' list' : List ℕ) →
    order_meaning o ≡ m → o ≡ o' → Obeyed (order_meaning o') ws list x ws' list' → Obeyed m ws list x ws' list'
obeyed o o' m ws list x ws' list' means e y =
    subst (λ (k : Meaning). Obeyed k ws list x ws' list') (sym (ap order_meaning e) ∙ means) y

pub live_within : (ws roots list : List ℕ) (a : Collected) (ws' list' : List ℕ) → Collect ws roots list a ws' list' → live_count a ≤ length list'
live_within ws roots list (Ok c) ws' list' x =
    let none : collect_refusal ws roots list ≡ 0 = sym (ap (λ (p : Paper). p.number) x.answered) in
    let same : c ≡ x.live_count = ap (λ (p : Paper). get_or p.values 0 0) x.answered ∙ rw none in
    let g = x.collected_so none in
    omega (arith, g.within, g.same_length, same)
live_within ws roots list (Err e) ws' list' x = omega arith

pub listed_within : (m : Meaning) (ws list : List ℕ) (x : Answer) (ws' list' : List ℕ) → Obeyed m ws list x ws' list' → listed_count x ≤ length list'
listed_within (allocates n r tag) ws list x ws' list' y = omega (arith, ap listed_count y.1)
listed_within (links h f v) ws list x ws' list' y = omega (arith, ap listed_count y.1)
listed_within (collects roots) ws list x ws' list' y =
    omega (arith, ap listed_count y.1, live_within ws roots list y.0 ws' list' y.2)
listed_within bad ws list x ws' list' y = omega (arith, ap listed_count y.0)
