-- `ranking::keys::SegmentKeys::new_head` meets its contract. Assumes nothing.
use Prim.Native.Nat.{ℕ}
use mathlib.Core.Path.{sym, ap₂, ◌∙◌}
use borrow.Author.Tests.{eq-eqb, ne_eqb}
use Rattle.model.specs.Word.{word}
use Rattle.model.specs.Layout.{record_head}
use Rattle.ranking.specs.Heads.{head_by}
use Rattle.ranking.proofs.keys.SegmentKeys.new_head.Goals as goal

pub returns-then-key_group : goal.returns-then-key_group
unfolding head_by
returns-then-key_group c = simp (eq-eqb _ _ (sym c.key_group.ensures ∙ c.if-key_group.true))

pub returns-else-key_group : goal.returns-else-key_group
unfolding head_by
returns-else-key_group c =
    let a = c.args in
    let k : ℕ = word a.self.now.keys a.s in
    c.record_head.ensures
    ∙ ap₂ (λ (i r : ℕ). record_head i r (word a.lives.now a.s)) c.key_class.ensures c.new_rank.ensures.0
    ∙ simp (ne_eqb _ _ (λ q. c.if-key_group.false (c.key_group.ensures ∙ q)))
