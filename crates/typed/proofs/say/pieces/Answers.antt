-- `typed::say::pieces` meets its contract: the handles written so far and those of a piece are written behind each other. Assumes nothing.
use Rattle.std.proofs.Common.{◌≡◌, ℕ, List, [], ◌++◌, append_assoc, refl, sym, ap, ◌∙◌}
use Rattle.std.proofs.KnownBytes.{Appends-nil, Appends-trans}
use Rattle.typed.specs.Answers.{spelled}
use Rattle.typed.proofs.AnswerLaws.{spelled_append, both_parts}
use Rattle.typed.proofs.say.pieces.Goals as goal

pub loop-rest-init : goal.loop-rest-init
unfolding spelled
loop-rest-init g c = ([], refl, Appends-nil _)

pub loop-rest-preserved : goal.loop-rest-preserved
loop-rest-preserved g c =
    let inv = c.loop-rest.invariant in
    let piece = c.split_at.result.0.now in
    let behind = c.split_at.result.1.now in
    let parts : piece ++ behind ≡ c.loop-rest.rest.now =
    both_parts _ _ piece behind c.split_at.ensures.front c.split_at.ensures.back in
    let said : c.deref.result.now ≡ spelled piece = c.deref.ensures.0 ∙ c.handles_text.ensures in
    let written = rw said at c.in_ok-write_all.ensures.bytes in (
      inv.0 ++ piece,
      inv.1 ∙ ap (λ (t : List ℕ). inv.0 ++ t) (sym parts) ∙ sym (append_assoc inv.0 piece behind),
      rw spelled_append (Appends-trans _ _ _ (spelled inv.0) (spelled piece) inv.2 written),
    )
