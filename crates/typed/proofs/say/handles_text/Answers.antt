-- `typed::say::handles_text` meets its contract: each handle goes behind those before it, and there is room for it. Assumes nothing.
use Rattle.std.proofs.Common.{◌≡◌, ℕ, ◌≤◌, ◌<◌, List, [], ◌∷◌, ◌++◌, length, get_or, sym, ap, ◌∙◌, append_assoc, length-append, arith}
use Rattle.typed.specs.Answers.{decimal, spelled}
use Rattle.typed.proofs.AnswerLaws.{printed_is, when_fits, spelled_more}
use Rattle.typed.proofs.say.handles_text.Goals as goal

pub loop-h-init : goal.loop-h-init
unfolding spelled
loop-h-init c = (omega (arith, ap length c.new-text.ensures), c.new-text.ensures)

pub push-requires : goal.push-requires
push-requires c = (omega arith, omega (arith, c.loop-h.invariant.0, c.requires, c.loop-h-test.true))

pub loop-h-preserved : goal.loop-h-preserved
loop-h-preserved c =
    let l = c.loop-h in
    let h = get_or c.args.handles.now l.h-index 0 in
    let put = c.try_extend_from_slice-number in
    let digits = c.as_bytes.result.now in
    let few : length digits ≤ 10 = omega (arith, ap length c.as_bytes.ensures.value, c.format.ensures.fits) in
    let number : put.new.self.items ≡ c.push.new.self.items ++ digits =
    when_fits put.result put.ensures.variant (omega (arith, l.invariant.0, c.push.ensures.len, few, c.requires, c.loop-h-test.true)) put.ensures.ok in
    let small : h < 4294967296 = omega arith in
    let same : digits ≡ decimal h = c.as_bytes.ensures.value ∙ c.format.ensures.text ∙ printed_is h small in (
      omega (arith, ap length number, length-append c.push.new.self.items digits, c.push.ensures.len, l.invariant.0, few),
      number
          ∙ ap (λ (t : List ℕ). t ++ digits) c.push.ensures.items
          ∙ append_assoc l.text.items (32 ∷ []) digits
          ∙ ap (λ (t : List ℕ). l.text.items ++ (32 ∷ t)) same
          ∙ ap (λ (t : List ℕ). t ++ (32 ∷ decimal h)) l.invariant.1
          ∙ sym (spelled_more c.args.handles.now l.h-index c.loop-h-test.true),
    )
