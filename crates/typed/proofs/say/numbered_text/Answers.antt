-- `typed::say::numbered_text` meets its contract: three parts, each behind the one before, and room for all; what itoa writes is the number in
-- decimal. Assumes nothing.
use Rattle.std.proofs.Common.{◌≡◌, ℕ, ◌+◌, ◌≤◌, ◌<◌, List, ◌++◌, length, ap, ◌∙◌, append_assoc, arith, length-append}
use Rattle.typed.specs.Answers.{decimal}
use Rattle.typed.proofs.AnswerLaws.{printed_is, when_fits}
use Rattle.typed.proofs.say.numbered_text.Goals as goal

module _ (c : goal.After-try_extend_from_slice-end) where
  word : c.try_extend_from_slice-word.new.self.items ≡ c.args.word.now
  word =
      let put = c.try_extend_from_slice-word in
      when_fits put.result put.ensures.variant (omega (arith, ap length c.new-text.ensures, c.requires)) put.ensures.ok
      ∙ ap (λ (t : List ℕ). t ++ c.args.word.now) c.new-text.ensures

  digits : c.as_bytes.result.now ≡ decimal c.args.v
  digits =
      let small : c.args.v < 4294967296 = omega (arith, c.ranges.v) in
      c.as_bytes.ensures.value ∙ c.format.ensures.text ∙ printed_is c.args.v small

  few : length c.as_bytes.result.now ≤ 10
  few = omega (arith, ap length c.as_bytes.ensures.value, c.format.ensures.fits)

  number : c.try_extend_from_slice-number.new.self.items ≡ c.args.word.now ++ c.as_bytes.result.now
  number =
      let put = c.try_extend_from_slice-number in
      when_fits put.result put.ensures.variant (omega (arith, ap length word, few, c.requires)) put.ensures.ok
      ∙ ap (λ (t : List ℕ). t ++ c.as_bytes.result.now) word

  room : length c.try_extend_from_slice-number.new.self.items ≤ length c.args.word.now + 10
  room = omega (arith, ap length number, length-append c.args.word.now c.as_bytes.result.now, few)

  end : c.try_extend_from_slice-end.new.self.items ≡ c.try_extend_from_slice-number.new.self.items ++ c.args.end.now
  end =
      let put = c.try_extend_from_slice-end in
      when_fits put.result put.ensures.variant (omega (arith, room, c.requires)) put.ensures.ok

pub returns : goal.returns
returns c =
    let word = c.args.word.now in
    end c
    ∙ ap (λ (t : List ℕ). t ++ c.args.end.now) (number c ∙ ap (λ (t : List ℕ). word ++ t) (digits c))
    ∙ append_assoc word (decimal c.args.v) c.args.end.now
