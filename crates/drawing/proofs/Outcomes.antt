-- How a grant is shown: that no refusal applies, and what words it leaves. And what an outcome says. Assumes nothing.
use Prim.Native.Nat.{ℕ}
use mathlib.Core.Bool.{Bool, cond}
use mathlib.Core.List.{List}
use mathlib.Core.Logic.{◌≢◌}
use mathlib.Core.Path.{◌≡◌, sym, ap, ◌∙◌}
use native.Mathlib.Omega.{arith}
use Rattle.std.proofs.lemmas.Bool.Decides.{nat_tests}
use lib.Dec.{eqb}
use borrow.Author.Tests.{ne_eqb}
use Rattle.model.specs.Numbers.{Paper}
use Rattle.model.specs.Calls.{Outcome}

pub granted_words : (e : ℕ) (values after ws ws' : List ℕ) → e ≡ 0 → ws' ≡ after → Outcome e values after ws (record { number = 0; values = values }) ws'
granted_words e values after ws ws' none same = record { answered = rw none; words = same ∙ (rw none) }

-- ---- the other way: from an outcome to its number and its words

module _ {e : ℕ} {values after ws : List ℕ} {p : Paper} {ws' : List ℕ} (o : Outcome e values after ws p ws') where
  pub number_is : p.number ≡ e
  number_is = ap (λ (q : Paper). q.number) o.answered

  pub words_granted : p.number ≡ 0 → ws' ≡ after
  words_granted none = o.words ∙ ap (λ (k : ℕ). cond (eqb k 0) after ws) (sym number_is ∙ none)

  pub words_refused : p.number ≢ 0 → ws' ≡ ws
  words_refused some = o.words ∙ ap (λ (t : Bool). cond t after ws) (ne_eqb e 0 (λ z. some (number_is ∙ z)))

-- of a call that only reads
pub words_read : {e : ℕ} {values ws : List ℕ} {p : Paper} {ws' : List ℕ} → Outcome e values ws ws p ws' → ws' ≡ ws
words_read o = grind (arith, nat_tests)
