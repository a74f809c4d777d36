-- The two judges joined: what the first gives to the second, and what both say of the arena. Assumes nothing.
use Prim.Native.Nat.{ℕ}
use mathlib.Core.Path.{◌≡◌, sym, ap, ◌∙◌}
use mathlib.Core.Bool.{Bool, true, false, ◌&&◌}
use mathlib.Core.List.{List}
use Rattle.model.specs.Sound.{sound, sized, unnamed_zero, classes, ranks, levels, counts, behind, places, taken_right}
use Rattle.records.specs.Judged.{records_sound}
use Rattle.records.proofs.RecordsLaws.{sound_is, classed_facts}
use Rattle.soundness.proofs.Tests.{and_left, and_right}
use Rattle.arena.specs.Inside.{Classed}

-- records that are right have the length and the classes that the taken row asks
pub classed : (ws : List ℕ) → true ≡ records_sound ws → Classed ws
unfolding records_sound
classed ws right =
    let after_classes = ranks ws && (levels ws && (counts ws && (behind ws && places ws))) in
    let rest = and_right (unnamed_zero ws) (classes ws && after_classes) (and_right (sized ws) (unnamed_zero ws && (classes ws && after_classes)) (sym right)) in
    classed_facts (and_left (sized ws) (unnamed_zero ws && (classes ws && after_classes)) (sym right)) (and_left (classes ws) after_classes rest)

pub refused : (ws : List ℕ) → false ≡ records_sound ws → false ≡ sound ws
refused ws wrong = sym (sound_is ws ∙ ap (λ (t : Bool). t && taken_right ws) (sym wrong))

pub joined : (ws : List ℕ) (answer : Bool) → true ≡ records_sound ws → answer ≡ taken_right ws → answer ≡ sound ws
joined ws answer right e = e ∙ sym (sound_is ws ∙ ap (λ (t : Bool). t && taken_right ws) (sym right))
