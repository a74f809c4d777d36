-- A field that is written, and the place of a block's plain words. Assumes nothing.
use Prim.Native.Nat.{ℕ, ◌+◌, ◌-◌, ◌<◌}
use native.Mathlib.Omega.{arith}
use Rattle.std.proofs.Common.{Ok, slice_set}
use mathlib.Core.Bool.{true}
use mathlib.Core.List.{List, [], ◌∷◌}
use mathlib.Core.Path.{◌≡◌, sym, ap, ◌∙◌}
use lib.ListN.{length}
use Rattle.model.specs.Word.{put}
use Rattle.model.specs.Layout.{segment_of, index_of}
use Rattle.model.specs.View.{offset, block, n_in, r_in}
use Rattle.model.specs.Standing.{is_taken, shape_in}
use Rattle.model.specs.Sound.{sound}
use Rattle.model.specs.declared.Shape.{Shape}
use Rattle.laws.proofs.Splice.{put_one}
use Rattle.soundness.proofs.Facts.{sound_facts}
use Rattle.soundness.proofs.Taken.{handle_facts, plain_words}
use Rattle.drawing.specs.declared.block.Field.{Field}
use Rattle.drawing.specs.declared.block.Field.TheVariants.{Reference, Plain}
use Rattle.drawing.specs.Look.{BlockOf}
use Rattle.drawing.specs.Fields.{has_field, field_at, may_hold, WriteField}
use Rattle.drawing.specs.Place.{PlainPlace}
use Rattle.drawing.proofs.Outcomes.{granted_words}

module _ (ws : List ℕ) (h : ℕ) (s : sound ws ≡ true) (t : is_taken ws h ≡ true) where
  pub written : (field : Field) (v at : ℕ) → has_field (block ws h) field ≡ true → may_hold ws field v ≡ true
      → at ≡ offset ws h + field_at (block ws h) field → at < length ws → WriteField ws h field v (Ok tt) (slice_set ws at v)
  written (Reference f) v at its good e l =
      granted_words _ [] (put ws (offset ws h + 1 + f) (v ∷ [])) ws _ (rw (s, t, its, good))
      (sym (put_one ws at v l) ∙ ap (λ (o : ℕ). put ws o (v ∷ [])) (omega arith))
  written (Plain f) v at its good e l =
      granted_words _ [] (put ws (offset ws h + 1 + r_in (block ws h) + f) (v ∷ [])) ws _ (rw (s, t, its))
      (sym (put_one ws at v l) ∙ ap (λ (o : ℕ). put ws o (v ∷ [])) (omega arith))

  -- the plain words stand behind the header and the references
  pub placed : (b : List ℕ) (at : ℕ) (shape : Shape) → BlockOf ws h b at → shape ≡ shape_in b → PlainPlace ws h 0 (at + 1 + shape.r) (shape.n - shape.r)
  placed b at shape own e =
      let same : shape ≡ shape_in (block ws h) = e ∙ ap shape_in own.own in
      let first : at + 1 + shape.r ≡ offset ws h + 1 + r_in (block ws h) = cc (own.first, same) in
      let many : shape.n - shape.r ≡ n_in (block ws h) - r_in (block ws h) = ap (λ (z : Shape). z.n - z.r) same in
      record {
        refusal = rw (s, t);
        first = rw (s, t) first;
        many = rw (s, t) many;
        words = rw (s, t) (
            rw (first, many) (sym (plain_words ws (sound_facts ws s) (segment_of h) (index_of h) (handle_facts ws h t).taken))
            );
      }
