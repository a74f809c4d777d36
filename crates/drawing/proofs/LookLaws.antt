-- What a judged arena gives to the calls: its size, its taken blocks, and the words of each. Assumes nothing.
use Prim.Native.Nat.{ℕ, ◌+◌, ◌-◌, ◌≤◌, ◌<◌}
use native.Mathlib.Omega.{arith}
use mathlib.Core.Bool.{Bool, true}
use mathlib.Core.List.{List}
use mathlib.Core.Path.{◌≡◌, sym, ap₂, ◌∙◌}
use lib.ListN.{length}
use Rattle.model.specs.Word.{part}
use Rattle.model.specs.Class.{blocks, block_words}
use Rattle.model.specs.Layout.{segment_of, index_of, block_at}
use Rattle.model.specs.View.{segments, class, block_of, offset, block}
use Rattle.model.specs.Standing.{is_taken}
use Rattle.model.specs.Sound.{sound}
use Rattle.laws.proofs.Splice.{length_part}
use Rattle.words.proofs.ClassLaws.{class_bounds}
use Rattle.soundness.proofs.Facts.{sound_facts, block_length, block_end}
use Rattle.soundness.proofs.Taken.{handle_facts, taken_class, taken_n_room, taken_r_within}
use Rattle.judge.specs.Judged.{Judged}
use Rattle.drawing.specs.Look.{Ruled, Fitting, BlockOf}

pub ruled : {ws row : List ℕ} {answer : Bool} → Judged ws row answer → answer ≡ true → Ruled ws row
ruled {ws} j t =
    let s : sound ws ≡ true = sym j.answered ∙ t in
    let z = (sound_facts ws s).size in
    record { is_sound = s; some = z.some; few = z.few; long = z.long; row_right = j.taken t }

-- where the words of a taken block are to be found
pub record TakenBlock (ws : List ℕ) (h : ℕ) : Type 0 where
  pub some : 0 < h
  pub there : segment_of h < segments ws
  pub low : 3 ≤ class ws (segment_of h)
  pub high : class ws (segment_of h) ≤ 12
  pub inside : index_of h < blocks (class ws (segment_of h))
  pub ends : offset ws h + block_words (class ws (segment_of h)) ≤ length ws
  pub fitting : Fitting (block ws h)

pub taken_block : (ws : List ℕ) (h : ℕ) → sound ws ≡ true → is_taken ws h ≡ true → TakenBlock ws h
taken_block ws h s t =
    let f = sound_facts ws s in
    let g = handle_facts ws h t in
    let is_class = taken_class ws f (segment_of h) (index_of h) g.taken in
    let bounds = class_bounds (class ws (segment_of h)) is_class in
    let long = block_length ws f.size (segment_of h) (index_of h) is_class g.its_block in
    record {
      some = g.positive;
      there = g.its_block.member.below;
      low = bounds.0;
      high = bounds.1;
      inside = g.its_block.inside;
      ends = block_end ws f.size (segment_of h) (index_of h) is_class g.its_block;
      fitting = record {
        within = taken_r_within ws f (segment_of h) (index_of h) g.taken;
        room = omega (arith, long, taken_n_room ws f (segment_of h) (index_of h) g.taken);
      };
    }

-- from the numbers by which it is found: those words of the arena are the block
module _ {ws : List ℕ} {h : ℕ} (b : TakenBlock ws h) {N s i k at w : ℕ} (en : N ≡ segments ws) (es : s ≡ segment_of h) (ei : i ≡ class ws s)
    (ek : k ≡ index_of h) (ea : at ≡ block_at N s i k) (ew : w ≡ block_words i) where
  first : at ≡ offset ws h
  first = ea ∙ cc

  many : w ≡ block_words (class ws (segment_of h))
  many = ew ∙ cc

  pub cut_ends : at + w ≤ length ws
  cut_ends = omega (arith, first, many, b.ends)

  pub cut_block : BlockOf ws h (part ws at (at + w - at)) at
  unfolding block_of
  cut_block =
      let all : at + w - at ≡ w = omega arith in
      rw all (record {
        own = ap₂ (part ws) first many;
        first = first;
        ends = omega (arith, length_part ws at w cut_ends, cut_ends);
      })

  pub cut_fitting : Fitting (part ws at (at + w - at))
  cut_fitting = rw cut_block.own b.fitting
