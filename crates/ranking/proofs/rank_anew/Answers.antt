-- `ranking::rank_anew` meets its contract: counts, keys, heads and places are those of the collection, and so is the arena that they make.
-- Assumes nothing.
use Prim.Native.Nat.{ℕ}
use mathlib.Core.Path.{ap, subst, ◌∙◌}
use mathlib.Core.List.{List}
use native.Mathlib.Omega.{arith}
use Rattle.model.specs.Word.{put}
use Rattle.model.specs.View.{segments}
use Rattle.soundness.proofs.Facts.{Sized, sound_facts}
use Rattle.ranking.specs.Live.{Live}
use Rattle.ranking.specs.Heads.{Heads}
use Rattle.ranking.specs.Places.{Places}
use Rattle.ranking.proofs.LiveLaws.{live_in_le}
use Rattle.ranking.proofs.KeyLaws.{key_small}
use Rattle.ranking.proofs.Collected.{heads_right, all_collected}
use Rattle.ranking.proofs.rank_anew.Goals as goal
use Rattle.ranking.proofs.rank_anew.Goals.{After-count-lives, After-new_heads-heads, After-new_places-places, Start}

size : (c : Start) → Sized c.args.arena.now
size c = (sound_facts c.args.arena.now c.requires.is_sound).size

-- counts, heads and places are those of all segments
counted : (c : After-count-lives) → Live c.args.marks.now (segments c.args.arena.now) c.count-lives.result
counted c = subst (λ (n : ℕ). Live c.args.marks.now n c.count-lives.result) c.segments.ensures c.count-lives.ensures

headed : (c : After-new_heads-heads) → Heads c.of-keys.result.keys c.count-lives.result (segments c.args.arena.now) c.new_heads-heads.result
headed c = subst (λ (n : ℕ). Heads c.of-keys.result.keys c.count-lives.result n c.new_heads-heads.result) c.of-keys.ensures.all c.new_heads-heads.ensures

placed : (c : After-new_places-places) → Places c.of-keys.result.keys (segments c.args.arena.now) c.new_places-places.result
placed c = subst (λ (n : ℕ). Places c.of-keys.result.keys n c.new_places-places.result) c.of-keys.ensures.all c.new_places-places.ensures

pub segments-requires : goal.segments-requires
segments-requires c = omega (arith, (size (goal.at.segments-requires c).Start).long)

pub count-lives-requires : goal.count-lives-requires
count-lives-requires c =
    record { few = omega (arith, c.segments.ensures, (size (goal.at.count-lives-requires c).Start).few); long = omega (arith, c.segments.ensures, c.requires.long) }

pub of-keys-requires : goal.of-keys-requires
of-keys-requires c =
    record { few = (size (goal.at.of-keys-requires c).Start).few; long = (size (goal.at.of-keys-requires c).Start).long }

pub new_heads-heads-requires : goal.new_heads-heads-requires
new_heads-heads-requires c =
    record {
      small = λ s l. key_small c.args.arena.now c.count-lives.result c.of-keys.result.keys c.of-keys.ensures.keys s (omega (arith, c.of-keys.ensures.all));
      fits = λ s l. omega (arith, c.count-lives.ensures.counted s (omega (arith, c.of-keys.ensures.all, c.segments.ensures)), live_in_le c.args.marks.now s);
    }

pub write_records-requires : goal.write_records-requires
write_records-requires c =
    record {
      few = (size (goal.at.write_records-requires c).Start).few;
      long = (size (goal.at.write_records-requires c).Start).long;
      right =
          heads_right c.args.arena.now c.args.marks.now c.requires c.count-lives.result c.of-keys.result.keys c.new_heads-heads.result
          (counted (goal.at.write_records-requires c).After-count-lives) c.of-keys.ensures.keys (headed (goal.at.write_records-requires c).After-new_heads-heads);
      row = c.requires.long;
    }

pub write_places-requires : goal.write_places-requires
write_places-requires c =
    record { room = omega (arith, (size (goal.at.write_places-requires c).Start).long, c.write_records.auto.arena); ten = c.new_places-places.ensures.long }

pub returns : goal.returns
returns c L m =
    c.write_places.ensures
    ∙ ap (λ (vs : List ℕ). put vs 1 c.new_places-places.result) c.write_records.ensures
    ∙ all_collected c.args.arena.now c.args.marks.now c.requires c.count-lives.result c.of-keys.result.keys c.new_heads-heads.result
    (counted (goal.at.returns c).After-count-lives) c.of-keys.ensures.keys (headed (goal.at.returns c).After-new_heads-heads) L m c.new_places-places.result (placed (goal.at.returns c).After-new_places-places)
