-- The arena after a granted allocation, view by view: the given block has its header and zeros, its class's place stands behind it, a segment
-- that joined has a fresh record, and everything else is as before.
-- Assumes nothing.
use Prim.Native.Nat.{ℕ, ◌+◌, ◌-◌, ◌≤◌, ◌<◌}
use mathlib.Core.Path.{◌≡◌, refl, sym, ap, ap₂, ◌∙◌, subst}
use mathlib.Core.Logic.{◌⊎◌, inl, inr, ◌≢◌}
use mathlib.Core.Bool.{Bool, true, false, not, ◌||◌}
use mathlib.Core.List.{List, [], ◌∷◌}
use native.Mathlib.Omega.{arith}
use lib.ListN.{length, replicate, length-replicate}
use lib.Dec.{eqb, ltb}
use borrow.Author.Tests.{ltb-false, not-false}
use Rattle.model.specs.Below.{first_below}
use Rattle.model.specs.Word.{word, put, field}
use Rattle.model.specs.Class.{is_class, blocks, block_words, class_of}
use Rattle.model.specs.Layout.{place_at, place_word, record_at, record_words, block_at, header_word}
use Rattle.model.specs.View.{segments, place_rank, place_index, record_of, class_in, class, rank, members, ranked, block_of}
use Rattle.model.specs.Standing.{in_pool}
use Rattle.model.specs.Sound.{sound}
use Rattle.model.specs.Numbers.{refuse, granted}
use Rattle.model.specs.Calls.{first_untaken, first_rank, class_has_untaken, first_pool, has_pool, given_segment, given_rank, given_index, joined, allocated, allocate_refusal}
use Rattle.laws.proofs.Below.{first_ext}
use Rattle.words.proofs.ClassLaws.{class_bounds, class_small, block_least}
use Rattle.soundness.proofs.Tests.{never, either, or_else, or_fails_left, or_fails_right}
use Rattle.soundness.proofs.Facts.{Member, Block, Sized, Sound, sound_facts, class_member}
use Rattle.soundness.proofs.Views.{SameRecords, same_class, same_rank, same_pool, same_members}
use Rattle.growth.proofs.Given.{FirstUntaken, SameBlock, first_untaken_is, first_untaken_has, first_untaken_unique, first_pool_below, first_pool_in, before_first_pool}
use Rattle.growth.proofs.Giving.{give, Gave, gave, new_rank_is, new_index_is}
use Rattle.growth.proofs.Joining.{fresh_record, joined_length, joined_head, joined_place, joined_record, joined_other, joined_block, joined_members, joined_members_other, sound_joined, joined_first}

-- ---- a granted allocation

pub record Grant (ws : List ℕ) (n r tag : ℕ) : Type 0 where
  pub sound_before : Sound ws
  pub small : n ≤ 1023
  pub within : r ≤ n
  pub byte : tag < 256
  pub some : (class_has_untaken ws (class_of n) || has_pool ws) ≡ true

-- one that gets no refusal
refused_not : (e : ℕ) (t : Bool) (higher : ℕ) → e ≢ 0 → refuse e t higher ≡ 0 → (t ≡ false) × (higher ≡ 0)
refused_not e true higher some z = absurd (some z)
refused_not e false higher some z = (refl, z)

pub granted_facts : (ws : List ℕ) (n r tag : ℕ) → tag < 256 → allocate_refusal ws n r ≡ granted → Grant ws n r tag
unfolding allocate_refusal
granted_facts ws n r tag byte e =
    let test : Bool = class_has_untaken ws (class_of n) || has_pool ws in
    let two = refused_not 2 (not (sound ws)) (refuse 3 (ltb 1023 n || ltb n r) (refuse 4 (not test) granted)) (λ z. omega arith) e in
    let three = refused_not 3 (ltb 1023 n || ltb n r) (refuse 4 (not test) granted) (λ z. omega arith) two.1 in
    let four = refused_not 4 (not test) granted (λ z. omega arith) three.1 in
    let low : n ≤ 1023 = ltb-false 1023 n (or_fails_left (ltb 1023 n) (ltb n r) three.0) in
    let within : r ≤ n = ltb-false n r (or_fails_right (ltb 1023 n) (ltb n r) three.0) in
    record {
      sound_before = sound_facts ws (not-false (sound ws) two.0);
      small = low;
      within = within;
      byte = byte;
      some = not-false test four.0;
    }

-- the words of the given block
abbrev pub block_given : ℕ → ℕ → ℕ → List ℕ
block_given n r tag = header_word n r tag ∷ replicate (block_words (class_of n) - 1) 0

pub block_given_length : (n r tag : ℕ) → n ≤ 1023 → length (block_given n r tag) ≡ block_words (class_of n)
block_given_length n r tag l = omega (arith, length-replicate {A = ℕ} (block_words (class_of n) - 1) 0, block_least (class_of n) (class_small n l))

-- ---- the two ways: the class has an untaken block, or a segment of the pool joins

module _ (ws : List ℕ) (i : ℕ) (t : class_has_untaken ws i ≡ true) where
  pub held_joined : joined ws i ≡ ws
  unfolding joined
  held_joined = rw t

  pub held_segment : given_segment ws i ≡ ranked ws i (first_rank ws i)
  unfolding given_segment
  held_segment = rw t

  pub held_rank : given_rank ws i ≡ first_rank ws i
  unfolding given_rank
  held_rank = rw t

  pub held_index : given_index ws i ≡ first_untaken ws (ranked ws i (first_rank ws i))
  unfolding given_index
  held_index = rw t

-- the first untaken block of the class is the one that is given
pub given_is : (ws : List ℕ) → Sound ws → (i : ℕ) → is_class i ≡ true → {s q k : ℕ} → FirstUntaken ws i s q k
    → SameBlock (given_segment ws i) (given_rank ws i) (given_index ws i) s q k
given_is ws z i c x =
    let t : class_has_untaken ws i ≡ true = first_untaken_has ws z i c x in
    let same = first_untaken_unique ws z i c (first_untaken_is ws z i c t) x in
    record {
      same_segment = held_segment ws i t ∙ same.same_segment;
      same_rank = held_rank ws i t ∙ same.same_rank;
      same_index = held_index ws i t ∙ same.same_index;
    }

module _ (ws : List ℕ) (i : ℕ) (f : class_has_untaken ws i ≡ false) where
  pub joins_joined : joined ws i ≡ put ws (record_at (first_pool ws)) (fresh_record ws i)
  unfolding joined
  joins_joined = rw f

  pub joins_segment : given_segment ws i ≡ first_pool ws
  unfolding given_segment
  joins_segment = rw f

  pub joins_rank : given_rank ws i ≡ members ws i
  unfolding given_rank
  joins_rank = rw f

  pub joins_index : given_index ws i ≡ 0
  unfolding given_index
  joins_index = rw f

-- before the block is given the arena is sound, and the given block is the first untaken one of its class
pub record Ready (ws vs : List ℕ) (i s q k : ℕ) : Type 0 where
  pub sound_ready : Sound vs
  pub first : FirstUntaken vs i s q k
  pub below : s < segments ws
  pub long : length vs ≡ length ws
  pub head : word vs 0 ≡ word ws 0
  pub places : (j : ℕ) → j ≤ 12 → word vs (place_at j) ≡ word ws (place_at j)
  pub records : (t : ℕ) → t ≢ s → record_of vs t ≡ record_of ws t
  pub blocks_same : (t j : ℕ) → t ≢ s → block_of vs t j ≡ block_of ws t j

module _ (ws : List ℕ) (sound_ws : Sound ws) (i : ℕ) (c : is_class i ≡ true) where
  held_ready : class_has_untaken ws i ≡ true → Ready ws (joined ws i) i (given_segment ws i) (given_rank ws i) (given_index ws i)
  held_ready t =
      let first = first_untaken_is ws sound_ws i c t in
      rw (held_joined ws i t, held_segment ws i t, held_rank ws i t, held_index ws i t)
      (record {
        sound_ready = sound_ws;
        first = first;
        below = first.member.below;
        long = refl;
        head = refl;
        places = λ j l. refl;
        records = λ t f. refl;
        blocks_same = λ t j f. refl;
      })

  -- the segment that joins
  module _ (f : class_has_untaken ws i ≡ false) (p : has_pool ws ≡ true) where
    pub pool_below : given_segment ws i < segments ws
    pool_below = omega (arith, joins_segment ws i f, first_pool_below ws p)

    pub pool_given : in_pool ws (given_segment ws i) ≡ true
    pool_given = ap (in_pool ws) (joins_segment ws i f) ∙ first_pool_in ws p

    pub joins_put : joined ws i ≡ put ws (record_at (given_segment ws i)) (fresh_record ws i)
    joins_put = joins_joined ws i f ∙ ap (λ (s : ℕ). put ws (record_at s) (fresh_record ws i)) (sym (joins_segment ws i f))

    joins_ready : Ready ws (joined ws i) i (given_segment ws i) (given_rank ws i) (given_index ws i)
    joins_ready =
        let s : ℕ = given_segment ws i in
        rw (joins_put, joins_rank ws i f, joins_index ws i f)
        (record {
          sound_ready = sound_joined ws sound_ws i s c pool_below pool_given;
          first = joined_first ws sound_ws i s c pool_below pool_given f;
          below = pool_below;
          long = joined_length ws sound_ws i s c pool_below pool_given;
          head = joined_head ws sound_ws i s c pool_below pool_given;
          places = joined_place ws sound_ws i s c pool_below pool_given;
          records = joined_other ws sound_ws i s c pool_below pool_given;
          blocks_same = joined_block ws sound_ws i s c pool_below pool_given;
        })

  pub ready : (class_has_untaken ws i || has_pool ws) ≡ true → Ready ws (joined ws i) i (given_segment ws i) (given_rank ws i) (given_index ws i)
  ready some = go (either (class_has_untaken ws i))
    where
      go : (class_has_untaken ws i ≡ true) ⊎ (class_has_untaken ws i ≡ false) → Ready ws (joined ws i) i (given_segment ws i) (given_rank ws i) (given_index ws i)
      go (inl t) = held_ready t
      go (inr f) = joins_ready f (or_else (class_has_untaken ws i) (has_pool ws) some f)

-- ---- the views after it

module _ (ws : List ℕ) (n r tag : ℕ) (g : Grant ws n r tag) where
  abbrev i : ℕ
  i = class_of n

  abbrev s : ℕ
  s = given_segment ws (class_of n)

  abbrev q : ℕ
  q = given_rank ws (class_of n)

  abbrev k : ℕ
  k = given_index ws (class_of n)

  abbrev vs : List ℕ
  vs = joined ws (class_of n)

  abbrev ws' : List ℕ
  ws' = allocated ws n r tag

  pub class_right : is_class (class_of n) ≡ true
  class_right = class_small n g.small

  pub made_ready : Ready ws vs i s q k
  made_ready = ready ws g.sound_before i class_right g.some

  ready_segments : segments vs ≡ segments ws
  ready_segments = ap (field 0 8) made_ready.head

  allocated_gives : ws' ≡ give vs i s q k (block_given n r tag)
  unfolding allocated
  allocated_gives = ap (λ (N : ℕ). put (put vs (block_at N s i k) (block_given n r tag)) (place_at i) (place_word q (k + 1) ∷ [])) (sym ready_segments)

  pub gave_block : Gave ws' vs i s q k (block_given n r tag)
  gave_block =
      subst (λ (us : List ℕ). Gave us vs i s q k (block_given n r tag)) (sym allocated_gives)
      (gave vs made_ready.sound_ready i s q k class_right made_ready.first (block_given n r tag) (block_given_length n r tag g.small))

  -- length, number of segments
  pub after_length : length ws' ≡ length ws
  after_length = gave_block.long ∙ made_ready.long

  pub after_sized : Sized ws'
  after_sized = gave_block.size

  pub after_head : word ws' 0 ≡ word ws 0
  after_head = gave_block.same_records.head ∙ made_ready.head

  pub after_segments : segments ws' ≡ segments ws
  after_segments = ap (field 0 8) after_head

  -- the given block: its segment, its index, and in the arena after it the segment's class and rank
  pub given_below : s < segments ws
  given_below = made_ready.below

  pub given_inside : k < blocks i
  given_inside = made_ready.first.inside

  in_ready : (t : ℕ) → t < segments ws → t < segments vs
  in_ready t l = omega (arith, ready_segments)

  pub after_class : class ws' s ≡ i
  after_class = same_class ws' vs gave_block.same_records s (in_ready s given_below) ∙ made_ready.first.its_class

  pub after_rank : rank ws' s ≡ q
  after_rank = same_rank ws' vs gave_block.same_records s (in_ready s given_below) ∙ made_ready.first.its_rank

  pub after_member : Member ws' s
  after_member = class_member ws' s i class_right (omega (arith, after_segments, given_below)) after_class

  pub after_given : Block ws' s k
  after_given = record { member = after_member; inside = omega (arith, given_inside, ap blocks after_class) }

  -- its words are the header and zeros
  pub after_block : block_of ws' s k ≡ block_given n r tag
  after_block = gave_block.own

  -- every other block is as before
  pub after_block_other : (t j : ℕ) → Block ws t j → (t ≡ s → j ≢ k) → block_of ws' t j ≡ block_of ws t j
  after_block_other t j b apart = go (either (class_has_untaken ws i))
    where
      go : (class_has_untaken ws i ≡ true) ⊎ (class_has_untaken ws i ≡ false) → block_of ws' t j ≡ block_of ws t j
      go (inl u) =
          let same : vs ≡ ws = held_joined ws i u in
          gave_block.others t j (subst (λ (us : List ℕ). Block us t j) (sym same) b) apart ∙ ap (λ (us : List ℕ). block_of us t j) same
      go (inr f) =
          let pool = pool_given ws g.sound_before i class_right f (or_else (class_has_untaken ws i) (has_pool ws) g.some f) in
          let other : t ≢ s = λ e. never (in_pool ws t) (ap (in_pool ws) e ∙ pool) b.member.used in
          let rec : record_of vs t ≡ record_of ws t = made_ready.records t other in
          gave_block.others t j (record {
            member = record { below = in_ready t b.member.below; used = ap (λ (us : List ℕ). eqb (class_in us) 0) rec ∙ b.member.used };
            inside = omega (arith, b.inside, ap (λ (us : List ℕ). blocks (class_in us)) rec);
          }) apart ∙ made_ready.blocks_same t j other

  -- the place of its class stands behind it, and every other is as before
  pub after_place : word ws' (place_at i) ≡ place_word q (k + 1)
  after_place = gave_block.place

  pub after_place_rank : place_rank ws' i ≡ q
  after_place_rank = new_rank_is ws' vs i s q k (block_given n r tag) made_ready.sound_ready class_right made_ready.first gave_block

  pub after_place_index : place_index ws' i ≡ k + 1
  after_place_index = new_index_is ws' vs i s q k (block_given n r tag) made_ready.sound_ready class_right made_ready.first gave_block

  pub after_place_other : (j : ℕ) → is_class j ≡ true → j ≢ i → word ws' (place_at j) ≡ word ws (place_at j)
  after_place_other j c apart = gave_block.places j (omega (arith, class_bounds j c)) apart ∙ made_ready.places j (class_bounds j c).1

  -- every other record is as before
  pub after_record_other : (t : ℕ) → t < segments ws → t ≢ s → record_of ws' t ≡ record_of ws t
  after_record_other t l apart = gave_block.same_records.records t (in_ready t l) ∙ made_ready.records t apart

  -- where the class had an untaken block, the segment's own record too, and with it the members of each class and the pool
  module _ (u : class_has_untaken ws i ≡ true) where
    pub held_records : SameRecords ws' ws
    held_records = subst (λ (us : List ℕ). SameRecords ws' us) (held_joined ws i u) gave_block.same_records

    pub held_record : record_of ws' s ≡ record_of ws s
    held_record = held_records.records s given_below

    pub held_class : class ws s ≡ i
    held_class = sym (same_class ws' ws held_records s given_below) ∙ after_class

    pub held_rank_is : rank ws s ≡ q
    held_rank_is = sym (same_rank ws' ws held_records s given_below) ∙ after_rank

    pub held_members : (j : ℕ) → members ws' j ≡ members ws j
    held_members = same_members ws' ws held_records

    pub held_first_pool : first_pool ws' ≡ first_pool ws
    unfolding first_pool
    held_first_pool =
        ap (λ (N : ℕ). first_below N (in_pool ws')) after_segments
        ∙ first_ext 0 (segments ws) (in_pool ws') (in_pool ws) (λ t _ l. same_pool ws' ws held_records t (omega arith))

    pub held_has_pool : has_pool ws' ≡ has_pool ws
    unfolding has_pool
    held_has_pool = ap₂ ltb held_first_pool after_segments

  -- where a segment joined, it came from the pool, its record is fresh, and its class has one member more
  module _ (f : class_has_untaken ws i ≡ false) where
    pub had_pool : has_pool ws ≡ true
    had_pool = or_else (class_has_untaken ws i) (has_pool ws) g.some f

    pub joined_pool : in_pool ws s ≡ true
    joined_pool = pool_given ws g.sound_before i class_right f had_pool

    pub joined_fresh : record_of ws' s ≡ record_words i (members ws i) 0 (λ k. false)
    joined_fresh =
        gave_block.same_records.records s (in_ready s given_below)
        ∙ ap (λ (us : List ℕ). record_of us s) (joins_put ws g.sound_before i class_right f had_pool)
        ∙ joined_record ws g.sound_before i s class_right given_below joined_pool

    after_members : (j : ℕ) → members ws' j ≡ members (put ws (record_at s) (fresh_record ws i)) j
    after_members j =
        same_members ws' vs gave_block.same_records j
        ∙ ap (λ (us : List ℕ). members us j) (joins_put ws g.sound_before i class_right f had_pool)

    pub joined_one_more : members ws' i ≡ members ws i + 1
    joined_one_more = after_members i ∙ joined_members ws g.sound_before i s class_right given_below joined_pool

    pub joined_others : (j : ℕ) → is_class j ≡ true → j ≢ i → members ws' j ≡ members ws j
    joined_others j c apart = after_members j ∙ joined_members_other ws g.sound_before i s class_right given_below joined_pool j c apart

    -- it has the next rank, and its block 0 was given
    pub joined_next : q ≡ members ws i
    joined_next = joins_rank ws i f

    pub joined_zero : k ≡ 0
    joined_zero = joins_index ws i f

    -- it was the lowest-numbered one of the pool, and the pool is as before without it
    pub joined_lowest : (t : ℕ) → t < s → in_pool ws t ≡ false
    joined_lowest t l = before_first_pool ws t (omega (arith, joins_segment ws i f))

    pub joined_not_pool : in_pool ws' s ≡ false
    joined_not_pool = after_member.used

    pub joined_pool_other : (t : ℕ) → t < segments ws → t ≢ s → in_pool ws' t ≡ in_pool ws t
    joined_pool_other t l apart = ap (λ (rec : List ℕ). eqb (class_in rec) 0) (after_record_other t l apart)
