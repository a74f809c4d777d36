-- The trace: the handles that it meets are taken blocks, so there is room for them; what one turn does to the list; that turns, begun with
-- the roots, keep the invariant of the list of demand 3; and that nothing is put on a list of all taken blocks.
-- Assumes nothing.
use Prim.Native.Nat.{ℕ, zero, suc, ◌+◌, ◌-◌, ◌*◌, ◌≤◌, ◌<◌}
use mathlib.Core.Path.{◌≡◌, refl, sym, ap, ap₂, ◌∙◌, subst}
use mathlib.Core.Logic.{◌⊎◌, inl, inr}
use mathlib.Core.Bool.{Bool, true, false, ◌&&◌, true≢false, false≢true}
use mathlib.Core.List.{List, [], ◌++◌, append_assoc}
use native.Mathlib.Omega.{arith}
use native.Mathlib.Decide.{dec_lt}
use lib.Dec.{eqb, ltb}
use lib.ListN.{length, get_or, take, drop, length-append, length-drop, get_or-append}
use lib.Seq.{get_or-take, get_or-drop, get_or-append-add, length-take-le, take_all, take_at}
use borrow.Author.Tests.{eqb-true, ltb-false}
use Rattle.model.specs.Below.{lists_below}
use Rattle.model.specs.Word.{put}
use Rattle.model.specs.View.{segments, block, r_in, reference_in}
use Rattle.model.specs.Standing.{is_taken, none_or_taken, taken_count}
use Rattle.model.specs.Sound.{sound}
use Rattle.model.specs.Ways.{In, drawing}
use Rattle.laws.proofs.Below.{all_below_at, count_below_le, lists_below_ext, length_words_below, word_words_below}
use Rattle.laws.proofs.Splice.{drop_put, length_put}
use Rattle.soundness.proofs.Tests.{or_cases}
use Rattle.soundness.proofs.Facts.{sound_facts}
use Rattle.ways.proofs.Put.{put_all, put_all_from, put_all_blocks, put_all_distinct, put_all_length, put_all_take}
use Rattle.ways.proofs.Trace.{Inv, fields, start, traced}
use Rattle.ways.proofs.Run.{gathered, advance_run}
use Rattle.ways.proofs.Arena.{references, drawing_bounded, fields_of_taken, taken_position, taken_count_most}
use Rattle.trace.specs.Gather.{references_of, Queued, Gathered}
use Rattle.trace.specs.List.{On, Roots, Handles, Kept}
use Rattle.trace.specs.Trace.{Traceable, Traced, Listed, Turn, Turned}
use Rattle.trace.proofs.GatherLaws.{taken_inside}
use Rattle.trace.proofs.ListLaws.{on_length, on_then}

-- ---- handles that are 0 or taken

-- a row in which each is
abbrev pub Known : List ℕ → List ℕ → Type 0
Known ws hs = (k : ℕ) → k < length hs → none_or_taken ws (get_or hs k 0) ≡ true

pub known_small : (ws : List ℕ) (h : ℕ) → none_or_taken ws h ≡ true → h ≤ 2048 * segments ws
known_small ws h t = go (or_cases (eqb h 0) (is_taken ws h) t)
  where
    go : (eqb h 0 ≡ true) ⊎ (is_taken ws h ≡ true) → h ≤ 2048 * segments ws
    go (inl z) = let e : h ≡ 0 = eqb-true h 0 z in omega arith
    go (inr u) = let x = taken_position ws h u in omega (arith, x.1, x.2)

-- what holds of the words of each list holds of the words of all, end to end
all_lists : (P : ℕ → Type 0) (n : ℕ) (f : ℕ → List ℕ) → ((i : ℕ) → i < n → (k : ℕ) → k < length (f i) → P (get_or (f i) k 0)) →
    (k : ℕ) → k < length (lists_below n f) → P (get_or (lists_below n f) k 0)
unfolding lists_below
all_lists P zero f h k l = absurd (omega arith)
all_lists P (suc n) f h k l = go (dec_lt k (length (lists_below n f))) (all_lists P n f (λ i v. h i (omega arith)) k)
  where
    go : Dec (k < length (lists_below n f)) → (k < length (lists_below n f) → P (get_or (lists_below n f) k 0)) → P (get_or (lists_below n f ++ f n) k 0)
    go (yes u) before = rw (get_or-append (lists_below n f) (f n) 0 k u) (before u)
    go (no u) before =
        let j : ℕ = k - length (lists_below n f) in
        let e : length (lists_below n f) + j ≡ k = omega arith in
        subst (λ (x : ℕ). P (get_or (lists_below n f ++ f n) x 0)) e
        (rw (get_or-append-add (lists_below n f) (f n) j 0) (h n (omega arith) j (omega (arith, length-append (lists_below n f) (f n)))))

-- the references of taken blocks are
pub references_known : (ws : List ℕ) (at : ℕ → ℕ) (n : ℕ) → sound ws ≡ true → ((i : ℕ) → i < n → is_taken ws (at i) ≡ true) →
    Known ws (lists_below n (λ i. references_of ws (at i)))
references_known ws at n right taken = all_lists (λ h. none_or_taken ws h ≡ true) n (λ i. references_of ws (at i)) one
  where
    one : (i : ℕ) → i < n → (k : ℕ) → k < length (references_of ws (at i)) → none_or_taken ws (get_or (references_of ws (at i)) k 0) ≡ true
    one i l k u =
        let h : ℕ = at i in
        let below : k < r_in (block ws h) = omega (arith, length_words_below (r_in (block ws h)) (reference_in (block ws h))) in
        rw (word_words_below (r_in (block ws h)) (reference_in (block ws h)) k below) ((taken_inside ws h right (taken i l)).references k below)

-- ---- the list: distinct taken blocks

pub listed_none : (ws : List ℕ) → Listed ws []
listed_none ws = record { distinct = λ j k l u. absurd (omega arith); taken = λ k l. absurd (omega arith) }

not_taken : (ws : List ℕ) → is_taken ws 0 ≡ true → ⊥
unfolding is_taken
not_taken ws t = false≢true t

pub listed_more : (ws L hs : List ℕ) → Listed ws L → Known ws hs → Listed ws (put_all L hs)
listed_more ws L hs a known = record { distinct = put_all_distinct L hs a.distinct; taken = λ k l. go k l (put_all_from L hs _ (k, l, refl)) }
  where
    no_zero : In 0 L → ⊥
    no_zero i = not_taken ws (subst (λ (h : ℕ). is_taken ws h ≡ true) i.2 (a.taken i.0 i.1))

    go : (k : ℕ) → k < length (put_all L hs) → In (get_or (put_all L hs) k 0) L ⊎ In (get_or (put_all L hs) k 0) hs → is_taken ws (get_or (put_all L hs) k 0) ≡ true
    go k l (inl i) = rw (sym i.2) (a.taken i.0 i.1)
    go k l (inr i) = or (or_cases (eqb h 0) (is_taken ws h) (subst (λ (g : ℕ). none_or_taken ws g ≡ true) i.2 (known i.0 i.1)))
      where
        h : ℕ
        h = get_or (put_all L hs) k 0

        or : (eqb h 0 ≡ true) ⊎ (is_taken ws h ≡ true) → is_taken ws h ≡ true
        or (inl z) = absurd (put_all_blocks L hs no_zero (k, l, eqb-true h 0 z))
        or (inr t) = t

pub listed_room : (ws L : List ℕ) → Listed ws L → length L ≤ taken_count ws
listed_room ws L a = taken_count_most ws L a.distinct a.taken

-- a list of all taken blocks stays as it is
listed_all : (ws L hs : List ℕ) → Listed ws L → Known ws hs → taken_count ws ≤ length L → put_all L hs ≡ L
listed_all ws L hs a known all =
    sym (take_all (length L) (put_all L hs) (omega (arith, listed_room ws _ (listed_more ws L hs a known)))) ∙ put_all_take L hs

-- ---- one turn

-- the queue, as a part of the list
queue_at : (list : List ℕ) (head tail k : ℕ) → k < tail - head → get_or (take (tail - head) (drop head list)) k 0 ≡ get_or (take tail list) (head + k) 0
queue_at list head tail k l =
    get_or-take (tail - head) (drop head list) k 0 l ∙ get_or-drop head list k 0 ∙ sym (get_or-take tail list (head + k) 0 (omega arith))

queue_length : (list : List ℕ) (head tail : ℕ) → tail ≤ length list → length (take (tail - head) (drop head list)) ≡ tail - head
queue_length list head tail l = length-take-le (tail - head) (drop head list) (rw (length-drop head list) (omega arith))

module _ {ws list : List ℕ} {head tail : ℕ} {marks row : List ℕ} (t : Turn ws list head tail marks row) where
  -- its blocks are taken
  pub turn_queue : {n : ℕ} → n ≡ segments ws → Queued ws n (take (tail - head) (drop head list))
  turn_queue all = record {
    right = t.right;
    all = all;
    taken = λ k l.
        let u : k < tail - head = omega (arith, queue_length list head tail t.within) in
        rw (queue_at list head tail k u) (t.its_list.taken (head + k) (omega (arith, length-take-le tail list t.within)));
  }

  module _ {blocks end : ℕ} {row' : List ℕ} (g : Gathered ws (take (tail - head) (drop head list)) blocks end row') where
    few : blocks ≤ tail - head
    few = omega (arith, g.within, queue_length list head tail t.within)

    gathered_known : Known ws (take end row')
    gathered_known =
        rw g.words (references_known ws (λ i. get_or (take (tail - head) (drop head list)) i 0) blocks t.right (λ k l. (turn_queue refl).taken k (omega (arith, g.within))))

    -- each of the gathered handles has its place in the marks
    gathered_small : (k : ℕ) → k < end → get_or row' k 0 ≤ 2048 * segments ws
    gathered_small k l =
        let u : k < length (take end row') = rw (length-take-le end row' g.fits) l in
        let small = known_small ws (get_or (take end row') k 0) (gathered_known k u) in
        omega (arith, small, get_or-take end row' k 0 l)

    pub turn_handles : Handles row' end marks
    turn_handles = record {
      within = g.fits;
      inside = λ k l. record { inside = omega (arith, gathered_small k l, t.long) };
    }

    -- what is gathered, as the theory has it
    gathered_is : take end row' ≡ gathered (references_of ws) (take tail list) head blocks
    gathered_is =
        g.words
        ∙ lists_below_ext blocks (λ k. references_of ws (get_or (take (tail - head) (drop head list)) k 0)) (λ k. references_of ws (get_or (take tail list) (head + k) 0))
        (λ k l. ap (references_of ws) (queue_at list head tail k (omega (arith, few))))

    module _ {kept : ℕ} {row'' marks' : List ℕ} (same : length row'' ≡ length row') (k : Kept row' end marks kept row'' marks') where
      all_on : take tail list ++ take kept row'' ≡ put_all (take tail list) (take end row')
      all_on = k.words (segments ws) (take tail list) gathered_small t.its_marks

      lengths : tail + kept ≡ length (put_all (take tail list) (take end row'))
      lengths =
          sym
          (ap length (sym all_on) ∙ length-append (take tail list) (take kept row'')
          ∙ ap₂ ◌+◌ (length-take-le tail list t.within) (length-take-le kept row'' (omega (arith, k.within, g.fits))))

      -- there is room for those that are kept
      pub turn_room : tail + kept ≤ length list
      turn_room = omega (arith, lengths, listed_room ws _ (listed_more ws (take tail list) (take end row') t.its_list gathered_known), t.room)

      pub turn_done : {list' : List ℕ} → list' ≡ put list tail (take kept row'') → Turned ws list head tail (head + blocks) (tail + kept) list' marks'
      turn_done {list'} e = record {
        more = omega (arith, g.some (omega (arith, queue_length list head tail t.within, t.some)));
        within = omega (arith, few, t.some);
        on = subst (λ (n : ℕ). On (segments ws) (put_all (take tail list) (gathered (references_of ws) (take tail list) head n)) list (tail + kept) list' marks') back
            (subst (λ (hs : List ℕ). On (segments ws) (put_all (take tail list) hs) list (tail + kept) list' marks') gathered_is on_it);
      }
        where
          back : blocks ≡ head + blocks - head
          back = omega arith

          size : length (take kept row'') ≡ kept
          size = length-take-le kept row'' (omega (arith, k.within, g.fits))

          on_it : On (segments ws) (put_all (take tail list) (take end row')) list (tail + kept) list' marks'
          on_it = record {
            within = rw (e, length_put list tail (take kept row'') (omega (arith, size, turn_room))) turn_room;
            first = rw (e, ← append_assoc) (take_at (take tail list ++ take kept row'') _ (tail + kept) (ap length all_on ∙ sym lengths)) ∙ all_on;
            later = rw e (drop_put list tail (take kept row'') (tail + kept) t.within (omega (arith, size)));
            marks = k.marked (segments ws) (take tail list) gathered_small t.its_marks;
          }

-- ---- the whole

-- what `goes_on` tells at the end
pub ended : (head tail most : ℕ) (t : Bool) → t ≡ (ltb head tail && ltb tail most) → t ≡ false → (tail ≤ head) ⊎ (most ≤ tail)
ended head tail most t e n = go (ltb head tail) refl (ltb tail most) refl (sym e ∙ n)
  where
    go : (a : Bool) → ltb head tail ≡ a → (b : Bool) → ltb tail most ≡ b → (a && b) ≡ false → (tail ≤ head) ⊎ (most ≤ tail)
    go true p true q z = absurd (true≢false z)
    go true p false q z = inr (ltb-false tail most q)
    go false p b q z = inl (ltb-false head tail p)

-- the list so far, with the head of the queue
pub record SoFar (ws roots list : List ℕ) (head tail : ℕ) (list' marks' : List ℕ) : Type 0 where
  pub on : On (segments ws) (take tail list') list tail list' marks'
  pub its_list : Listed ws (take tail list')
  pub inv : Inv (drawing ws roots) (take tail list') head

module _ {ws roots list marks : List ℕ} {most : ℕ} (a : Traceable ws roots list marks most) where
  all_known : Known ws roots
  all_known = all_below_at (length roots) (λ p. none_or_taken ws (get_or roots p 0)) a.right_roots

  some_known : (p : ℕ) → p ≤ length roots → Known ws (take p roots)
  some_known p l k u =
      let v : k < p = omega (arith, length-take-le p roots l) in
      rw (get_or-take p roots k 0 v) (all_known k (omega arith))

  pub trace_roots : {n : ℕ} → n ≡ segments ws → Roots n roots list marks
  trace_roots all = record {
    long = omega (arith, a.row, all);
    inside = λ p l. omega (arith, known_small ws (get_or roots p 0) (all_known p l), all);
    room = λ p l. omega (arith, listed_room ws _ (listed_more ws [] (take p roots) (listed_none ws) (some_known p l)), a.room);
  }

  pub trace_start : {c : ℕ} {list' marks' : List ℕ} → On (segments ws) (put_all [] roots) list c list' marks' → SoFar ws roots list' 0 c list' marks'
  trace_start {c} {list'} {marks'} o = record {
    on = record { within = o.within; first = refl; later = refl; marks = rw o.first o.marks };
    its_list = rw o.first (listed_more ws [] roots (listed_none ws) all_known);
    inv = rw o.first (start (drawing ws roots));
  }

module _ {ws roots list : List ℕ} {head tail : ℕ} {list' marks' : List ℕ} (right : sound ws ≡ true) (s : SoFar ws roots list head tail list' marks') where
  long : length (take tail list') ≡ tail
  long = length-take-le tail list' s.on.within

  pub so_far_most : tail ≤ taken_count ws
  so_far_most = omega (arith, long, listed_room ws (take tail list') s.its_list)

  pub so_far_tail : tail ≤ 131072
  unfolding taken_count
  so_far_tail =
      omega (arith, so_far_most, count_below_le (2048 * segments ws) (λ x. is_taken ws (x + 1)), (sound_facts ws right).size.few)

  pub so_far_longer : {head' tail' : ℕ} {list'' marks'' : List ℕ} → Turned ws list' head tail head' tail' list'' marks'' → tail ≤ tail'
  so_far_longer {head'} {tail'} {list''} {marks''} t =
      let hs : List ℕ = gathered (references_of ws) (take tail list') head (head' - head) in
      omega (arith, long, put_all_length (take tail list') hs, on_length (segments ws) (put_all (take tail list') hs) list' tail' list'' marks'' t.on)

  -- the references of the n blocks from the head on, put on
  module _ (n : ℕ) (few : head + n ≤ tail) where
    abbrev more : List ℕ
    more = gathered (references_of ws) (take tail list') head n

    taken : (i : ℕ) → i < n → is_taken ws (get_or (take tail list') (head + i) 0) ≡ true
    taken i l = s.its_list.taken (head + i) (omega (arith, long))

    more_known : Known ws more
    more_known = references_known ws (λ i. get_or (take tail list') (head + i) 0) n right taken

    more_inv : Inv (drawing ws roots) (put_all (take tail list') more) (head + n)
    more_inv =
        subst (λ (hs : List ℕ). Inv (drawing ws roots) (put_all (take tail list') hs) (head + n))
        (lists_below_ext n (λ i. fields (drawing ws roots) (references ws) (get_or (take tail list') (head + i) 0)) (λ i. references_of ws (get_or (take tail list') (head + i) 0))
        (λ i l. fields_of_taken ws roots (get_or (take tail list') (head + i) 0) (taken i l)))
        (advance_run (drawing_bounded ws roots) s.inv n (omega (arith, long)))

  pub so_far_on : {head' tail' : ℕ} {list'' marks'' : List ℕ} → Turned ws list' head tail head' tail' list'' marks'' →
      SoFar ws roots list head' tail' list'' marks''
  so_far_on {head'} {tail'} {list''} {marks''} t = record {
    on = subst (λ (M : List ℕ). On (segments ws) M list tail' list'' marks'') (sym t.on.first)
        (on_then (segments ws) L (put_all L (more n few)) list tail list' marks' tail' list'' marks'' (put_all_length L (more n few)) s.on t.on);
    its_list = rw t.on.first (listed_more ws L (more n few) s.its_list (more_known n few));
    inv = rw t.on.first (subst (λ (q : ℕ). Inv (drawing ws roots) (put_all L (more n few)) q) there (more_inv n few));
  }
    where
      L : List ℕ
      L = take tail list'

      n : ℕ
      n = head' - head

      few : head + n ≤ tail
      few = omega (arith, t.more, t.within)

      there : head + n ≡ head'
      there = omega (arith, t.more)

  -- the head may go on to the end if it is there already, or if every taken block is listed
  so_far_whole : (tail ≤ head) ⊎ (taken_count ws ≤ tail) → Inv (drawing ws roots) (take tail list') (length (take tail list'))
  so_far_whole (inl end) =
      let at_end : head ≡ length (take tail list') = omega (arith, s.inv.head, long) in
      subst (λ (q : ℕ). Inv (drawing ws roots) (take tail list') q) at_end s.inv
  so_far_whole (inr all) =
      let n : ℕ = tail - head in
      let few : head + n ≤ tail = omega (arith, s.inv.head, long) in
      let at_end : head + n ≡ length (take tail list') = omega (arith, s.inv.head, long) in
      let same : put_all (take tail list') (more n few) ≡ take tail list' = listed_all ws (take tail list') (more n few) s.its_list (more_known n few) (omega (arith, long)) in
      subst (λ (M : List ℕ). Inv (drawing ws roots) M (length (take tail list'))) same
      (subst (λ (q : ℕ). Inv (drawing ws roots) (put_all (take tail list') (more n few)) q) at_end (more_inv n few))

  -- the end, for the list as it was before the roots were put on
  pub so_far_done : {before : List ℕ} {c : ℕ} {marks : List ℕ} → On (segments ws) (put_all [] roots) before c list marks → c ≤ tail → (tail ≤ head) ⊎ (taken_count ws ≤ tail) →
      length list' ≡ length before → Traced ws roots before tail list' marks'
  so_far_done {before} {c} {marks} o l end same = record {
    same_length = same;
    within = omega (arith, s.on.within);
    listing = traced (drawing_bounded ws roots) (so_far_whole end);
    later = (on_then (segments ws) (put_all [] roots) (take tail list') before c list marks tail list' marks' longer o s.on).later;
    marked = s.on.marks;
  }
    where
      longer : length (put_all [] roots) ≤ length (take tail list')
      longer = omega (arith, on_length (segments ws) (put_all [] roots) before c list marks o, long)
