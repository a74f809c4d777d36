-- "From make on, as long as nothing but the store's calls writes to the arena, the taken blocks number the c of the last collection (0 after make)
-- plus the allocations granted since." All along the arena is sound, and no call is refused with 2. Assumes nothing.
use Prim.Native.Nat.{ℕ, ◌+◌, ◌≤◌, ◌<◌}
use native.Mathlib.Omega.{arith}
use native.Mathlib.Decide.{ℕ_discrete}
use mathlib.Core.Path.{◌≡◌, refl, sym, ap, ap₂, ◌∙◌, subst}
use mathlib.Core.Logic.{◌≢◌}
use mathlib.Core.Bool.{Bool, true, false, cond, true≢false}
use mathlib.Core.List.{List, [], ◌∷◌}
use Rattle.std.specs.Prelude.{Ok}
use lib.ListN.{length, get_or, take}
use lib.Seq.{length-take-le}
use lib.Dec.{eqb}
use borrow.Author.Tests.{eq-eqb, ne_eqb}
use Rattle.std.proofs.lemmas.Bool.Decides.{nat_tests}
use Rattle.model.specs.Class.{class_of}
use Rattle.model.specs.Layout.{handle}
use Rattle.model.specs.Standing.{is_taken, taken_count}
use Rattle.model.specs.Sound.{sound}
use Rattle.model.specs.Numbers.{Made, Allocated, Collected, Paper, paper, made_paper, allocated_paper, collected_paper}
use Rattle.model.specs.Calls.{Make, make_refusal, Allocate, allocate_refusal, given_segment, given_index, Collect, collect_refusal}
use Rattle.model.specs.declared.Handle.{Handle}
use Rattle.growth.proofs.After.{granted_facts}
use Rattle.growth.proofs.Taken.{handle_taken, taken_count_after, still_taken, taken_not_given}
use Rattle.growth.proofs.Sound.{granted_sound}
use Rattle.kept.proofs.Reached.{granted_collection, leaves_sound}
use Rattle.kept.proofs.Counted.{taken_after_collection}
use Rattle.drawing.specs.Runs.{Call, make, allocate, standing, shape, read_reference, write_reference, read_plain, write_plain, plain_words, room, collect, number, Calls, no_call, next, Run, Event, begins, allocates, collects, other, event_if_granted, event, c_after, last_c, since_after, allocations_since, frees, NoneFreed}
use Rattle.drawing.proofs.Outcomes.{number_is, words_granted, words_refused, words_read}
use Rattle.drawing.proofs.Made.{made_sound, made_none_taken}
use Rattle.drawing.proofs.Kept.{Kept, kept_reference, kept_plain}

-- ---- a refused call: "All lent memory stands as before."

collect_number : {ws roots list : List ℕ} (a : Collected) {ws' list' : List ℕ} → Collect ws roots list a ws' list'
    → (collected_paper a).number ≡ collect_refusal ws roots list
collect_number a p = ap (λ (q : Paper). q.number) p.answered

pub refused_list : {ws roots list : List ℕ} (a : Collected) {ws' list' : List ℕ} → Collect ws roots list a ws' list'
    → (collected_paper a).number ≢ 0 → list' ≡ list
refused_list a p some = (p.refused (λ z. some (collect_number a p ∙ z))).1

pub refused_words : {ws ws' : List ℕ} (call : Call ws ws') → number call ≢ 0 → ws' ≡ ws
refused_words (make N a p) some = words_refused p some
refused_words (allocate n r tag a byte p) some = words_refused p some
refused_words (standing h a p) some = words_refused p some
refused_words (shape h a p) some = words_refused p some
refused_words (read_reference h f a p) some = words_refused p some
refused_words (write_reference h f v a p) some = words_refused p some
refused_words (read_plain h f a p) some = words_refused p some
refused_words (write_plain h f v a p) some = words_refused p some
refused_words (plain_words h a p) some = p.words
refused_words (room i a p) some = words_refused p some
refused_words (collect roots list a list' p) some = (p.refused (λ z. some (collect_number a p ∙ z))).0

-- ---- a granted call

-- what a call that counts as e leaves: a sound arena with so many taken blocks, and if e frees none, whatever was taken taken still
pub record Left (ws ws' : List ℕ) (e : Event) : Type 0 where
  pub still_sound : sound ws' ≡ true
  pub counted : (c k : ℕ) → taken_count ws ≡ c + k → taken_count ws' ≡ c_after e c + since_after e k
  pub held : frees e ≡ false → (h : ℕ) → is_taken ws h ≡ true → is_taken ws' h ≡ true

unchanged : {ws ws' : List ℕ} → sound ws ≡ true → ws' ≡ ws → Left ws ws' other
unchanged s same = record { still_sound = rw same s; counted = λ c k e. rw same e; held = λ _ h t. rw same t }

made_right : (ws : List ℕ) (N : ℕ) → make_refusal ws N ≡ 0 → (1 ≤ N) × (N ≤ 64)
unfolding make_refusal
made_right ws N none = grind (arith, nat_tests)

left_by_make : {ws : List ℕ} (N : ℕ) (a : Made) {ws' : List ℕ} → Make ws N a ws' → (made_paper a).number ≡ 0 → Left ws ws' begins
left_by_make {ws} N a p none =
    let bounds = made_right ws N (sym (number_is p) ∙ none) in
    rw (words_granted p none) (record {
      still_sound = made_sound N bounds.0 bounds.1;
      counted = λ c k e. made_none_taken N bounds.0 bounds.1;
      held = λ f. absurd (true≢false f);
    })

left_by_allocate : {ws : List ℕ} (n r tag : ℕ) (a : Allocated) {ws' : List ℕ} → tag < 256 → Allocate ws n r tag a ws' → (allocated_paper a).number ≡ 0
    → Left ws ws' allocates
left_by_allocate {ws} n r tag a byte p none =
    let free = sym (number_is p) ∙ none in
    let g = granted_facts ws n r tag byte free in
    rw (words_granted p none) (record {
      still_sound = granted_sound ws n r tag byte free;
      counted = λ c k e. omega (arith, taken_count_after ws n r tag g, e);
      held = λ _. still_taken ws n r tag g;
    })

left_by_write : {ws : List ℕ} {h o v : ℕ} {ws' : List ℕ} → Kept ws h o v ws' → Left ws ws' other
left_by_write w = record { still_sound = w.still_sound; counted = λ c k e. w.same_count ∙ e; held = λ _ h t. w.same_taken h ∙ t }

left_by_collect : {ws roots list : List ℕ} (a : Collected) {ws' list' : List ℕ} → Collect ws roots list a ws' list' → (collected_paper a).number ≡ 0
    → Left ws ws' (collects (get_or (collected_paper a).values 0 0))
left_by_collect {ws} {roots} {list} a {ws'} {list'} p none =
    let free : collect_refusal ws roots list ≡ 0 = sym (collect_number a p) ∙ none in
    let g = p.collected_so free in
    let done = granted_collection free g in
    let long : length (take p.live_count list') ≡ p.live_count = length-take-le p.live_count list' (omega (arith, g.within, g.same_length)) in
    let told : collected_paper a ≡ paper 0 (p.live_count ∷ []) = p.answered ∙ ap (λ (e : ℕ). paper e (p.live_count ∷ [])) free in
    let c_told : get_or (collected_paper a).values 0 0 ≡ p.live_count = ap (λ (q : Paper). get_or q.values 0 0) told in
    record {
      still_sound = leaves_sound done;
      counted = λ c k e. omega (arith, taken_after_collection done, long, c_told);
      held = λ f. absurd (true≢false f);
    }

left_by_grant : {ws ws' : List ℕ} (call : Call ws ws') → sound ws ≡ true → number call ≡ 0 → Left ws ws' (event_if_granted call)
left_by_grant (make N a p) s none = left_by_make N a p none
left_by_grant (allocate n r tag a byte p) s none = left_by_allocate n r tag a byte p none
left_by_grant (standing h a p) s none = unchanged s (words_read p)
left_by_grant (shape h a p) s none = unchanged s (words_read p)
left_by_grant (read_reference h f a p) s none = unchanged s (words_read p)
left_by_grant {ws} {ws'} (write_reference h f v a p) s none = left_by_write (kept_reference ws h f v a ws' none p)
left_by_grant (read_plain h f a p) s none = unchanged s (words_read p)
left_by_grant {ws} {ws'} (write_plain h f v a p) s none = left_by_write (kept_plain ws h f v a ws' none p)
left_by_grant (plain_words h a p) s none = unchanged s p.words
left_by_grant (room i a p) s none = unchanged s (words_read p)
left_by_grant (collect roots list a list' p) s none = left_by_collect a p none

-- ---- any call

pub left : {ws ws' : List ℕ} (call : Call ws ws') → sound ws ≡ true → Left ws ws' (event call)
left {ws} {ws'} call s = go (ℕ_discrete (number call) 0)
  where
    if_so : {b : Bool} → eqb (number call) 0 ≡ b → Left ws ws' (cond b (event_if_granted call) other) → Left ws ws' (event call)
    if_so e = subst (λ (t : Bool). Left ws ws' (cond t (event_if_granted call) other)) (sym e)

    go : Dec (number call ≡ 0) → Left ws ws' (event call)
    go (yes e) = if_so (eq-eqb (number call) 0 e) (left_by_grant call s e)
    go (no f) = if_so (ne_eqb (number call) 0 f) (unchanged s (refused_words call f))

-- ---- a run

module _ {ws : List ℕ} (s : sound ws ≡ true) where
  pub calls_sound : {ws' : List ℕ} → Calls ws ws' → sound ws' ≡ true
  calls_sound no_call = s
  calls_sound (next before call) = (left call (calls_sound before)).still_sound

  calls_counted : taken_count ws ≡ 0 → {ws' : List ℕ} (calls : Calls ws ws') → taken_count ws' ≡ last_c calls + allocations_since calls
  calls_counted first no_call = first
  calls_counted first (next before call) =
      (left call (calls_sound before)).counted (last_c before) (allocations_since before) (calls_counted first before)

module _ {ws : List ℕ} (run : Run ws) where
  begun : Left run.slice run.made begins
  begun = left_by_make run.N (Ok tt) run.start refl

  pub run_sound : sound ws ≡ true
  run_sound = calls_sound begun.still_sound run.calls

  pub run_counted : taken_count ws ≡ last_c run.calls + allocations_since run.calls
  run_counted = calls_counted begun.still_sound (begun.counted (taken_count run.slice) 0 (omega arith)) run.calls

-- ---- no call of a run is refused with 2: a call never is on a sound arena

module _ (ws : List ℕ) (s : sound ws ≡ true) where
  pub sound_not_two : {ws' : List ℕ} (call : Call ws ws') → number call ≢ 2
  unfolding make_refusal allocate_refusal collect_refusal
  sound_not_two (make N a p) two = let e = number_is p in grind (arith, nat_tests)
  sound_not_two (allocate n r tag a byte p) two = let e = number_is p in grind (arith, nat_tests)
  sound_not_two (standing h a p) two = let e = number_is p in grind (arith, nat_tests)
  sound_not_two (shape h a p) two = let e = number_is p in grind (arith, nat_tests)
  sound_not_two (read_reference h f a p) two = let e = number_is p in grind (arith, nat_tests)
  sound_not_two (write_reference h f v a p) two = let e = number_is p in grind (arith, nat_tests)
  sound_not_two (read_plain h f a p) two = let e = number_is p in grind (arith, nat_tests)
  sound_not_two (write_plain h f v a p) two = let e = number_is p in grind (arith, nat_tests)
  sound_not_two (plain_words h a p) two = grind (arith, nat_tests)
  sound_not_two (room i a p) two = let e = number_is p in grind (arith, nat_tests)
  sound_not_two (collect roots list a list' p) two = let e = collect_number a p in grind (arith, nat_tests)

-- what comes before any call of a run is itself a run
pub run_not_two : {ws ws' : List ℕ} → Run ws → (call : Call ws ws') → number call ≢ 2
run_not_two run = sound_not_two _ (run_sound run)

-- ---- what was given is not given again before it is freed

-- the handle of a granted allocation
given : {ws : List ℕ} (n r tag : ℕ) (h : Handle) {ws' : List ℕ} → Allocate ws n r tag (Ok h) ws'
    → h.0 ≡ handle (given_segment ws (class_of n)) (given_index ws (class_of n))
given {ws} n r tag h p =
    let x = handle (given_segment ws (class_of n)) (given_index ws (class_of n)) in
    ap (λ (q : Paper). get_or q.values 0 0) (p.answered ∙ ap (λ (e : ℕ). paper e (x ∷ [])) (sym (number_is p)))

-- a taken block is taken until a collection or a make is granted
pub calls_held : {ws ws' : List ℕ} → sound ws ≡ true → (calls : Calls ws ws') → NoneFreed calls → (h : ℕ) → is_taken ws h ≡ true → is_taken ws' h ≡ true
calls_held s no_call _ h t = t
calls_held s (next before call) (held, none) h t = (left call (calls_sound s before)).held none h (calls_held s before held h t)

-- two granted allocations with none of these between them give two handles
pub handles_differ : {ws ws' ws'' ws''' : List ℕ} (n r tag : ℕ) (h : Handle) → tag < 256 → Allocate ws n r tag (Ok h) ws'
    → (calls : Calls ws' ws'') → NoneFreed calls
    → (n' r' tag' : ℕ) (h' : Handle) → tag' < 256 → Allocate ws'' n' r' tag' (Ok h') ws''' → h.0 ≢ h'.0
handles_differ {ws} {ws'} {ws''} n r tag h byte p calls held n' r' tag' h' byte' p' same =
    let g = granted_facts ws n r tag byte (sym (number_is p)) in
    let g' = granted_facts ws'' n' r' tag' byte' (sym (number_is p')) in
    let taken : is_taken ws' h.0 ≡ true = ap₂ is_taken (words_granted p refl) (given n r tag h p) ∙ handle_taken ws n r tag g in
    let sound' = (left_by_allocate n r tag (Ok h) byte p refl).still_sound in
    taken_not_given ws'' n' r' tag' g' h.0 (calls_held sound' calls held h.0 taken) (same ∙ given n' r' tag' h' p')
