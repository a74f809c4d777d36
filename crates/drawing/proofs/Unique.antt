-- Two outcomes that satisfy the promise of a call at the same inputs are equal: answer, arena and, of collect, work list. Assumes nothing.
use Prim.Native.Nat.{ℕ, suc}
use native.Mathlib.Decide.{ℕ_discrete}
use native.Mathlib.Omega.{arith}
use mathlib.Core.Bool.{cond}
use mathlib.Core.List.{List, [], ◌∷◌, ◌++◌}
use mathlib.Core.Logic.{◌≢◌}
use mathlib.Core.Path.{◌≡◌, refl, sym, ap, ap₂, ◌∙◌}
use Rattle.std.specs.Prelude.{⊤, Result, Ok, Err}
use lib.Dec.{eqb}
use lib.ListN.{length, get_or, take, drop, take-append-drop}
use lib.Seq.{length-take-le}
use borrow.Author.Tests.{ne_eqb}
use Rattle.model.specs.Numbers.{Made, Allocated, Stood, Shaped, Read, Written, Room, Collected, Paper, paper, on_paper, shape_values, standing_values}
use Rattle.model.specs.Calls.{Outcome, Make, Allocate, AskStanding, AskShape, ReadReference, WriteReference, ReadPlain, WritePlain, PlainWords, AskRoom, Granted, Collect, collect_refusal, collected}
use Rattle.model.specs.declared.Handle.{Handle}
use Rattle.model.specs.declared.Refusal.{Refusal}
use Rattle.model.specs.declared.Refusal.TheVariants.{BadSize, Unsound, BadShape, NoRoom, NoBlock, NoField, BadReference, BadRoot, ShortList}
use Rattle.model.specs.declared.Shape.{Shape}
use Rattle.model.specs.declared.Standing.{Standing}
use Rattle.model.specs.declared.Standing.TheVariants.{None, Outside, Free, Taken}
use Rattle.ways.proofs.Listing.{listing_unique}

-- ---- an answer is known from its paper

-- the refusal of that number, or the grant of the values where there is none
abbrev answer_of : {A : Type 0} → (List ℕ → A) → Paper → Result A Refusal
answer_of of p =
    cond (eqb p.number 1) (Err BadSize)
    (cond (eqb p.number 2) (Err Unsound)
    (cond (eqb p.number 3) (Err BadShape)
    (cond (eqb p.number 4) (Err NoRoom)
    (cond (eqb p.number 5) (Err NoBlock)
    (cond (eqb p.number 6) (Err NoField)
    (cond (eqb p.number 7) (Err BadReference)
    (cond (eqb p.number 8) (Err BadRoot)
    (cond (eqb p.number 9) (Err ShortList) (Ok (of p.values))))))))))

module _ {A : Type 0} (values : A → List ℕ) (count : ℕ) (of : List ℕ → A) (back : (v : A) → of (values v) ≡ v) where
  answer_back : (a : Result A Refusal) → answer_of of (on_paper values count a) ≡ a
  answer_back (Ok v) = ap Ok (back v)
  answer_back (Err BadSize) = refl
  answer_back (Err Unsound) = refl
  answer_back (Err BadShape) = refl
  answer_back (Err NoRoom) = refl
  answer_back (Err NoBlock) = refl
  answer_back (Err NoField) = refl
  answer_back (Err BadReference) = refl
  answer_back (Err BadRoot) = refl
  answer_back (Err ShortList) = refl

  known : {a b : Result A Refusal} → on_paper values count a ≡ on_paper values count b → a ≡ b
  known {a} {b} same = sym (answer_back a) ∙ ap (answer_of of) same ∙ answer_back b

  -- so it is with every call but collect
  unique : {e : ℕ} {vs after ws : List ℕ} {a b : Result A Refusal} {ws' ws'' : List ℕ}
      → Outcome e vs after ws (on_paper values count a) ws' → Outcome e vs after ws (on_paper values count b) ws'' → (a ≡ b) × (ws' ≡ ws'')
  unique x y = (known (x.answered ∙ sym y.answered), x.words ∙ sym y.words)

-- ---- what is granted is known from its values

nothing_of : List ℕ → ⊤
nothing_of vs = tt

nothing_back : (u : ⊤) → nothing_of [] ≡ u
nothing_back u = refl

abbrev number_of : List ℕ → ℕ
number_of vs = get_or vs 0 0

abbrev handle_of : List ℕ → Handle
handle_of vs = record { 0 = get_or vs 0 0 }

abbrev shape_from : ℕ → List ℕ → Shape
shape_from k vs = record { n = get_or vs k 0; r = get_or vs (suc k) 0; tag = get_or vs (suc (suc k)) 0 }

abbrev standing_from : List ℕ → Standing
standing_from vs =
    cond (eqb (get_or vs 0 0) 0) None (cond (eqb (get_or vs 0 0) 1) Outside (cond (eqb (get_or vs 0 0) 2) Free (Taken (shape_from 1 vs))))

standing_back : (s : Standing) → standing_from (standing_values s) ≡ s
standing_back None = refl
standing_back Outside = refl
standing_back Free = refl
standing_back (Taken s) = refl

-- ---- the calls

module _ (ws : List ℕ) {ws' ws'' : List ℕ} where
  pub make_unique : (N : ℕ) {a b : Made} → Make ws N a ws' → Make ws N b ws'' → (a ≡ b) × (ws' ≡ ws'')
  make_unique N = unique (λ u. []) 0 nothing_of nothing_back

  pub allocate_unique : (n r tag : ℕ) {a b : Allocated} → Allocate ws n r tag a ws' → Allocate ws n r tag b ws'' → (a ≡ b) × (ws' ≡ ws'')
  allocate_unique n r tag = unique (λ h. h.0 ∷ []) 1 handle_of (λ h. refl)

  pub standing_unique : (h : ℕ) {a b : Stood} → AskStanding ws h a ws' → AskStanding ws h b ws'' → (a ≡ b) × (ws' ≡ ws'')
  standing_unique h = unique standing_values 4 standing_from standing_back

  pub shape_unique : (h : ℕ) {a b : Shaped} → AskShape ws h a ws' → AskShape ws h b ws'' → (a ≡ b) × (ws' ≡ ws'')
  shape_unique h = unique shape_values 3 (shape_from 0) (λ s. refl)

  pub read_reference_unique : (h f : ℕ) {a b : Read} → ReadReference ws h f a ws' → ReadReference ws h f b ws'' → (a ≡ b) × (ws' ≡ ws'')
  read_reference_unique h f = unique (λ v. v ∷ []) 1 number_of (λ v. refl)

  pub read_plain_unique : (h f : ℕ) {a b : Read} → ReadPlain ws h f a ws' → ReadPlain ws h f b ws'' → (a ≡ b) × (ws' ≡ ws'')
  read_plain_unique h f = unique (λ v. v ∷ []) 1 number_of (λ v. refl)

  pub write_reference_unique : (h f v : ℕ) {a b : Written} → WriteReference ws h f v a ws' → WriteReference ws h f v b ws'' → (a ≡ b) × (ws' ≡ ws'')
  write_reference_unique h f v = unique (λ u. []) 0 nothing_of nothing_back

  pub write_plain_unique : (h f v : ℕ) {a b : Written} → WritePlain ws h f v a ws' → WritePlain ws h f v b ws'' → (a ≡ b) × (ws' ≡ ws'')
  write_plain_unique h f v = unique (λ u. []) 0 nothing_of nothing_back

  pub room_unique : (i : ℕ) {a b : Room} → AskRoom ws i a ws' → AskRoom ws i b ws'' → (a ≡ b) × (ws' ≡ ws'')
  room_unique i = unique (λ v. v ∷ []) 1 number_of (λ v. refl)

  pub plain_words_unique : (h : ℕ) {xs ys : List ℕ} → PlainWords ws h xs ws' → PlainWords ws h ys ws'' → (xs ≡ ys) × (ws' ≡ ws'')
  plain_words_unique h x y = (x.answered ∙ sym y.answered, x.words ∙ sym y.words)

-- ---- collect: the list is one by demand 3, and the arena follows from it

module _ (ws roots list : List ℕ) {ws' ws'' list' list'' : List ℕ} where
  granted_unique : {c d : ℕ} → Granted ws roots list c ws' list' → Granted ws roots list d ws'' list''
      → (c ≡ d) × (ws' ≡ ws'') × (list' ≡ list'')
  granted_unique {c} {d} x y =
      let same : take c list' ≡ take d list'' = listing_unique x.listing y.listing in
      let c_long : length (take c list') ≡ c = length-take-le c list' (omega (arith, x.within, x.same_length)) in
      let d_long : length (take d list'') ≡ d = length-take-le d list'' (omega (arith, y.within, y.same_length)) in
      let count : c ≡ d = sym c_long ∙ ap length same ∙ d_long in (
        count,
        x.arena ∙ ap (collected ws) same ∙ sym y.arena,
        sym (take-append-drop c list') ∙ ap₂ ◌++◌ same (x.later ∙ ap (λ (k : ℕ). drop k list) count ∙ sym y.later) ∙ take-append-drop d list'',
      )

  pub collect_unique : {a b : Collected} → Collect ws roots list a ws' list' → Collect ws roots list b ws'' list''
      → (a ≡ b) × (ws' ≡ ws'') × (list' ≡ list'')
  collect_unique {a} {b} x y = go (ℕ_discrete (collect_refusal ws roots list) 0)
    where
      refused_same : (e : collect_refusal ws roots list ≢ 0)
          → paper (collect_refusal ws roots list) (x.live_count ∷ []) ≡ paper (collect_refusal ws roots list) (y.live_count ∷ [])
      refused_same e = simp (ne_eqb (collect_refusal ws roots list) 0 e)

      go : Dec (collect_refusal ws roots list ≡ 0) → (a ≡ b) × (ws' ≡ ws'') × (list' ≡ list'')
      go (yes e) =
          let g = granted_unique (x.collected_so e) (y.collected_so e) in (
            known (λ c. c ∷ []) 1 number_of (λ c. refl)
                (x.answered ∙ ap (λ (c : ℕ). paper (collect_refusal ws roots list) (c ∷ [])) g.0 ∙ sym y.answered),
            g.1,
            g.2,
          )
      go (no e) = (
        known (λ c. c ∷ []) 1 number_of (λ c. refl)
            (x.answered ∙ refused_same e ∙ sym y.answered),
        (x.refused e).0 ∙ sym (y.refused e).0,
        (x.refused e).1 ∙ sym (y.refused e).1,
      )
