-- A run: a granted make, and then any public calls on the arena, each finding the words as the one before left them.
-- Assumes nothing.
use Rattle.std.specs.Prelude.{ℕ, ◌+◌, ◌<◌, Bool, true, false, cond, List, ◌≡◌, eqb, get_or, Ok}
use Rattle.model.specs.Numbers.{Made, Allocated, Stood, Shaped, Read, Written, Room, Collected, granted, made_paper, allocated_paper, stood_paper, shaped_paper, read_paper, written_paper, room_paper, collected_paper}
use Rattle.model.specs.Calls.{block_refusal, Make, Allocate, AskStanding, AskShape, ReadReference, WriteReference, ReadPlain, WritePlain, PlainWords, AskRoom, Collect}

-- A public call that finds the words ws and leaves ws': its arguments, its answer, and that they meet its promise, granted or refused.
pub data Call (ws ws' : List ℕ) : Type 0 where
  make : (N : ℕ) (a : Made) → Make ws N a ws' → Call ws ws'
  allocate : (n r tag : ℕ) (a : Allocated) → tag < 256 → Allocate ws n r tag a ws' → Call ws ws'
  standing : (h : ℕ) (a : Stood) → AskStanding ws h a ws' → Call ws ws'
  shape : (h : ℕ) (a : Shaped) → AskShape ws h a ws' → Call ws ws'
  read_reference : (h f : ℕ) (a : Read) → ReadReference ws h f a ws' → Call ws ws'
  write_reference : (h f v : ℕ) (a : Written) → WriteReference ws h f v a ws' → Call ws ws'
  read_plain : (h f : ℕ) (a : Read) → ReadPlain ws h f a ws' → Call ws ws'
  write_plain : (h f v : ℕ) (a : Written) → WritePlain ws h f v a ws' → Call ws ws'
  plain_words : (h : ℕ) (a : List ℕ) → PlainWords ws h a ws' → Call ws ws'
  room : (i : ℕ) (a : Room) → AskRoom ws i a ws' → Call ws ws'
  collect : (roots list : List ℕ) (a : Collected) (list' : List ℕ) → Collect ws roots list a ws' list' → Call ws ws'

-- Its refusal number, 0 if granted. "Only the plain part carries no number: it is empty for 2 and 5", which is then the number meant here.
abbrev pub number : {ws ws' : List ℕ} → Call ws ws' → ℕ
number (make N a p) = (made_paper a).number
number (allocate n r tag a byte p) = (allocated_paper a).number
number (standing h a p) = (stood_paper a).number
number (shape h a p) = (shaped_paper a).number
number (read_reference h f a p) = (read_paper a).number
number (write_reference h f v a p) = (written_paper a).number
number (read_plain h f a p) = (read_paper a).number
number (write_plain h f v a p) = (written_paper a).number
number {ws} (plain_words h a p) = block_refusal ws h granted
number (room i a p) = (room_paper a).number
number (collect roots list a list' p) = (collected_paper a).number

-- Calls one after the other, from the words ws on; and a run of the store, from make on.
pub data Calls (ws : List ℕ) : List ℕ → Type 0 where
  no_call : Calls ws ws
  next : {ws' ws'' : List ℕ} → Calls ws ws' → Call ws' ws'' → Calls ws ws''

pub record Run (ws' : List ℕ) : Type 0 where
  pub slice : List ℕ
  pub N : ℕ
  pub made : List ℕ
  pub start : Make slice N (Ok tt) made
  pub calls : Calls made ws'

-- What a call is in the count of taken blocks: the arena is made anew, one block is allocated, a collection answers c, or none of these.
pub data Event : Type 0 where
  begins : Event
  allocates : Event
  collects : ℕ → Event
  other : Event

abbrev pub event_if_granted : {ws ws' : List ℕ} → Call ws ws' → Event
event_if_granted (make N a p) = begins
event_if_granted (allocate n r tag a byte p) = allocates
event_if_granted (standing h a p) = other
event_if_granted (shape h a p) = other
event_if_granted (read_reference h f a p) = other
event_if_granted (write_reference h f v a p) = other
event_if_granted (read_plain h f a p) = other
event_if_granted (write_plain h f v a p) = other
event_if_granted (plain_words h a p) = other
event_if_granted (room i a p) = other
event_if_granted (collect roots list a list' p) = collects (get_or (collected_paper a).values 0 0)

abbrev pub event : {ws ws' : List ℕ} → Call ws ws' → Event
event call = cond (eqb (number call) granted) (event_if_granted call) other

-- "The c of the last collection (0 after make)"
abbrev pub c_after : Event → ℕ → ℕ
c_after begins c = 0
c_after allocates c = c
c_after (collects d) c = d
c_after other c = c

abbrev pub last_c : {ws ws' : List ℕ} → Calls ws ws' → ℕ
last_c no_call = 0
last_c (next before call) = c_after (event call) (last_c before)

-- "the allocations granted since"
abbrev pub since_after : Event → ℕ → ℕ
since_after begins k = 0
since_after allocates k = k + 1
since_after (collects d) k = 0
since_after other k = k

abbrev pub allocations_since : {ws ws' : List ℕ} → Calls ws ws' → ℕ
allocations_since no_call = 0
allocations_since (next before call) = since_after (event call) (allocations_since before)

-- calls with no collection and no make among them that was granted: no block is freed
abbrev pub frees : Event → Bool
frees begins = true
frees allocates = false
frees (collects c) = true
frees other = false

abbrev pub NoneFreed : {ws ws' : List ℕ} → Calls ws ws' → Type 0
NoneFreed no_call = Unit {0}
NoneFreed (next before call) = NoneFreed before × (frees (event call) ≡ false)
