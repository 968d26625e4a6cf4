-- What hashes and digests tell of two stands: document 02, 2.3. `digests` proves it, of the definitions that the contracts cite.
use Rattle.std.specs.Prelude.{ℕ, ◌<◌, ◌≡◌, true, List, [], map}
use Rattle.stand.specs.Edit.{look, set_call}
use Rattle.stand.specs.Read.{digest_call, entry_call}
use Rattle.stand.specs.Refusal.{Answer, gives}
use Rattle.stand.specs.Shape.{Ranged, Shape, chunk_of, inside, opens}
use Rattle.stand.specs.Storage.{State, fresh_state, shape}
use Rattle.stand.specs.declared.Cell.{Cell}
use Rattle.form.specs.Keeping.{Same}
use Rattle.mesh.specs.Cover.{Each}
use Rattle.sheet.specs.declared.Marks.{Marks}
use Rattle.ledger.specs.Book.{Edit}
use Rattle.ledger.specs.Calls.{Call, Effect, Op, effect_of, own, run}
use Rattle.ledger.specs.Claim.{All, Lent, Start, four_after}

-- ---- a stand filled by calls

-- finishes are u16, as the calls' types have it
abbrev pub Typed : Effect → Type 0
Typed (Effect.opens_stand x) = Unit {0}
Typed (Effect.edits (Edit.one c v)) = v < 65536
Typed (Effect.edits (Edit.box c d v)) = v < 65536
Typed (Effect.opens_sheet t m) = Unit {0}
Typed (Effect.refreshes t m) = Unit {0}
Typed Effect.leaves = Unit {0}

abbrev pub AllTyped : List Call → Type 0
AllTyped cs = Each (λ c. Typed (effect_of c.op)) cs

-- the first call opens or loads it, on storage with any contents, and is accepted; then come any calls, accepted or refused, sets, fills,
-- loads and all others of demand 3's lists, each lent what these allow (`Lent`): header and storage as the call before left them, or
-- lists that 4 refuses; an opening or a load also other lists
pub record ByCalls : Type 0 where
  pub start : Start
  pub calls : List Call
  pub lent : All Lent (four_after start []) calls
  pub typed : AllTyped calls

-- its header and storage
abbrev pub stand_of : ByCalls → State
stand_of f = (four_after f.start f.calls).state

-- ---- two stands

-- of the same origin and size, whose cells inside differ at c and nowhere else; either finish may be 0, empty
pub record OneOff (s t : State) (c : Cell) : Type 0 where
  pub origin : s.volume.origin ≡ t.volume.origin
  pub size : s.volume.size ≡ t.volume.size
  pub there : inside (shape s) c ≡ true
  pub differ : look (shape s) s.cells c ≡ look (shape t) t.cells c → ⊥
  pub else_same : (d : Cell) → inside (shape s) d ≡ true → (d ≡ c → ⊥) → look (shape s) s.cells d ≡ look (shape t) t.cells d

-- ---- what the calls answer

-- `chunk_hash` of section i
abbrev pub hash_answer : State → ℕ → Answer ℕ
hash_answer s i = entry_call s.volume s.hashes i

-- `digest`
abbrev pub digest_answer : State → Answer ℕ
digest_answer s = digest_call s.volume s.hashes

-- both calls are accepted, and answer different numbers
pub record Apart (a b : Answer ℕ) : Type 0 where
  pub one : ℕ
  pub other : ℕ
  pub one-is : a ≡ gives one
  pub other-is : b ≡ gives other
  pub apart : one ≡ other → ⊥

-- ---- which stands these are

-- the stand just opened, after these calls, each lent its own lists
abbrev pub fresh_after : Shape → Marks → List ℕ → List Op → State
fresh_after g k l os = (run (record { state = fresh_state g; marks = k; sheet = l }) (map own os)).state

-- this is the state of a stand filled by calls
pub record Reached (s : State) : Type 0 where
  pub by_calls : ByCalls
  pub stand-is : stand_of by_calls ≡ s

pub record Digests : Type 0 where
  -- ---- one block off shows

  -- in the hash of its section
  pub hash_shows : (a b : ByCalls) (c : Cell) → OneOff (stand_of a) (stand_of b) c
      → Apart (hash_answer (stand_of a) (chunk_of (shape (stand_of a)) c)) (hash_answer (stand_of b) (chunk_of (shape (stand_of b)) c))
  -- and in the digest
  pub digest_shows : (a b : ByCalls) (c : Cell) → OneOff (stand_of a) (stand_of b) c → Apart (digest_answer (stand_of a)) (digest_answer (stand_of b))
  -- ---- where no cell differs, nothing shows

  -- a section each of whose cells has the same finish in both stands has the same hash in both
  pub hash-same : (a b : ByCalls) (i : ℕ) → (stand_of a).volume.origin ≡ (stand_of b).volume.origin → (stand_of a).volume.size ≡ (stand_of b).volume.size
      → ((d : Cell) → inside (shape (stand_of a)) d ≡ true → chunk_of (shape (stand_of a)) d ≡ i
      → look (shape (stand_of a)) (stand_of a).cells d ≡ look (shape (stand_of b)) (stand_of b).cells d)
      → hash_answer (stand_of a) i ≡ hash_answer (stand_of b) i
  -- so where one block is off no other section's hash differs
  pub others_same : (a b : ByCalls) (c : Cell) → OneOff (stand_of a) (stand_of b) c → (i : ℕ) → (i ≡ chunk_of (shape (stand_of a)) c → ⊥)
      → hash_answer (stand_of a) i ≡ hash_answer (stand_of b) i
  -- and stands with the same finish at each cell have the same digest, however they were filled
  pub digest-same : (a b : ByCalls) → Same (stand_of a).volume (stand_of a).cells (stand_of b).volume (stand_of b).cells
      → digest_answer (stand_of a) ≡ digest_answer (stand_of b)
  -- ---- a set that changes a cell

  -- a set that answers 1 leads from a stand filled by calls to one that is one block off
  pub set-off : (a : ByCalls) (c : Cell) (v : ℕ) → v < 65536 → (set_call (stand_of a) c v).answer ≡ gives 1
      → Reached (set_call (stand_of a) c v).state × OneOff (stand_of a) (set_call (stand_of a) c v).state c
  -- so it changes the hash of its section and the digest
  pub set_shows : (a : ByCalls) (c : Cell) (v : ℕ) → v < 65536 → (set_call (stand_of a) c v).answer ≡ gives 1
      → (let t = (set_call (stand_of a) c v).state in
      let i = chunk_of (shape (stand_of a)) c in
      Apart (hash_answer (stand_of a) i) (hash_answer t i) × Apart (digest_answer (stand_of a)) (digest_answer t))
  -- ---- nothing more is asked of the stands

  -- any list of demand 3 with finishes of u16 fills one; so does every list of calls with any arguments on a fresh stand, marks and sheet
  -- holding anything
  pub any_list : (a : Start) (cs : List Call) → All Lent (four_after a []) cs → AllTyped cs → Reached (four_after a cs).state
  pub any_calls : (g : Shape) (k : Marks) (l : List ℕ) (os : List Op) → opens g ≡ true → Ranged g.origin → AllTyped (map own os)
      → Reached (fresh_after g k l os)
  -- any finish of u16 may be set and filled with, and of other calls nothing is asked
  pub typed-set : (c : Cell) (v : ℕ) → v < 65536 → Typed (Effect.edits (Edit.one c v))
  pub typed-fill : (c d : Cell) (v : ℕ) → v < 65536 → Typed (Effect.edits (Edit.box c d v))
  pub typed_else : (e : Effect) → ((x : Edit) → e ≡ Effect.edits x → ⊥) → Typed e
  -- any two states of one origin and size that differ in one cell inside are one block off
  pub any_off : (s t : State) (c : Cell) → s.volume.origin ≡ t.volume.origin → s.volume.size ≡ t.volume.size → inside (shape s) c ≡ true
      → (look (shape s) s.cells c ≡ look (shape t) t.cells c → ⊥)
      → ((d : Cell) → inside (shape s) d ≡ true → (d ≡ c → ⊥) → look (shape s) s.cells d ≡ look (shape t) t.cells d)
      → OneOff s t c
