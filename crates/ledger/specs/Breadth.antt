-- How wide the claim is: demand 3 speaks of every list of calls, and document 01, 'The book behind the sums', says which calls stand in one;
-- a load is one by document 02, 2.2.
-- The premises of the claim ask no more than that, and lists that meet them exist, whatever the four hold.
use Rattle.std.specs.Prelude.{ℕ, ◌-◌, ◌*◌, ◌≤◌, ◌<◌, ◌≡◌, true, false, List, [], ◌∷◌, ◌++◌, map, length}
use Rattle.std.proofs.Math.Option.{Option, none, some}
use Rattle.stand.specs.Opening.{open_refusal, opened_shape}
use Rattle.stand.specs.Refusal as R
use Rattle.stand.specs.Shape.{Ranged, Shape, chunk_of, counted, opens, sections}
use Rattle.stand.specs.Storage.{Storage, fresh_state, lengths_of, storage, storage_of}
use Rattle.stand.specs.declared.Cell.{Cell}
use Rattle.stand.specs.declared.volume.Extent.{Extent}
use Rattle.form.specs.Calls.{load_refusal}
use Rattle.form.specs.Form.{entries_in, head_shape}
use Rattle.mesh.specs.Cover.{Each}
use Rattle.mesh.specs.Near.{near}
use Rattle.sheet.specs.Calls as S
use Rattle.sheet.specs.Card.{Terms, limit, payable}
use Rattle.sheet.specs.declared.Marks.{Marks}
use Rattle.ledger.specs.Book.{Book, Changed, Edit, Form, Origin, Source, open_book}
use Rattle.ledger.specs.Calls.{Call, Effect, Four, Op, accepted, book, call, edit_call, effect_of, feed, given, or_else, own, source_call, unfit}
use Rattle.ledger.specs.Claim.{All, Keeps, Lent, Priced, Spared, Start, book_after, four_after}
use Rattle.ledger.specs.Reading.{Reading}

-- ---- starts

-- the claim's lists start from these four by this call
pub record Starts (s : Four) (c : Call) : Type 0 where
  pub start : Start
  pub four_is : start.four ≡ s
  pub first-is : start.first ≡ c

-- they reach a stand just opened, with these marks and this sheet
pub record Reaches (g : Shape) (k : Marks) (l : List ℕ) : Type 0 where
  pub start : Start
  pub four_is : four_after start [] ≡ record { state = fresh_state g; marks = k; sheet = l }
  pub book-is : book_after start [] ≡ open_book g

-- ---- since the sheet was opened

-- the calls that the claim allows, whatever the four hold
pub data Later : Type 0 where
  set : Cell → ℕ → Later
  set_lent : Cell → ℕ → Later
  fill : Cell → Cell → ℕ → Later
  refresh : List ℕ → Later
  totals : Later
  reads : Reading → Later
  -- any call, lent lists of length 0
  lent_empty : Op → Later

-- a refresh has the terms that the sheet was opened with
abbrev pub later : Terms → Later → Call
later t (Later.set c v) = own (Op.set c v)
later t (Later.set_lent c v) = own (Op.set_lent c v)
later t (Later.fill c d v) = own (Op.fill c d v)
later t (Later.refresh m) = own (Op.refresh t m)
later t Later.totals = own Op.totals
later t (Later.reads r) = own (Op.reads r)
later t (Later.lent_empty o) = call (some (storage_of [] [] [] [] [])) (some []) o

abbrev pub sets : List Cell → ℕ → List Call
sets cs v = map (λ c. own (Op.set c v)) cs

-- ---- cards

-- the finishes that a call brings have rates within their limit
abbrev pub Pays : List ℕ → Effect → Type 0
Pays rates (Effect.opens_stand (Source.empty o size)) = Unit {0}
Pays rates (Effect.opens_stand (Source.form f)) = Each (λ e. payable rates e.finish ≡ true) (entries_in f.bytes)
Pays rates (Effect.edits (Edit.one c v)) = payable rates v ≡ true
Pays rates (Effect.edits (Edit.box c d v)) = payable rates v ≡ true
Pays rates (Effect.opens_sheet t m) = Unit {0}
Pays rates (Effect.refreshes t m) = Unit {0}
Pays rates Effect.leaves = Unit {0}

abbrev pub AllPay : List ℕ → List Call → Type 0
AllPay rates cs = Each (λ c. Pays rates (effect_of c.op)) cs

-- rates that price a list and the calls that follow
pub record Priceable (xs : List Call) (ys : List Later) : Type 0 where
  pub rates : List ℕ
  pub before : AllPay rates xs
  pub since : (t : Terms) → AllPay rates (map (later t) ys)

-- ---- how a list goes on

-- the sheet is opened, on the four's own list or on another
abbrev pub opening : Terms → Option (List ℕ) → List ℕ → Call
opening t l m = call none l (Op.open_sheet t m)

-- by a card that prices the first call and the list xs, under either outside rule, on a sheet with any contents; m and m' are the masks of
-- opening and refresh
pub record CanOpen (a : Start) (xs : List Call) (t : Terms) (l : Option (List ℕ)) (m m' : List ℕ) : Type 0 where
  pub lent : All Lent (four_after a []) xs
  pub pays : AllPay t.rates (a.first ∷ xs)
  pub cut : t.cut ≤ limit
  pub length-is : length (or_else l (four_after a xs).sheet) ≡ sections (book_after a xs).shape * 3
  pub mask : 256 ≤ length m
  pub last_mask : 256 ≤ length m'

-- then these calls may follow, and it is refreshed
pub record GoesOn (a : Start) (xs : List Call) (t : Terms) (l : Option (List ℕ)) (m m' : List ℕ) : Type 0 where
  -- the first sentence speaks of it
  pub since : (ys : List Later) → AllPay t.rates (map (later t) ys) → Priced a xs (opening t l m) (map (later t) ys) (own (Op.refresh t m')) t
  -- and the second: cells are set, no more than there are sections, and each row beside none of them is spared
  pub rows : (cs : List Cell) (v i : ℕ) → payable t.rates v ≡ true → i < sections (book_after a xs).shape → length cs ≤ sections (book_after a xs).shape
      → Each (λ c. near (counted (book_after a xs).shape) (chunk_of (book_after a xs).shape c) i ≡ false) cs
      → Spared a (xs ++ (opening t l m ∷ sets cs v)) (own (Op.refresh t m')) i

-- a list in which a stand of one section, its sheet opened, grows to two, on other storage and with a longer sheet
pub record Grows : Type 0 where
  pub start : Start
  pub origin : Origin
  pub size : Extent
  pub other : Storage
  pub longer : List ℕ
  pub mask : List ℕ
  pub terms : Terms
  pub one-section : sections (book_after start []).shape ≡ 1
  pub opened : accepted (four_after start []) (own (Op.open_sheet terms mask)) ≡ true
  pub two_sections : sections (book_after start (own (Op.open_sheet terms mask) ∷ call (some other) none (Op.open_stand origin size) ∷ [])).shape ≡ 2
  pub priced : Priced start (own (Op.open_sheet terms mask) ∷ call (some other) none (Op.open_stand origin size) ∷ [])
      (opening terms (some longer) mask) [] (own (Op.refresh terms mask)) terms

-- the call answers 4, by the definition that its contract cites
abbrev pub AnswersFour : Four → Effect → Type 0
AnswersFour s (Effect.opens_stand x) = (source_call (storage s.state) x).answer ≡ R.refused 4
AnswersFour s (Effect.edits e) = (edit_call s.state e).answer ≡ R.refused 4
AnswersFour s (Effect.opens_sheet t m) = (S.open_call t s.state.volume s.state.cells s.marks m s.sheet).verdict ≡ S.refused 4
AnswersFour s (Effect.refreshes t m) = (S.refresh_call t s.state.volume s.state.cells s.state.log s.state.last s.marks m s.sheet).verdict ≡ S.refused 4
AnswersFour s Effect.leaves = Unit {0}

pub record Breadth : Type 0 where
  -- ---- on any four

  -- every opening that nothing refuses starts a list, and every load
  pub starts : (s : Four) (st : Option Storage) (l : Option (List ℕ)) (o : Origin) (size : Extent)
      → open_refusal (opened_shape o.cell size) (lengths_of (or_else st (storage s.state))) ≡ 0 → Starts s (call st l (Op.open_stand o size))
  pub starts-loaded : (s : Four) (st : Option Storage) (l : Option (List ℕ)) (f : Form)
      → load_refusal f.bytes (lengths_of (or_else st (storage s.state))) ≡ 0 → Starts s (call st l (Op.load_stand f))
  -- so document 01's start is one: a stand just opened, sheet and marks holding anything
  pub fresh : (g : Shape) (k : Marks) (l : List ℕ) → opens g ≡ true → Ranged g.origin → Reaches g k l
  -- the book of a list is that of all its calls, the first among them, whatever book came before
  pub book-is : (a : Start) (b : Book) (cs : List Call) → book b (feed a.four (a.first ∷ cs)) ≡ book_after a cs
  -- any calls with any arguments, each lent the four's own lists, make a list
  pub own-lists : (s : Four) (os : List Op) → All Lent s (map own os)
  -- any call may be lent lists of a length that 4 refuses, and keeps to any terms
  pub refused_by_4 : (s : Four) (c : Call) → unfit (given s c) (effect_of c.op) ≡ true → Lent s c × ((t : Terms) → Keeps t s c)
  -- where a call answers 4, by the definition that its contract cites, it may be lent what it was
  pub answers_4 : (s : Four) (c : Call) → AnswersFour (given s c) (effect_of c.op) → Lent s c
  -- stand and sheet may be opened on any lists, a load is lent any, and an edit may be lent any sheet
  pub stand-anew : (s : Four) (c : Call) (x : Source) → effect_of c.op ≡ Effect.opens_stand x → Lent s c
  pub edits-own : (s : Four) (c : Call) (e : Edit) → effect_of c.op ≡ Effect.edits e → c.storage ≡ none → Lent s c
  pub sheet-anew : (s : Four) (l : Option (List ℕ)) (t : Terms) (m : List ℕ) → Lent s (opening t l m)
  -- a call that writes none of the four may be lent any lists
  pub leaves_any : (s : Four) (c : Call) → effect_of c.op ≡ Effect.leaves → Lent s c
  -- ---- since the sheet was opened, on any four

  -- a call that is refused, an edit, a call that writes none of the four, a refresh with the terms of the opening
  pub keeps-refused : (t : Terms) (s : Four) (c : Call) → accepted s c ≡ false → Keeps t s c
  pub keeps-edits : (t : Terms) (s : Four) (c : Call) (e : Edit) → effect_of c.op ≡ Effect.edits e → Keeps t s c
  pub keeps-leaves : (t : Terms) (s : Four) (c : Call) → effect_of c.op ≡ Effect.leaves → Keeps t s c
  pub keeps-refreshes : (t : Terms) (s : Four) (c : Call) (m : List ℕ) → effect_of c.op ≡ Effect.refreshes t m → Keeps t s c
  -- ---- nothing more is asked of a list

  pub priced : (a : Start) (xs : List Call) (opening : Call) (ys : List Call) (last : Call) (t : Terms) (m m' : List ℕ)
      → All Lent (four_after a []) (xs ++ (opening ∷ ys) ++ (last ∷ []))
      → effect_of opening.op ≡ Effect.opens_sheet t m → accepted (four_after a xs) opening ≡ true
      → All (Keeps t) (four_after a (xs ++ (opening ∷ []))) ys
      → effect_of last.op ≡ Effect.refreshes t m' → accepted (four_after a (xs ++ (opening ∷ ys))) last ≡ true
      → Priced a xs opening ys last t
  pub spared : (a : Start) (xs : List Call) (last : Call) (i : ℕ) (t : Terms) (m : List ℕ)
      → All Lent (four_after a []) (xs ++ (last ∷ []))
      → effect_of last.op ≡ Effect.refreshes t m → accepted (four_after a xs) last ≡ true
      → (let b = book_after a xs in
      let mark = (four_after a xs).marks.sheet in
      i < sections b.shape → ((d : ℕ) → near (counted b.shape) d i ≡ true → Changed b mark d → ⊥) → b.count - mark ≤ sections b.shape → Spared a xs last i)
  -- ---- such lists exist

  -- every list goes on in all these ways
  pub wide : (a : Start) (xs : List Call) (t : Terms) (l : Option (List ℕ)) (m m' : List ℕ) → CanOpen a xs t l m m' → GoesOn a xs t l m m'
  -- and some card prices it
  pub priceable : (xs : List Call) (ys : List Later) → Priceable xs ys
  -- the stand opened anew on any other storage that fits, and the sheet on any other one that does: whatever came before, any card will do
  pub anew : (a : Start) (xs : List Call) → All Lent (four_after a []) xs → (o : Origin) (size : Extent) (st : Storage) (l m m' : List ℕ) (t : Terms)
      → open_refusal (opened_shape o.cell size) (lengths_of st) ≡ 0 → length l ≡ sections (opened_shape o.cell size) * 3
      → 256 ≤ length m → 256 ≤ length m' → t.cut ≤ limit
      → Priced a (xs ++ (call (some st) none (Op.open_stand o size) ∷ [])) (opening t (some l) m) [] (own (Op.refresh t m')) t
  -- and loaded there, by any card that prices the form
  pub loaded-anew : (a : Start) (xs : List Call) → All Lent (four_after a []) xs → (f : Form) (st : Storage) (l m m' : List ℕ) (t : Terms)
      → load_refusal f.bytes (lengths_of st) ≡ 0 → length l ≡ sections (head_shape f.bytes) * 3 → Pays t.rates (effect_of (Op.load_stand f))
      → 256 ≤ length m → 256 ≤ length m' → t.cut ≤ limit
      → Priced a (xs ++ (call (some st) none (Op.load_stand f) ∷ [])) (opening t (some l) m) [] (own (Op.refresh t m')) t
  pub grows : Grows
