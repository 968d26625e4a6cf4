-- The claim about every list of calls: demand 3, with document 02, 2.2.
use Rattle.std.specs.Prelude.{ℕ, ◌-◌, ◌≤◌, ◌<◌, ◌≡◌, true, List, [], ◌∷◌, ◌++◌}
use Rattle.std.proofs.Math.Option.{Option, none, some}
use Rattle.stand.specs.Refusal.{gives}
use Rattle.stand.specs.Shape.{counted, inside, sections}
use Rattle.stand.specs.Sides.{side_number}
use Rattle.stand.specs.Storage.{Storage}
use Rattle.stand.specs.declared.Cell.{Cell}
use Rattle.stand.specs.declared.Face.{Face}
use Rattle.mesh.specs.Cover.{Each, cover_count, covers, faces_in, seen, sum_to}
use Rattle.mesh.specs.Near.{near}
use Rattle.mesh.specs.Panels.{face_of, part_panels}
use Rattle.mesh.specs.Part.{section_part}
use Rattle.mesh.specs.Visible.{shown}
use Rattle.mesh.specs.declared.Quad.{Quad}
use Rattle.sheet.specs.Calls.{totals_call}
use Rattle.sheet.specs.Card.{Terms}
use Rattle.sheet.specs.Row.{measured}
use Rattle.sheet.specs.Rows.{row_at, sums}
use Rattle.sheet.specs.declared.Row.{Row}
use Rattle.ledger.specs.Book.{Book, Changed, Source, source_book}
use Rattle.ledger.specs.Calls.{Call, Effect, Four, accepted, book, effect_of, feed, given, run, step, unfit}

-- ---- the list of calls

-- it starts from any four, whatever they hold: the first call opens or loads the stand, on their lists or on others, and is accepted
pub record Start : Type 0 where
  pub four : Four
  pub first : Call
  pub source : Source
  pub opens : effect_of first.op ≡ Effect.opens_stand source
  pub is-accepted : accepted four first ≡ true

-- the four, and the book, after the first call and those of the list
unfoldable pub four_after : Start → List Call → Four
four_after a cs = run (step a.four a.first) cs

unfoldable pub book_after : Start → List Call → Book
book_after a cs = book (source_book a.source) (feed (step a.four a.first) cs)

-- P holds of each call of the list and of the four that it meets
unfoldable pub All : (Four → Call → Type 0) → Four → List Call → Type 0
All P s [] = Unit {0}
All P s (c ∷ cs) = P s c × All P (step s c) cs

-- ---- what a call is lent

-- the list is the four's own, or else A holds
abbrev pub Own : {X : Type 0} → Option X → Type 0 → Type 0
Own none A = Unit {0}
Own (some x) A = A

-- each list that a call uses without opening it is the four's own, or else A holds
abbrev pub Uses : Effect → Option Storage → Option (List ℕ) → Type 0 → Type 0
Uses (Effect.opens_stand x) st l A = Unit {0}
Uses (Effect.edits e) st l A = Own st A
Uses (Effect.opens_sheet t m) st l A = Own st A
Uses (Effect.refreshes t m) st l A = Own st A × Own l A
Uses Effect.leaves st l A = Unit {0}

-- each call is given the four as the call before left them, or lists of a length that 4 refuses; beyond the demand, a stand or a sheet
-- may be opened on other lists with any contents (a stand enlarged needs longer ones), and a call that writes none of the four may be lent any
unfoldable pub Lent : Four → Call → Type 0
Lent s c = Uses (effect_of c.op) c.storage c.sheet (unfit (given s c) (effect_of c.op) ≡ true)

-- ---- since the sheet's last accepted opening

-- no opening of stand or sheet, no load, and a refresh only with these terms: that opening's card and outside rule
abbrev pub KeepsTo : Terms → Effect → Type 0
KeepsTo t (Effect.opens_stand (Source.empty o size)) = ⊥
KeepsTo t (Effect.opens_stand (Source.form f)) = ⊥
KeepsTo t (Effect.edits e) = Unit {0}
KeepsTo t (Effect.opens_sheet u m) = ⊥
KeepsTo t (Effect.refreshes u m) = u ≡ t
KeepsTo t Effect.leaves = Unit {0}

unfoldable pub Keeps : Terms → Four → Call → Type 0
Keeps t s c = accepted s c ≡ true → KeepsTo t (effect_of c.op)

-- ---- measured anew

-- the panels cut from the book's cells of section i
abbrev pub panels_of : Terms → Book → ℕ → List Quad
panels_of t b i = part_panels t.beyond b.shape b.look (section_part b.shape i)

-- each visible face lies in exactly one panel of its finish and side
pub record Once (t : Terms) (b : Book) : Type 0 where
  -- the face on a side of a cell inside lies in one panel of all sections if it is visible, in none if not
  pub one : (side : ℕ) → side < 6 → (c : Cell) → inside b.shape c ≡ true
      → sum_to (λ i. cover_count (panels_of t b i) (face_of side) c) (sections b.shape) ≡ seen (shown t.beyond b.shape b.look side c)
  -- and each face of a panel is that of a cell inside, which shows the panel's finish there; that it is on the panel's side is `covers`
  pub each : (i : ℕ) → i < sections b.shape
      → Each (λ q. (f : Face) (c : Cell) → covers q f c ≡ true
      → (inside b.shape c ≡ true) × (shown t.beyond b.shape b.look (side_number f) c ≡ q.voxel.0)) (panels_of t b i)

-- the sums of every section measured anew from the book
unfoldable pub book_sums : Terms → Book → Row
book_sums t b = sums (measured t b.shape b.look) (sections b.shape)

-- what holds of the four and of the book just after a refresh
pub record Right (t : Terms) (s : Four) (b : Book) : Type 0 where
  -- the mark is the count
  pub mark_is : s.marks.sheet ≡ b.count
  -- each row is that of its section measured anew
  pub rows : (i : ℕ) → i < sections b.shape → row_at s.sheet i ≡ measured t b.shape b.look i
  -- the sums of the sheet are those of every section measured anew
  pub sums_are : sums (row_at s.sheet) (sections b.shape) ≡ book_sums t b
  -- totals, called next, is accepted and answers them
  pub totals_are : totals_call s.state.volume s.sheet ≡ gives (book_sums t b)
  -- the faces summed are the visible faces
  pub faces_are : (book_sums t b).faces ≡ sum_to (λ i. faces_in t.beyond b.shape b.look (section_part b.shape i)) (sections b.shape)
  pub faces_once : Once t b

-- ---- the two sentences, each with what it asks of a list

-- the sheet's last accepted opening, between xs and ys, came after the stand's, each refresh accepted since had that opening's card
-- and outside rule, and the last call is a refresh not refused
pub record Priced (a : Start) (xs : List Call) (opening : Call) (ys : List Call) (last : Call) (t : Terms) : Type 0 where
  pub lent : All Lent (four_after a []) (xs ++ (opening ∷ ys) ++ (last ∷ []))
  pub mask : List ℕ
  pub opens : effect_of opening.op ≡ Effect.opens_sheet t mask
  pub opened : accepted (four_after a xs) opening ≡ true
  pub keeps : All (Keeps t) (four_after a (xs ++ (opening ∷ []))) ys
  pub last_mask : List ℕ
  pub refreshes : effect_of last.op ≡ Effect.refreshes t last_mask
  pub refreshed : accepted (four_after a (xs ++ (opening ∷ ys))) last ≡ true

-- whatever the list, the last call is a refresh not refused, section i has neither changed since the mark nor shares a face with one
-- that has, and no more changes than sections have passed
pub record Spared (a : Start) (xs : List Call) (last : Call) (i : ℕ) : Type 0 where
  pub lent : All Lent (four_after a []) (xs ++ (last ∷ []))
  pub terms : Terms
  pub mask : List ℕ
  pub refreshes : effect_of last.op ≡ Effect.refreshes terms mask
  pub refreshed : accepted (four_after a xs) last ≡ true
  pub within : i < sections (book_after a xs).shape
  pub clean : (d : ℕ) → near (counted (book_after a xs).shape) d i ≡ true → Changed (book_after a xs) (four_after a xs).marks.sheet d → ⊥
  pub few : (book_after a xs).count - (four_after a xs).marks.sheet ≤ sections (book_after a xs).shape

pub record Claim : Type 0 where
  -- just after the refresh the sums are right
  pub sums_right : (a : Start) (xs : List Call) (opening : Call) (ys : List Call) (last : Call) (t : Terms) → Priced a xs opening ys last t
      → (let calls = xs ++ (opening ∷ ys) ++ (last ∷ []) in Right t (four_after a calls) (book_after a calls))
  -- and the row of such a section keeps its numbers
  pub rows-kept : (a : Start) (xs : List Call) (last : Call) (i : ℕ) → Spared a xs last i
      → row_at (four_after a (xs ++ (last ∷ []))).sheet i ≡ row_at (four_after a xs).sheet i
