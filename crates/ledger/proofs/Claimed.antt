-- The claim about every list of calls, proved.
use mathlib.Core.Path.{◌≡◌, refl, sym, ap, ◌∙◌, subst}
use mathlib.Core.Bool.{true, false≢true}
use mathlib.Core.List.{List, [], ◌∷◌, ◌++◌}
use mathlib.Core.Option.{Option, none, some}
use Prim.Native.Nat.{ℕ, ◌-◌, ◌≤◌, ◌<◌}
use native.Mathlib.Omega.{arith}
use Rattle.stand.specs.Opening.{Opening}
use Rattle.stand.specs.Shape.{sections}
use Rattle.stand.specs.Storage.{Storage, joined, lengths_of, storage}
use Rattle.sheet.specs.Card.{Terms}
use Rattle.sheet.specs.Rows.{row_at}
use Rattle.ledger.specs.Book.{Book, Source, source_book}
use Rattle.ledger.specs.Calls as C
use Rattle.ledger.specs.Calls.{Call, Effect, Four, Op, accepted, book, call, effect_of, feed, given, header_after, is_given, left_by, or_else, own_after, result, run, source_call, step, write}
use Rattle.ledger.specs.Claim.{All, Claim, Keeps, Lent, Priced, Right, Spared, Start, book_after, four_after}
use Rattle.ledger.proofs.Kept.{AcceptedBy, step_by, tells_step}
use Rattle.ledger.proofs.Measured.{mark_count, row_kept}
use Rattle.ledger.proofs.Opened.{Showing, shows_opened, shows_refreshed, shows_step}
use Rattle.ledger.proofs.Right.{right}
use Rattle.ledger.proofs.Sheeted.{refresh_measures}
use Rattle.ledger.proofs.Shows.{Clean}
use Rattle.ledger.proofs.Since.{none-todo}
use Rattle.ledger.proofs.Tells.{Tells, by_opening, tells_source}

-- ---- one list after another

pub run-append : (s : Four) (xs ys : List Call) → run s (xs ++ ys) ≡ run (run s xs) ys
unfolding run
run-append s [] ys = refl
run-append s (c ∷ xs) ys = run-append (step s c) xs ys

pub book-append : (s : Four) (b : Book) (xs ys : List Call) → book b (feed s (xs ++ ys)) ≡ book (book b (feed s xs)) (feed (run s xs) ys)
unfolding run book feed
book-append s b [] ys = refl
book-append s b (c ∷ xs) ys = book-append (step s c) (write b (lengths_of (storage (given s c).state)) (effect_of c.op)) xs ys

module _ (P : Four → Call → Type 0) where
  pub all_append : (s : Four) (xs ys : List Call) → All P s (xs ++ ys) → All P s xs × All P (run s xs) ys
  unfolding All run
  all_append s [] ys a = (tt, a)
  all_append s (c ∷ xs) ys a = let r = all_append (step s c) xs ys a.1 in ((a.0, r.0), r.1)

  pub append-all : (s : Four) (xs ys : List Call) → All P s xs → All P (run s xs) ys → All P s (xs ++ ys)
  unfolding All run
  append-all s [] ys a b = b
  append-all s (c ∷ xs) ys a b = (a.0, append-all (step s c) xs ys a.1 b)

-- ---- what holds after a list

pub tells_run : (s : Four) (b : Book) (cs : List Call) → All Lent s cs → Tells s.state b → Tells (run s cs).state (book b (feed s cs))
unfolding run book feed All
tells_run s b [] a k = k
tells_run s b (c ∷ cs) a k = tells_run (step s c) (write b (lengths_of (storage (given s c).state)) (effect_of c.op)) cs a.1 (tells_step s b c a.0 k)

pub shows_run : (t : Terms) (s : Four) (b : Book) (cs : List Call) → All Lent s cs → All (Keeps t) s cs → Tells s.state b → Showing t s b
    → Showing t (run s cs) (book b (feed s cs))
unfolding run book feed All
shows_run t s b [] a n k h = h
shows_run t s b (c ∷ cs) a n k h =
    shows_run t (step s c) (write b (lengths_of (storage (given s c).state)) (effect_of c.op)) cs a.1 n.1 (tells_step s b c a.0 k)
    (shows_step s b c t a.0 n.0 k h)

-- ---- from a state that tells the book

-- opening and refresh of the sheet write nothing into the book
sheet_writes : (b : Book) (t : Terms) (m : List ℕ) (c : Call) (s : Four) → effect_of c.op ≡ Effect.opens_sheet t m → book b (feed s (c ∷ [])) ≡ b
unfolding book feed write
sheet_writes b t m c s p = ap (write b (lengths_of (storage (given s c).state))) p

refresh_writes : (b : Book) (t : Terms) (m : List ℕ) (c : Call) (s : Four) → effect_of c.op ≡ Effect.refreshes t m → book b (feed s (c ∷ [])) ≡ b
unfolding book feed write
refresh_writes b t m c s p = ap (write b (lengths_of (storage (given s c).state))) p

module _ (s : Four) (b : Book) (k : Tells s.state b) (t : Terms) (m : List ℕ) (c : Call) where
  -- a sheet opened there
  pub opened_shows : effect_of c.op ≡ Effect.opens_sheet t m → Lent s c → accepted s c ≡ true → Showing t (run s (c ∷ [])) (book b (feed s (c ∷ [])))
  unfolding run book feed
  opened_shows p w e = subst (Showing t (step s c)) (sym (sheet_writes b t m c s p)) (shows_opened s b k t m c p w e)

  -- and calls that keep to its terms
  later-run : (ys : List Call) → effect_of c.op ≡ Effect.opens_sheet t m → All Lent s (c ∷ ys) → accepted s c ≡ true → All (Keeps t) (run s (c ∷ [])) ys
      → Showing t (run s (c ∷ ys)) (book b (feed s (c ∷ ys)))
  unfolding run book feed All
  later-run ys p w e n =
      shows_run t (step s c) (write b (lengths_of (storage (given s c).state)) (effect_of c.op)) ys w.1 n (tells_step s b c w.0 k)
      (opened_shows p w.0 e)

  module _ (p : effect_of c.op ≡ Effect.refreshes t m) (w : Lent s c) (e : accepted s c ≡ true) where
    -- just after a refresh
    refreshed : Showing t s b → Right t (run s (c ∷ [])) (book b (feed s (c ∷ [])))
    unfolding run book feed
    refreshed h =
        let q : write b (lengths_of (storage (given s c).state)) (effect_of c.op) ≡ b = refresh_writes b t m c s p in
        subst (Right t (step s c)) (sym q)
        (right t (step s c) b (subst (Tells (step s c).state) q (tells_step s b c w k)) (shows_refreshed s b k t m c p w e h)
        (mark_count k (refresh_measures s t m c p w e).0))

    -- and a row that is clean keeps its numbers
    kept : (i : ℕ) → i < sections b.shape → Clean b s.marks.sheet i → b.count - s.marks.sheet ≤ sections b.shape
        → row_at (run s (c ∷ [])).sheet i ≡ row_at s.sheet i
    unfolding run
    kept i h clean lag =
        let r = refresh_measures s t m c p w e in
        let behind : s.marks.sheet ≤ b.count = omega (arith, r.1, k.count-is) in
        row_kept k r.0 i h (none-todo s.state b k s.marks.sheet behind lag i clean)

-- ---- the first call

module _ (s : Four) (x : Source) where
  -- the state that an accepted opening leaves
  abbrev Fresh : Option Storage → Opening → Book → Type 0
  Fresh st r b =
      is_given r.answer ≡ true
      → Tells (joined (header_after r.answer s.state.volume) (own_after st (is_given r.answer) (storage s.state) r.storage)) (source_book x)

  fresh_so : (st : Option Storage) → Fresh st (source_call (or_else st (storage s.state)) x) (source_book x)
  fresh_so none =
      by_opening (Fresh none) (storage s.state) (source_book x) x (λ n e. absurd (false≢true e)) (λ z e. tells_source x (lengths_of (storage s.state)) z)
  fresh_so (some st) = by_opening (Fresh (some st)) st (source_book x) x (λ n e. absurd (false≢true e)) (λ z e. tells_source x (lengths_of st) z)

  abbrev Opened : Call → Effect → Type 0
  Opened c e = AcceptedBy s c e → Tells (step_by s c e).state (source_book x)

  opened_so : (st : Option Storage) (l : Option (List ℕ)) (o : Op) → Opened (call st l o) (Effect.opens_stand x)
  unfolding left_by given result C.opened
  opened_so st l o e = fresh_so st e

tells_start : (a : Start) → Tells (four_after a []).state (book_after a [])
unfolding four_after book_after run book feed step accepted
tells_start a =
    subst (Opened a.four a.source a.first) (sym a.opens) (opened_so a.four a.source a.first.storage a.first.sheet a.first.op) a.is-accepted

module _ (a : Start) where
  pub after_append : (xs ys : List Call) → four_after a (xs ++ ys) ≡ run (four_after a xs) ys
  unfolding four_after
  after_append xs ys = run-append (step a.four a.first) xs ys

  pub written-append : (xs ys : List Call) → book_after a (xs ++ ys) ≡ book (book_after a xs) (feed (four_after a xs) ys)
  unfolding four_after book_after
  written-append xs ys = book-append (step a.four a.first) (source_book a.source) xs ys

  pub lent-append : (P : Four → Call → Type 0) (xs ys : List Call) → All P (four_after a []) (xs ++ ys) → All P (four_after a []) xs × All P (four_after a xs) ys
  unfolding four_after run
  lent-append P xs ys = all_append P (step a.four a.first) xs ys

  pub tells_after : (cs : List Call) → All Lent (four_after a []) cs → Tells (four_after a cs).state (book_after a cs)
  unfolding four_after book_after run book feed
  tells_after cs w = tells_run (step a.four a.first) (source_book a.source) cs w (tells_start a)

  -- a sheet opened after xs, and calls that keep to its terms
  pub shows_later : (t : Terms) (m : List ℕ) (xs : List Call) (opening : Call) (ys : List Call) → All Lent (four_after a []) (xs ++ (opening ∷ ys))
      → effect_of opening.op ≡ Effect.opens_sheet t m → accepted (four_after a xs) opening ≡ true → All (Keeps t) (four_after a (xs ++ (opening ∷ []))) ys
      → Showing t (four_after a (xs ++ (opening ∷ ys))) (book_after a (xs ++ (opening ∷ ys)))
  shows_later t m xs opening ys w p e n =
      let q = lent-append Lent xs (opening ∷ ys) w in
      let k = tells_after xs q.0 in
      rw (after_append xs (opening ∷ ys), written-append xs (opening ∷ ys))
      (later-run (four_after a xs) (book_after a xs) k t m opening ys p q.1 e (subst (λ (s : Four). All (Keeps t) s ys) (after_append xs (opening ∷ [])) n))

  -- one call more
  pub lent-last : (xs : List Call) (c : Call) → All Lent (four_after a []) (xs ++ (c ∷ [])) → All Lent (four_after a []) xs × Lent (four_after a xs) c
  unfolding All
  lent-last xs c w = let q = lent-append Lent xs (c ∷ []) w in (q.0, q.1.0)

  sums_right : (xs : List Call) (opening : Call) (ys : List Call) (last : Call) (t : Terms) → Priced a xs opening ys last t
      → Right t (four_after a (xs ++ (opening ∷ ys) ++ (last ∷ []))) (book_after a (xs ++ (opening ∷ ys) ++ (last ∷ [])))
  sums_right xs opening ys last t h =
      let cs = xs ++ (opening ∷ ys) in
      let q = lent-last cs last h.lent in
      rw (after_append cs (last ∷ []), written-append cs (last ∷ []))
      (refreshed (four_after a cs) (book_after a cs) (tells_after cs q.0) t h.last_mask last h.refreshes q.1 h.refreshed
      (shows_later t h.mask xs opening ys q.0 h.opens h.opened h.keeps))

  rows-kept : (xs : List Call) (last : Call) (i : ℕ) → Spared a xs last i → row_at (four_after a (xs ++ (last ∷ []))).sheet i ≡ row_at (four_after a xs).sheet i
  rows-kept xs last i h =
      let q = lent-last xs last h.lent in
      ap (λ (s : Four). row_at s.sheet i) (after_append xs (last ∷ []))
      ∙ kept (four_after a xs) (book_after a xs) (tells_after xs q.0) h.terms h.mask last h.refreshes q.1 h.refreshed i h.within h.clean h.few

-- demand 3
pub claim : Claim
claim = record { sums_right = sums_right; rows-kept = rows-kept }
