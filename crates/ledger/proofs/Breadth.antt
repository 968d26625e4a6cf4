-- How wide the claim is, proved.
use mathlib.Core.Path.{◌≡◌, refl, sym, ap, ◌∙◌, subst}
use mathlib.Core.Bool.{true}
use mathlib.Core.List.{List, [], ◌∷◌, ◌++◌}
use mathlib.Core.Option.{none, some}
use Prim.Native.Nat.{ℕ, ◌*◌, ◌≤◌}
use native.Mathlib.Omega.{arith}
use lib.ListN.{length, replicate}
use Rattle.stand.specs.Opening as O
use Rattle.stand.specs.Opening.{open_refusal, opened_shape}
use Rattle.stand.specs.Refusal as R
use Rattle.stand.specs.Shape as H
use Rattle.stand.specs.Shape.{counted, sections}
use Rattle.stand.specs.Storage.{Lengths, fresh_storage, joined, lengths_of, storage, storage_fits, volume_of}
use Rattle.stand.specs.declared.volume.Extent.{Extent}
use Rattle.sheet.specs.Card.{Terms, limit, payable, terms_of}
use Rattle.ledger.specs.Book as B
use Rattle.ledger.specs.Book.{Book, Origin, Source, load_book, open_book, source_book, write_load, write_open, write_source}
use Rattle.ledger.specs.Breadth.{Breadth, Grows, Pays, opening}
use Rattle.ledger.specs.Calls as C
use Rattle.ledger.specs.Calls.{Call, Effect, Four, Op, accepted, book, call, effect_of, feed, given, own, result, run, step, write}
use Rattle.ledger.specs.Claim.{All, Lent, Priced, Start, book_after, four_after}
use Rattle.ledger.specs.Trestles.{cell, extent}
use Rattle.ledger.proofs.Tells.{source_refusal}
use Rattle.ledger.proofs.Claimed.{append-all, tells_after, written-append}
use Rattle.ledger.proofs.Kept.{AcceptedBy, LentBy}
use Rattle.ledger.proofs.Enough.{Paid, open_accepted}
use Rattle.ledger.proofs.Starting.{given-number, reaches, stand-accepted, starts}
use Rattle.ledger.proofs.Finishes.{priceable, source-rated}
use Rattle.ledger.proofs.Following.{own-lent, own-lists, refused_by_4}
use Rattle.ledger.proofs.Going.{priced_so, wide}
use Rattle.ledger.proofs.Premises.{answers_4, edits-own, keeps-edits, keeps-leaves, keeps-refreshes, keeps-refused}

-- ---- the stand opened anew

write-opened : (b : Book) (l : Lengths) (x : Source) → source_refusal x l ≡ 0 → write_source b l x ≡ source_book x
unfolding write_open write_load B.unless
write-opened b l (Source.empty o size) e = ap (λ (n : ℕ). B.unless n b (open_book (opened_shape o.cell size))) e
write-opened b l (Source.form f) e = ap (λ (n : ℕ). B.unless n b (load_book f.bytes)) e

module _ (s : Four) (c : Call) (x : Source) (b : Book) where
  abbrev Writes : Effect → Type 0
  Writes e = AcceptedBy s c e → write b (lengths_of (storage (given s c).state)) e ≡ source_book x

  opened_writes : Writes (Effect.opens_stand x)
  unfolding write result C.opened
  opened_writes a = write-opened b (lengths_of (storage (given s c).state)) x (given-number (storage (given s c).state) x a)

book-first : (a : Start) (b : Book) (cs : List Call) → book b (feed a.four (a.first ∷ cs)) ≡ book_after a cs
unfolding book_after book feed accepted
book-first a b cs =
    ap (λ (x : Book). book x (feed (step a.four a.first) cs))
    (subst (Writes a.four a.first a.source b) (sym a.opens) (opened_writes a.four a.first a.source b) a.is-accepted)

module _ (a : Start) (xs : List Call) (w : All Lent (four_after a []) xs) (c : Call) (x : Source) (p : effect_of c.op ≡ Effect.opens_stand x)
    (e : source_refusal x (lengths_of (storage (given (four_after a xs) c).state)) ≡ 0) where
  abbrev more : List Call
  more = xs ++ (c ∷ [])

  lent-anew : All Lent (four_after a []) more
  unfolding four_after run All Lent
  lent-anew = append-all Lent (step a.four a.first) xs (c ∷ []) w (subst (LentBy (four_after a xs) c) (sym p) tt, tt)

  book-anew : book_after a more ≡ source_book x
  unfolding book feed write
  book-anew =
      written-append a xs (c ∷ [])
      ∙ ap (write (book_after a xs) (lengths_of (storage (given (four_after a xs) c).state))) p
      ∙ write-opened (book_after a xs) (lengths_of (storage (given (four_after a xs) c).state)) x e

  -- opening the sheet writes nothing into the book
  same-book : (l m : List ℕ) (t : Terms) → book_after a (more ++ (opening t (some l) m ∷ [])) ≡ book_after a more
  unfolding book feed write
  same-book l m t = written-append a more (opening t (some l) m ∷ [])

  module _ (t : Terms) (r : Pays t.rates (Effect.opens_stand x)) where
    paid_anew : (b : Book) → b ≡ source_book x → Paid t b.shape b.look
    paid_anew b q c i = ap (λ (b : Book). payable t.rates (b.look c)) q ∙ source-rated t.rates x r c

    anew : (l m m' : List ℕ) → length l ≡ sections (source_book x).shape * 3 → 256 ≤ length m → 256 ≤ length m' → t.cut ≤ limit
        → Priced a more (opening t (some l) m) [] (own (Op.refresh t m')) t
    unfolding All
    anew l m m' len room room' cut =
        priced_so a more lent-anew t (some l) m m' room room' cut (len ∙ ap (λ (b : Book). sections b.shape * 3) (sym book-anew)) (paid_anew (book_after a more) book-anew) [] tt tt
        (paid_anew (book_after a (more ++ (opening t (some l) m ∷ []))) (same-book l m t ∙ book-anew))

-- ---- from one cell to 17

abbrev corner : Origin
corner = record { cell = cell 0 0 0; ranged = record { x = record { sfits = omega arith }; y = record { sfits = omega arith }; z = record { sfits = omega arith } } }

abbrev one_cell : Extent
one_cell = extent 1 1 1

abbrev row : Extent
row = extent 17 1 1

-- storage of one section
abbrev blank : Four
blank = record { state = joined (volume_of (opened_shape (cell 0 0 0) row) 7 7) (fresh_storage 1); marks = record { sheet = 5 }; sheet = 1 ∷ 2 ∷ 3 ∷ [] }

abbrev first_opening : Call
first_opening = own (Op.open_stand corner one_cell)

opens_one : open_refusal (opened_shape (cell 0 0 0) one_cell) (lengths_of (storage (given blank first_opening).state)) ≡ 0
unfolding given open_refusal opened_shape O.sizes_of O.size_on O.too_many O.last_inside H.sections H.product H.counted H.chunks_in H.chunks_on H.last_fits R.first storage_fits fresh_storage
opens_one = refl

opens_two : open_refusal (opened_shape (cell 0 0 0) row) (lengths_of (fresh_storage 2)) ≡ 0
unfolding open_refusal opened_shape O.sizes_of O.size_on O.too_many O.last_inside H.sections H.product H.counted H.chunks_in H.chunks_on H.last_fits R.first storage_fits fresh_storage
opens_two = refl

abbrev small : Start
small =
    record {
      four = blank;
      first = first_opening;
      source = Source.empty corner one_cell;
      opens = refl;
      is-accepted = stand-accepted blank first_opening (Source.empty corner one_cell) refl opens_one;
    }

one-section : sections (book_after small []).shape ≡ 1
unfolding book_after book feed open_book opened_shape O.sizes_of O.size_on H.sections H.product H.counted H.chunks_in H.chunks_on
one-section = refl

two_sections : sections (opened_shape (cell 0 0 0) row) ≡ 2
unfolding opened_shape O.sizes_of O.size_on H.sections H.product H.counted H.chunks_in H.chunks_on
two_sections = refl

abbrev slots : List ℕ
slots = replicate 256 0

abbrev free : Terms
free = terms_of [] 0 true

abbrev sheet_first : List Call
sheet_first = own (Op.open_sheet (free) slots) ∷ []

none_yet : All Lent (four_after small []) []
unfolding All
none_yet = tt

first-lent : All Lent (four_after small []) sheet_first
unfolding All
first-lent = (own-lent (four_after small []) (Op.open_sheet (free) slots), tt)

small_sheet : length (four_after small []).sheet ≡ 3
unfolding four_after run step C.left_by given result C.opened
small_sheet = refl

small_paid : Paid (free) (book_after small []).shape (book_after small []).look
unfolding book_after book feed open_book payable
small_paid c i = refl

first-opened : accepted (four_after small []) (own (Op.open_sheet (free) slots)) ≡ true
first-opened =
    open_accepted (four_after small []) (book_after small []) (tells_after small [] none_yet) (free) slots
    (record { mask = omega arith; cut = omega arith; paid = small_paid }) none (small_sheet ∙ ap (λ (n : ℕ). n * 3) (sym one-section))

abbrev stand_opening : Call
stand_opening = call (some (fresh_storage 2)) none (Op.open_stand corner row)

grown : Grows
unfolding open_book given
grown =
    record {
      start = small;
      origin = corner;
      size = row;
      other = fresh_storage 2;
      longer = replicate 6 0;
      mask = slots;
      terms = free;
      one-section = one-section;
      opened = first-opened;
      two_sections = ap (λ (b : Book). sections b.shape) (book-anew small sheet_first first-lent stand_opening (Source.empty corner row) refl opens_two) ∙ two_sections;
      priced = anew small sheet_first first-lent stand_opening (Source.empty corner row) refl opens_two free tt (replicate 6 0) slots slots
          (ap (λ (n : ℕ). n * 3) (sym two_sections)) (omega arith) (omega arith) (omega arith);
    }

pub breadth : Breadth
unfolding Lent given open_book load_book
breadth =
    record {
      starts = λ s st l o size e. starts s (call st l (Op.open_stand o size)) (Source.empty o size) refl e;
      starts-loaded = λ s st l f e. starts s (call st l (Op.load_stand f)) (Source.form f) refl e;
      fresh = λ g k l e r. reaches g e k l r;
      book-is = book-first;
      own-lists = own-lists;
      refused_by_4 = refused_by_4;
      answers_4 = answers_4;
      stand-anew = λ s c x h. subst (LentBy s c) (sym h) tt;
      edits-own = edits-own;
      keeps-refused = keeps-refused;
      keeps-edits = keeps-edits;
      keeps-leaves = keeps-leaves;
      keeps-refreshes = keeps-refreshes;
      priced = λ a xs opening ys last t m m' w p e n q r. record { lent = w; mask = m; opens = p; opened = e; keeps = n; last_mask = m'; refreshes = q; refreshed = r };
      spared = λ a xs last i t m w q r h clean few. record { lent = w; terms = t; mask = m; refreshes = q; refreshed = r; within = h; clean = clean; few = few };
      sheet-anew = λ s l t m. tt;
      leaves_any = λ s c e. subst (LentBy s c) (sym e) tt;
      wide = wide;
      priceable = priceable;
      anew = λ a xs w o size st l m m' t e. anew a xs w (call (some st) none (Op.open_stand o size)) (Source.empty o size) refl e t tt l m m';
      loaded-anew = λ a xs w f st l m m' t e len p. anew a xs w (call (some st) none (Op.load_stand f)) (Source.form f) refl e t p l m m' len;
      grows = grown;
    }
