-- What a script's calls say by their arguments alone: document 01's book of the stand, and the card. Document 01, 'Trial program' and 'The book behind the sums'.
use Rattle.std.specs.Prelude.{ℕ, zero, suc, ◌-◌, Bool, true, cond, not, ◌&&◌, List, [], ◌∷◌, ◌++◌, eqb, leb, ltb, replicate, set}
use Rattle.std.proofs.Math.Option.{Option, none, some}
use Rattle.stand.specs.Edit.{last_generation}
use Rattle.stand.specs.Fill.{box_cells, box_of, cells_in}
use Rattle.stand.specs.Opening.{opened_shape, shape_rules}
use Rattle.stand.specs.Refusal.{◌⇒◌, first}
use Rattle.stand.specs.Shape.{Shape, inside, sections}
use Rattle.stand.specs.declared.Cell.{Cell}
use Rattle.sheet.specs.Card.{Terms, terms_of}
use Rattle.ledger.specs.Book.{Book, open_book, set_all, set_book, unless}
use Rattle.interpreter.specs.Start.{unset}
use Rattle.interpreter.specs.declared.Call.{Call}
use Rattle.interpreter.specs.declared.Call.TheVariants as K

-- the book, none before the first opening; the rates by finish; the cut
pub record Page : Type 0 where
  pub book : Option Book
  pub rates : List ℕ
  pub cut : ℕ

-- no stand, no rates, cut 0
unfoldable pub blank : Page
blank = record { book = none; rates = replicate 64 unset; cut = 0 }

-- 1, 2, and 4 for more than 4 sections
unfoldable pub open_number : Shape → ℕ
open_number g = first (shape_rules g ++ (ltb 4 (sections g) ⇒ 4) ∷ [])

-- under a refusal's number, 0 for none: a refused opening keeps the old stand
unfoldable pub opened : ℕ → Option Book → Shape → Option Book
opened zero old g = some (open_book g)
opened (suc n) old g = old

-- a change of the book, if there is one
unfoldable pub on_book : (Book → Book) → Option Book → Option Book
on_book f none = none
on_book f (some b) = some (f b)

-- 5 a cell outside; 6 a set that would change at the last generation, or a fill whose box and stand have more cells in common than generations remain
unfoldable pub set_number : Cell → ℕ → Book → ℕ
set_number c v b = first ((not (inside b.shape c) ⇒ 5) ∷ (eqb b.count last_generation && not (eqb (b.look c) v) ⇒ 6) ∷ [])

unfoldable pub fill_number : Cell → Cell → Book → ℕ
fill_number c d b = first ((ltb (last_generation - b.count) (cells_in (box_of b.shape c d)) ⇒ 6) ∷ [])

unfoldable pub set_on : Cell → ℕ → Book → Book
set_on c v b = unless (set_number c v b) b (set_book b c v)

unfoldable pub fill_on : Cell → Cell → ℕ → Book → Book
fill_on c d v b = unless (fill_number c d b) b (set_all b (box_cells b.shape (box_of b.shape c d)) v)

abbrev pub with_book : Page → Option Book → Page
with_book p b = record { book = b; rates = p.rates; cut = p.cut }

-- finishes 1 to 63 have a rate, others are 12
abbrev pub has_rate : ℕ → Bool
has_rate f = leb 1 f && leb f 63

unfoldable pub rate_number : ℕ → ℕ
rate_number f = first ((not (has_rate f) ⇒ 12) ∷ [])

-- a call written down; one refused changes nothing, nor does a refresh
unfoldable pub write : Page → Call → Page
write p (K.Open o size) = with_book p (opened (open_number (opened_shape o size)) p.book (opened_shape o size))
write p (K.Set c v) = with_book p (on_book (set_on c v) p.book)
write p (K.Fill c d v) = with_book p (on_book (fill_on c d v) p.book)
write p K.Refresh = p
write p (K.Rate f r) = record { book = p.book; rates = cond (has_rate f) (set p.rates f r) p.rates; cut = p.cut }
write p (K.Cut c) = record { book = p.book; rates = p.rates; cut = c }

unfoldable pub page_of : Page → List Call → Page
page_of p [] = p
page_of p (c ∷ cs) = page_of (write p c) cs

-- the card, and outside is empty
abbrev pub terms_on : Page → Terms
terms_on p = terms_of p.rates p.cut true
