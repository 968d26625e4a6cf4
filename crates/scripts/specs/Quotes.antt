-- The price lines of every script: what demand 3 says of lists of calls, for those of the trial program.
use Rattle.std.specs.Prelude.{ℕ, ◌≤◌, ◌<◌, ◌≡◌, true, List, [], ◌∷◌, length, replicate}
use Rattle.std.proofs.Math.Option.{some}
use Rattle.stand.specs.Shape.{Ranged, sections}
use Rattle.sheet.specs.Card.{limit}
use Rattle.sheet.specs.Row.{priced}
use Rattle.sheet.specs.declared.Row.{Row}
use Rattle.ledger.specs.Book.{Book}
use Rattle.ledger.specs.Claim.{Once, book_sums}
use Rattle.interpreter.specs.Room.{Lists}
use Rattle.interpreter.specs.Run.{After, run_step}
use Rattle.interpreter.specs.Start.{start_machine, unset}
use Rattle.interpreter.specs.declared.Call.{Call}
use Rattle.interpreter.specs.declared.Call.TheVariants as K
use Rattle.interpreter.specs.declared.Machine.{Machine}
use Rattle.interpreter.specs.declared.Reply.TheVariants as R
use Rattle.scripts.specs.Page.{Page, blank, page_of, terms_on}

-- machine and lists, handed from call to call
pub record Held : Type 0 where
  pub machine : Machine
  pub lists : Lists

abbrev pub held_after : After → Held
held_after a = record { machine = a.turn.machine; lists = a.lists }

unfoldable pub run_all : Held → List Call → Held
run_all h [] = h
run_all h (c ∷ cs) = run_all (held_after (run_step h.machine h.lists c)) cs

-- the lists of the program, with any contents; no rate is set
pub record Lent (l : Lists) : Type 0 where
  pub cells : length l.storage.cells ≡ 16384
  pub hashes : length l.storage.hashes ≡ 4
  pub versions : length l.storage.versions ≡ 4
  pub log : length l.storage.log ≡ 4
  pub last : length l.storage.last ≡ 4
  pub rates : l.rates ≡ replicate 64 unset
  pub sheet : length l.sheet ≡ 12

-- coordinates of an opening are i32, as the call's type has it
unfoldable pub Typed : Call → Type 0
Typed (K.Open o size) = Ranged o
Typed (K.Set c v) = Unit {0}
Typed (K.Fill c d v) = Unit {0}
Typed K.Refresh = Unit {0}
Typed (K.Rate f r) = Unit {0}
Typed (K.Cut c) = Unit {0}

unfoldable pub AllTyped : List Call → Type 0
AllTyped [] = Unit {0}
AllTyped (c ∷ cs) = Typed c × AllTyped cs

-- a price line says the page's count and sums: every section measured anew from the book by the card as it is now,
-- each visible face in exactly one panel of its finish and side
pub record Fair (p : Page) (generation : ℕ) (row : Row) : Type 0 where
  pub book : Book
  pub stand : p.book ≡ some book
  pub count-is : generation ≡ book.count
  pub sums_are : row ≡ book_sums (terms_on p) book
  pub faces_once : Once (terms_on p) book
  -- what 12 asks: the cut is within its limit, and every visible face has a rate within its
  pub cut-within : p.cut ≤ limit
  pub rated : (i : ℕ) → i < sections book.shape → priced p.rates true book.shape book.look i ≡ true

-- for every list of calls from the start: a refresh after it that prints a price line prints a fair one
unfoldable pub Quotes : Type 0
Quotes =
    (l : Lists) (cs : List Call) (generation : ℕ) (row : Row)
    → Lent l → AllTyped cs
    → (let h = run_all (record { machine = start_machine; lists = l }) cs in
    (run_step h.machine h.lists K.Refresh).turn.reply ≡ R.Price generation row → Fair (page_of blank cs) generation row)
