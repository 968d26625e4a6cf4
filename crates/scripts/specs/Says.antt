-- The trial program prints what its calls say: refusals and price lines alike, of every script.
use Rattle.std.specs.Prelude.{ℕ, ◌≤◌, ◌<◌, max, ◌≡◌, true, List, [], ◌∷◌, eqb, length, take, Some}
use Rattle.std.proofs.Math.Option.{some}
use Rattle.stand.specs.Shape.{inside}
use Rattle.stand.specs.declared.Cell.{Cell}
use Rattle.mesh.specs.Visible.{shown}
use Rattle.sheet.specs.Card.{Terms, payable}
use Rattle.sheet.specs.Due.{hits}
use Rattle.ledger.specs.Book.{Book}
use Rattle.arith.specs.Bytes.{Bytes, byte_at}
use Rattle.interpreter.specs.Decode.{decode_of, length_of}
use Rattle.interpreter.specs.Room.{Lists}
use Rattle.interpreter.specs.Run.{run_step}
use Rattle.interpreter.specs.Script.{printed, printed_to}
use Rattle.interpreter.specs.Start.{start_machine}
use Rattle.interpreter.specs.declared.Call.{Call}
use Rattle.interpreter.specs.declared.Call.TheVariants as K
use Rattle.interpreter.specs.declared.Reply.{Reply}
use Rattle.interpreter.specs.declared.Reply.TheVariants as R
use Rattle.scripts.specs.Page.{Page, blank, page_of, write}
use Rattle.scripts.specs.Quotes.{AllTyped, Held, Lent, Typed, run_all}
use Rattle.scripts.specs.Said.{all_rated, reply_to, said}

-- the numbers that can refuse a call, at most
abbrev pub numbers_of : Call → List ℕ
numbers_of (K.Open o size) = 1 ∷ 2 ∷ 4 ∷ []
numbers_of (K.Set c v) = 3 ∷ 5 ∷ 6 ∷ []
numbers_of (K.Fill c d v) = 3 ∷ 6 ∷ []
numbers_of K.Refresh = 3 ∷ 12 ∷ []
numbers_of (K.Rate f r) = 12 ∷ []
numbers_of (K.Cut c) = []

-- the program's reply to a call after a list of calls, from lists with any contents
abbrev pub reply_after : Lists → List Call → Call → Reply
reply_after l cs c =
    (let h : Held = run_all (record { machine = start_machine; lists = l }) cs in
    (run_step h.machine h.lists c).turn.reply)

-- every visible face of a cell inside has a finish on the list and a rate within its limit
abbrev pub EachRated : Terms → Book → Type 0
EachRated t b =
    (side : ℕ) (c : Cell) → side < 6 → inside b.shape c ≡ true → payable t.rates (shown t.beyond b.shape b.look side c) ≡ true

pub record Says : Type 0 where
  -- a script's bytes, and what is printed: from the program's lists, and from any others of their lengths with any contents
  pub script : (b : List ℕ) → Bytes b → printed b ≡ said b
  pub any_lists : (l : Lists) (b : List ℕ) → Lent l → 256 ≤ length l.mask → Bytes b → printed_to (length b) start_machine l b ≡ said b
  -- the program reads no more than a call's own bytes, which decode alike
  pub front : (b : List ℕ) → decode_of (take (max 1 (length_of (byte_at b 0))) b) ≡ decode_of b
  -- the calls of a script are such as `reply` and `Quotes` speak of
  pub typed : (b : List ℕ) (c : Call) → Bytes b → decode_of b ≡ Some c → Typed c
  -- any list of calls, and the reply to one more
  pub reply : (l : Lists) (cs : List Call) (c : Call) → Lent l → 256 ≤ length l.mask → AllTyped cs → reply_after l cs c ≡ reply_to (page_of blank cs) c
  -- no other number is ever given: 4 by an opening alone, and 7 to 11 and 13 by no call
  pub numbers : (l : Lists) (cs : List Call) (c : Call) (n : ℕ) → Lent l → 256 ≤ length l.mask → AllTyped cs
      → reply_after l cs c ≡ R.Refused n → hits (eqb n) (numbers_of c) ≡ true
  -- and what is refused is not written down
  pub unwritten : (p : Page) (c : Call) (n : ℕ) → reply_to p c ≡ R.Refused n → write p c ≡ p
  -- what 12 asks beside the cut, face by face
  pub rated : (cs : List Call) (b : Book) → (page_of blank cs).book ≡ some b → (t : Terms) → (all_rated t b ≡ true → EachRated t b) × (EachRated t b → all_rated t b ≡ true)
