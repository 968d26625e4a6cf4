-- What a call comes to: document 01, 'Trial program'.
use Rattle.std.specs.Prelude.{ℕ, ◌*◌, Bool, true, false, cond, ◌&&◌, List, ◌++◌, leb, ltb, drop, length, set, take}
use Rattle.stand.specs.Edit.{set_call}
use Rattle.stand.specs.Fill.{fill_call}
use Rattle.stand.specs.Opening.{open_call}
use Rattle.stand.specs.Refusal.{Answer, gives, refused}
use Rattle.stand.specs.Storage as S
use Rattle.stand.specs.Storage.{Storage, joined, storage, storage_of}
use Rattle.stand.specs.declared.Cell.{Cell}
use Rattle.stand.specs.declared.volume.Extent.{Extent}
use Rattle.stand.specs.declared.volume.Volume.{Volume}
use Rattle.sheet.specs.Calls as C
use Rattle.sheet.specs.Calls.{Verdict, totals_call}
use Rattle.sheet.specs.Card.{Terms, terms_of}
use Rattle.sheet.specs.declared.Marks.{Marks}
use Rattle.sheet.specs.declared.Row.{Row}
use Rattle.interpreter.specs.Room.{Lengths, Lists, chunks_of, lengths_at, lent_of, wanted_of}
use Rattle.interpreter.specs.declared.Call.{Call}
use Rattle.interpreter.specs.declared.Call.TheVariants as K
use Rattle.interpreter.specs.declared.Machine.{Machine}
use Rattle.interpreter.specs.declared.Reply.{Reply}
use Rattle.interpreter.specs.declared.Reply.TheVariants as R

-- what is held after a call, and the reply to it
pub record Turn : Type 0 where
  pub machine : Machine
  pub reply : Reply

abbrev pub turn_of : Machine → Reply → Turn
turn_of m r = record { machine = m; reply = r }

-- the machine with another stand, and so on
abbrev pub machine_of : Volume → Marks → Bool → ℕ → Machine
machine_of v k b c = record { volume = v; marks = k; stale = b; cut = c }

-- a call that answers a number or nothing prints only a refusal
abbrev pub reply_of : {A : Type 0} → Answer A → Reply
reply_of (gives a) = R.Quiet
reply_of (refused n) = R.Refused n

-- what a call comes to: its turn, and the lists after it
pub record After : Type 0 where
  pub turn : Turn
  pub lists : Lists

abbrev pub after_of : Turn → Lists → After
after_of t l = record { turn = t; lists = l }

-- ---- the first n sections of storage are lent, and what a call makes of them comes back before the others

abbrev pub front : ℕ → Storage → Storage
front n s = storage_of (take (n * 4096) s.cells) (take n s.hashes) (take n s.versions) (take n s.log) (take n s.last)

abbrev pub back : ℕ → Storage → Storage → Storage
back n t s =
    storage_of
    (t.cells ++ drop (n * 4096) s.cells) (t.hashes ++ drop n s.hashes) (t.versions ++ drop n s.versions)
    (t.log ++ drop n s.log) (t.last ++ drop n s.last)

abbrev pub lengths_in : Storage → ℕ → Lengths
lengths_in s sheet =
    lengths_at (length s.cells) (length s.hashes) (length s.versions) (length s.log) (length s.last) sheet

-- a turn, and storage after it
pub record Edited : Type 0 where
  pub turn : Turn
  pub storage : Storage

abbrev pub edited_of : Turn → Storage → Edited
edited_of t s = record { turn = t; storage = s }

-- ---- kind 1: a refused opening keeps the old stand

abbrev pub opened_turn : Machine → Answer Volume → Turn
opened_turn m (gives v) = turn_of (machine_of v m.marks true m.cut) R.Quiet
opened_turn m (refused n) = turn_of m (R.Refused n)

unfoldable pub open_with : ℕ → Machine → Storage → Cell → Extent → Edited
open_with n m s o size = edited_of (opened_turn m (open_call (front n s) o size).answer) (back n (open_call (front n s) o size).storage s)

unfoldable pub open_step : Machine → Storage → ℕ → Cell → Extent → Edited
open_step m s sheet o size = open_with (lent_of (wanted_of o size) (lengths_in s sheet)) m s o size

-- ---- kinds 2 and 3

abbrev pub moved_turn : Machine → S.Outcome ℕ → Turn
moved_turn m o = turn_of (machine_of o.state.volume m.marks m.stale m.cut) (reply_of o.answer)

abbrev pub moved : ℕ → Machine → Storage → S.Outcome ℕ → Edited
moved n m s o = edited_of (moved_turn m o) (back n (storage o.state) s)

unfoldable pub held : Machine → Storage → ℕ → ℕ
held m s sheet = lent_of (chunks_of m.volume) (lengths_in s sheet)

unfoldable pub set_with : ℕ → Machine → Storage → Cell → ℕ → Edited
set_with n m s c v = moved n m s (set_call (joined m.volume (front n s)) c v)

unfoldable pub set_step : Machine → Storage → ℕ → Cell → ℕ → Edited
set_step m s sheet c v = set_with (held m s sheet) m s c v

unfoldable pub fill_with : ℕ → Machine → Storage → Cell → Cell → ℕ → Edited
fill_with n m s a b v = moved n m s (fill_call (joined m.volume (front n s)) a b v)

unfoldable pub fill_step : Machine → Storage → ℕ → Cell → Cell → ℕ → Edited
fill_step m s sheet a b v = fill_with (held m s sheet) m s a b v

-- ---- kind 4: the sheet opened anew where the stand or the card is new, else refreshed; then its totals

-- the card, and outside is empty
abbrev pub terms_in : Machine → List ℕ → Terms
terms_in m rates = terms_of rates m.cut true

unfoldable pub measure_call : Machine → List ℕ → List ℕ → List ℕ → List ℕ → List ℕ → List ℕ → C.Outcome
measure_call m cells log last rates mask rows =
    cond m.stale
    (C.open_call (terms_in m rates) m.volume cells m.marks mask rows)
    (C.refresh_call (terms_in m rates) m.volume cells log last m.marks mask rows)

abbrev pub price_reply : ℕ → Answer Row → Reply
price_reply g (gives r) = R.Price g r
price_reply g (refused n) = R.Refused n

abbrev pub priced_turn : Machine → Verdict → Marks → List ℕ → Turn
priced_turn m C.done k sheet =
    turn_of (machine_of m.volume k false m.cut) (price_reply m.volume.generation (totals_call m.volume sheet))
priced_turn m (C.refused n) k sheet = turn_of m (R.Refused n)

-- a turn, and mask and sheet after it
pub record Priced : Type 0 where
  pub turn : Turn
  pub mask : List ℕ
  pub sheet : List ℕ

abbrev pub priced_of : Turn → List ℕ → List ℕ → Priced
priced_of t m l = record { turn = t; mask = m; sheet = l }

abbrev pub priced : ℕ → Machine → List ℕ → C.Outcome → Priced
priced n m sheet o = priced_of (priced_turn m o.verdict o.marks o.sheet) o.mask (o.sheet ++ drop (n * 3) sheet)

unfoldable pub refresh_with : ℕ → Machine → Storage → List ℕ → List ℕ → List ℕ → Priced
refresh_with n m s rates mask sheet =
    priced n m sheet
    (measure_call m (take (n * 4096) s.cells) (take n s.log) (take n s.last) rates mask (take (n * 3) sheet))

unfoldable pub refresh_step : Machine → Storage → List ℕ → List ℕ → List ℕ → Priced
refresh_step m s rates mask sheet = refresh_with (held m s (length sheet)) m s rates mask sheet

-- ---- kinds 5 and 6

-- the rate of a finish from 1 to 63 that is on the list
unfoldable pub listed : ℕ → List ℕ → Bool
listed f rates = leb 1 f && (leb f 63 && ltb f (length rates))

-- a turn, and the rates after it
pub record Rated : Type 0 where
  pub turn : Turn
  pub rates : List ℕ

abbrev pub rated_of : Turn → List ℕ → Rated
rated_of t l = record { turn = t; rates = l }

unfoldable pub rate_step : Machine → List ℕ → ℕ → ℕ → Rated
rate_step m rates f r =
    cond (listed f rates)
    (rated_of (turn_of (machine_of m.volume m.marks true m.cut) R.Quiet) (set rates f r))
    (rated_of (turn_of m (R.Refused 12)) rates)

unfoldable pub cut_step : Machine → ℕ → Turn
cut_step m c = turn_of (machine_of m.volume m.marks true c) R.Quiet

-- ---- any call

abbrev pub with_storage : Lists → Edited → After
with_storage l e = after_of e.turn (record { storage = e.storage; rates = l.rates; mask = l.mask; sheet = l.sheet })

abbrev pub with_prices : Lists → Priced → After
with_prices l p = after_of p.turn (record { storage = l.storage; rates = l.rates; mask = p.mask; sheet = p.sheet })

abbrev pub with_rates : Lists → Rated → After
with_rates l r = after_of r.turn (record { storage = l.storage; rates = r.rates; mask = l.mask; sheet = l.sheet })

unfoldable pub run_step : Machine → Lists → Call → After
run_step m l (K.Open o size) = with_storage l (open_step m l.storage (length l.sheet) o size)
run_step m l (K.Set c v) = with_storage l (set_step m l.storage (length l.sheet) c v)
run_step m l (K.Fill a b v) = with_storage l (fill_step m l.storage (length l.sheet) a b v)
run_step m l K.Refresh = with_prices l (refresh_step m l.storage l.rates l.mask l.sheet)
run_step m l (K.Rate f r) = with_rates l (rate_step m l.rates f r)
run_step m l (K.Cut c) = after_of (cut_step m c) l
