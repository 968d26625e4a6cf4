-- What a script prints, by its calls alone: document 01, 'Trial program', 'The book behind the sums' and 'Calls turned back'.
-- Of the program nothing is read but how bytes make calls, how a reply is written and where a script stops: no header, storage, mark, sheet or mask.
use Rattle.std.specs.Prelude.{ℕ, zero, suc, Bool, not, ◌||◌, List, [], ◌∷◌, ◌++◌, ltb, drop, length, Some, None}
use Rattle.std.specs.Prelude as C
use Rattle.std.proofs.Math.Option.{Option, none, some}
use Rattle.stand.specs.Opening.{opened_shape}
use Rattle.stand.specs.Refusal.{◌⇒◌, first}
use Rattle.stand.specs.Shape.{sections}
use Rattle.mesh.specs.Merge.{all}
use Rattle.sheet.specs.Card.{Terms, limit}
use Rattle.sheet.specs.Row.{priced}
use Rattle.ledger.specs.Book.{Book}
use Rattle.ledger.specs.Claim.{book_sums}
use Rattle.interpreter.specs.Decode.{decode_of, length_of}
use Rattle.interpreter.specs.Line.{line_of}
use Rattle.interpreter.specs.Script.{unless_broken}
use Rattle.interpreter.specs.declared.Call.{Call}
use Rattle.interpreter.specs.declared.Call.TheVariants as K
use Rattle.interpreter.specs.declared.Reply.{Reply}
use Rattle.interpreter.specs.declared.Reply.TheVariants as R
use Rattle.scripts.specs.Page.{Page, blank, fill_number, open_number, rate_number, set_number, terms_on, write}

-- ---- one call, on the page of those before it

-- under a refusal's number, 0 for none
abbrev pub refused_or : ℕ → Reply → Reply
refused_or zero r = r
refused_or (suc n) r = R.Refused (suc n)

-- 3 before an opening
abbrev pub on_stand : Option Book → (Book → Reply) → Reply
on_stand none f = R.Refused 3
on_stand (some b) f = f b

-- every visible face of the whole stand has a rate within the limit
unfoldable pub all_rated : Terms → Book → Bool
all_rated t b = all (priced t.rates t.beyond b.shape b.look) (sections b.shape)

-- 12 for the cut, or for a visible face
unfoldable pub refresh_number : Terms → Book → ℕ
refresh_number t b = first ((ltb limit t.cut || not (all_rated t b) ⇒ 12) ∷ [])

-- a refresh says the count, and the sums of every section measured anew from the book
unfoldable pub reply_to : Page → Call → Reply
reply_to p (K.Open o size) = refused_or (open_number (opened_shape o size)) R.Quiet
reply_to p (K.Set c v) = on_stand p.book (λ b. refused_or (set_number c v b) R.Quiet)
reply_to p (K.Fill c d v) = on_stand p.book (λ b. refused_or (fill_number c d b) R.Quiet)
reply_to p K.Refresh = on_stand p.book (λ b. refused_or (refresh_number (terms_on p) b) (R.Price b.count (book_sums (terms_on p) b)))
reply_to p (K.Rate f r) = refused_or (rate_number f) R.Quiet
reply_to p (K.Cut c) = R.Quiet

-- ---- all of them

-- an unknown kind or a short body is `broken`, and nothing is written down
abbrev pub reply_read : Page → C.Option Call → Reply
reply_read p (Some call) = reply_to p call
reply_read p None = R.Broken

abbrev pub write_read : Page → C.Option Call → Page
write_read p (Some call) = write p call
write_read p None = p

-- a line, and those of the calls after it, unless the script stops there
abbrev pub said_then : Reply → List ℕ → List ℕ
said_then r later = line_of r ++ unless_broken r later

-- n calls at most
unfoldable pub said_to : ℕ → Page → List ℕ → List ℕ
said_to zero p b = []
said_to (suc n) p [] = []
said_to (suc n) p (kind ∷ b) =
    said_then (reply_read p (decode_of (kind ∷ b))) (said_to n (write_read p (decode_of (kind ∷ b))) (drop (length_of kind) (kind ∷ b)))

-- a call has at least one byte, so that there are no more calls than bytes
unfoldable pub said : List ℕ → List ℕ
said b = said_to (length b) blank b
