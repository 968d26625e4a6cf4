-- The price sheet's calls: C's structs, and mask and sheet after a call.
use Rattle.std.specs.Prelude.{ℕ, List, Result, Ok, Err}
use Rattle.stand.specs.Answer.{refusal_number}
use Rattle.stand.specs.Refusal.{Answer, gives, refused}
use Rattle.stand.specs.declared.volume.Volume.{Volume}
use Rattle.stand.specs.declared.volume.refusal.Refusal.{Refusal}
use Rattle.sheet.specs.Calls as S
use Rattle.sheet.specs.Calls.{Outcome, Verdict, open_call, refresh_call}
use Rattle.sheet.specs.Card.{terms_of}
use Rattle.sheet.specs.declared.Marks.{Marks}
use Rattle.sheet.specs.declared.Row.{Row}
use Rattle.exports.specs.Rule.{bad_argument, named, rule_at}
use Rattle.exports.specs.declared.prices.Marked.{Marked}
use Rattle.exports.specs.declared.prices.Sums.{Sums}

abbrev pub marks_of : ℕ → Marks
marks_of k = record { sheet = k }

pub record SheetReply : Type 0 where
  pub reply : Marked
  pub mask : List ℕ
  pub sheet : List ℕ

abbrev pub sheet_reply_of : Marked → List ℕ → List ℕ → SheetReply
sheet_reply_of r m l = record { reply = r; mask = m; sheet = l }

-- the mark after the call; refused, the mark given
abbrev pub replied_mark : Verdict → Marks → Marked
replied_mark S.done k = record { code = 0; mark = k.sheet }
replied_mark (S.refused c) k = record { code = c; mark = k.sheet }

-- the same of what the code answers for a call given the mark k
abbrev pub replied_marks : ℕ → Result Marks Refusal → Marked
replied_marks k (Ok m) = replied_mark S.done m
replied_marks k (Err r) = replied_mark (S.refused (refusal_number r)) (marks_of k)

abbrev pub sheet_reply : Outcome → SheetReply
sheet_reply x = sheet_reply_of (replied_mark x.verdict x.marks) x.mask x.sheet

abbrev pub bad_sheet : ℕ → List ℕ → List ℕ → SheetReply
bad_sheet k m l = sheet_reply_of (record { code = bad_argument; mark = k }) m l

unfoldable pub open_sheet_reply : Volume → ℕ → List ℕ → List ℕ → ℕ → ℕ → List ℕ → List ℕ → SheetReply
open_sheet_reply v k cells rates cut rule m l =
    named (rule_at rule) (λ b. sheet_reply (open_call (terms_of rates cut b) v cells (marks_of k) m l)) (bad_sheet k m l)

unfoldable pub refresh_reply : Volume → ℕ → List ℕ → List ℕ → List ℕ → List ℕ → ℕ → ℕ → List ℕ → List ℕ → SheetReply
refresh_reply v k cells log last rates cut rule m l =
    named (rule_at rule) (λ b. sheet_reply (refresh_call (terms_of rates cut b) v cells log last (marks_of k) m l)) (bad_sheet k m l)

abbrev pub replied_totals : Answer Row → Sums
replied_totals (gives r) = record { code = 0; panels = r.panels; faces = r.faces; cents = r.cents }
replied_totals (refused c) = record { code = c; panels = 0; faces = 0; cents = 0 }
