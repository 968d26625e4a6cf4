-- Opening and editing: C's struct, and the five lists after the call.
use Rattle.std.specs.Prelude.{ℕ, Result, Ok, Err}
use Rattle.stand.specs.Answer.{refusal_number}
use Rattle.stand.specs.Opening.{Opening}
use Rattle.stand.specs.Refusal.{Answer, gives, refused}
use Rattle.stand.specs.Storage.{Outcome, State, Storage, storage}
use Rattle.stand.specs.declared.volume.Volume.{Volume}
use Rattle.stand.specs.declared.volume.edit.Edited as E
use Rattle.stand.specs.declared.volume.refusal.Refusal.{Refusal}
use Rattle.exports.specs.Reply.{no_cell, no_extent, replied}
use Rattle.exports.specs.declared.edit.Edited.{Edited}
use Rattle.exports.specs.declared.edit.Opened.{Opened}
use Rattle.exports.specs.declared.reply.Number.{Number}

pub record Wrote (A : Type 0) : Type 0 where
  pub reply : A
  pub storage : Storage

abbrev pub wrote_of : {A : Type 0} → A → Storage → Wrote A
wrote_of a s = record { reply = a; storage = s }

abbrev pub no_volume : Volume
no_volume = record { origin = no_cell; chunks = no_extent; size = no_extent; generation = 0; solid = 0 }

abbrev pub replied_header : Answer Volume → Opened
replied_header (gives v) = record { code = 0; volume = v }
replied_header (refused c) = record { code = c; volume = no_volume }

abbrev pub open_reply : Opening → Wrote Opened
open_reply o = wrote_of (replied_header o.answer) o.storage

-- the cells changed, and the header after the edit
abbrev pub replied_edit : Answer ℕ → Volume → Edited
replied_edit (gives n) v = record { code = 0; changed = n; volume = v }
replied_edit (refused c) v = record { code = c; changed = 0; volume = v }

-- the same of what the code answers for an edit of v
abbrev pub replied_result : Volume → Result E.Edited Refusal → Edited
replied_result v (Ok e) = replied_edit (gives e.count) e.volume
replied_result v (Err r) = replied_edit (refused (refusal_number r)) v

abbrev pub edit_reply : Outcome ℕ → Wrote Edited
edit_reply o = wrote_of (replied_edit o.answer o.state.volume) (storage o.state)

-- ---- over a header that is lent: C's number, and header and lists after the call

pub record Lent : Type 0 where
  pub reply : Number
  pub state : State

abbrev pub lent_of : Number → State → Lent
lent_of n s = record { reply = n; state = s }

abbrev pub lent_reply : Outcome ℕ → Lent
lent_reply o = lent_of (replied o.answer) o.state
