-- Storing: C's number, and the output after the call (document 02, 2.2).
use Rattle.std.specs.Prelude.{ℕ, List}
use Rattle.form.specs.Calls.{Storing}
use Rattle.exports.specs.Reply.{replied}
use Rattle.exports.specs.declared.reply.Number.{Number}

pub record StoreReply : Type 0 where
  pub reply : Number
  pub out : List ℕ

abbrev pub store_reply_of : Number → List ℕ → StoreReply
store_reply_of n o = record { reply = n; out = o }

abbrev pub store_reply : Storing → StoreReply
store_reply s = store_reply_of (replied s.answer) s.out
