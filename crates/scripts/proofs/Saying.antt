-- The program prints what its calls say.
use Rattle.std.specs.Prelude.{Some, None, Option}
use mathlib.Core.Path.{◌≡◌, refl, sym, ap, ◌∙◌, subst}
use mathlib.Core.Bool.{true}
use mathlib.Core.List.{List, [], ◌∷◌}
use Prim.Native.Nat.{ℕ, zero, suc, ◌≤◌}
use native.Mathlib.Omega.{arith}
use lib.ListN.{drop, length, length-replicate}
use Rattle.sheet.specs.Card.{terms_of}
use Rattle.ledger.specs.Claim.{book_sums}
use Rattle.arith.specs.Bytes.{Bytes}
use Rattle.interpreter.specs.Decode.{decode_of, length_of}
use Rattle.interpreter.specs.Line.{line_of}
use Rattle.interpreter.specs.Room.{Lists}
use Rattle.interpreter.specs.Run.{cut_step, run_step, terms_in}
use Rattle.interpreter.specs.Script.{decoded_step, followed, printed, printed_to, start_lists, step_of}
use Rattle.interpreter.specs.Start.{start_machine}
use Rattle.interpreter.specs.declared.Call.{Call}
use Rattle.interpreter.specs.declared.Call.TheVariants as K
use Rattle.interpreter.specs.declared.Machine.{Machine}
use Rattle.interpreter.specs.declared.Reply.TheVariants as R
use Rattle.scripts.specs.Page.{Page, blank, page_of, write}
use Rattle.scripts.specs.Quotes.{AllTyped, Held, Lent, Typed, held_after, run_all}
use Rattle.scripts.specs.Said.{on_stand, refresh_number, reply_read, reply_to, said, said_then, said_to, refused_or, write_read}
use Rattle.scripts.specs.Says.{Says}
use Rattle.scripts.proofs.Answering.{fill_says, open_says, rate_says, set_says}
use Rattle.scripts.proofs.Facewise.{each-rated, page_opens, rated-each}
use Rattle.scripts.proofs.Numbers.{call_in, call-unwritten}
use Rattle.scripts.proofs.Prefix.{own-bytes}
use Rattle.scripts.proofs.Quoted.{call-holds, start-holds}
use Rattle.scripts.proofs.Ranges.{TypedIn, decode_typed, drop-bytes}
use Rattle.scripts.proofs.Rated.{mask-kept, refresh_says}
use Rattle.scripts.proofs.Standing.{Holds}

-- ---- one call

-- what holds before every call: the mask has room as well
record Ready (m : Machine) (l : Lists) (p : Page) : Type 0 where
  pub holds : Holds m l p
  pub room : 256 ≤ length l.mask

module _ (m : Machine) (l : Lists) (p : Page) (w : Ready m l p) where
  abbrev h : Holds m l p
  h = w.holds

  call_says : (c : Call) → (run_step m l c).turn.reply ≡ reply_to p c
  unfolding run_step reply_to cut_step
  call_says (K.Open o size) = open_says m l.storage h.full _ h.rows o size
  call_says (K.Set c v) = set_says m l.storage (terms_in m l.rates) l.sheet h.full _ h.rows c v p.book h.standing
  call_says (K.Fill c d v) = fill_says m l.storage (terms_in m l.rates) l.sheet h.full _ h.rows c d v p.book h.standing
  call_says K.Refresh =
      refresh_says m l.storage l.rates l.mask l.sheet h.full h.rows w.room p.book h.standing
      ∙ (λ i.
      let t = terms_of (h.rates_are i) (h.cut-is i) true in
      on_stand p.book (λ b. refused_or (refresh_number t b) (R.Price b.count (book_sums t b))))
  call_says (K.Rate f r) = rate_says m l.rates f r h.rated
  call_says (K.Cut c) = refl

  room-kept : (c : Call) → 256 ≤ length (run_step m l c).lists.mask
  unfolding run_step
  room-kept (K.Open o size) = w.room
  room-kept (K.Set c v) = w.room
  room-kept (K.Fill c d v) = w.room
  room-kept K.Refresh = subst (λ n. 256 ≤ n) (sym (mask-kept m l.storage l.rates l.mask l.sheet w.room)) w.room
  room-kept (K.Rate f r) = w.room
  room-kept (K.Cut c) = w.room

  call_ready : (c : Call) → Typed c → Ready (run_step m l c).turn.machine (run_step m l c).lists (write p c)
  call_ready c t = record { holds = call-holds m l p h c t; room = room-kept c }

-- ---- a list of calls

run_ready : (h : Held) (p : Page) (cs : List Call) → AllTyped cs → Ready h.machine h.lists p → Ready (run_all h cs).machine (run_all h cs).lists (page_of p cs)
unfolding run_all page_of AllTyped
run_ready h p [] t w = w
run_ready h p (c ∷ cs) t w =
    run_ready (held_after (run_step h.machine h.lists c)) (write p c) cs t.1 (call_ready h.machine h.lists p w c t.0)

-- ---- a script

script_says : (n : ℕ) (m : Machine) (l : Lists) (p : Page) (b : List ℕ) → Ready m l p → Bytes b → printed_to n m l b ≡ said_to n p b
unfolding printed_to said_to step_of decoded_step line_of
script_says zero m l p b w v = refl
script_says (suc n) m l p [] w v = refl
script_says (suc n) m l p (kind ∷ b) w v = go (decode_of (kind ∷ b)) refl (script_says n)
  where
    left : List ℕ
    left = drop (length_of kind) (kind ∷ b)

    go : (d : Option Call) → decode_of (kind ∷ b) ≡ d
        → ((m : Machine) (l : Lists) (p : Page) (b : List ℕ) → Ready m l p → Bytes b → printed_to n m l b ≡ said_to n p b)
        → followed (decoded_step m l d) (λ m l. printed_to n m l left) ≡ said_then (reply_read p d) (said_to n (write_read p d) left)
    go (Some call) e more =
        let a = run_step m l call in
        let later = printed_to n a.turn.machine a.lists left in
        (λ i. said_then (call_says m l p w call i) later)
        ∙ ap (said_then (reply_to p call))
        (more a.turn.machine a.lists (write p call) left (call_ready m l p w call (subst TypedIn e (decode_typed (kind ∷ b) v))) (drop-bytes (length_of kind) (kind ∷ b) v))
    go None e more = refl

start-lent : Lent start_lists
start-lent =
    record {
      cells = length-replicate {A = ℕ} 16384 0;
      hashes = length-replicate {A = ℕ} 4 0;
      versions = length-replicate {A = ℕ} 4 0;
      log = length-replicate {A = ℕ} 4 0;
      last = length-replicate {A = ℕ} 4 0;
      rates = refl;
      sheet = length-replicate {A = ℕ} 12 0;
    }

start_ready : (l : Lists) → Lent l → 256 ≤ length l.mask → Ready start_machine l blank
start_ready l w r = record { holds = start-holds l w; room = r }

pub says : Says
unfolding printed said
says =
    record {
      script = λ b v. script_says (length b) start_machine start_lists blank b (start_ready start_lists start-lent (omega (arith, length-replicate {A = ℕ} 256 0))) v;
      any_lists = λ l b w r v. script_says (length b) start_machine l blank b (start_ready l w r) v;
      front = own-bytes;
      typed = λ b c v e. subst TypedIn e (decode_typed b v);
      reply = λ l cs c w r t.
          call_says _ _ (page_of blank cs) (run_ready (record { machine = start_machine; lists = l }) blank cs t (start_ready l w r)) c;
      numbers = λ l cs c n w r t e.
          call_in (page_of blank cs) c n
          (sym (call_says _ _ (page_of blank cs) (run_ready (record { machine = start_machine; lists = l }) blank cs t (start_ready l w r)) c) ∙ e);
      unwritten = call-unwritten;
      rated = λ cs b e t. (rated-each t b (page_opens cs b e), each-rated t b);
    }
