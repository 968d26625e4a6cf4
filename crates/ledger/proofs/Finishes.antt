-- A card that prices the finishes of a list prices those of its book; and every list has such a card.
use mathlib.Core.Path.{◌≡◌, refl}
use mathlib.Core.Bool.{Bool, true, false, cond, ◌||◌}
use mathlib.Core.List.{List, [], ◌∷◌, map}
use Prim.Native.Nat.{ℕ, ◌+◌, ◌≤◌}
use native.Mathlib.Omega.{arith}
use borrow.Author.Tests.{le-leb, lt-ltb}
use lib.Dec.{eqb, leb, ltb}
use lib.ListN.{get_or, length, length-replicate, replicate}
use Rattle.stand.specs.Shape.{slot}
use Rattle.stand.specs.Storage.{Lengths, lengths_of, storage}
use Rattle.stand.specs.declared.Cell.{Cell}
use Rattle.stand.proofs.Kept.{zeros}
use Rattle.form.specs.Entries.{Entry, lookup}
use Rattle.form.specs.Form.{entries_in, head_shape}
use Rattle.mesh.specs.Cover.{Each}
use Rattle.sheet.specs.Card.{Terms, limit, payable, rated}
use Rattle.ledger.specs.Book.{Book, Edit, Source, load_book, note_book, open_book, same_cell, set_all, set_book, source_book, write_fill, write_load, write_open, write_set}
use Rattle.ledger.specs.Breadth.{AllPay, Later, Pays, Priceable, later}
use Rattle.ledger.specs.Calls.{Call, Effect, Four, book, effect_of, feed, given, step, write}
use Rattle.ledger.proofs.Books.{by_book}
use Rattle.ledger.proofs.Shows.{unless_so}

-- ---- the finishes of a list's book

module _ (rates : List ℕ) where
  -- every finish of the book has a rate
  abbrev pub AllRated : Book → Type 0
  AllRated b = (c : Cell) → payable rates (b.look c) ≡ true

  set-rated : (b : Book) (c : Cell) (v : ℕ) → payable rates v ≡ true → AllRated b → AllRated (set_book b c v)
  unfolding note_book
  set-rated b c v p h = by_book AllRated b c v (λ _. h) (λ _ d. one d (same_cell d c))
    where
      one : (d : Cell) (x : Bool) → payable rates (cond x v (b.look d)) ≡ true
      one d true = p
      one d false = h d

  all-rated : (cs : List Cell) (b : Book) (v : ℕ) → payable rates v ≡ true → AllRated b → AllRated (set_all b cs v)
  unfolding set_all
  all-rated [] b v p h = h
  all-rated (c ∷ cs) b v p h = all-rated cs (set_book b c v) v p (set-rated b c v p h)

  lookup-rated : (es : List Entry) (k : ℕ) → Each (λ e. payable rates e.finish ≡ true) es → payable rates (lookup es k) ≡ true
  unfolding lookup payable
  lookup-rated [] k h = refl
  lookup-rated (e ∷ es) k h = one (eqb k e.slot) (lookup-rated es k h.1)
    where
      one : (x : Bool) → payable rates (lookup es k) ≡ true → payable rates (cond x e.finish (lookup es k)) ≡ true
      one true p = h.0
      one false p = p

  pub source-rated : (x : Source) → Pays rates (Effect.opens_stand x) → AllRated (source_book x)
  unfolding open_book load_book payable
  source-rated (Source.empty o size) p c = refl
  source-rated (Source.form f) p c = lookup-rated (entries_in f.bytes) (slot (head_shape f.bytes) c) p

  write-rated : (b : Book) (l : Lengths) (e : Effect) → Pays rates e → AllRated b → AllRated (write b l e)
  unfolding write write_open write_load write_set write_fill
  write-rated b l (Effect.opens_stand (Source.empty o size)) p h = unless_so AllRated _ b _ h (source-rated (Source.empty o size) p)
  write-rated b l (Effect.opens_stand (Source.form f)) p h = unless_so AllRated _ b _ h (source-rated (Source.form f) p)
  write-rated b l (Effect.edits (Edit.one c v)) p h = unless_so AllRated _ b _ h (set-rated b c v p h)
  write-rated b l (Effect.edits (Edit.box c d v)) p h = unless_so AllRated _ b _ h (all-rated _ b v p h)
  write-rated b l (Effect.opens_sheet t m) p h = h
  write-rated b l (Effect.refreshes t m) p h = h
  write-rated b l Effect.leaves p h = h

  pub book-rated : (cs : List Call) (s : Four) (b : Book) → AllPay rates cs → AllRated b → AllRated (book b (feed s cs))
  unfolding book feed
  book-rated [] s b p h = h
  book-rated (c ∷ cs) s b p h =
      book-rated cs (step s c) (write b (lengths_of (storage (given s c).state)) (effect_of c.op)) p.1
      (write-rated b (lengths_of (storage (given s c).state)) (effect_of c.op) p.0 h)

-- ---- a card for a list

abbrev finishes : List Entry → ℕ
finishes [] = 0
finishes (e ∷ es) = e.finish + finishes es

-- no finish that a call brings is above it
abbrev top : Effect → ℕ
top (Effect.opens_stand (Source.empty o size)) = 0
top (Effect.opens_stand (Source.form f)) = finishes (entries_in f.bytes)
top (Effect.edits (Edit.one c v)) = v
top (Effect.edits (Edit.box c d v)) = v
top (Effect.opens_sheet t m) = 0
top (Effect.refreshes t m) = 0
top Effect.leaves = 0

abbrev tops : List Call → ℕ
tops [] = 0
tops (c ∷ cs) = top (effect_of c.op) + tops cs

-- the terms of a refresh do not count
top_later : (t u : Terms) (y : Later) → top (effect_of (later t y).op) ≡ top (effect_of (later u y).op)
top_later t u (Later.set c v) = refl
top_later t u (Later.set_lent c v) = refl
top_later t u (Later.fill c d v) = refl
top_later t u (Later.refresh m) = refl
top_later t u Later.totals = refl
top_later t u (Later.reads r) = refl
top_later t u (Later.lent_empty o) = refl

tops_later : (t u : Terms) (ys : List Later) → tops (map (later t) ys) ≡ tops (map (later u) ys)
tops_later t u [] = refl
tops_later t u (y ∷ ys) = λ i. top_later t u y i + tops_later t u ys i

module _ (n : ℕ) where
  abbrev nothings : List ℕ
  nothings = replicate (n + 1) 0

  low_paid : (v : ℕ) → v ≤ n → payable nothings v ≡ true
  unfolding payable rated
  low_paid v h =
      let none : ℕ = 0 in
      let p : ltb v (length nothings) ≡ true = lt-ltb v (length nothings) (omega (arith, length-replicate (n + 1) none)) in
      let q : leb (get_or nothings v 0) limit ≡ true = le-leb (get_or nothings v 0) limit (omega (arith, zeros (n + 1) v)) in
      or_so (eqb v 0) _ (rw (p, q))
    where
      or_so : (a b : Bool) → b ≡ true → (a || b) ≡ true
      or_so true b e = refl
      or_so false b e = e

  low_entries : (es : List Entry) → finishes es ≤ n → Each (λ e. payable nothings e.finish ≡ true) es
  low_entries [] h = tt
  low_entries (e ∷ es) h = (low_paid e.finish (omega arith), low_entries es (omega arith))

  low-pays : (e : Effect) → top e ≤ n → Pays nothings e
  low-pays (Effect.opens_stand (Source.empty o size)) h = tt
  low-pays (Effect.opens_stand (Source.form f)) h = low_entries (entries_in f.bytes) h
  low-pays (Effect.edits (Edit.one c v)) h = low_paid v h
  low-pays (Effect.edits (Edit.box c d v)) h = low_paid v h
  low-pays (Effect.opens_sheet t m) h = tt
  low-pays (Effect.refreshes t m) h = tt
  low-pays Effect.leaves h = tt

  all_pay : (cs : List Call) → tops cs ≤ n → AllPay nothings cs
  all_pay [] h = tt
  all_pay (c ∷ cs) h = (low-pays (effect_of c.op) (omega arith), all_pay cs (omega arith))

pub priceable : (xs : List Call) (ys : List Later) → Priceable xs ys
priceable xs ys =
    let u : Terms = record { rates = []; cut = 0; beyond = true } in
    let n = tops xs + tops (map (later u) ys) in
    record {
      rates = replicate (n + 1) 0;
      before = all_pay n xs (omega arith);
      since = λ t. all_pay n (map (later t) ys) (omega (arith, tops_later t u ys));
    }
