-- What the book and a state have in common after every call, and that opening, loading, set and fill keep it.
use mathlib.Core.Path.{◌≡◌, refl, sym, ap, ◌∙◌, subst}
use mathlib.Core.Bool.{Bool, true, false, cond, false≢true}
use mathlib.Core.List.{List, [], ◌∷◌, Memᴰ}
use Prim.Native.Nat.{ℕ, zero, suc, ◌+◌, ◌*◌, ◌/◌, ◌%◌}
use native.Mathlib.Omega.{arith}
use borrow.Author.Tests.{not-false}
use lib.ListN.{get_or, set}
use lib.Seq.{get_or-set_other, get_or-set_same}
use Rattle.stand.specs.Edit.{Edited, advanced, changed, edited, fitting, look, set_call, set_def, set_refusal}
use Rattle.stand.specs.Fill.{and_then, box_cells, box_of, fill_call, fill_def, fill_refusal, set_each}
use Rattle.stand.specs.Opening.{Opening, open_call, open_refusal, opened, opened_shape, opening_of}
use Rattle.stand.specs.Refusal.{◌⇒◌, first, gives, refused}
use Rattle.stand.specs.Shape.{Ranged, Shape, chunk_of, inside, opens, sections, shape_of, slot, well_formed}
use Rattle.stand.specs.Storage.{Lengths, Outcome, State, Storage, fresh_state, fresh_storage, joined, lengths_of, outcome_of, shape, storage, storage_fits, volume_of}
use Rattle.stand.specs.declared.Cell.{Cell}
use Rattle.stand.specs.declared.volume.Extent.{Extent}
use Rattle.stand.specs.declared.volume.Volume.{Volume}
use Rattle.stand.proofs.Edit.{by_put, changed-fitting, changed-formed, fitting-lengths, settable}
use Rattle.stand.proofs.Parts.{box-inside}
use Rattle.stand.proofs.Kept.{fresh_sound, zeros}
use Rattle.stand.proofs.Opening.{opened-opens, volume-formed}
use Rattle.stand.proofs.Refusal.{passes}
use Rattle.stand.proofs.Shape.{chunk-lt, slot-chunk, slot_inj, slot_lt}
use Rattle.stand.proofs.Tests.{by-test}
use Rattle.form.specs.Calls.{load_call, load_refusal, loaded}
use Rattle.form.specs.Entries.{Entry, loaded_storage}
use Rattle.form.specs.Form.{count_in, entries_in, head_shape}
use Rattle.form.proofs.Loads.{loads, loads_opens, loads_own, loads_ranged}
use Rattle.form.proofs.Loaded.{loaded_sound, placed-own, sound_fits}
use Rattle.ledger.specs.Book.{Book, Form, Source, fits_book, load_book, note_book, open_book, same_cell, set_all, set_book, source_book, unless, write_fill, write_load, write_open, write_set, write_source}
use Rattle.ledger.specs.Calls.{source_call}
use Rattle.ledger.proofs.Books.{book-other, book-same, set-shape-kept}
use Rattle.ledger.proofs.Notes.{Notes, notes_more, notes_none}
use Rattle.ledger.proofs.Same.{cells_same, same-cells}

pub record Tells (s : State) (b : Book) : Type 0 where
  pub formed : well_formed s.volume ≡ true
  pub fits : fitting s ≡ true
  pub shape_is : shape s ≡ b.shape
  pub opened : opens b.shape ≡ true
  pub ranged : Ranged b.shape.origin
  pub count-is : s.volume.generation ≡ b.count
  pub cells_are : (c : Cell) → inside b.shape c ≡ true → look (shape s) s.cells c ≡ b.look c
  pub notes : Notes (sections b.shape) b.count s.log s.last b.noted

pub tells_fresh : (g : Shape) → opens g ≡ true → Ranged g.origin → Tells (fresh_state g) (open_book g)
unfolding fresh_state fresh_storage volume_of shape_of open_book look
tells_fresh g e r =
    record {
      formed = (fresh_sound g e).formed;
      fits = (fresh_sound g e).fits;
      shape_is = refl;
      opened = e;
      ranged = r;
      count-is = refl;
      cells_are = λ c h. zeros (sections g * 4096) (slot g c);
      notes = notes_none (sections g) (λ j. 0);
    }

-- ---- one change

module _ (s : State) (b : Book) (t : Tells s b) (c : Cell) (v : ℕ) (at : inside b.shape c ≡ true) where
  inside_too : (d : Cell) → inside b.shape d ≡ true → inside (shape s) d ≡ true
  inside_too d h = ap (λ (g : Shape). inside g d) t.shape_is ∙ h

  opens_too : opens (shape s) ≡ true
  opens_too = ap opens t.shape_is ∙ t.opened

  cells_after : (d : Cell) → inside b.shape d ≡ true → get_or (set s.cells (slot (shape s) c) v) (slot (shape s) d) 0 ≡ cond (same_cell d c) v (b.look d)
  unfolding look
  cells_after d h =
      by-test (same_cell d c)
      (λ q.
      ap (λ (x : Cell). get_or (set s.cells (slot (shape s) c) v) (slot (shape s) x) 0) (same-cells d c q)
      ∙ get_or-set_same s.cells (slot (shape s) c) v 0 (omega (arith, (fitting-lengths s t.fits).cells, slot_lt (shape s) c opens_too (inside_too c at)))
      ∙ sym (ap (λ (z : Bool). cond z v (b.look d)) q))
      (λ q.
      get_or-set_other s.cells (slot (shape s) c) (slot (shape s) d) v 0
      (λ e. false≢true (sym q ∙ ap (λ (x : Cell). same_cell x c) (slot_inj (shape s) d c opens_too (inside_too d h) (inside_too c at) e) ∙ cells_same c))
      ∙ t.cells_are d h
      ∙ sym (ap (λ (z : Bool). cond z v (b.look d)) q))

  chunk-is : slot (shape s) c / 4096 ≡ chunk_of b.shape c
  chunk-is = ap (λ (g : Shape). slot g c / 4096) t.shape_is ∙ slot-chunk b.shape c

  notes_after : Notes (sections b.shape) (b.count + 1)
      (set s.log (s.volume.generation % sections (shape s)) (slot (shape s) c / 4096))
      (set s.last (slot (shape s) c / 4096) (s.volume.generation + 1))
      (note_book b c v).noted
  unfolding note_book
  notes_after =
      let l = fitting-lengths s t.fits in
      rw (chunk-is, t.shape_is, t.count-is)
      (notes_more t.notes (chunk_of b.shape c) (chunk-lt b.shape c t.opened at) (l.log ∙ ap sections t.shape_is) (l.last ∙ ap sections t.shape_is))

  tells_change : Tells (changed s (slot (shape s) c) v) (note_book b c v)
  unfolding changed advanced shape_of note_book look
  tells_change =
      record {
        formed = changed-formed s (slot (shape s) c) v ∙ t.formed;
        fits = changed-fitting s (slot (shape s) c) v ∙ t.fits;
        shape_is = t.shape_is;
        opened = t.opened;
        ranged = t.ranged;
        count-is = ap (λ (n : ℕ). n + 1) t.count-is;
        cells_are = cells_after;
        notes = notes_after;
      }

  pub tells_put : Tells (set_def s c v).state (set_book b c v)
  unfolding set_def look
  tells_put =
      by_put (λ (e : Edited). Tells e.state (set_book b c v)) s (slot (shape s) c) v
      (λ e. rw (book-same b c v (sym (t.cells_are c at) ∙ e)) t)
      (λ h. rw (book-other b c v (λ e. h (t.cells_are c at ∙ e))) tells_change)

-- ---- a call under its refusal's number, beside the book, which is refused alike

by_both : {A : Type 0} (P : A → Book → Type 0) (n : ℕ) (call : ℕ → A) (b d : Book) → ((k : ℕ) → P (call (suc k)) b) → (n ≡ 0 → P (call zero) d) → P (call n) (unless n b d)
unfolding unless
by_both P zero call b d n y = y refl
by_both P (suc k) call b d n y = n k

module _ (s : State) (b : Book) (t : Tells s b) where
  formed-alike : well_formed s.volume ≡ opens b.shape
  formed-alike = t.formed ∙ sym t.opened

  fits-alike : fitting s ≡ fits_book b (lengths_of (storage s))
  unfolding fitting fits_book
  fits-alike = ap (λ (g : Shape). storage_fits (sections g) (lengths_of (storage s))) t.shape_is

  -- ---- set

  module _ (c : Cell) (v : ℕ) where
    abbrev set_turns : ℕ
    set_turns = set_refusal (well_formed s.volume) (fitting s) (shape s) s.volume.generation (look (shape s) s.cells c) c v

    -- of a cell outside no finish is looked at
    old_alike : (formed fits : Bool) (n : ℕ) → set_refusal formed fits b.shape n (look (shape s) s.cells c) c v ≡ set_refusal formed fits b.shape n (b.look c) c v
    unfolding set_refusal first
    old_alike formed fits n =
        by-test (inside b.shape c)
        (λ q. ap (λ (x : ℕ). set_refusal formed fits b.shape n x c v) (t.cells_are c q))
        (λ q. rw q)

    set-alike : set_turns ≡ set_refusal (opens b.shape) (fits_book b (lengths_of (storage s))) b.shape b.count (b.look c) c v
    set-alike =
        (λ i. set_refusal (formed-alike i) (fits-alike i) (t.shape_is i) (t.count-is i) (look (shape s) s.cells c) c v)
        ∙ old_alike (opens b.shape) (fits_book b (lengths_of (storage s))) b.count

    pub by_set : (P : Outcome ℕ → Book → Type 0)
        → ((k : ℕ) → P (outcome_of (refused (suc k)) s) b)
        → (inside b.shape c ≡ true → P (outcome_of (gives (set_def s c v).count) (set_def s c v).state) (set_book b c v))
        → P (set_call s c v) (write_set b (lengths_of (storage s)) c v)
    unfolding set_call write_set edited
    by_set P n y =
        subst (λ (m : ℕ). P (edited set_turns s (set_def s c v)) (unless m b (set_book b c v))) set-alike
        (by_both P set_turns (λ m. edited m s (set_def s c v)) b (set_book b c v) n
        (λ e. y (ap (λ (g : Shape). inside g c) (sym t.shape_is) ∙ (settable _ _ _ _ _ _ _ e).inside_is)))

pub tells_set : (s : State) (b : Book) (c : Cell) (v : ℕ) → Tells s b → Tells (set_call s c v).state (write_set b (lengths_of (storage s)) c v)
tells_set s b c v t = by_set s b t c v (λ (o : Outcome ℕ) (d : Book). Tells o.state d) (λ k. t) (λ h. tells_put s b t c v h)

-- ---- fill

tells_all : (cs : List Cell) (e : Edited) (b : Book) (v : ℕ) → Tells e.state b → ((d : Cell) → Memᴰ d cs → inside b.shape d ≡ true) → Tells (set_each e cs v).state (set_all b cs v)
unfolding set_each set_all and_then
tells_all [] e b v t h = t
tells_all (c ∷ cs) e b v t h =
    tells_all cs (and_then e.count (set_def e.state c v)) (set_book b c v) v (tells_put e.state b t c v (h c (Memᴰ.head refl)))
    (λ d m. ap (λ (g : Shape). inside g d) (set-shape-kept b c v) ∙ h d (Memᴰ.tail m))

module _ (s : State) (b : Book) (t : Tells s b) (c d : Cell) (v : ℕ) where
  abbrev box : List Cell
  box = box_cells b.shape (box_of b.shape c d)

  tells_box : Tells (fill_def s c d v).state (set_all b box v)
  unfolding fill_def
  tells_box =
      rw t.shape_is (tells_all box (record { count = 0; state = s }) b v t (λ e m. box-inside b.shape c d e m))

  abbrev fill_turns : ℕ
  fill_turns = fill_refusal (well_formed s.volume) (fitting s) (shape s) s.volume.generation c d

  fill-alike : fill_turns ≡ fill_refusal (opens b.shape) (fits_book b (lengths_of (storage s))) b.shape b.count c d
  fill-alike = λ i. fill_refusal (formed-alike s b t i) (fits-alike s b t i) (t.shape_is i) (t.count-is i) c d

  pub by_fill : (P : Outcome ℕ → Book → Type 0)
      → ((k : ℕ) → P (outcome_of (refused (suc k)) s) b)
      → P (outcome_of (gives (fill_def s c d v).count) (fill_def s c d v).state) (set_all b (box_cells b.shape (box_of b.shape c d)) v)
      → P (fill_call s c d v) (write_fill b (lengths_of (storage s)) c d v)
  unfolding fill_call write_fill edited
  by_fill P n y =
      subst (λ (m : ℕ). P (edited fill_turns s (fill_def s c d v)) (unless m b (set_all b box v))) fill-alike
      (by_both P fill_turns (λ m. edited m s (fill_def s c d v)) b (set_all b box v) n (λ e. y))

pub tells_fill : (s : State) (b : Book) (c d : Cell) (v : ℕ) → Tells s b → Tells (fill_call s c d v).state (write_fill b (lengths_of (storage s)) c d v)
tells_fill s b c d v t = by_fill s b t c d v (λ (o : Outcome ℕ) (e : Book). Tells o.state e) (λ k. t) (tells_box s b t c d v)

-- ---- opening, on any storage

pub rules_pass : (a b : Bool) → a ≡ false → b ≡ false → first ((a ⇒ 1) ∷ (b ⇒ 2) ∷ []) ≡ 0
unfolding first
rules_pass a b p q = rw (p, q)

-- one that nothing refuses
pub open_passed : (o : Cell) (size : Extent) (l : Lengths) → open_refusal (opened_shape o size) l ≡ 0 → (opens (opened_shape o size) ≡ true) × (storage_fits (sections (opened_shape o size)) l ≡ true)
unfolding open_refusal
open_passed o size l e =
    let p = passes _ _ _ e in
    let q = passes _ _ _ p.1 in
    let r = passes _ _ _ q.1 in
    (opened-opens o size (rules_pass _ _ p.0 q.0), not-false _ r.0)

-- ---- loading, on any storage

module _ (f : Form) where
  abbrev entries : List Entry
  entries = entries_in f.bytes

  tells_loaded : (l : Lengths) → load_refusal f.bytes l ≡ 0
      → Tells (joined (volume_of (head_shape f.bytes) 0 (count_in f.bytes)) (loaded_storage (head_shape f.bytes) entries)) (load_book f.bytes)
  unfolding load_book look shape_of volume_of loaded_storage
  tells_loaded l e =
      let g = head_shape f.bytes in
      let h = loads f.bytes l e in
      let o = loads_opens f.bytes l f.typed h in
      let w = loads_own f.bytes l f.typed h in
      record {
        formed = volume-formed g 0 (count_in f.bytes) o;
        fits = sound_fits g entries (count_in f.bytes) (loaded_sound g entries o w.0 w.1);
        shape_is = refl;
        opened = o;
        ranged = loads_ranged f.bytes l f.typed h;
        count-is = refl;
        cells_are = λ c i. placed-own g entries w.0 w.1 (slot g c);
        notes = notes_none (sections g) (λ j. 0);
      }

-- ---- either opening of a stand, on any storage

-- the refusal's number, 0 for none; the header that it gives, and the storage that it leaves
abbrev pub source_refusal : Source → Lengths → ℕ
source_refusal (Source.empty o size) l = open_refusal (opened_shape o.cell size) l
source_refusal (Source.form f) l = load_refusal f.bytes l

abbrev pub source_header : Source → Volume
source_header (Source.empty o size) = volume_of (opened_shape o.cell size) 0 0
source_header (Source.form f) = volume_of (head_shape f.bytes) 0 (count_in f.bytes)

abbrev pub source_storage : Source → Storage
source_storage (Source.empty o size) = fresh_storage (sections (opened_shape o.cell size))
source_storage (Source.form f) = loaded_storage (head_shape f.bytes) (entries_in f.bytes)

-- one that nothing refuses: its lists fit, and what it leaves tells its book
pub source-passed : (x : Source) (l : Lengths) → source_refusal x l ≡ 0 → (opens (source_book x).shape ≡ true) × (storage_fits (sections (source_book x).shape) l ≡ true)
unfolding open_book load_book
source-passed (Source.empty o size) l e = open_passed o.cell size l e
source-passed (Source.form f) l e = let h = loads f.bytes l e in (loads_opens f.bytes l f.typed h, h.fits)

pub tells_source : (x : Source) (l : Lengths) → source_refusal x l ≡ 0 → Tells (joined (source_header x) (source_storage x)) (source_book x)
unfolding fresh_state opened_shape
tells_source (Source.empty o size) l e = tells_fresh (opened_shape o.cell size) (open_passed o.cell size l e).0 o.ranged
tells_source (Source.form f) l e = tells_loaded f l e

-- refused, storage and book stay; else both are made anew
pub by_opening : (P : Opening → Book → Type 0) (st : Storage) (b : Book) (x : Source)
    → ((k : ℕ) → P (opening_of (refused (suc k)) st) b)
    → (source_refusal x (lengths_of st) ≡ 0 → P (opening_of (gives (source_header x)) (source_storage x)) (source_book x))
    → P (source_call st x) (write_source b (lengths_of st) x)
unfolding open_call opened write_open load_call loaded write_load
by_opening P st b (Source.empty o size) n y =
    let g = opened_shape o.cell size in by_both P (open_refusal g (lengths_of st)) (λ m. opened m st g) b (open_book g) n y
by_opening P st b (Source.form f) n y = by_both P (load_refusal f.bytes (lengths_of st)) (λ m. loaded m st f.bytes) b (load_book f.bytes) n y
