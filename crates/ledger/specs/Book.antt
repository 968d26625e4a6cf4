-- The book: document 01, 'The book behind the sums', and document 02, 2.2.
use Rattle.std.specs.Prelude.{ℕ, zero, suc, ◌+◌, ◌<◌, ◌≤◌, ◌≡◌, Bool, cond, ◌&&◌, List, [], ◌∷◌, eqb, ℤ}
use Rattle.std.specs.Int.Signed.{le_z}
use Rattle.stand.specs.Edit.{set_refusal}
use Rattle.stand.specs.Fill.{box_cells, box_of, fill_refusal}
use Rattle.stand.specs.Opening.{open_refusal, opened_shape}
use Rattle.stand.specs.Shape.{Ranged, Shape, chunk_of, opens, sections, slot}
use Rattle.stand.specs.Storage.{Lengths, storage_fits}
use Rattle.stand.specs.declared.Cell.{Cell}
use Rattle.stand.specs.declared.volume.Extent.{Extent}
use Rattle.arith.specs.Bytes.{Bytes}
use Rattle.form.specs.Calls.{load_refusal}
use Rattle.form.specs.Entries.{lookup}
use Rattle.form.specs.Form.{entries_in, head_shape}

-- origin and size, a finish for each cell, a count, and under each number from 1 to the count one section
pub record Book : Type 0 where
  pub shape : Shape
  pub look : Cell → ℕ
  pub count : ℕ
  pub noted : ℕ → ℕ

-- opening: all cells empty, nothing noted
unfoldable pub open_book : Shape → Book
open_book g = record { shape = g; look = λ c. 0; count = 0; noted = λ j. 0 }

-- loading (document 02, 2.2): the form's origin, size and cells, count 0, nothing noted
unfoldable pub load_book : List ℕ → Book
load_book f = record { shape = head_shape f; look = λ c. lookup (entries_in f) (slot (head_shape f) c); count = 0; noted = λ j. 0 }

abbrev same_z : ℤ → ℤ → Bool
same_z a b = le_z a b && le_z b a

unfoldable pub same_cell : Cell → Cell → Bool
same_cell c d = same_z c.x d.x && (same_z c.y d.y && same_z c.z d.z)

-- set: the cell takes the finish; if it had another, the count goes up by 1 and the cell's section is noted under that number
unfoldable pub note_book : Book → Cell → ℕ → Book
note_book b c v =
    record {
      shape = b.shape;
      look = λ d. cond (same_cell d c) v (b.look d);
      count = b.count + 1;
      noted = λ j. cond (eqb j (b.count + 1)) (chunk_of b.shape c) (b.noted j);
    }

unfoldable pub set_book : Book → Cell → ℕ → Book
set_book b c v = cond (eqb (b.look c) v) b (note_book b c v)

-- fill: a set of each cell, in order
unfoldable pub set_all : Book → List Cell → ℕ → Book
set_all b [] v = b
set_all b (c ∷ cs) v = set_all (set_book b c v) cs v

-- ---- what a call that changes the book writes, from its arguments and the lengths of the storage lent; one refused, the count read as generation, nothing

-- under a refusal's number, 0 for none
unfoldable pub unless : ℕ → Book → Book → Book
unless zero b c = c
unless (suc n) b c = b

unfoldable pub write_open : Book → Lengths → Cell → Extent → Book
write_open b l o size = unless (open_refusal (opened_shape o size) l) b (open_book (opened_shape o size))

unfoldable pub write_load : Book → Lengths → List ℕ → Book
write_load b l f = unless (load_refusal f l) b (load_book f)

-- where a stand is opened: coordinates are i32, as the call's type has it
pub record Origin : Type 0 where
  pub cell : Cell
  pub ranged : Ranged cell

-- what is loaded: any bytes, as the call's type has it
pub record Form : Type 0 where
  pub bytes : List ℕ
  pub typed : Bytes bytes

-- the openings of the stand: all cells empty, or those of a form that is loaded
pub data Source : Type 0 where
  empty : Origin → Extent → Source
  form : Form → Source

-- the book of a stand just opened
abbrev pub source_book : Source → Book
source_book (Source.empty o size) = open_book (opened_shape o.cell size)
source_book (Source.form f) = load_book f.bytes

abbrev pub write_source : Book → Lengths → Source → Book
write_source b l (Source.empty o size) = write_open b l o.cell size
write_source b l (Source.form f) = write_load b l f.bytes

unfoldable pub fits_book : Book → Lengths → Bool
fits_book b l = storage_fits (sections b.shape) l

unfoldable pub write_set : Book → Lengths → Cell → ℕ → Book
write_set b l c v = unless (set_refusal (opens b.shape) (fits_book b l) b.shape b.count (b.look c) c v) b (set_book b c v)

unfoldable pub write_fill : Book → Lengths → Cell → Cell → ℕ → Book
write_fill b l c d v =
    unless (fill_refusal (opens b.shape) (fits_book b l) b.shape b.count c d) b (set_all b (box_cells b.shape (box_of b.shape c d)) v)

-- the edits: a cell takes a finish, or every cell of the stand in a box between two corners does
pub data Edit : Type 0 where
  one : Cell → ℕ → Edit
  box : Cell → Cell → ℕ → Edit

abbrev pub write_edit : Book → Lengths → Edit → Book
write_edit b l (Edit.one c v) = write_set b l c v
write_edit b l (Edit.box c d v) = write_fill b l c d v

-- section i has changed since a mark: it is noted under a number above the mark
pub record Changed (b : Book) (mark i : ℕ) : Type 0 where
  pub number : ℕ
  pub above : mark < number
  pub within : number ≤ b.count
  pub is : b.noted number ≡ i
