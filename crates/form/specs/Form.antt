-- The stored form: document 02, 2.2. Records of one kind byte and a fixed body, little-endian.
use Rattle.std.specs.Prelude.{ℕ, zero, suc, ◌+◌, ◌-◌, ◌*◌, ◌/◌, ◌%◌, Bool, true, ◌&&◌, List, [], ◌∷◌, ◌++◌, eqb, leb, ltb, length}
use Rattle.arith.specs.Level.{count_of, pattern_of}
use Rattle.stand.specs.Cells.{cell_of}
use Rattle.stand.specs.Shape.{Shape, point_of, sections}
use Rattle.arith.specs.Bytes.{byte_at, double_at, double_bytes, short_at, short_bytes, signed_at, word_bytes}
use Rattle.form.specs.Entries.{Entry, digest_with, entry_of, inside_at}

-- ---- kinds, and the length of a record of each, its kind byte among it

-- first: origin and size
abbrev pub head_kind : ℕ
head_kind = 1

abbrev pub head_length : ℕ
head_length = 25

-- one for each occupied cell inside the stand
abbrev pub cell_kind : ℕ
cell_kind = 2

abbrev pub cell_length : ℕ
cell_length = 7

-- last: the digest
abbrev pub end_kind : ℕ
end_kind = 0

abbrev pub end_length : ℕ
end_length = 9

-- ---- written

-- kind 1: origin and size, i32 each
unfoldable pub head_bytes : Shape → List ℕ
head_bytes g =
    head_kind ∷ word_bytes (pattern_of g.origin.x) ++ (word_bytes (pattern_of g.origin.y) ++ (word_bytes (pattern_of g.origin.z)
    ++ (word_bytes g.size.x ++ (word_bytes g.size.y ++ word_bytes g.size.z))))

-- kind 2: section, index within, finish, u16 each
unfoldable pub entry_bytes : Entry → List ℕ
entry_bytes e = cell_kind ∷ short_bytes (e.slot / 4096) ++ (short_bytes (e.slot % 4096) ++ short_bytes e.finish)

-- one record for each, in order
unfoldable pub entries_bytes : List Entry → List ℕ
entries_bytes [] = []
entries_bytes (e ∷ es) = entry_bytes e ++ entries_bytes es

-- kind 0: the digest, u64
unfoldable pub tail_bytes : ℕ → List ℕ
tail_bytes d = end_kind ∷ double_bytes d

-- the whole form of a stand of this shape with these cells
unfoldable pub form_of : Shape → List Entry → List ℕ
form_of g es = head_bytes g ++ (entries_bytes es ++ tail_bytes (digest_with g es))

-- ---- read: the head, then the cells, then the digest

-- the origin and size that a head has
unfoldable pub head_shape : List ℕ → Shape
head_shape f =
    record {
      origin = cell_of (signed_at f 1) (signed_at f 5) (signed_at f 9);
      size = point_of (count_of (signed_at f 13)) (count_of (signed_at f 17)) (count_of (signed_at f 21));
    }

-- a whole kind 1 comes first, with sizes of 1 or more
unfoldable pub has_head : List ℕ → Bool
has_head f =
    leb head_length (length f) && (eqb (byte_at f 0) head_kind
    && (leb 1 (head_shape f).size.x && (leb 1 (head_shape f).size.y && leb 1 (head_shape f).size.z)))

-- how many cells a form of this length has
unfoldable pub count_in : List ℕ → ℕ
count_in f = (length f - (head_length + end_length)) / cell_length

-- the cell of the record at a place
unfoldable pub entry_in : List ℕ → ℕ → Entry
entry_in f at = entry_of (short_at f (at + 1) * 4096 + short_at f (at + 3)) (short_at f (at + 5))

-- those of n records from a place on
unfoldable pub entries_at : List ℕ → ℕ → ℕ → List Entry
entries_at f at zero = []
entries_at f at (suc n) = entry_in f at ∷ entries_at f (at + cell_length) n

-- the cells that a form has
unfoldable pub entries_in : List ℕ → List Entry
entries_in f = entries_at f head_length (count_in f)

-- a cell's record: its kind, an index within of at most 4,095, a finish, a cell of the stand
unfoldable pub good_in : Shape → List ℕ → ℕ → Bool
good_in g f at =
    eqb (byte_at f at) cell_kind
    && (leb (short_at f (at + 3)) 4095
    && (ltb 0 (short_at f (at + 5))
    && (ltb (short_at f (at + 1)) (sections g) && inside_at g (entry_in f at).slot)))

-- n good records from a place on, ascending, the first at slot `next` or later
unfoldable pub good_from : Shape → List ℕ → ℕ → ℕ → ℕ → Bool
good_from g f at next zero = true
good_from g f at next (suc n) = good_in g f at && (leb next (entry_in f at).slot && good_from g f (at + cell_length) (suc (entry_in f at).slot) n)

-- after its kind 1: whole records, each good, ascending, and the digest, with no byte after it; records of cells have one length, so
-- the form's length says how many there are
unfoldable pub valid : Shape → List ℕ → Bool
valid g f =
    leb (head_length + end_length) (length f)
    && (eqb ((length f - (head_length + end_length)) % cell_length) 0
    && (good_from g f head_length 0 (count_in f)
    && (eqb (byte_at f (head_length + count_in f * cell_length)) end_kind
    && eqb (double_at f (head_length + 1 + count_in f * cell_length)) (digest_with g (entries_in f)))))
