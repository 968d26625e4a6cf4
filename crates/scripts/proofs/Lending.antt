-- How many sections a call is lent, of the program's lists.
use mathlib.Core.Path.{◌≡◌, sym, ap, ◌∙◌}
use mathlib.Core.Bool.{true, false}
use Prim.Native.Nat.{ℕ, ◌*◌, ◌≤◌, ◌<◌}
use native.Mathlib.Omega.{arith}
use borrow.Author.Tests.{le-leb, lt-leb}
use lib.ListN.{length}
use Rattle.stand.specs.Opening.{header_call, opened_shape, shape_rules}
use Rattle.stand.specs.Read.{of_header}
use Rattle.stand.specs.Refusal.{answer, first}
use Rattle.stand.specs.Shape.{sections, shape_of, well_formed}
use Rattle.stand.specs.Storage.{Storage, volume_of}
use Rattle.stand.specs.declared.Cell.{Cell}
use Rattle.stand.specs.declared.volume.Extent.{Extent}
use Rattle.stand.specs.declared.volume.Volume.{Volume}
use Rattle.stand.proofs.Opening.{opened-opens, volume-formed, volume-shape}
use Rattle.stand.proofs.Read.{ill_formed, well_formed_lem}
use Rattle.interpreter.specs.Room.{Lengths, chunks_in, chunks_of, lent_of, room_for, value_of, wanted_of}
use Rattle.interpreter.specs.Run.{held, lengths_in}
use Rattle.interpreter.specs.declared.Machine.{Machine}
use Rattle.scripts.proofs.Fronts.{Full}

-- ---- of n sections

pub lent-few : (n : ℕ) (s : Storage) → n ≤ 4 → Full s → lent_of n (lengths_in s 12) ≡ n
unfolding lent_of room_for
lent-few n s h u =
    rw (
      le-leb _ _ h,
      le-leb (n * 4096) (length s.cells) (omega (arith, u.cells)),
      le-leb n (length s.hashes) (omega (arith, u.hashes)),
      le-leb n (length s.versions) (omega (arith, u.versions)),
      le-leb n (length s.log) (omega (arith, u.log)),
      le-leb n (length s.last) (omega (arith, u.last)),
      le-leb (n * 3) 12 (omega arith),
    )

pub lent_many : (n : ℕ) (l : Lengths) → 4 < n → lent_of n l ≡ 0
unfolding lent_of room_for
lent_many n l h = rw (lt-leb n 4 h)

-- ---- of a header's sections

pub chunks-formed : (v : Volume) → well_formed v ≡ true → chunks_of v ≡ sections (shape_of v)
unfolding chunks_of
chunks-formed v e = ap value_of (sym (well_formed_lem v (sections (shape_of v)) e))

pub chunks_unformed : (v : Volume) → well_formed v ≡ false → chunks_of v ≡ 0
unfolding chunks_of of_header
chunks_unformed v e = ap value_of (sym (ill_formed v _ (sections (shape_of v)) e))

module _ (m : Machine) (s : Storage) (u : Full s) where
  pub held_all : well_formed m.volume ≡ true → sections (shape_of m.volume) ≤ 4 → held m s 12 ≡ sections (shape_of m.volume)
  unfolding held
  held_all e h = ap (λ n. lent_of n (lengths_in s 12)) (chunks-formed m.volume e) ∙ lent-few (sections (shape_of m.volume)) s h u

  pub held_none : well_formed m.volume ≡ false → held m s 12 ≡ 0
  unfolding held
  held_none e = ap (λ n. lent_of n (lengths_in s 12)) (chunks_unformed m.volume e) ∙ lent-few 0 s (omega arith) u

-- ---- of what an opening asks for

pub wanted_all : (o : Cell) (size : Extent) → first (shape_rules (opened_shape o size)) ≡ 0 → wanted_of o size ≡ sections (opened_shape o size)
unfolding wanted_of header_call answer
wanted_all o size e =
    ap (λ n. chunks_in (answer n (volume_of (opened_shape o size) 0 0))) e
    ∙ chunks-formed _ (volume-formed (opened_shape o size) 0 0 (opened-opens o size e))
    ∙ ap sections (volume-shape (opened_shape o size) 0 0)
