-- A slot inside the stand, by distances.
use Rattle.std.proofs.Common.{◌≡◌, ℕ, ◌+◌, ◌/◌, ◌%◌, ◌<◌, ◌≤◌, Bool, true, false, cond, ◌&&◌, ltb, ℤ, pos, ◌+ℤ◌, ◌-ℤ◌, sym, refl, ap, ◌∙◌, div-le_self, arith}
use native.Mathlib.Nat.{mod-le}
use lib.Dec.{leb-zero}
use lib.IntN.{+ℤ_comm, +ℤ-neg_ℤ_cancel}
use Rattle.stand.specs.Shape.{Below, cell_from, chunk_place, corner, counted, counts_of, inside, inside_on, shape_of, spot_at, well_formed}
use Rattle.stand.specs.declared.volume.Volume.{Volume}
use Rattle.stand.specs.declared.volume.shape.Point.{Point}
use Rattle.stand.proofs.Shape.{formed-counts}
use Rattle.form.specs.Entries.{inside_at}
use Rattle.form.specs.Inner.{inside_spot, slot_of}
use Rattle.form.specs.declared.record.Record.{Record}

-- a coordinate at a distance
on_spot : (o : ℤ) (n d : ℕ) → ltb d n ≡ inside_on o n (o +ℤ pos d)
unfolding inside_on
on_spot o n d =
    let ahead : (o +ℤ pos d) -ℤ o ≡ pos d = ap (λ (z : ℤ). z -ℤ o) (+ℤ_comm o (pos d)) ∙ +ℤ-neg_ℤ_cancel (pos d) o in
    rw (ahead, leb-zero d)

-- the test by distances is document 01's
pub inside_spot_lem : (v : Volume) → well_formed v ≡ true → (j : ℕ) {c n : Point} → c ≡ corner (counts_of v.chunks) (j / 4096) → n ≡ counts_of v.size → inside_spot c n (j % 4096) ≡ inside_at (shape_of v) j
unfolding inside_at inside inside_spot cell_from spot_at shape_of
inside_spot_lem v ok j {c} {n} ec en =
    let k = ec ∙ ap (λ (q : Point). corner q (j / 4096)) (formed-counts v ok) in
    rw (k, en)
    (λ i. on_spot v.origin.x (counts_of v.size).x ((corner (counted (shape_of v)) (j / 4096)).x + j % 4096 % 16) i
    && (on_spot v.origin.y (counts_of v.size).y ((corner (counted (shape_of v)) (j / 4096)).y + j % 4096 / 16 % 16) i
    && on_spot v.origin.z (counts_of v.size).z ((corner (counted (shape_of v)) (j / 4096)).z + j % 4096 / 256) i))

-- the test of a record, whose index within is in range
pub record_inside : (v : Volume) (r : Record) {c n : Point} → well_formed v ≡ true → r.within ≤ 4095 → c ≡ corner (counts_of v.chunks) r.section → n ≡ counts_of v.size
    → inside_spot c n r.within ≡ inside_at (shape_of v) (slot_of r)
record_inside v r {c} {n} ok w ec en =
    let s : r.section ≡ slot_of r / 4096 = omega arith in
    let m : r.within ≡ slot_of r % 4096 = omega arith in
    ap (inside_spot c n) m ∙ inside_spot_lem v ok (slot_of r) (ec ∙ ap (corner (counts_of v.chunks)) s) en

-- ---- distances that fit

pub corner_near : (k : Point) (i : ℕ) → i < 4294967296 → Below 68719476736 (corner k i)
unfolding corner chunk_place
corner_near k i h =
    let a = mod-le i k.x in
    let b = mod-le (i / k.x) k.y in
    let d = div-le_self i k.x in
    let e = div-le_self (i / k.x) k.y in
    record { x = omega arith; y = omega arith; z = omega arith }

pub kept_none : (t : Bool) (x : ℕ) → x ≡ 0 → 0 ≡ cond t x 0
kept_none true x e = sym e
kept_none false x e = refl
