-- Laws of the calls that only read: their refusals, and the cells that they answer.
use Rattle.std.proofs.Common.{◌≡◌, ℕ, ◌+◌, ◌*◌, ◌/◌, ◌<◌, ◌≤◌, true, false, not, List, ◌∷◌, length, get_or, ℤ, pos, ◌+ℤ◌, sym, ap, ◌∙◌, subst, mod-lt, mul_assoc, mul_comm, div-lt_iff_lt-mul, mul_left_comm, arith, w32, SFits, to_z, eq-eqb, eqb-true, le-leb, leb-true}
use borrow.Author.Tests.{lt-leb, not-false}
use lib.Signed.{mag}
use mir.ValLaws.{to_z_pos}
use Rattle.arith.specs.Level.{count_of, level_of}
use Rattle.arith.specs.Saturate.{saturate}
use Rattle.stand.specs.Cells.{cell_of, moved}
use Rattle.stand.specs.Read.{chunk_origin_call, entry_call, of_header}
use Rattle.stand.specs.Refusal.{Rule, ◌⇒◌, answer, first, gives, list_rules, refused}
use Rattle.stand.specs.Shape.{Below, Ranged, cell_from, chunk_place, chunks_in, chunks_on, clamp_at, clamp_on, clamp_spot, corner, counted, counts_of, levels_of, point_of, product, sections, shape_of, reach_of, well_formed}
use Rattle.stand.specs.declared.Cell.{Cell}
use Rattle.stand.specs.declared.volume.Volume.{Volume}
use Rattle.stand.specs.declared.volume.shape.Point.{Point}
use Rattle.stand.specs.declared.volume.shape.Reach.{Reach}
use Rattle.stand.proofs.Formed.{some-x, some-y}
use Rattle.stand.proofs.Levels.{clamp_law, from_law, last_law}
use Rattle.stand.proofs.Refusal.{passes}
use Rattle.stand.proofs.Shape.{Axis, Within, formed-counts, goods}

-- ---- refusals

-- a table that begins with 3
pub ill_formed : {A : Type 0} (v : Volume) (rs : List Rule) (a : A) → well_formed v ≡ false → refused 3 ≡ answer (first ((not (well_formed v) ⇒ 3) ∷ rs)) a
unfolding answer first
ill_formed v rs a e = rw e

-- rules of which none applies
pub record Listed (k : ℕ) (v : Volume) (l : ℕ) : Type 0 where
  pub formed : well_formed v ≡ true
  pub length : l ≡ sections (shape_of v) * k

pub listed : (k : ℕ) (v : Volume) (l : ℕ) {n : ℕ} → n ≡ first (list_rules k v l) → n ≡ 0 → Listed k v l
listed k v l e z =
    let p = passes _ 2 _ (sym e ∙ z) in
    let q = passes _ 3 _ p.1 in
    record { formed = not-false _ p.0; length = eqb-true _ _ (not-false _ q.0) }

-- ---- questions about the header

pub well_formed_lem : {A : Type 0} (v : Volume) (a : A) → well_formed v ≡ true → gives a ≡ of_header v a
unfolding of_header answer first
well_formed_lem v a e = rw e

-- ---- an entry for each section

module _ (v : Volume) (l : List ℕ) (i : ℕ) (f : Listed 1 v (length l)) where
  pub entry_high : length l ≤ i → refused 7 ≡ entry_call v l i
  unfolding entry_call answer first
  entry_high h = rw (f.formed, eq-eqb _ _ f.length, le-leb (sections (shape_of v)) i (omega (arith, f.length)))

  pub entry_given : i < length l → gives (get_or l i 0) ≡ entry_call v l i
  unfolding entry_call answer first
  entry_given h = rw (f.formed, eq-eqb _ _ f.length, lt-leb (sections (shape_of v)) i (omega (arith, f.length)))

-- ---- cells that the code makes from the origin

-- coordinates of a cell, from what owning it tells
pub ranged :
    {c : Cell} {A B C D : Type 0} →
    (A × (mag c.x < 2147483648)) × ((B × (mag c.y < 2147483648)) × ((C × (mag c.z < 2147483648)) × D)) → Ranged c
ranged t = record { x = record { sfits = t.0.1 }; y = record { sfits = t.1.0.1 }; z = record { sfits = t.1.1.0.1 } }

axis_step : {o : ℤ} {n k : ℕ} (d : ℕ) → SFits w32 o → Axis o n k → d < n → d < 2147483648 → saturate (o +ℤ to_z w32 d) ≡ o +ℤ pos d
axis_step {o} {n} d f a h s =
    ap (λ (z : ℤ). saturate (o +ℤ z)) (to_z_pos w32 d s)
    ∙ from_law o d f (omega (arith, leb-true (level_of o + n) 4294967296 (sym (last_law o n f) ∙ a.last)))

clamp-step : (o : ℤ) (n : ℕ) (c : ℤ) {lo ln lc : ℕ} → SFits w32 o → SFits w32 c
    → lo ≡ level_of o → ln ≡ n → lc ≡ level_of c → clamp_at lo ln lc ≡ clamp_on o n c
clamp-step o n c fo fc eo en ec = (λ i. clamp_at (eo i) (en i) (ec i)) ∙ sym (clamp_law o n c fo fc)

-- the lowest cell of a section that there is lies inside
corner-step : (n p : ℕ) → p < chunks_on n → p * 16 < n
unfolding chunks_on
corner-step n p h = omega arith

corner-inside : (n : Point) (i : ℕ) → i < product (chunks_in n) → Within n (corner (chunks_in n) i)
unfolding corner chunk_place chunks_in product
corner-inside n i h =
    let k = chunks_in n in
    let x = some-x k i h in
    let y = some-y k i h in
    let e : chunks_on n.x * chunks_on n.y * chunks_on n.z ≡ chunks_on n.z * chunks_on n.y * chunks_on n.x = simp (mul_assoc, mul_comm, mul_left_comm) in
    record {
      x = corner-step n.x _ (mod-lt i x);
      y = corner-step n.y _ (mod-lt (i / k.x) y);
      z = corner-step n.z _ ((div-lt_iff_lt-mul y).1 ((div-lt_iff_lt-mul x).1 (rw e at h)));
    }

module _ (v : Volume) (i : ℕ) {d : Point} (ok : well_formed v ≡ true) (l : i < sections (shape_of v)) (e : d ≡ corner (counts_of v.chunks) i) where
  at : d ≡ corner (counted (shape_of v)) i
  at = e ∙ ap (λ (k : Point). corner k i) (formed-counts v ok)

  pub corner_within : (d.x < (shape_of v).size.x) × (d.y < (shape_of v).size.y) × (d.z < (shape_of v).size.z)
  unfolding counted sections shape_of
  corner_within =
      let w = subst (Within (shape_of v).size) (sym at) (corner-inside (shape_of v).size i l) in
      (w.x, w.y, w.z)

  pub corner_made : {r : Cell} → r ≡ cell_from (shape_of v) d → gives r ≡ chunk_origin_call v i
  unfolding chunk_origin_call answer first
  corner_made q = rw (ok, lt-leb (sections (shape_of v)) i l) (ap gives (q ∙ ap (cell_from (shape_of v)) at))

module _ (v : Volume) (ok : well_formed v ≡ true) (f : Ranged v.origin) where
  -- a cell that the code makes at distances that are inside
  pub made : {r : Cell} (d : Point)
      → r ≡ moved v.origin (to_z w32 d.x) (to_z w32 d.y) (to_z w32 d.z)
      → d.x < (shape_of v).size.x → d.y < (shape_of v).size.y → d.z < (shape_of v).size.z
      → Below 2147483648 d → r ≡ cell_from (shape_of v) d
  unfolding moved cell_from shape_of well_formed
  made d q x y z s =
      let g = goods _ _ _ ok in
      q ∙ λ i. cell_of
      (axis_step d.x f.x g.x x s.x i)
      (axis_step d.y f.y g.y y s.y i)
      (axis_step d.z f.z g.z z s.z i)

  -- a cell clamped, by levels
  pub clamp_made : (c : Cell) {s : Reach} {p : Point} → Ranged c → s ≡ reach_of v → p ≡ levels_of c
      → point_of (clamp_at s.x.low s.x.count p.x) (clamp_at s.y.low s.y.count p.y) (clamp_at s.z.low s.z.count p.z) ≡ clamp_spot (shape_of v) c
  unfolding clamp_spot shape_of
  clamp_made c fc e ep =
      λ i. point_of
      (clamp-step v.origin.x (count_of v.size.x) c.x f.x fc.x (λ j. (e j).x.low) (λ j. (e j).x.count) (λ j. (ep j).x) i)
      (clamp-step v.origin.y (count_of v.size.y) c.y f.y fc.y (λ j. (e j).y.low) (λ j. (e j).y.count) (λ j. (ep j).y) i)
      (clamp-step v.origin.z (count_of v.size.z) c.z f.z fc.z (λ j. (e j).z.low) (λ j. (e j).z.count) (λ j. (ep j).z) i)
