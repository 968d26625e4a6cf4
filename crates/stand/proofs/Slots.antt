-- The cell of a slot, and the slot of a cell.
use Rattle.std.proofs.Common.{◌≡◌, ℕ, ◌+◌, ◌*◌, ◌/◌, ◌%◌, ◌<◌, true, ℤ, pos, negsuc, ap, ◌∙◌, div-add-mod', arith, w32, SFits, le-ltb}
use lib.Arith.{digits_div, digits_mod}
use Rattle.arith.specs.Saturate.{saturate}
use Rattle.stand.specs.Cells.{cell_of, moved}
use Rattle.stand.specs.Shape.{Ranged, Shape, Stored, cell_at, cell_from, chunk_place, corner, counted, distance, inside, opens, over, point_of, rest, section_at, slot, slot_at, spot_at, within_at}
use Rattle.stand.specs.declared.Cell.{Cell}
use Rattle.stand.specs.declared.volume.shape.Point.{Point}
use Rattle.stand.proofs.Shape.{from-distance, inside-within, slot-at-chunk, slot-from, stored}

-- ---- by numbers

-- a section's place, and back
pub place-section : (k p : Point) → p.x < k.x → p.y < k.y → chunk_place k (section_at k p) ≡ p
unfolding chunk_place section_at
place-section k p hx hy =
    let e : ((p.z * k.y + p.y) * k.x + p.x) / k.x ≡ p.z * k.y + p.y = digits_div (p.z * k.y + p.y) hx in
    λ i. point_of
    (digits_mod (p.z * k.y + p.y) hx i)
    ((ap (λ (n : ℕ). n % k.y) e ∙ digits_mod p.z hy) i)
    ((ap (λ (n : ℕ). n / k.y) e ∙ digits_div p.z hy) i)

pub section-place : (k : Point) (j : ℕ) → section_at k (chunk_place k j) ≡ j
unfolding chunk_place section_at
section-place k j = ap (λ (n : ℕ). n * k.x + j % k.x) (div-add-mod' (j / k.x) k.y) ∙ div-add-mod' j k.x

slot-within : (k d : Point) → slot_at k d % 4096 ≡ within_at (rest d)
unfolding slot_at within_at rest
slot-within k d = digits_mod (section_at k (over d)) (omega arith)

pub spot_of-slot : (k d : Point) → Stored k d → spot_at k (slot_at k d) ≡ d
unfolding spot_at corner over rest within_at
spot_of-slot k d r =
    let p : chunk_place k (slot_at k d / 4096) ≡ over d = ap (chunk_place k) (slot-at-chunk k d) ∙ place-section k (over d) r.x r.y in
    let w = slot-within k d in
    λ i. point_of (x p w i) (y p w i) (z p w i)
  where
    x : {p : Point} {w : ℕ} → p ≡ over d → w ≡ within_at (rest d) → p.x * 16 + w % 16 ≡ d.x
    x p w = (λ i. (p i).x * 16 + w i % 16) ∙ omega arith

    y : {p : Point} {w : ℕ} → p ≡ over d → w ≡ within_at (rest d) → p.y * 16 + w / 16 % 16 ≡ d.y
    y p w = (λ i. (p i).y * 16 + w i / 16 % 16) ∙ omega arith

    z : {p : Point} {w : ℕ} → p ≡ over d → w ≡ within_at (rest d) → p.z * 16 + w / 256 ≡ d.z
    z p w = (λ i. (p i).z * 16 + w i / 256) ∙ omega arith

pub slot_of_spot : (k : Point) (j : ℕ) → slot_at k (spot_at k j) ≡ j
unfolding slot_at spot_at corner over rest within_at
slot_of_spot k j =
    let p = chunk_place k (j / 4096) in
    let w = j % 4096 in
    (λ i. section_at k (point_of (high p.x (w % 16) (omega arith) i) (high p.y (w / 16 % 16) (omega arith) i) (high p.z (w / 256) (omega arith) i)) * 4096
    + ((low p.z (w / 256) (omega arith) i * 16 + low p.y (w / 16 % 16) (omega arith) i) * 16 + low p.x (w % 16) (omega arith) i))
    ∙ ap (λ (n : ℕ). n * 4096 + ((w / 256 * 16 + w / 16 % 16) * 16 + w % 16)) (section-place k (j / 4096))
    ∙ omega arith
  where
    high : (q r : ℕ) → r < 16 → (q * 16 + r) / 16 ≡ q
    high q r h = digits_div q h

    low : (q r : ℕ) → r < 16 → (q * 16 + r) % 16 ≡ r
    low q r h = digits_mod q h

-- ---- by cells

ranged : (z : ℤ) → SFits w32 z → saturate z ≡ z
unfolding saturate
ranged (pos n) f = rw (le-ltb 2147483647 n (omega (arith, f.sfits)))
ranged (negsuc n) f = rw (le-ltb 2147483647 n (omega (arith, f.sfits)))

pub cell-from-slot : (g : Shape) (c : Cell) → opens g ≡ true → inside g c ≡ true → cell_from g (spot_at (counted g) (slot g c)) ≡ c
unfolding slot
cell-from-slot g c e h =
    ap (cell_from g) (spot_of-slot (counted g) (distance g c) (stored g (distance g c) e (inside-within g c h))) ∙ from-distance g c h

-- the cell of a cell's slot
pub cell_of-slot : (g : Shape) (c : Cell) → opens g ≡ true → inside g c ≡ true → Ranged c → cell_at g (slot g c) ≡ c
unfolding cell_at moved cell_from
cell_of-slot g c e h r =
    let p = cell-from-slot g c e h in
    λ i. cell_of (on (λ j. (p j).x) r.x i) (on (λ j. (p j).y) r.y i) (on (λ j. (p j).z) r.z i)
  where
    on : {a b : ℤ} → a ≡ b → SFits w32 b → saturate a ≡ b
    on p f = ap saturate p ∙ ranged _ f

-- the slot of a slot's cell, where that cell is not beyond the size
pub slot_of_cell : (g : Shape) (j : ℕ) → slot g (cell_from g (spot_at (counted g) j)) ≡ j
slot_of_cell g j = slot-from g (spot_at (counted g) j) ∙ slot_of_spot (counted g) j
