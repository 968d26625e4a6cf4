-- Every cell inside lies in exactly one section's part, and no two sections have panels of a common face.
use mathlib.Core.Path.{◌≡◌, refl, sym, ap, ◌∙◌}
use mathlib.Core.Bool.{Bool, true}
use mathlib.Core.List.{List}
use Prim.Native.Nat.{ℕ, zero, suc, ◌+◌, ◌-◌, ◌*◌, ◌/◌, ◌%◌, ◌≤◌, ◌<◌, min}
use native.Mathlib.Nat.{mul-le-mul}
use native.Mathlib.Omega.{arith}
use lib.ListN.{length}
use Rattle.stand.specs.Shape.{Shape, cell_from, chunk_of, chunk_place, corner, counted, distance, inside, opens, over, point_of, product, rest, section_at, sections}
use Rattle.stand.specs.declared.Cell.{Cell}
use Rattle.stand.specs.declared.Face.{Face}
use Rattle.stand.specs.declared.volume.shape.Point.{Point}
use Rattle.stand.proofs.Shape.{Within, chunk-lt, distance-from, from-distance, inside-from, inside-within, stored}
use Rattle.mesh.specs.Cover.{cover_count, face_sum, faces_in, seen, sum_to}
use Rattle.mesh.specs.Panels.{face_of, part_panels}
use Rattle.mesh.specs.Part.{added, section_part}
use Rattle.mesh.specs.Visible.{shown}
use Rattle.mesh.specs.declared.Quad.{Quad}
use Rattle.stand.proofs.Slots.{place-section, section-place}
use Rattle.mesh.proofs.Panels.{InPart, part_count, part-few, part-most, part_only, part-sum}
use Rattle.mesh.proofs.Slices.{sum_only}

-- the place of an inside cell's section
pub chunk-place : (g : Shape) (c : Cell) → opens g ≡ true → inside g c ≡ true → chunk_place (counted g) (chunk_of g c) ≡ over (distance g c)
unfolding chunk_of over
chunk-place g c o h =
    let r = stored g (distance g c) o (inside-within g c h) in
    place-section (counted g) (over (distance g c)) r.x r.y

-- ---- the cells of a section's part

module _ (g : Shape) (i : ℕ) (e : Point) (w : Within (section_part g i).count e) where
  abbrev at : Point
  at = added (section_part g i).low e

  section-within : Within g.size at
  unfolding added section_part
  section-within =
      let p = corner (counted g) i in
      record { x = on g.size.x p.x e.x w.x; y = on g.size.y p.y e.y w.y; z = on g.size.z p.z e.z w.z }
    where
      on : (n p d : ℕ) → d < min 16 (n - p) → p + d < n
      on n p d h = omega arith

  section-over : over at ≡ chunk_place (counted g) i
  unfolding added section_part over corner
  section-over =
      let p = chunk_place (counted g) i in
      λ j. point_of (on g.size.x p.x e.x w.x j) (on g.size.y p.y e.y w.y j) (on g.size.z p.z e.z w.z j)
    where
      on : (n p d : ℕ) → d < min 16 (n - p * 16) → (p * 16 + d) / 16 ≡ p
      on n p d h = omega arith

-- a cell of section i's part is inside, and its section is i
pub part-inside : (g : Shape) (i : ℕ) (c : Cell) → InPart g (section_part g i) c → inside g c ≡ true
part-inside g i c p = ap (inside g) p.cell ∙ inside-from g _ (section-within g i p.at p.within)

pub part-chunk : (g : Shape) (i : ℕ) (c : Cell) → InPart g (section_part g i) c → chunk_of g c ≡ i
unfolding chunk_of
part-chunk g i c p =
    ap (λ (c : Cell). section_at (counted g) (over (distance g c))) p.cell
    ∙ ap (λ (d : Point). section_at (counted g) (over d)) (distance-from g (added (section_part g i).low p.at))
    ∙ ap (section_at (counted g)) (section-over g i p.at p.within)
    ∙ section-place (counted g) i

-- a cell inside is one of its section's part
pub chunk_part : (g : Shape) (c : Cell) → opens g ≡ true → inside g c ≡ true → InPart g (section_part g (chunk_of g c)) c
unfolding section_part corner over rest added
chunk_part g c o h =
    let p = chunk-place g c o h in
    let d = distance g c in
    let n = inside-within g c h in
    record {
      at = rest d;
      within = record { x = low (ap (λ (p : Point). p.x) p) n.x; y = low (ap (λ (p : Point). p.y) p) n.y; z = low (ap (λ (p : Point). p.z) p) n.z };
      cell = sym (from-distance g c h)
          ∙ ap (cell_from g) (λ j. point_of (whole (ap (λ (p : Point). p.x) p) j) (whole (ap (λ (p : Point). p.y) p) j) (whole (ap (λ (p : Point). p.z) p) j));
    }
  where
    low : {n d p : ℕ} → p ≡ d / 16 → d < n → d % 16 < min 16 (n - p * 16)
    low e h = omega arith

    whole : {d p : ℕ} → p ≡ d / 16 → d ≡ p * 16 + d % 16
    whole e = omega arith

-- ---- the panels of the sections

module _ (beyond : Bool) (g : Shape) (look : Cell → ℕ) where
  abbrev panels : ℕ → List Quad
  panels i = part_panels beyond g look (section_part g i)

  -- panels of two sections have no face in common
  pub sections-apart : (i j : ℕ) (f : Face) (c : Cell) → (cover_count (panels i) f c ≡ 0 → ⊥) → (cover_count (panels j) f c ≡ 0 → ⊥) → i ≡ j
  sections-apart i j f c p q =
      sym (part-chunk g i c (part_only beyond g look (section_part g i) f c p)) ∙ part-chunk g j c (part_only beyond g look (section_part g j) f c q)

  -- THE STAND: over all sections, a visible face of a cell inside lies in exactly one panel, and one that is not visible in none
  pub sections-count : opens g ≡ true → (s : ℕ) → s < 6 → (c : Cell) → inside g c ≡ true
      → sum_to (λ i. cover_count (panels i) (face_of s) c) (sections g) ≡ seen (shown beyond g look s c)
  sections-count o s l c h =
      sum_only (λ i. cover_count (panels i) (face_of s) c) (sections g) (chunk_of g c) (chunk-lt g c o h)
      (λ i li d. zero_or (cover_count (panels i) (face_of s) c)
      (λ n. d (sym (part-chunk g i c (part_only beyond g look (section_part g i) (face_of s) c n)))))
      ∙ part_count beyond g look (section_part g (chunk_of g c)) s l c (chunk_part g c o h)
    where
      zero_or : (n : ℕ) → ((n ≡ 0 → ⊥) → ⊥) → n ≡ 0
      zero_or zero f = refl
      zero_or (suc n) f = absurd (f (λ e. omega arith))

  -- at most 24,576 visible faces, and no more panels
  pub section-faces : (i : ℕ) → faces_in beyond g look (section_part g i) ≤ 24576
  unfolding section_part product
  section-faces i =
      let e : Point = corner (counted g) i in
      let x : min 16 (g.size.x - e.x) ≤ 16 = omega arith in
      let y : min 16 (g.size.y - e.y) ≤ 16 = omega arith in
      let z : min 16 (g.size.z - e.z) ≤ 16 = omega arith in
      omega (arith, part-most beyond g look (section_part g i), mul-le-mul (mul-le-mul x y) z)

  pub section-panels : (i : ℕ) → length (panels i) ≤ 24576
  section-panels i = omega (arith, part-few beyond g look (section_part g i), section-faces i)

  pub section-sum : (i : ℕ) → face_sum (panels i) ≤ 24576
  section-sum i = omega (arith, part-sum beyond g look (section_part g i), section-faces i)
