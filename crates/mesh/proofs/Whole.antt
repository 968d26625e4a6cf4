-- What `faces` lists, the panels of the whole part (`Faces.faces_call`): each visible face of the stand lies in exactly one.
use mathlib.Core.Path.{◌≡◌, sym, ap, ◌∙◌}
use mathlib.Core.Bool.{Bool, true}
use mathlib.Core.List.{List}
use Prim.Native.Nat.{ℕ, ◌<◌}
use native.Mathlib.Nat.{zero-add}
use Rattle.stand.specs.Shape.{Shape, cell_from, distance, inside, point_of}
use Rattle.stand.specs.Sides.{side_number}
use Rattle.stand.specs.declared.Cell.{Cell}
use Rattle.stand.specs.declared.Face.{Face}
use Rattle.stand.specs.declared.volume.shape.Point.{Point}
use Rattle.stand.proofs.Shape.{from-distance, inside-from, inside-within}
use Rattle.mesh.specs.Cover.{Each, cover_count, covers, seen}
use Rattle.mesh.specs.Panels.{face_of, part_panels}
use Rattle.mesh.specs.Part.{added, whole_part}
use Rattle.mesh.specs.Visible.{shown}
use Rattle.mesh.specs.declared.Quad.{Quad}
use Rattle.mesh.proofs.Panels.{Faced, InPart, part_count, part-faces}
use Rattle.mesh.proofs.Slices.{each_so}

-- the cells of the whole part are those inside
added-zero : (d : Point) → added (point_of 0 0 0) d ≡ d
unfolding added
added-zero d = λ i. point_of (zero-add d.x i) (zero-add d.y i) (zero-add d.z i)

inside-whole : (g : Shape) (c : Cell) → inside g c ≡ true → InPart g (whole_part g) c
unfolding whole_part
inside-whole g c h =
    record {
      at = distance g c;
      within = inside-within g c h;
      cell = sym (from-distance g c h) ∙ ap (cell_from g) (sym (added-zero (distance g c)));
    }

whole-inside : (g : Shape) (c : Cell) → InPart g (whole_part g) c → inside g c ≡ true
unfolding whole_part
whole-inside g c p = ap (inside g) (p.cell ∙ ap (cell_from g) (added-zero p.at)) ∙ inside-from g p.at p.within

module _ (beyond : Bool) (g : Shape) (look : Cell → ℕ) where
  abbrev panels : List Quad
  panels = part_panels beyond g look (whole_part g)

  -- THE STAND: a visible face of a cell inside lies in exactly one panel, and one that is not visible in none
  pub whole-count : (s : ℕ) → s < 6 → (c : Cell) → inside g c ≡ true → cover_count panels (face_of s) c ≡ seen (shown beyond g look s c)
  whole-count s l c h = part_count beyond g look (whole_part g) s l c (inside-whole g c h)

  -- each face of each panel is that of a cell inside, on the panel's side, and shows the panel's finish
  pub whole-faces :
      Each (λ q. (f : Face) (c : Cell) → covers q f c ≡ true
      → (q.face ≡ f) × (inside g c ≡ true) × (shown beyond g look (side_number f) c ≡ q.voxel.0)) panels
  whole-faces =
      each_so (λ q. (f : Face) (c : Cell) → covers q f c ≡ true → Faced beyond g look (whole_part g) q f c)
      (λ q. (f : Face) (c : Cell) → covers q f c ≡ true → (q.face ≡ f) × (inside g c ≡ true) × (shown beyond g look (side_number f) c ≡ q.voxel.0))
      (λ q p f c e. ((p f c e).face, whole-inside g c (p f c e).part, (p f c e).held)) panels (part-faces beyond g look (whole_part g))
