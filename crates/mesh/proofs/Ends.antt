-- At the ends of i32 a step leads nowhere, whatever the rule: `up_shut` and `down_shut` (Step) for any shape that opens, with no section of the code's.
use mathlib.Core.Path.{◌≡◌, refl}
use mathlib.Core.Bool.{Bool, true, false}
use mathlib.Core.Logic.{◌⊎◌}
use mathlib.Core.List.{List}
use Prim.Native.Nat.{ℕ, ◌+◌, ◌*◌, ◌%◌, ◌≤◌, ◌<◌}
use lib.ListN.{replicate, length-replicate}
use Rattle.arith.specs.Level.{level_of}
use Rattle.stand.specs.Shape.{Ranged, Shape, chunk_place, counted, inside, levels_of, opens, sections, shape_of}
use Rattle.stand.specs.Sides.{normal_at}
use Rattle.stand.specs.Storage.{volume_of}
use Rattle.stand.proofs.Opening.{volume-formed}
use Rattle.mesh.specs.Part.{added, cell_in, depth_of, height_of, on_axis, section_part, width_of}
use Rattle.mesh.specs.Visible.{ahead}
use Rattle.mesh.specs.declared.Beyond.{Beyond}
use Rattle.mesh.specs.declared.Beyond.TheVariants as B
use Rattle.mesh.specs.declared.scene.Scene.{Scene}
use Rattle.mesh.specs.declared.scene.Section.{Section}
use Rattle.mesh.proofs.Step.{coord_on, up_shut, down_shut}

rule : Bool → Beyond
rule true = B.Empty
rule false = B.Solid

module _ (g : Shape) (i s k : ℕ) (o : opens g ≡ true) (r : Ranged g.origin) (h : i < sections g) (side : s < 6) (slice : k < depth_of (section_part g i) s) where
  -- the section of an empty stand of that shape
  abbrev cells : List ℕ
  cells = replicate (sections g * 4096) 0

  scene : Bool → Scene
  unfolding volume_of shape_of sections
  scene b =
      record {
        stand = record {
          header = record { volume = volume_of g 0 0; formed = volume-formed g 0 0 o };
          cells = record { ref_ptr = (0, 0); now = cells };
          fits = length-replicate {A = ℕ} (sections g * 4096) 0;
        };
        beyond = rule b;
      }

  part : Bool → Section
  unfolding volume_of shape_of scene
  part b =
      record {
        scene = scene b;
        chunk = i;
        low = added (levels_of g.origin) (section_part g i).low;
        count = (section_part g i).count;
        place = chunk_place (counted g) i;
        chunks = counted g;
        lies = record { ranged = r; chunk = h; chunks = refl; place = refl; low = refl; count = refl };
      }

  -- what `Follows` says of a step that shows nothing
  abbrev Shut : Bool → Type 0
  Shut b = (u v : ℕ) → u < width_of (section_part g i) s → v < height_of (section_part g i) s
      → ((inside g (ahead s (cell_in g (section_part g i) s k u v)) ≡ false) × (b ≡ false)) ⊎ (ahead s (cell_in g (section_part g i) s k u v) ≡ cell_in g (section_part g i) s k u v)

  pub up_ends : s % 2 ≡ 0 → depth_of (section_part g i) s ≤ k + 1
      → level_of (coord_on (normal_at s) g.origin) + on_axis (normal_at s) (chunk_place (counted g) i) * 16 + k ≡ 4294967295 → (b : Bool) → Shut b
  unfolding volume_of shape_of scene part rule
  up_ends e t l true = up_shut (part true) s k side slice e t l
  up_ends e t l false = up_shut (part false) s k side slice e t l

  pub down_ends : s % 2 ≡ 1 → k ≡ 0 → on_axis (normal_at s) (chunk_place (counted g) i) ≡ 0
      → level_of (coord_on (normal_at s) g.origin) + on_axis (normal_at s) (chunk_place (counted g) i) * 16 ≡ 0 → (b : Bool) → Shut b
  unfolding volume_of shape_of scene part rule
  down_ends e f z l true = down_shut (part true) s k side slice e f z l
  down_ends e f z l false = down_shut (part false) s k side slice e f z l
