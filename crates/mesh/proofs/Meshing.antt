-- Parts meshed: the frame of a slice, and how many panels there are so far.
use mathlib.Core.Path.{◌≡◌, refl, sym, ap, ◌∙◌, subst}
use mathlib.Core.Bool.{Bool}
use mathlib.Core.List.{List}
use Rattle.std.specs.Prelude.{Option, Some, None}
use Prim.Native.Nat.{ℕ, zero, suc, ◌+◌, ◌*◌, ◌^◌, ◌≤◌, ◌<◌, zero-le}
use native.Mathlib.Nat.{add-mul, le_refl, mul-le-mul}
use native.Mathlib.Numerals.{add-one}
use native.Mathlib.Omega.{arith}
use lib.IntN.{ℤ}
use lib.ListN.{length, length-append}
use Rattle.stand.specs.Shape.{Shape, product}
use Rattle.stand.specs.Sides.{axes_at, face_at, side_number}
use Rattle.stand.specs.declared.Axes.{Axes}
use Rattle.stand.specs.declared.Cell.{Cell}
use Rattle.stand.specs.declared.Face.{Face}
use Rattle.stand.specs.declared.volume.shape.Region.{Region}
use Rattle.mesh.specs.Cover.{faces_on}
use Rattle.mesh.specs.Frame.{Lies, ScanPost, ScanPre, Wrote, frame_of}
use Rattle.mesh.specs.Listed.{Listed}
use Rattle.mesh.specs.Panels.{panels_to, side_panels, slice_panels}
use Rattle.mesh.specs.Part.{depth_of, height_of, largest_side, on_axis, slot_shown, width_of}
use Rattle.mesh.specs.Scan.{scan}
use Rattle.mesh.specs.Scene.{look_in, open_in, shape_in}
use Rattle.mesh.specs.Tiles.{Cleared, PartFilled, part_of, side_slots}
use Rattle.mesh.specs.declared.scan.Frame.{Frame}
use Rattle.mesh.specs.declared.axes.Side.{Side}
use Rattle.mesh.specs.declared.scene.Part.{Part}
use Rattle.mesh.proofs.Facing.{facing-product, part-size}
use Rattle.mesh.proofs.Listed.{listed_more, slice-listed}
use Rattle.mesh.proofs.Made.{height_made, part-product, part-within, part_slots, region_lies, width_made}
use Rattle.mesh.proofs.Step.{opened}
use Rattle.mesh.proofs.Panels.{slice-few}
use Rattle.mesh.proofs.Slices.{seen-sum}

-- ---- where a slice lies

abbrev pub frame_from : ℕ → Axes → ℕ → ℕ → ℕ → ℕ → ℕ → Frame
frame_from s x n a b w h = record { side = s; axes = x; normal = n; first = a; second = b; width = w; height = h }

module _ (p : Part) (t : Side) {k : ℕ} (deep : k < depth_of (part_of p) t.number) where
  pub slice-lies : Lies (frame_of (shape_in p.scene) (part_of p) t.number k)
  slice-lies = region_lies (shape_in p.scene) (opened p.scene) (part_of p) (part-within p) p.lies.ranged t.number k t.known deep

  pub normal-fits : {n : ℕ} → n ≡ on_axis t.axes.normal p.low → n + k < 4294967296
  unfolding frame_of axes_at
  normal-fits e = omega (arith, slice-lies.normal, e ∙ (λ j. on_axis (t.read j).normal (p.lies.low j)))

  pub frame_made : {n a b w h : ℕ} → n ≡ on_axis t.axes.normal p.low → a ≡ on_axis t.axes.first p.low → b ≡ on_axis t.axes.second p.low
      → w ≡ on_axis t.axes.first p.count → h ≡ on_axis t.axes.second p.count
      → frame_from t.number t.axes (n + k) a b w h ≡ frame_of (shape_in p.scene) (part_of p) t.number k
  unfolding frame_of axes_at
  frame_made pn pa pb pw ph =
      let e = t.read in
      let low = p.lies.low in
      λ i. frame_from t.number (e i)
      ((pn ∙ (λ j. on_axis (e j).normal (low j))) i + k)
      ((pa ∙ (λ j. on_axis (e j).first (low j))) i)
      ((pb ∙ (λ j. on_axis (e j).second (low j))) i)
      (width_made p t pw i)
      (height_made p t ph i)

-- ---- one slice

module _ (p : Part) (s k : ℕ) {n : ℕ} {m : List ℕ} {f : Frame} (z : Cleared (side_slots p s) m) (e : f ≡ frame_of (shape_in p.scene) (part_of p) s k) (lies : Lies f) where
  pub scan_asks : {len : ℕ} → len ≡ length m → n ≤ 2 ^ 62 → ScanPre len f n
  unfolding frame_of
  scan_asks {len} l few =
      record {
        lies = lies;
        whole = subst (λ (f : Frame). f.height * f.width ≤ len) (sym e) (omega (arith, z.room, l));
        few = few;
      }

  pub slice-wrote : {a c : ℕ} {m₁ m₂ : List ℕ} {out out' : List ℤ} → PartFilled p s k m m₁ a → ScanPost f m₁ m₂ out out' n c
      → Listed (slice_panels (open_in p.scene) (shape_in p.scene) (look_in p.scene) (part_of p) s k) m m₂ out out' n c
  unfolding frame_of
  slice-wrote {c = c} {m₁} {m₂} {out} {out'} fill o =
      slice-listed (open_in p.scene) (shape_in p.scene) (look_in p.scene) (part_of p) s k z.zero fill p.lies.ranged (subst Lies e lies)
      (subst (λ (f : Frame). Wrote f (scan f.width f.height m₁) m₂ out out' n c) e o.wrote)

-- ---- how many panels

module _ (beyond : Bool) (g : Shape) (look : Cell → ℕ) (r : Region) (s : ℕ) (l : s < 6) where
  slice-most : (k : ℕ) → length (slice_panels beyond g look r s k) ≤ height_of r s * width_of r s
  unfolding faces_on
  slice-most k = omega (arith, slice-few beyond g look r s l k, seen-sum (slot_shown beyond g look r s k) (height_of r s * width_of r s))

  side-most : (n : ℕ) → length (side_panels beyond g look r s n) ≤ n * (height_of r s * width_of r s)
  unfolding side_panels
  side-most zero = zero-le
  side-most (suc n) =
      omega (arith, length-append (side_panels beyond g look r s n) (slice_panels beyond g look r s n), slice-most n, side-most n, add-mul n 1 (height_of r s * width_of r s))

  -- no more than the part has cells
  pub side-few : (n : ℕ) → n ≤ depth_of r s → length (side_panels beyond g look r s n) ≤ product r.count
  side-few n h =
      let e : product r.count ≡ depth_of r s * (height_of r s * width_of r s) = ap product (sym (part-size r s l)) ∙ facing-product s l _ _ _ in
      let m = mul-le-mul h (le_refl (height_of r s * width_of r s)) in
      omega (arith, side-most n)

module _ (beyond : Bool) (g : Shape) (look : Cell → ℕ) (r : Region) where
  pub sides_few : (n : ℕ) → n ≤ 6 → length (panels_to beyond g look r n) ≤ n * product r.count
  unfolding panels_to
  sides_few zero h = zero-le
  sides_few (suc n) h =
      omega (arith, length-append (panels_to beyond g look r n) (side_panels beyond g look r n (depth_of r n)), side-few beyond g look r n h (depth_of r n) (le_refl _), sides_few n (omega arith), add-mul n 1 (product r.count))

-- ---- one side

module _ (p : Part) where
  abbrev shape : Shape
  shape = shape_in p.scene

  -- the number of panels stays far from what usize holds
  pub side-room : {s : ℕ} → s < 6 → (k : ℕ) {n c : ℕ} → k ≤ depth_of (part_of p) s → n ≤ 2 ^ 61
      → c ≡ n + length (side_panels (open_in p.scene) shape (look_in p.scene) (part_of p) s k) → c ≤ 2 ^ 62
  side-room {s} h k l few e = omega (arith, side-few (open_in p.scene) shape (look_in p.scene) (part_of p) s h k l, part-product p)

  pub sides_room : (s : ℕ) {c : ℕ} → s ≤ 6 → c ≡ 0 + length (panels_to (open_in p.scene) shape (look_in p.scene) (part_of p) s) → c ≤ 2 ^ 61
  sides_room s l e =
      let b = part-product p in
      let m = mul-le-mul l b in
      omega (arith, sides_few (open_in p.scene) shape (look_in p.scene) (part_of p) s l)

  -- where any slice of the part is cleared, one of a side is
  pub side_cleared : {m m' : List ℕ} {s : ℕ} → Cleared (largest_side (part_of p)) m → m' ≡ m → s < 6 → Cleared (side_slots p s) m'
  side_cleared {s = s} i e l =
      let few = part_slots (part_of p) s l in
      rw e (record { room = omega (arith, i.room); zero = λ q lq. i.zero q (omega arith) })

module _ (beyond : Bool) (g : Shape) (look : Cell → ℕ) (r : Region) {m₀ m₁ m₂ : List ℕ} {out₀ out₁ out₂ : List ℤ} {n₀ n₁ n₂ : ℕ} where
  pub side_more : (s k : ℕ) → Listed (side_panels beyond g look r s k) m₀ m₁ out₀ out₁ n₀ n₁ → Listed (slice_panels beyond g look r s k) m₁ m₂ out₁ out₂ n₁ n₂
      → Listed (side_panels beyond g look r s (k + 1)) m₀ m₂ out₀ out₂ n₀ n₂
  unfolding side_panels
  side_more s k a b = rw add-one (listed_more a b)

  pub sides_more : {s t : ℕ} → t ≡ s → Listed (panels_to beyond g look r s) m₀ m₁ out₀ out₁ n₀ n₁ → Listed (side_panels beyond g look r t (depth_of r t)) m₁ m₂ out₁ out₂ n₁ n₂
      → Listed (panels_to beyond g look r (s + 1)) m₀ m₂ out₀ out₂ n₀ n₂
  unfolding panels_to
  sides_more e a b = rw add-one (listed_more a (subst (λ (s : ℕ). Listed (side_panels beyond g look r s (depth_of r s)) m₁ m₂ out₁ out₂ n₁ n₂) e b))

-- ---- a side by its number

abbrev number_or : Option Face → ℕ
number_or None = 6
number_or (Some f) = side_number f

number_at : (s : ℕ) → s < 6 → number_or (face_at s) ≡ s
number_at zero l = refl
number_at (suc zero) l = refl
number_at (suc (suc zero)) l = refl
number_at (suc (suc (suc zero))) l = refl
number_at (suc (suc (suc (suc zero)))) l = refl
number_at (suc (suc (suc (suc (suc zero))))) l = refl
number_at (suc (suc (suc (suc (suc (suc s)))))) l = absurd (omega arith)

module _ (s : ℕ) (l : s < 6) where
  pub side-none : None ≡ face_at s → ⊥
  side-none e = let n : 6 ≡ s = ap number_or e ∙ number_at s l in omega (arith, n)
