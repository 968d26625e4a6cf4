-- A slice laid over a mask, and the call that lays it.
use Rattle.std.specs.Prelude.{Result, IsErrAnd}
use mathlib.Core.Path.{◌≡◌, refl, sym, ap, ◌∙◌}
use mathlib.Core.Bool.{Bool, true, false}
use mathlib.Core.List.{List, [], ◌∷◌, ◌++◌}
use Prim.Native.Nat.{ℕ, zero, suc, ◌*◌, ◌≤◌, ◌<◌}
use native.Mathlib.Omega.{arith}
use borrow.Author.Tests.{le-ltb, lt-ltb, ltb-false, ltb-true}
use lib.Dec.{ltb}
use lib.ListN.{get_or-append, drop, get_or, length}
use Rattle.stand.specs.Answer.{answer_of, refusal_number}
use Rattle.stand.specs.Edit.{look}
use Rattle.stand.specs.Refusal.{Rule, ◌⇒◌, first, gives, list_rules, refused}
use Rattle.stand.specs.Shape.{Shape, shape_of}
use Rattle.stand.specs.Sides.{side_number}
use Rattle.stand.specs.declared.Cell.{Cell}
use Rattle.stand.specs.declared.Face.{Face}
use Rattle.stand.specs.declared.volume.Volume.{Volume}
use Rattle.stand.specs.declared.volume.shape.Region.{Region}
use Rattle.stand.specs.declared.volume.refusal.Refusal.{Refusal}
use Rattle.stand.specs.declared.volume.refusal.Refusal.TheVariants as R
use Rattle.stand.specs.declared.volume.view.View.{View}
use Rattle.stand.proofs.Refusal.{begun, exit_is, first_rest, numbered, some_number}
use Rattle.mesh.specs.Faces.{chunk_rules, wiped}
use Rattle.mesh.specs.Lay.{Sliced, laid_mask, over, slice_call, slice_of, sliced, sliced_of}
use Rattle.mesh.specs.Part.{cell_in, depth_of, height_of, largest_side, section_part, slice_mask, slot_shown, width_of}
use Rattle.mesh.specs.Plane.{Filled}
use Rattle.mesh.specs.Scene.{look_in, open_in, shape_in}
use Rattle.mesh.specs.Tiles.{part_of}
use Rattle.mesh.specs.Visible.{empty_beyond, shown}
use Rattle.mesh.specs.declared.slice.Slice.{Slice}
use Rattle.mesh.specs.declared.Beyond.{Beyond}
use Rattle.mesh.specs.declared.scene.Part.{Part}
use Rattle.mesh.proofs.Called.{scene_of}
use Rattle.mesh.proofs.Laid.{whole-at, whole-beyond}
use Rattle.mesh.proofs.Listed.{same_slots}
use Rattle.mesh.proofs.Slices.{get_or-table, length-table}

-- ---- a list over the first slots

pub over-beyond : (xs m : List ℕ) (q : ℕ) → length xs ≤ q → length xs ≤ length m → get_or (xs ++ drop (length xs) m) q 0 ≡ get_or m q 0
over-beyond [] m q l h = refl
over-beyond (x ∷ xs) [] q l h = absurd (omega arith)
over-beyond (x ∷ xs) (y ∷ m) zero l h = absurd (omega arith)
over-beyond (x ∷ xs) (y ∷ m) (suc q) l h = over-beyond xs m q (omega arith) (omega arith)

pub over-length : (xs m : List ℕ) → length xs ≤ length m → length (xs ++ drop (length xs) m) ≡ length m
over-length [] m h = refl
over-length (x ∷ xs) [] h = absurd (omega arith)
over-length (x ∷ xs) (y ∷ m) h = ap suc (over-length xs m (omega arith))

-- what a list has, and past it what a mask has
over-is : (xs m m₁ : List ℕ) → length xs ≤ length m → length m₁ ≡ length m → ((q : ℕ) → q < length xs → get_or m₁ q 0 ≡ get_or xs q 0)
    → ((q : ℕ) → length xs ≤ q → get_or m₁ q 0 ≡ get_or m q 0) → m₁ ≡ over xs m
unfolding over
over-is xs m m₁ h l a b = same_slots m₁ (xs ++ drop (length xs) m) (l ∙ sym (over-length xs m h)) (λ q. at q (ltb q (length xs)) refl)
  where
    at : (q : ℕ) (t : Bool) → ltb q (length xs) ≡ t → get_or m₁ q 0 ≡ get_or (xs ++ drop (length xs) m) q 0
    at q true e = a q (ltb-true q (length xs) e) ∙ sym (get_or-append xs (drop (length xs) m) 0 q (ltb-true q (length xs) e))
    at q false e = b q (ltb-false q (length xs) e) ∙ sym (over-beyond xs m q (ltb-false q (length xs) e) h)

-- ---- a slice laid

module _ (beyond : Bool) (g : Shape) (look : Cell → ℕ) (r : Region) (s : ℕ) {k : ℕ} where
  pub lays : {m m₁ : List ℕ} {a : ℕ} → k < depth_of r s → height_of r s * width_of r s ≤ length m
      → Filled m m₁ a 0 (width_of r s) (width_of r s) (height_of r s) (λ u v. shown beyond g look s (cell_in g r s k u v))
      → m₁ ≡ laid_mask beyond g look r s k m
  unfolding laid_mask slice_mask slot_shown
  lays {m} {m₁} l h f =
      let n = length-table (slot_shown beyond g look r s k) (height_of r s * width_of r s) in
      rw (lt-ltb k (depth_of r s) l)
      (over-is (slice_mask beyond g look r s k) m m₁ (omega (arith, n)) f.mask.same
      (λ q lq. whole-at f.mask q (omega (arith, n)) ∙ sym (get_or-table (slot_shown beyond g look r s k) (height_of r s * width_of r s) q (omega (arith, n))))
      (λ q lq. whole-beyond f.mask q (omega (arith, n))))

  pub lays_none : {m : List ℕ} → depth_of r s ≤ k → m ≡ laid_mask beyond g look r s k m
  unfolding laid_mask
  lays_none l = rw (le-ltb k (depth_of r s) l)

-- ---- the call

module _ (v : Volume) (cells : List ℕ) (i : ℕ) (f : Face) (k : ℕ) (beyond : Bool) (m : List ℕ) where
  abbrev part : Region
  part = section_part (shape_of v) i

  abbrev rules : List Rule
  rules = list_rules 4096 v (length cells)

  abbrev mask_rules : List Rule
  mask_rules = (ltb (length m) (largest_side part) ⇒ 10) ∷ []

  abbrev result : ℕ → Sliced
  result c =
      sliced c (slice_of (shape_of v) part f k) m
      (laid_mask beyond (shape_of v) (look (shape_of v) cells) part (side_number f) k (wiped (largest_side part) m))

  turned_by : (d : Refusal) → refusal_number d ≡ first (rules ++ (chunk_rules v i ++ mask_rules)) → sliced_of (refused (refusal_number d)) m ≡ slice_call v cells i f k beyond m
  unfolding slice_call sliced
  turned_by d e = by (refusal_number d) (some_number d) ∙ ap result e
    where
      by : (n : ℕ) → (n ≡ 0 → ⊥) → sliced_of (refused n) m ≡ result n
      by zero h = absurd (h refl)
      by (suc n) h = refl

  exit : (d : Refusal) (r : Result Slice Refusal) → IsErrAnd r (λ f. f ≡ d) → refusal_number d ≡ first (rules ++ (chunk_rules v i ++ mask_rules)) → sliced_of (answer_of r) m ≡ slice_call v cells i f k beyond m
  exit d r x e = ap (λ (r : Result Slice Refusal). sliced_of (answer_of r) m) (exit_is d r x) ∙ turned_by d e

  pub slice_turned : (d : Refusal) (r : Result Slice Refusal) → IsErrAnd r (λ f. f ≡ d) → refusal_number d ≡ first rules → sliced_of (answer_of r) m ≡ slice_call v cells i f k beyond m
  slice_turned d r x e = exit d r x (begun d rules (chunk_rules v i ++ mask_rules) e)

  module _ (z : first rules ≡ 0) where
    by_rest : first (rules ++ (chunk_rules v i ++ mask_rules)) ≡ first (chunk_rules v i ++ mask_rules)
    unfolding numbered
    by_rest = first_rest rules (chunk_rules v i ++ mask_rules) refl z

    pub slice_high : (d : Refusal) (r : Result Slice Refusal) → IsErrAnd r (λ f. f ≡ d) → refusal_number d ≡ first (chunk_rules v i) → sliced_of (answer_of r) m ≡ slice_call v cells i f k beyond m
    slice_high d r x e = exit d r x (begun d (chunk_rules v i) mask_rules e ∙ sym by_rest)

    module _ (q : first (chunk_rules v i) ≡ 0) where
      by_mask : first (rules ++ (chunk_rules v i ++ mask_rules)) ≡ first mask_rules
      unfolding numbered
      by_mask = by_rest ∙ first_rest (chunk_rules v i) mask_rules refl q

      pub slice_small : {w : ℕ} → w ≡ largest_side part → length m < w → sliced_of (refused 10) m ≡ slice_call v cells i f k beyond m
      unfolding first
      slice_small e h = turned_by R.MaskTooShort (sym (by_mask ∙ rw (lt-ltb (length m) (largest_side part) (omega (arith, e)))))

      pub slice_given : {s : Slice} {m' : List ℕ} → largest_side part ≤ length m
          → m' ≡ laid_mask beyond (shape_of v) (look (shape_of v) cells) part (side_number f) k (wiped (largest_side part) m) → s ≡ slice_of (shape_of v) part f k
          → sliced_of (gives s) m' ≡ slice_call v cells i f k beyond m
      unfolding slice_call first sliced
      slice_given h a b =
          let t : first (rules ++ (chunk_rules v i ++ mask_rules)) ≡ 0 = by_mask ∙ rw (le-ltb (length m) (largest_side part) h) in
          (λ j. sliced_of (gives (b j)) (a j)) ∙ ap result (sym t)

-- the scene of the call
pub slice_seen : (v : Volume) (cells m : List ℕ) (i : ℕ) (f : Face) (k : ℕ) (b : Beyond) (w : View) (p : Part) {s : Slice} {n : ℕ} {m₁ m' : List ℕ}
    → w.header.volume ≡ v → w.cells.now ≡ cells → p.scene ≡ scene_of w b → part_of p ≡ section_part (shape_in (scene_of w b)) i
    → first (list_rules 4096 v (length cells)) ≡ 0 → first (chunk_rules v i) ≡ 0
    → n ≡ largest_side (part_of p) → n ≤ length m → m₁ ≡ wiped n m
    → s ≡ slice_of (shape_in p.scene) (part_of p) f k → m' ≡ laid_mask (open_in p.scene) (shape_in p.scene) (look_in p.scene) (part_of p) (side_number f) k m₁
    → sliced_of (gives s) m' ≡ slice_call v cells i f k (empty_beyond b) m
slice_seen v cells m i f k b w p {s} {n} {m₁} {m'} ev ec at r z q en h c es em =
    let rv : part_of p ≡ section_part (shape_of v) i = r ∙ (λ j. section_part (shape_of (ev j)) i) in
    let nv = en ∙ ap largest_side rv in
    slice_given v cells i f k (empty_beyond b) m z q (omega (arith, nv))
    (em
    ∙ (λ j. laid_mask (open_in (at j)) (shape_in (at j)) (look_in (at j)) (rv j) (side_number f) k (c j))
    ∙ (λ j. laid_mask (empty_beyond b) (shape_of (ev j)) (look (shape_of (ev j)) (ec j)) (section_part (shape_of v) i) (side_number f) k (wiped (nv j) m)))
    (es ∙ (λ j. slice_of (shape_in (at j)) (rv j) f k) ∙ (λ j. slice_of (shape_of (ev j)) (section_part (shape_of v) i) f k))
