-- A slice filled and scanned lists its panels; parts listed one after the other.
use mathlib.Core.Path.{◌≡◌, refl, sym, ap, ◌∙◌}
use mathlib.Core.Bool.{Bool, true, false}
use mathlib.Core.List.{List, [], ◌∷◌, ◌++◌, map}
use Prim.Native.Nat.{ℕ, suc, ◌+◌, ◌*◌, ◌/◌, ◌%◌, ◌≤◌, ◌<◌}
use native.Mathlib.Nat.{add-zero}
use native.Mathlib.Omega.{arith}
use borrow.Author.Tests.{ltb-true, ltb-false}
use lib.Dec.{ltb}
use lib.IntN.{ℤ}
use lib.ListN.{get_or, length, length-append, length-map}
use Rattle.stand.specs.Shape.{Ranged, Shape}
use Rattle.stand.specs.declared.Cell.{Cell}
use Rattle.stand.specs.declared.volume.shape.Region.{Region}
use Rattle.stand.proofs.Parts.{length_none}
use Rattle.mesh.specs.Cover.{faces_on, seen}
use Rattle.mesh.specs.Frame.{Lies, Wrote, frame_of, quad_from}
use Rattle.mesh.specs.Listed.{Listed}
use Rattle.mesh.specs.Panels.{slice_panels}
use Rattle.mesh.specs.Part.{cell_in, height_of, slice_mask, slot_shown, width_of}
use Rattle.mesh.specs.Plane.{Filled}
use Rattle.mesh.specs.Quad.{write_from}
use Rattle.mesh.specs.Scan.{scan}
use Rattle.mesh.specs.Visible.{shown}
use Rattle.mesh.specs.declared.Quad.{Quad}
use Rattle.mesh.proofs.Agree.{scan_agree}
use Rattle.mesh.proofs.Frame.{frame_panels, write-append}
use Rattle.mesh.proofs.Laid.{inner, whole-at, whole-beyond}
use Rattle.mesh.proofs.Panels.{slice-few}
use Rattle.mesh.proofs.Scanned.{scan-beyond, scan_cleared, scan-length}
use Rattle.mesh.proofs.Slices.{get_or-table, seen_none, sum-none}

-- ---- one after the other

pub listed-none : {m : List ℕ} {out : List ℤ} {n : ℕ} → Listed [] m m out out n n
unfolding write_from
listed-none {n = n} = record { mask = refl; list = refl; total = sym (add-zero n) }

module _ {qs rs : List Quad} {m₀ m₁ m₂ : List ℕ} {out₀ out₁ out₂ : List ℤ} {n₀ n₁ n₂ : ℕ} where
  pub listed_more : Listed qs m₀ m₁ out₀ out₁ n₀ n₁ → Listed rs m₁ m₂ out₁ out₂ n₁ n₂ → Listed (qs ++ rs) m₀ m₂ out₀ out₂ n₀ n₂
  listed_more a b =
      record {
        mask = b.mask ∙ a.mask;
        list = b.list ∙ (λ i. write_from (a.list i) (a.total i) rs) ∙ sym (write-append out₀ n₀ qs rs);
        total = omega (arith, a.total, b.total, length-append qs rs);
      }

-- ---- one slice

pub same_slots : (xs ys : List ℕ) → length xs ≡ length ys → ((q : ℕ) → get_or xs q 0 ≡ get_or ys q 0) → xs ≡ ys
same_slots [] [] l e = refl
same_slots [] (y ∷ ys) l e = absurd (omega (arith, l))
same_slots (x ∷ xs) [] l e = absurd (omega (arith, l))
same_slots (x ∷ xs) (y ∷ ys) l e = λ i. e 0 i ∷ same_slots xs ys (omega (arith, l)) (λ q. e (suc q)) i

-- slots below n are 0 in both, the others alike
same-mask : (n : ℕ) (xs ys : List ℕ) → length xs ≡ length ys → ((q : ℕ) → q < n → get_or xs q 0 ≡ 0) → ((q : ℕ) → q < n → get_or ys q 0 ≡ 0)
    → ((q : ℕ) → n ≤ q → get_or xs q 0 ≡ get_or ys q 0) → xs ≡ ys
same-mask n xs ys l a b c = same_slots xs ys l (λ q. at q (ltb q n) refl)
  where
    at : (q : ℕ) (t : Bool) → ltb q n ≡ t → get_or xs q 0 ≡ get_or ys q 0
    at q true e = a q (ltb-true q n e) ∙ sym (b q (ltb-true q n e))
    at q false e = c q (ltb-false q n e)

-- a scan clears its own slots alone
pub scan-wiped : (w h : ℕ) (m₁ m : List ℕ) → length m₁ ≡ length m → ((q : ℕ) → q < h * w → get_or m q 0 ≡ 0) → ((q : ℕ) → h * w ≤ q → get_or m₁ q 0 ≡ get_or m q 0)
    → (scan w h m₁).mask ≡ m
scan-wiped w h m₁ m l clear rest =
    same-mask (h * w) (scan w h m₁).mask m (scan-length w h m₁ ∙ l) (scan_cleared w h m₁) clear (λ q lq. scan-beyond w h m₁ q lq ∙ rest q lq)

-- a mask whose slots show a slice is scanned as the slice's own
module _ (beyond : Bool) (g : Shape) (look : Cell → ℕ) (r : Region) (s k : ℕ) (m₁ : List ℕ)
    (at_slot : (q : ℕ) → q < height_of r s * width_of r s → get_or m₁ q 0 ≡ slot_shown beyond g look r s k q)
    (ranged : Ranged g.origin) (lies : Lies (frame_of g r s k))
  where
    same-rects : (scan (width_of r s) (height_of r s) m₁).rects ≡ (scan (width_of r s) (height_of r s) (slice_mask beyond g look r s k)).rects
    unfolding slice_mask
    same-rects =
        scan_agree (width_of r s) (height_of r s) m₁ (slice_mask beyond g look r s k)
        (λ q lq. at_slot q lq ∙ sym (get_or-table (slot_shown beyond g look r s k) (height_of r s * width_of r s) q lq))

    pub same-panels : map (quad_from (frame_of g r s k)) (scan (width_of r s) (height_of r s) m₁).rects ≡ slice_panels beyond g look r s k
    unfolding slice_panels
    same-panels =
        ap (map (quad_from (frame_of g r s k))) same-rects
        ∙ frame_panels g r s k ranged lies (slice_mask beyond g look r s k)

module _ (beyond : Bool) (g : Shape) (look : Cell → ℕ) (r : Region) (s k : ℕ) {m m₁ : List ℕ} {a : ℕ}
    (clear : (q : ℕ) → q < height_of r s * width_of r s → get_or m q 0 ≡ 0)
    (fill : Filled m m₁ a 0 (width_of r s) (width_of r s) (height_of r s) (λ u v. shown beyond g look s (cell_in g r s k u v)))
  where
    at_slot : (q : ℕ) → q < height_of r s * width_of r s → get_or m₁ q 0 ≡ slot_shown beyond g look r s k q
    unfolding slot_shown
    at_slot = whole-at fill.mask

    -- a slice without visible faces: nothing is written
    module _ (l : s < 6) (none : a ≡ 0) where
      slot-none : (q : ℕ) → q < height_of r s * width_of r s → slot_shown beyond g look r s k q ≡ 0
      unfolding slot_shown
      slot-none q lq =
          let d = inner (width_of r s) (height_of r s) q lq in
          fill.quiet none (q % width_of r s) (q / width_of r s) d.0 d.1

      no_panels : slice_panels beyond g look r s k ≡ []
      unfolding faces_on
      no_panels =
          length_none (slice_panels beyond g look r s k)
          (omega (
            arith,
            slice-few beyond g look r s l k,
            sum-none (λ q. seen (slot_shown beyond g look r s k q)) (height_of r s * width_of r s) (λ q lq. seen_none (slot_shown beyond g look r s k q) (slot-none q lq)),
          ))

      pub slice-none : {out : List ℤ} {n : ℕ} → Listed (slice_panels beyond g look r s k) m m₁ out out n n
      slice-none =
          let e =
          same-mask (height_of r s * width_of r s) m₁ m fill.mask.same (λ q lq. at_slot q lq ∙ slot-none q lq) clear (whole-beyond fill.mask) in
          rw (no_panels, e) listed-none

    module _ (ranged : Ranged g.origin) (lies : Lies (frame_of g r s k)) where
      pub slice-listed : {m₂ : List ℕ} {out out' : List ℤ} {n c : ℕ} → Wrote (frame_of g r s k) (scan (width_of r s) (height_of r s) m₁) m₂ out out' n c → Listed (slice_panels beyond g look r s k) m m₂ out out' n c
      slice-listed {out = out} {n = n} o =
          let w = width_of r s in
          let h = height_of r s in
          let e = o.mask in
          let same = same-panels beyond g look r s k m₁ at_slot ranged lies in
          record {
            mask = e ∙ scan-wiped w h m₁ m fill.mask.same clear (whole-beyond fill.mask);
            list = o.list ∙ ap (write_from out n) same;
            total = o.total ∙ ap (λ (x : ℕ). n + x) (sym (length-map (scan w h m₁).rects (quad_from (frame_of g r s k))) ∙ ap length same);
          }
