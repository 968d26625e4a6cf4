-- Panels by a slice's frame: as numbers, as the scan adds them, and as the part's panels.
use mathlib.Core.Path.{◌≡◌, refl, sym, ap, ◌∙◌, subst}
use mathlib.Core.Bool.{Bool, true, false, cond}
use mathlib.Core.List.{List, [], ◌∷◌, ◌++◌, append_assoc, append-nil, map, map-append, map-map}
use Prim.Native.Nat.{ℕ, zero, suc, ◌+◌, ◌-◌, ◌*◌, ◌/◌, ◌%◌, ◌≤◌, ◌<◌}
use native.Mathlib.Nat.{add_assoc, add-suc, add-zero, div-eq_of_lt, mod-eq_of_lt, mul-add-div_right, mul-add-mod_self_right, mul-one, suc-add}
use native.Mathlib.Numerals.{add-one}
use native.Mathlib.Omega.{arith}
use borrow.Author.Tests.{eqb-true, eqb-false, eq-eqb, ne_eqb, le-ltb, lt-ltb}
use borrow.Rule.Slice.PartMut.{mid_len, mid_of, Post-is, put_mid}
use lib.Dec.{eqb}
use lib.IntN.{ℤ, pos, ◌+ℤ◌}
use lib.ListN.{drop, get_or, length, length-append, length-map, set, take}
use lib.Seq.{sets-eq}
use mir.Syntax.{w32}
use mir.Val.{SFits}
use Rattle.arith.proofs.Levels.{number-sum}
use Rattle.arith.specs.Level.{level_of, number_of}
use Rattle.stand.specs.Cells.{cell_of}
use Rattle.stand.specs.Shape.{Ranged, Shape, cell_from, levels_of}
use Rattle.stand.specs.Sides.{axes_at, first_at, normal_at, second_at, side_number}
use Rattle.stand.specs.Storage.{extent_of}
use Rattle.stand.specs.declared.Axes.{Axes}
use Rattle.stand.specs.declared.volume.shape.Region.{Region}
use Rattle.stand.proofs.Sides.{six}
use Rattle.mesh.specs.Axes.{put_along}
use Rattle.mesh.specs.Claims.{Blank, ClaimPost}
use Rattle.mesh.specs.Cover.{Each}
use Rattle.mesh.specs.Frame.{Lies, StepPost, Wrote, along_frame, frame_of, next_at, quad_from}
use Rattle.mesh.specs.Merge.{Cuts, cut_to, limits, total}
use Rattle.mesh.specs.Panels.{boxes_of, face_of, nokey, quad_of, steps_of}
use Rattle.mesh.specs.Part.{added, cell_in, facing, height_of, on_axis, turned, width_of}
use Rattle.mesh.specs.Quad.{numbers_of, put_quad, write_from}
use Rattle.mesh.specs.Scan.{State, clear_of, fresh, rect_at, row_to, rows_to, scan, slot, step_at}
use Rattle.mesh.specs.declared.claim.Rect.{Rect}
use Rattle.mesh.specs.declared.Quad.{Quad}
use Rattle.mesh.specs.declared.scan.Frame.{Frame}
use Rattle.mesh.specs.declared.scan.Turn.{Turn}
use Rattle.mesh.proofs.Scanned.{Fits, as_box, row_jump, row_skip, row_skips, scan-fits, scan-same, step_claim, step_skip}

-- ---- a panel's numbers

pub side-number : (s : ℕ) → s < 6 → side_number (face_of s) ≡ s
side-number zero h = refl
side-number (suc zero) h = refl
side-number (suc (suc zero)) h = refl
side-number (suc (suc (suc zero))) h = refl
side-number (suc (suc (suc (suc zero)))) h = refl
side-number (suc (suc (suc (suc (suc zero))))) h = refl
side-number (suc (suc (suc (suc (suc (suc s)))))) h = absurd (omega arith)

-- what holds of all lists of n numbers, their numbers named
abbrev Named : ℕ → (List ℤ → Type 0) → Type 0
Named zero P = P []
Named (suc n) P = (x : ℤ) → Named n (λ q. P (x ∷ q))

named : (n : ℕ) (P : List ℤ → Type 0) → Named n P → (q : List ℤ) → length q ≡ n → P q
named zero P h [] l = h
named zero P h (x ∷ q) l = absurd (omega arith)
named (suc n) P h [] l = absurd (omega arith)
named (suc n) P h (x ∷ q) l = named n (λ q. P (x ∷ q)) (h x) q (omega arith)

-- eight stores by axes x: k, u and v along them, side, finish, run and rows
abbrev stored : List ℤ → Axes → ℤ → ℤ → ℤ → ℤ → ℤ → ℤ → ℤ → List ℤ
stored q x k u v side finish run rows = put_along (set (set (put_along q x 0 k u v) 3 side) 4 finish) x 5 (pos 1) run rows

-- are the panel's numbers
pub numbers : (f : Frame) (r : Rect) → Lies f → (q : List ℤ) → length q ≡ 8 → {k u v side finish run rows : ℤ}
    → k ≡ number_of f.normal → u ≡ number_of (f.first + r.u) → v ≡ number_of (f.second + r.v)
    → side ≡ pos f.side → finish ≡ pos r.value → run ≡ pos r.run → rows ≡ pos r.rows
    → stored q f.axes k u v side finish run rows ≡ numbers_of (quad_from f r)
unfolding numbers_of quad_from along_frame facing turned axes_at normal_at first_at second_at
numbers f r l q e ek eu ev es ef er ew =
    let at = λ (i : ℕ). number_of i in
    (λ i. stored q f.axes (ek i) (eu i) (ev i) (es i) (ef i) (er i) (ew i))
    ∙ named 8 (λ q. stored q f.axes (at f.normal) (at (f.first + r.u)) (at (f.second + r.v)) (pos f.side) (pos r.value) (pos r.run) (pos r.rows) ≡ numbers_of (quad_from f r))
    (λ a b c d e g h i.
    rw l.axes
    (six (λ s. stored (a ∷ b ∷ c ∷ d ∷ e ∷ g ∷ h ∷ i ∷ []) (axes_at s) (at f.normal) (at (f.first + r.u)) (at (f.second + r.v)) (pos s) (pos r.value) (pos r.run) (pos r.rows)
    ≡ at (turned 0 s f.normal (f.first + r.u) (f.second + r.v)) ∷ at (turned 1 s f.normal (f.first + r.u) (f.second + r.v)) ∷ at (turned 2 s f.normal (f.first + r.u) (f.second + r.v))
    ∷ pos (side_number (face_of s)) ∷ pos r.value
    ∷ pos (turned 0 s 1 r.run r.rows) ∷ pos (turned 1 s 1 r.run r.rows) ∷ pos (turned 2 s 1 r.run r.rows) ∷ [])
    refl refl refl refl refl refl f.side l.side))
    q e

-- the eight numbers of panel k, and the list with others in their place
pub panel_part : (out : List ℤ) (k : ℕ) → k < length out / 8 → length (mid_of (k * 8) (k * 8 + 8 - k * 8) out) ≡ 8
panel_part out k h = mid_len (k * 8) (k * 8 + 8) out (omega arith) ∙ omega arith

pub put-room : (out : List ℤ) (k : ℕ) (q : Quad) {ns : List ℤ} → k < length out / 8 → ns ≡ numbers_of q → put_mid (k * 8) (k * 8 + 8 - k * 8) out ns ≡ put_quad out k q
unfolding put_quad numbers_of
put-room out k q h e =
    rw (lt-ltb k (length out / 8) h)
    ((λ i. take (k * 8) out ++ (e i ++ Post-is (k * 8) (k * 8 + 8) out (omega arith) i))
    ∙ sym (append_assoc (take (k * 8) out) (numbers_of q) (drop (k * 8 + 8) out))
    ∙ sym (sets-eq (numbers_of q) out (k * 8) (omega arith)))

pub put_full : (out : List ℤ) (k : ℕ) (q : Quad) → length out / 8 ≤ k → out ≡ put_quad out k q
unfolding put_quad
put_full out k q h = rw (le-ltb k (length out / 8) h)

-- ---- what comes after a state

abbrev pub after : State → State → State
after s t = record { mask = t.mask; rects = s.rects ++ t.rects }

step_after : (w h : ℕ) (s : State) (u v : ℕ) → step_at w h s u v ≡ after s (step_at w h (fresh s.mask) u v)
unfolding step_at
step_after w h s u v = go (eqb (slot w s.mask u v) 0)
  where
    r : Rect
    r = rect_at w h s.mask u v

    go : (b : Bool) → cond b s (record { mask = clear_of w s.mask r; rects = s.rects ++ r ∷ [] })
        ≡ after s (cond b (fresh s.mask) (record { mask = clear_of w s.mask r; rects = r ∷ [] }))
    go true = λ i. record { mask = s.mask; rects = sym (append-nil s.rects) i }
    go false = refl

row_after : (w h v : ℕ) (s : State) (u : ℕ) → row_to w h v s u ≡ after s (row_to w h v (fresh s.mask) u)
unfolding row_to
row_after w h v s zero = λ i. record { mask = s.mask; rects = sym (append-nil s.rects) i }
row_after w h v s (suc u) =
    let t : State = row_to w h v (fresh s.mask) u in
    ap (λ (t : State). step_at w h t u v) (row_after w h v s u)
    ∙ step_after w h (after s t) u v
    ∙ (λ i. record { mask = (step_at w h (fresh t.mask) u v).mask; rects = append_assoc s.rects t.rects (step_at w h (fresh t.mask) u v).rects i })
    ∙ sym (ap (after s) (step_after w h t u v))

-- ---- panels written

pub write-append : (out : List ℤ) (k : ℕ) (xs ys : List Quad) → write_from out k (xs ++ ys) ≡ write_from (write_from out k xs) (k + length xs) ys
unfolding write_from
write-append out k [] ys = rw add-zero
write-append out k (x ∷ xs) ys = rw (add-suc k (length xs), ← suc-add k (length xs)) (write-append (put_quad out k x) (suc k) xs ys)

pub wrote-start : (f : Frame) (m : List ℕ) (out : List ℤ) (n : ℕ) → Wrote f (fresh m) m out out n n
unfolding write_from
wrote-start f m out n = record { mask = refl; list = refl; total = sym (add-zero n) }

module _ {f : Frame} {s t : State} {m₁ m₂ : List ℕ} {out₀ out₁ out₂ : List ℤ} {n₀ n₁ n₂ : ℕ} where
  wrote_after : Wrote f s m₁ out₀ out₁ n₀ n₁ → Wrote f t m₂ out₁ out₂ n₁ n₂ → Wrote f (after s t) m₂ out₀ out₂ n₀ n₂
  wrote_after a b =
      record {
        mask = b.mask;
        list =
            b.list
            ∙ (λ i. write_from (a.list i) (a.total i) (map (quad_from f) t.rects))
            ∙ sym
            (ap (write_from out₀ n₀) (map-append (quad_from f) s.rects t.rects)
            ∙ write-append out₀ n₀ (map (quad_from f) s.rects) (map (quad_from f) t.rects)
            ∙ ap (λ (k : ℕ). write_from (write_from out₀ n₀ (map (quad_from f) s.rects)) (n₀ + k) (map (quad_from f) t.rects)) (length-map s.rects (quad_from f)));
        total = omega (arith, a.total, b.total, length-append s.rects t.rects);
      }

-- ---- a slot, a row, the rows

module _ (w h v : ℕ) (s : State) (u : ℕ) (lu : u < w) (lv : v < h) where
  row_next : row_to w h v s (next_at w h (row_to w h v s u).mask u v) ≡ step_at w h (row_to w h v s u) u v
  unfolding next_at
  row_next = go (eqb (slot w (row_to w h v s u).mask u v) 0) refl
    where
      t : State
      t = row_to w h v s u

      go : (b : Bool) → eqb (slot w t.mask u v) 0 ≡ b → row_to w h v s (cond b (u + 1) (u + (rect_at w h t.mask u v).run)) ≡ step_at w h t u v
      go true e =
          let z : slot w t.mask u v ≡ 0 = eqb-true (slot w t.mask u v) 0 e in
          row_skip w h v s u z ∙ sym (step_skip w h t u v z)
      go false e = row_jump w h v s u (rect_at w h t.mask u v).run lu lv (eqb-false (slot w t.mask u v) 0 e) refl

module _ {f : Frame} (m₀ : List ℕ) {m m' : List ℕ} {out₀ out out' : List ℤ} {n₀ n : ℕ} where
  pub row_step : (v u : ℕ) {r : Turn} → u < f.width → v < f.height → Wrote f (row_to f.width f.height v (fresh m₀) u) m out₀ out n₀ n
      → StepPost f u v m m' out out' n r → Wrote f (row_to f.width f.height v (fresh m₀) r.next) m' out₀ out' n₀ r.count
  row_step v u {r} lu lv a p =
      let w = f.width in
      let h = f.height in
      let t : State = row_to w h v (fresh m₀) u in
      let e : after t (step_at w h (fresh m) u v) ≡ row_to w h v (fresh m₀) r.next =
      ap (λ (l : List ℕ). after t (step_at w h (fresh l) u v)) a.mask
      ∙ sym (step_after w h t u v)
      ∙ sym (row_next w h v (fresh m₀) u lu lv)
      ∙ ap (row_to w h v (fresh m₀)) (sym (p.next ∙ ap (λ (l : List ℕ). next_at w h l u v) a.mask)) in
      subst (λ (s : State). Wrote f s m' out₀ out' n₀ r.count) e (wrote_after a p.wrote)

  pub rows_step : (v : ℕ) {r : ℕ} → Wrote f (rows_to f.width f.height (fresh m₀) v) m out₀ out n₀ n
      → Wrote f (row_to f.width f.height v (fresh m) f.width) m' out out' n r
      → Wrote f (rows_to f.width f.height (fresh m₀) (v + 1)) m' out₀ out' n₀ r
  unfolding rows_to
  rows_step v {r} a b =
      let w = f.width in
      let h = f.height in
      let t : State = rows_to w h (fresh m₀) v in
      let e : after t (row_to w h v (fresh m) w) ≡ row_to w h v t w =
      ap (λ (l : List ℕ). after t (row_to w h v (fresh l) w)) a.mask ∙ sym (row_after w h v t w) in
      rw add-one (subst (λ (s : State). Wrote f s m' out₀ out' n₀ r) e (wrote_after a b))

-- slots that are 0 are passed
pub row_on : {f : Frame} (m₀ : List ℕ) {m : List ℕ} {out₀ out : List ℤ} {n₀ n : ℕ} (v u r : ℕ) {row end : ℕ} → row ≡ v * f.width → Blank m (row + u) end (row + r)
    → Wrote f (row_to f.width f.height v (fresh m₀) u) m out₀ out n₀ n
    → Wrote f (row_to f.width f.height v (fresh m₀) r) m out₀ out n₀ n
row_on {f} m₀ {m} {out₀} {out} {n₀} {n} v u r e b a =
    let w = f.width in
    let h = f.height in
    let d : u + (r - u) ≡ r = omega (arith, b.low) in
    let blank : (i : ℕ) → i < r - u → slot w (row_to w h v (fresh m₀) u).mask (u + i) v ≡ 0 =
    λ i y.
    ap (λ (l : List ℕ). get_or l (v * w + (u + i)) 0) (sym a.mask)
    ∙ ap (λ (k : ℕ). get_or m (k + (u + i)) 0) (sym e)
    ∙ b.passed _ (omega arith) (omega arith) in
    let s = sym (row_skips w h v (fresh m₀) u (r - u) blank) ∙ ap (row_to w h v (fresh m₀)) d in
    subst (λ (t : State). Wrote f t m out₀ out n₀ n) s a

-- what a slot gives: nothing, or its rectangle
module _ {f : Frame} {u v : ℕ} (lu : u < f.width) (m : List ℕ) (out : List ℤ) (count : ℕ) where
  pub step-none : slot f.width m u v ≡ 0 → StepPost f u v m m out out count (record { next = u + 1; count = count })
  unfolding next_at
  step-none z =
      record {
        wrote = subst (λ (s : State). Wrote f s m out out count count) (sym (step_skip f.width f.height (fresh m) u v z)) (wrote-start f m out count);
        next = rw (eq-eqb (slot f.width m u v) 0 z);
        low = omega arith;
        high = omega arith;
      }

  pub step-put : {m' : List ℕ} {out' : List ℤ} {r : Rect} → (slot f.width m u v ≡ 0 → ⊥)
      → ClaimPost m m' f.width f.height u v r → out' ≡ put_quad out count (quad_from f r)
      → StepPost f u v m m' out out' count (record { next = u + r.run; count = count + 1 })
  unfolding next_at rect_at write_from
  step-put {m'} {out'} {r} nz p put =
      let w = f.width in
      let h = f.height in
      let some = p.some-run in
      record {
        wrote =
            subst (λ (s : State). Wrote f s m' out out' count (count + 1)) (sym (step_claim w h (fresh m) u v nz))
            (record { mask = p.mask ∙ ap (clear_of w m) p.rect; list = put ∙ ap (λ (r : Rect). put_quad out count (quad_from f r)) p.rect; total = refl });
        next = rw (ne_eqb (slot w m u v) 0 nz) (ap (λ (r : Rect). u + r.run) p.rect);
        low = omega arith;
        high = p.wide;
      }

-- ---- the frame of a slice of a part

pub from_level : (o : ℤ) (low d : ℕ) → SFits w32 o → level_of o + low + d < 4294967296 → number_of (level_of o + low + d) ≡ o +ℤ pos (low + d)
from_level o low d f h = ap number_of (add_assoc (level_of o) low d) ∙ number-sum o (low + d) f (omega arith)

pub map_each : {P : Rect → Type 0} (f g : Rect → Quad) → ((q : Rect) → P q → f q ≡ g q) → (qs : List Rect) → Each P qs → map f qs ≡ map g qs
map_each f g h [] e = refl
map_each f g h (q ∷ qs) e = λ i. h q e.0 i ∷ map_each f g h qs e.1 i

pub boxes-same : (w h : ℕ) (m : List ℕ) → boxes_of w h m ≡ map (as_box w) (scan w h m).rects
unfolding boxes_of total
boxes-same w h m = ap (λ (n : ℕ). (cut_to (limits (h ∷ w ∷ [])) nokey m (h * n)).boxes) (sym (mul-one w)) ∙ ap (λ (c : Cuts). c.boxes) (scan-same w h m)

module _ (g : Shape) (r : Region) (s k : ℕ) (ranged : Ranged g.origin) (lies : Lies (frame_of g r s k)) where
  module _ (u v : ℕ) (lu : u < width_of r s) (lv : v < height_of r s) where
    first_in : on_axis (first_at s) (added (levels_of g.origin) r.low) + u < 4294967296
    unfolding frame_of
    first_in = omega (arith, lies.first)

    second_in : on_axis (second_at s) (added (levels_of g.origin) r.low) + v < 4294967296
    unfolding frame_of
    second_in = omega (arith, lies.second)

    normal_in : on_axis (normal_at s) (added (levels_of g.origin) r.low) + k < 4294967296
    unfolding frame_of
    normal_in = lies.normal

    cell-on : (n : ℕ) → normal_at s ≡ n → n < 3
        → cell_of (along_frame (frame_of g r s k) u v 0) (along_frame (frame_of g r s k) u v 1) (along_frame (frame_of g r s k) u v 2) ≡ cell_in g r s k u v
    unfolding along_frame frame_of cell_in cell_from added facing turned first_at second_at
    cell-on zero e l =
        rw e
        (λ i. cell_of
        (from_level g.origin.x r.low.x k ranged.x (rw e at normal_in) i)
        (from_level g.origin.y r.low.y u ranged.y (rw e at first_in) i)
        (from_level g.origin.z r.low.z v ranged.z (rw e at second_in) i))
    cell-on (suc zero) e l =
        rw e
        (λ i. cell_of
        (from_level g.origin.x r.low.x u ranged.x (rw e at first_in) i)
        (from_level g.origin.y r.low.y k ranged.y (rw e at normal_in) i)
        (from_level g.origin.z r.low.z v ranged.z (rw e at second_in) i))
    cell-on (suc (suc zero)) e l =
        rw e
        (λ i. cell_of
        (from_level g.origin.x r.low.x u ranged.x (rw e at first_in) i)
        (from_level g.origin.y r.low.y v ranged.y (rw e at second_in) i)
        (from_level g.origin.z r.low.z k ranged.z (rw e at normal_in) i))
    cell-on (suc (suc (suc n))) e l = absurd (omega arith)

    pub cell_same : cell_of (along_frame (frame_of g r s k) u v 0) (along_frame (frame_of g r s k) u v 1) (along_frame (frame_of g r s k) u v 2) ≡ cell_in g r s k u v
    unfolding normal_at frame_of
    cell_same = cell-on (normal_at s) refl (omega (arith, lies.side))

  pub frame_quad : (q : Rect) → Fits (width_of r s) (height_of r s) q → quad_from (frame_of g r s k) q ≡ quad_of g r s k (as_box (width_of r s) q)
  unfolding quad_from quad_of as_box steps_of frame_of
  frame_quad q f =
      let w = width_of r s in
      let lu : q.u < w = omega (arith, f.wide, f.some-run) in
      let lv : q.v < height_of r s = omega (arith, f.high, f.some-rows) in
      let p : 0 < w = omega arith in
      let a : (q.v * w + q.u) % w ≡ q.u = mul-add-mod_self_right q.v w q.u ∙ mod-eq_of_lt lu in
      let b : (q.v * w + q.u) / w ≡ q.v = mul-add-div_right p q.v q.u ∙ rw (div-eq_of_lt lu, add-zero) in
      rw (a, b)
      (λ i. record {
        cell = cell_same q.u q.v lu lv i;
        face = face_of s;
        voxel = record { 0 = q.value };
        extent = extent_of (facing s 1 q.run q.rows);
      })

  -- the panels that the scan writes are those of the merging
  pub frame_panels : (m : List ℕ) → map (quad_from (frame_of g r s k)) (scan (width_of r s) (height_of r s) m).rects
      ≡ map (quad_of g r s k) (boxes_of (width_of r s) (height_of r s) m)
  frame_panels m =
      let w = width_of r s in
      let h = height_of r s in
      map_each (quad_from (frame_of g r s k)) (λ q. quad_of g r s k (as_box w q)) frame_quad (scan w h m).rects (scan-fits w h m)
      ∙ sym (map-map (quad_of g r s k) (as_box w) (scan w h m).rects)
      ∙ ap (map (quad_of g r s k)) (sym (boxes-same w h m))
