-- A section's panels depend on its own cells and on those of sections that share a face with it.
use mathlib.Core.Path.{◌≡◌, refl, sym, ap, ◌∙◌, subst}
use mathlib.Core.Bool.{Bool, true, false, cond, ◌&&◌, ◌||◌, false≢true, or-true}
use mathlib.Core.List.{List, ◌++◌, map}
use Prim.Native.Nat.{ℕ, zero, suc, ◌+◌, ◌*◌, ◌/◌, ◌%◌, ◌≤◌, ◌<◌}
use native.Mathlib.Nat.{add-le-add, div-lt_iff_lt-mul, mod-lt, mul-zero, le_refl, le_trans}
use native.Mathlib.Omega.{arith}
use borrow.Author.Tests.{eq-eqb, leb-true, ltb-false, ltb-true}
use lib.Dec.{eqb, ltb}
use lib.IntN.{ℤ, pos, negsuc, ◌+ℤ◌, ◌-ℤ◌, nat_abs, +ℤ_assoc, +ℤ_idr}
use mir.Syntax.{w32}
use mir.Val.{SFits}
use Rattle.arith.proofs.Levels.{number-sum}
use Rattle.arith.proofs.Signed.{level_bound, sub_ge}
use Rattle.arith.specs.Level.{level_of, number_of}
use Rattle.arith.specs.Saturate.{saturate}
use Rattle.stand.specs.Cells.{is_empty, moved}
use Rattle.stand.specs.Shape.{Ranged, Shape, cell_from, chunk_of, chunk_place, counted, distance, inside, inside_on, last_fits, opens, over, point_of, section_at}
use Rattle.stand.specs.Sides.{normal_at, step_at, step_on, way_at}
use Rattle.stand.specs.declared.Cell.{Cell}
use Rattle.stand.specs.declared.volume.shape.Point.{Point}
use Rattle.stand.specs.declared.volume.shape.Region.{Region}
use Rattle.stand.proofs.Levels.{from_law, last_law}
use Rattle.stand.proofs.Shape.{Within, from-distance, goods, inside_on_lem, inside-within}
use Rattle.stand.proofs.Sides.{six}
use Rattle.stand.proofs.Slots.{section-place}
use Rattle.mesh.specs.Near.{gap, gaps, near, shares_face}
use Rattle.mesh.specs.Panels.{boxes_of, panels_to, part_panels, quad_of, side_panels, slice_panels}
use Rattle.mesh.specs.Part.{cell_in, depth_of, height_of, section_part, slice_mask, slot_shown, width_of}
use Rattle.mesh.specs.Visible.{ahead, clears, shown}
use Rattle.mesh.proofs.Panels.{InSlice, slice-part}
use Rattle.mesh.proofs.Sections.{chunk-place, part-chunk}
use Rattle.mesh.proofs.Slices.{table_same}
use Rattle.mesh.proofs.Step.{below-fits, gone}

-- ---- one step along an axis, n cells from o on

module _ (o : ℤ) (n : ℕ) (f : SFits w32 o) (room : level_of o + n ≤ 4294967296) (d : ℕ) (l : d < n) where
  -- the step ends at distance e from o, if it ends inside
  abbrev Ends : ℤ → ℕ → Type 0
  Ends t m = inside_on o n (saturate (o +ℤ pos d +ℤ t)) ≡ true → gap d (nat_abs (saturate (o +ℤ pos d +ℤ t) -ℤ o)) ≤ m

  at : (t : ℤ) (e m : ℕ) → saturate (o +ℤ pos d +ℤ t) ≡ o +ℤ pos e → gap d e ≤ m → Ends t m
  at t e m p h i = let q : nat_abs (saturate (o +ℤ pos d +ℤ t) -ℤ o) ≡ e = ap (λ (z : ℤ). nat_abs (z -ℤ o)) p ∙ ap nat_abs (gone o (pos e)) in omega arith

  stay : Ends (pos 0) 0
  stay = at (pos 0) d 0 (ap saturate (+ℤ_idr (o +ℤ pos d)) ∙ from_law o d f (omega arith)) (omega arith)

  -- up, or nowhere at the upper end of i32
  up : Ends (pos 1) 1
  unfolding saturate number_of
  up = go (ltb (level_of o + (d + 1)) 4294967296) refl
    where
      go : (b : Bool) → ltb (level_of o + (d + 1)) 4294967296 ≡ b → Ends (pos 1) 1
      go true e = at (pos 1) (d + 1) 1 (ap saturate (+ℤ_assoc o (pos d) (pos 1)) ∙ from_law o (d + 1) f (ltb-true _ _ e)) (omega arith)
      go false e =
          let h : level_of o + d ≡ 4294967295 = omega (arith, ltb-false (level_of o + (d + 1)) 4294967296 e) in
          let x : o +ℤ pos d ≡ pos 2147483647 = sym (number-sum o d f (omega arith)) ∙ ap number_of h in
          at (pos 1) d 1 (ap (λ (z : ℤ). saturate (z +ℤ pos 1)) x ∙ sym x) (omega arith)

-- down, or outside, or nowhere at the lower end of i32
down : (o : ℤ) (n : ℕ) (f : SFits w32 o) (room : level_of o + n ≤ 4294967296) (d : ℕ) (l : d < n) → Ends o n f room d l (negsuc 0) 1
unfolding saturate number_of inside_on
down o n f room (suc d) l =
    at o n f room (suc d) l (negsuc 0) d 1
    (ap saturate (+ℤ_assoc o (pos (suc d)) (negsuc 0) ∙ ap (λ (z : ℤ). o +ℤ z) (sub_ge (suc d) 1 (omega arith) ∙ ap pos (omega arith))) ∙ from_law o d f (omega arith))
    (omega arith)
down o n f room zero l = go (ltb 0 (level_of o)) refl
  where
    go : (b : Bool) → ltb 0 (level_of o) ≡ b → Ends o n f room 0 l (negsuc 0) 1
    go true e =
        let g = below-fits o f (ltb-true 0 (level_of o) e) in
        let x : o +ℤ pos 0 +ℤ negsuc 0 ≡ o +ℤ negsuc 0 = ap (λ (z : ℤ). z +ℤ negsuc 0) (+ℤ_idr o) in
        let y : saturate (o +ℤ negsuc 0) ≡ o +ℤ negsuc 0 =
        ap saturate (sym (+ℤ_idr (o +ℤ negsuc 0))) ∙ from_law (o +ℤ negsuc 0) 0 g (omega (arith, level_bound (o +ℤ negsuc 0) g)) ∙ +ℤ_idr (o +ℤ negsuc 0) in
        let z : inside_on o n (saturate (o +ℤ pos 0 +ℤ negsuc 0)) ≡ false = ap (λ (z : ℤ). inside_on o n (saturate z)) x ∙ ap (inside_on o n) y ∙ rw (gone o (negsuc 0)) in
        λ i. absurd (false≢true (sym z ∙ i))
    go false e =
        let h : level_of o + 0 ≡ 0 = omega (arith, ltb-false 0 (level_of o) e) in
        let x : o +ℤ pos 0 ≡ negsuc 2147483647 = sym (number-sum o 0 f (omega arith)) ∙ ap number_of h in
        at o n f room 0 l (negsuc 0) 0 1 (ap (λ (z : ℤ). saturate (z +ℤ negsuc 0)) x ∙ sym x) (omega arith)

-- 1 on the normal of side s, 0 on the other axes
unfoldable moves : ℕ → ℕ → ℕ
moves a s = cond (eqb a (normal_at s)) 1 0

step_ends : (o : ℤ) (n : ℕ) (f : SFits w32 o) (room : level_of o + n ≤ 4294967296) (d : ℕ) (l : d < n) (a s : ℕ) → Ends o n f room d l (step_on a s) (moves a s)
unfolding step_on moves way_at
step_ends o n f room d l a s = go (eqb a (normal_at s)) (eqb (s % 2) 0)
  where
    go : (b c : Bool) → Ends o n f room d l (cond b (cond c (pos 1) (negsuc 0)) (pos 0)) (cond b 1 0)
    go true true = up o n f room d l
    go true false = down o n f room d l
    go false c = stay o n f room d l

-- ---- the section one step on

gap-over : (a b m : ℕ) → gap a b ≤ m → gap (a / 16) (b / 16) ≤ m
gap-over a b m h = omega arith

moves_one : (s : ℕ) → s < 6 → moves 0 s + moves 1 s + moves 2 s ≤ 1
unfolding moves normal_at
moves_one s l = six (λ s. moves 0 s + moves 1 s + moves 2 s ≤ 1) (omega arith) (omega arith) (omega arith) (omega arith) (omega arith) (omega arith) s l

pub near_self : (k : Point) (i : ℕ) → near k i i ≡ true
unfolding near
near_self k i = rw (eq-eqb i i refl)

-- places that differ by 1 on one axis at most
near_of : (k : Point) (i j : ℕ) → gaps (chunk_place k i) (chunk_place k j) ≤ 1 → near k i j ≡ true
unfolding near shares_face gaps
near_of k i j h = go (ltb 0 (gaps (chunk_place k i) (chunk_place k j))) refl
  where
    go : (b : Bool) → ltb 0 (gaps (chunk_place k i) (chunk_place k j)) ≡ b → (eqb i j || eqb (gaps (chunk_place k i) (chunk_place k j)) 1) ≡ true
    go true e =
        let l = ltb-true 0 (gaps (chunk_place k i) (chunk_place k j)) e in
        rw (eq-eqb (gaps (chunk_place k i) (chunk_place k j)) 1 (omega arith)) (or-true (eqb i j))
    go false e =
        let l = ltb-false 0 (gaps (chunk_place k i) (chunk_place k j)) e in
        let p = chunk_place k i in
        let q = chunk_place k j in
        let x : p.x ≡ q.x = omega arith in
        let y : p.y ≡ q.y = omega arith in
        let z : p.z ≡ q.z = omega arith in
        let same : i ≡ j = sym (section-place k i) ∙ ap (section_at k) (λ i. point_of (x i) (y i) (z i)) ∙ section-place k j in
        rw (eq-eqb i j same)

module _ (g : Shape) (o : opens g ≡ true) (r : Ranged g.origin) where
  step_from : (s : ℕ) → s < 6 → (d : Point) → Within g.size d → inside g (ahead s (cell_from g d)) ≡ true
      → gaps (over d) (over (distance g (ahead s (cell_from g d)))) ≤ 1
  unfolding ahead moved step_at cell_from gaps over distance opens
  step_from s ls d w e =
      let p = inside_on_lem g (ahead s (cell_from g d)) e in
      let q = goods g.origin g.size (counted g) o in
      let a = gap-over _ _ _ (step_ends g.origin.x g.size.x r.x (room g.origin.x g.size.x r.x q.x.last) d.x w.x 0 s p.0) in
      let b = gap-over _ _ _ (step_ends g.origin.y g.size.y r.y (room g.origin.y g.size.y r.y q.y.last) d.y w.y 1 s p.1) in
      let c = gap-over _ _ _ (step_ends g.origin.z g.size.z r.z (room g.origin.z g.size.z r.z q.z.last) d.z w.z 2 s p.2) in
      le_trans (add-le-add (add-le-add a b) c) (moves_one s ls)
    where
      room : (a : ℤ) (n : ℕ) → SFits w32 a → last_fits a n ≡ true → level_of a + n ≤ 4294967296
      room a n f e = leb-true _ _ (sym (last_law a n f) ∙ e)

  -- one step on from a cell of a section is outside, or in that section or one that shares a face with it
  pub near-ahead : (s : ℕ) → s < 6 → (c : Cell) → inside g c ≡ true → inside g (ahead s c) ≡ true → near (counted g) (chunk_of g c) (chunk_of g (ahead s c)) ≡ true
  near-ahead s ls c h e =
      let d = distance g c in
      let x = from-distance g c h in
      let w : gaps (over d) (over (distance g (ahead s c))) ≤ 1 =
      subst (λ (c' : Cell). gaps (over d) (over (distance g (ahead s c'))) ≤ 1) x
      (step_from s ls d (inside-within g c h) (ap (λ (c' : Cell). inside g (ahead s c')) x ∙ e)) in
      near_of (counted g) (chunk_of g c) (chunk_of g (ahead s c))
      (subst (λ (n : ℕ). n ≤ 1) (λ i. gaps (sym (chunk-place g c o h) i) (sym (chunk-place g (ahead s c) o e) i)) w)

-- ---- equal looks

-- finishes that agree on section i and on those that share a face with it
abbrev pub Agree : Shape → ℕ → (Cell → ℕ) → (Cell → ℕ) → Type 0
Agree g i f h = (c : Cell) → inside g c ≡ true → near (counted g) i (chunk_of g c) ≡ true → f c ≡ h c

module _ (beyond : Bool) (g : Shape) (f h : Cell → ℕ) where
  shown-same : (s : ℕ) (c : Cell) → (inside g c ≡ true → f c ≡ h c)
      → (inside g c ≡ true → inside g (ahead s c) ≡ true → f (ahead s c) ≡ h (ahead s c)) → shown beyond g f s c ≡ shown beyond g h s c
  unfolding shown clears
  shown-same s c p q = go (inside g c) refl
    where
      on : (a : Bool) → inside g (ahead s c) ≡ a → inside g c ≡ true → cond a (is_empty (f (ahead s c))) beyond ≡ cond a (is_empty (h (ahead s c))) beyond
      on true y x = ap is_empty (q x y)
      on false y x = refl

      go : (b : Bool) → inside g c ≡ b
          → cond (b && cond (inside g (ahead s c)) (is_empty (f (ahead s c))) beyond) (f c) 0 ≡ cond (b && cond (inside g (ahead s c)) (is_empty (h (ahead s c))) beyond) (h c) 0
      go true x = λ i. cond (on (inside g (ahead s c)) refl x i) (p x i) 0
      go false x = refl

  module _ (r : Region) (same : (s : ℕ) (c : Cell) → s < 6 → InSlice g r s c → shown beyond g f s c ≡ shown beyond g h s c) where
    slice-same : (s k : ℕ) → s < 6 → k < depth_of r s → slice_panels beyond g f r s k ≡ slice_panels beyond g h r s k
    unfolding slice_panels slice_mask slot_shown
    slice-same s k ls lk =
        ap (λ (m : List ℕ). map (quad_of g r s k) (boxes_of (width_of r s) (height_of r s) m))
        (table_same (slot_shown beyond g f r s k) (slot_shown beyond g h r s k) (height_of r s * width_of r s) at)
      where
        some : (a b q : ℕ) → q < a * b → 0 < b
        some a zero q l = absurd (omega (arith, mul-zero a))
        some a (suc b) q l = omega arith

        at : (q : ℕ) → q < height_of r s * width_of r s → slot_shown beyond g f r s k q ≡ slot_shown beyond g h r s k q
        at q lq =
            let w = some (height_of r s) (width_of r s) q lq in
            same s (cell_in g r s k (q % width_of r s) (q / width_of r s)) ls
            (record { k = k; u = q % width_of r s; v = q / width_of r s; deep = lk; wide = mod-lt q w; high = (div-lt_iff_lt-mul w).1 lq; cell = refl })

    side_same : (s n : ℕ) → s < 6 → n ≤ depth_of r s → side_panels beyond g f r s n ≡ side_panels beyond g h r s n
    unfolding side_panels
    side_same s zero ls ln = refl
    side_same s (suc n) ls ln = λ i. side_same s n ls (omega arith) i ++ slice-same s n ls ln i

    panels-same : (n : ℕ) → n ≤ 6 → panels_to beyond g f r n ≡ panels_to beyond g h r n
    unfolding panels_to
    panels-same zero ln = refl
    panels-same (suc n) ln = λ i. panels-same n (omega arith) i ++ side_same n (depth_of r n) ln (le_refl _) i

    part_same : part_panels beyond g f r ≡ part_panels beyond g h r
    unfolding part_panels
    part_same = panels-same 6 (le_refl _)

  -- panels of equal looks are equal
  pub looks_same : (r : Region) → ((c : Cell) → inside g c ≡ true → f c ≡ h c) → part_panels beyond g f r ≡ part_panels beyond g h r
  looks_same r e = part_same r (λ s c ls i. shown-same s c (e c) (λ x y. e (ahead s c) y))

  -- LOCALITY: finishes beyond the sections that share a face do not matter
  pub local : opens g ≡ true → Ranged g.origin → (i : ℕ) → Agree g i f h → part_panels beyond g f (section_part g i) ≡ part_panels beyond g h (section_part g i)
  local o r i e =
      part_same (section_part g i)
      (λ s c ls p.
      let a = slice-part g (section_part g i) s ls c p in
      let n = part-chunk g i c a in
      shown-same s c
      (λ x. e c x (ap (near (counted g) i) n ∙ near_self (counted g) i))
      (λ x y. e (ahead s c) y (ap (λ (j : ℕ). near (counted g) j (chunk_of g (ahead s c))) (sym n) ∙ near-ahead g o r s ls c x y)))
