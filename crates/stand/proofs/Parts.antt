-- Laws of the cells of a region, part by part and by their distances.
use Rattle.std.proofs.Common.{◌≡◌, ℕ, zero, suc, ◌+◌, ◌-◌, ◌*◌, ◌<◌, ◌≤◌, true, eqb, List, [], ◌∷◌, ◌++◌, length, sym, refl, ap, ◌∙◌, subst, ⊎_elim, one-mul, mul-zero, mul-suc, arith, length-append, eqb-true}
use mathlib.Core.List.Memᴰ
use mathlib.Core.List.{Memᴰ}
use borrow.Author.Tests.{eqb-false}
use Rattle.stand.specs.Fill.{Inside, box_cells, box_of, cells_in, plane_cells, row_cells, solid_cells}
use Rattle.stand.specs.Shape.{Shape, cell_from, inside, point_of, product}
use Rattle.stand.specs.declared.Cell.{Cell}
use Rattle.stand.specs.declared.volume.shape.Point.{Point}
use Rattle.stand.specs.declared.volume.shape.Region.{Region}
use Rattle.stand.proofs.Box.{box_in}
use Rattle.stand.proofs.Shape.{Within, inside-from}
use Rattle.stand.proofs.Tests.{by-test}

-- ---- cells part by part

-- lists of cells that grow by w at each step: rows by a cell, planes by a row, solids by a plane
pub record Parts (all part : Shape → ℕ → List Cell) (w : ℕ) : Type 0 where
  pub none : (g : Shape) → all g 0 ≡ []
  pub more : (g : Shape) (i : ℕ) → all g (suc i) ≡ all g i ++ part g i
  pub each : (g : Shape) (i : ℕ) → length (part g i) ≡ w

module _ {all part : Shape → ℕ → List Cell} {w : ℕ} (r : Parts all part w) (g : Shape) where
  pub parts_length : (n : ℕ) → length (all g n) ≡ w * n
  parts_length zero = ap length (r.none g) ∙ sym (mul-zero w)
  parts_length (suc n) =
      ap length (r.more g n) ∙ length-append (all g n) (part g n)
      ∙ (λ i. parts_length n i + r.each g n i) ∙ sym (mul-suc w n)

  -- what holds of each part's cells holds of all
  parts_hold : (Q : Cell → Type 0) (n : ℕ) → ((i : ℕ) → i < n → (c : Cell) → Memᴰ c (part g i) → Q c) → (c : Cell) → Memᴰ c (all g n) → Q c
  parts_hold Q zero h c m = absurd (Memᴰ.not-nil (rw (r.none g) at m))
  parts_hold Q (suc n) h c m =
      ⊎_elim (parts_hold Q n (λ i l. h i (omega arith)) c) (h n (omega arith) c)
      (Memᴰ.append_cases (all g n) (rw (r.more g n) at m))

module _ {all part : Shape → ℕ → List Cell} {w : ℕ} (r : Parts all part w) (g : Shape) {c : Cell} where
  -- a cell of one part is one of all
  parts_have : (n i : ℕ) → i < n → Memᴰ c (part g i) → Memᴰ c (all g n)
  parts_have zero i l m = absurd (omega arith)
  parts_have (suc n) i l m =
      subst (Memᴰ c) (sym (r.more g n))
      (by-test (eqb i n)
      (λ e. Memᴰ.append_right (all g n) (subst (λ (j : ℕ). Memᴰ c (part g j)) (eqb-true i n e) m))
      (λ e. let d = eqb-false i n e in Memᴰ.append_left (part g n) (parts_have n i (omega arith) m)))

pub rows : (p : Point) → Parts (λ (g : Shape). row_cells g p) (λ (g : Shape) (i : ℕ). cell_from g (point_of (p.x + i) p.y p.z) ∷ []) 1
unfolding row_cells
rows p = record { none = λ g. refl; more = λ g i. refl; each = λ g i. refl }

row_length : (g : Shape) (p : Point) (n : ℕ) → length (row_cells g p n) ≡ n
row_length g p n = parts_length (rows p) g n ∙ one-mul n

pub planes : (p : Point) (n : ℕ) → Parts (λ (g : Shape). plane_cells g p n) (λ (g : Shape) (i : ℕ). row_cells g (point_of p.x (p.y + i) p.z) n) n
unfolding plane_cells
planes p n = record { none = λ g. refl; more = λ g i. refl; each = λ g i. row_length g _ n }

pub solids : (p : Point) (n m : ℕ) → Parts (λ (g : Shape). solid_cells g p n m) (λ (g : Shape) (i : ℕ). plane_cells g (point_of p.x p.y (p.z + i)) n m) (n * m)
unfolding solid_cells
solids p n m = record { none = λ g. refl; more = λ g i. refl; each = λ g i. parts_length (planes _ n) g m }

pub box-length : (g : Shape) (k : Region) → length (box_cells g k) ≡ cells_in k
unfolding box_cells cells_in product
box-length g k = parts_length (solids k.low k.count.x k.count.y) g k.count.z

pub length_none : {A : Type 0} (xs : List A) → length xs ≡ 0 → xs ≡ []
length_none [] e = refl
length_none (x ∷ xs) e = absurd (omega arith)

-- ---- the cells of a region are those at its distances

pub record InSpan (p n d : ℕ) : Type 0 where
  pub from : p ≤ d
  pub to : d < p + n

pub record InBox (k : Region) (d : Point) : Type 0 where
  pub x : InSpan k.low.x k.count.x d.x
  pub y : InSpan k.low.y k.count.y d.y
  pub z : InSpan k.low.z k.count.z d.z

-- n by m by l cells from distances p on
abbrev pub region_of : Point → ℕ → ℕ → ℕ → Region
region_of p n m l = record { low = p; count = point_of n m l }

-- a cell at distances in a region
pub record Spotted (g : Shape) (k : Region) (c : Cell) : Type 0 where
  pub spot : Point
  pub in_box : InBox k spot
  pub is : c ≡ cell_from g spot

in_one : (p : ℕ) → InSpan p 1 p
in_one p = record { from = omega arith; to = omega arith }

-- one step along an axis is part of all
in_more : {p n d : ℕ} (i : ℕ) → i < n → InSpan (p + i) 1 d → InSpan p n d
in_more i l s = record { from = omega (arith, s.from); to = omega (arith, s.to) }

module _ (g : Shape) where
  pub row_spotted : (p : Point) (n : ℕ) (c : Cell) → Memᴰ c (row_cells g p n) → Spotted g (region_of p n 1 1) c
  row_spotted p n =
      parts_hold (rows p) g (Spotted g (region_of p n 1 1)) n
      (λ i l c m. record {
        spot = point_of (p.x + i) p.y p.z;
        in_box = record { x = in_more i l (in_one (p.x + i)); y = in_one p.y; z = in_one p.z };
        is = Memᴰ.eq_of_singleton m;
      })

  pub plane_spotted : (p : Point) (n m : ℕ) (c : Cell) → Memᴰ c (plane_cells g p n m) → Spotted g (region_of p n m 1) c
  plane_spotted p n m =
      parts_hold (planes p n) g (Spotted g (region_of p n m 1)) m
      (λ i l c e.
      let r = row_spotted (point_of p.x (p.y + i) p.z) n c e in
      record { spot = r.spot; in_box = record { x = r.in_box.x; y = in_more i l r.in_box.y; z = r.in_box.z }; is = r.is })

  pub cells_spotted : (k : Region) (c : Cell) → Memᴰ c (box_cells g k) → Spotted g k c
  unfolding box_cells
  cells_spotted k =
      parts_hold (solids k.low k.count.x k.count.y) g (Spotted g k) k.count.z
      (λ i l c e.
      let r = plane_spotted (point_of k.low.x k.low.y (k.low.z + i)) k.count.x k.count.y c e in
      record { spot = r.spot; in_box = record { x = r.in_box.x; y = r.in_box.y; z = in_more i l r.in_box.z }; is = r.is })

  -- they are all there
  pub spot_cell : (k : Region) (d : Point) → InBox k d → Memᴰ (cell_from g d) (box_cells g k)
  unfolding box_cells
  spot_cell k d r =
      let i : k.low.x + (d.x - k.low.x) ≡ d.x = omega (arith, r.x.from) in
      let j : k.low.y + (d.y - k.low.y) ≡ d.y = omega (arith, r.y.from) in
      let l : k.low.z + (d.z - k.low.z) ≡ d.z = omega (arith, r.z.from) in
      parts_have (solids k.low k.count.x k.count.y) g k.count.z (d.z - k.low.z) (omega (arith, r.z.from, r.z.to))
      (parts_have (planes _ k.count.x) g k.count.y (d.y - k.low.y) (omega (arith, r.y.from, r.y.to))
      (parts_have (rows _) g k.count.x (d.x - k.low.x) (omega (arith, r.x.from, r.x.to))
      (Memᴰ.head (λ q. cell_from g (point_of (sym i q) (sym j q) (sym l q))))))

  -- and in a region inside they are inside
  pub spotted_within : {k : Region} {c : Cell} → Inside g k → (r : Spotted g k c) → Within g.size r.spot
  spotted_within h r = record { x = omega (arith, h.x, r.in_box.x.to); y = omega (arith, h.y, r.in_box.y.to); z = omega (arith, h.z, r.in_box.z.to) }

  pub box-inside : (a b c : Cell) → Memᴰ c (box_cells g (box_of g a b)) → inside g c ≡ true
  box-inside a b c m =
      let r = cells_spotted (box_of g a b) c m in
      ap (inside g) r.is ∙ inside-from g r.spot (spotted_within (box_in g a b) r)
