-- The list that a meshing call writes: the numbers of its panels, what is summed over them, and when the call is accepted.
use mathlib.Core.Path.{◌≡◌, refl, sym, ap, ◌∙◌}
use mathlib.Core.Bool.{Bool, true, false, cond, true≢false}
use mathlib.Core.List.{List, [], ◌∷◌}
use Prim.Native.Nat.{ℕ, zero, suc, ◌+◌, ◌*◌, ◌/◌, ◌≤◌, ◌<◌}
use native.Mathlib.Nat.{add_assoc}
use native.Mathlib.Omega.{arith}
use borrow.Author.Tests.{eq-eqb, le-leb, le-ltb, leb-true, lt-leb, lt-ltb}
use lib.Dec.{leb, ltb}
use lib.IntN.{ℤ, pos}
use lib.ListN.{get_or, length, length-set, set}
use lib.Seq.{get_or-set_other, get_or-set_same, length-sets, sets}
use Rattle.stand.specs.Edit.{look}
use Rattle.stand.specs.Refusal.{first}
use Rattle.stand.specs.Shape.{sections, shape_of, well_formed}
use Rattle.stand.specs.declared.volume.Volume.{Volume}
use Rattle.mesh.specs.Cover.{sum_to}
use Rattle.mesh.specs.Faces.{Meshed, chunk_faces_call, meshed, panels, part_call, refused, short, written}
use Rattle.mesh.specs.Panels.{part_panels}
use Rattle.mesh.specs.Part.{largest_side, section_part}
use Rattle.mesh.specs.Quad.{number_at, numbers_of, put_quad, write_from}
use Rattle.mesh.specs.declared.Quad.{Quad}
use Rattle.mesh.proofs.Slices.{sum_same}

-- ---- numbers stored one after the other

sets-before : (vs l : List ℤ) (i : ℕ) (d : ℤ) (j : ℕ) → j < i → get_or (sets l i vs) j d ≡ get_or l j d
sets-before [] l i d j h = refl
sets-before (v ∷ vs) l i d j h = sets-before vs (set l i v) (suc i) d j (omega arith) ∙ get_or-set_other l i j v d (λ e. omega arith)

sets-within : (vs l : List ℤ) (i : ℕ) (d : ℤ) → i + length vs ≤ length l → (m : ℕ) → m < length vs → get_or (sets l i vs) (i + m) d ≡ get_or vs m d
sets-within [] l i d f m h = absurd (omega arith)
sets-within (v ∷ vs) l i d f zero h =
    let e : i + 0 ≡ i = omega arith in
    ap (λ (n : ℕ). get_or (sets (set l i v) (suc i) vs) n d) e
    ∙ sets-before vs (set l i v) (suc i) d i (omega arith)
    ∙ get_or-set_same l i v d (omega arith)
sets-within (v ∷ vs) l i d f (suc m) h =
    let e : i + suc m ≡ suc i + m = omega arith in
    ap (λ (n : ℕ). get_or (sets (set l i v) (suc i) vs) n d) e
    ∙ sets-within vs (set l i v) (suc i) d (omega (arith, length-set l i v)) m (omega arith)

-- ---- one panel

quad-length : (q : Quad) → length (numbers_of q) ≡ 8
unfolding numbers_of
quad-length q = refl

module _ (l : List ℤ) (k : ℕ) (q : Quad) where
  put-length : length (put_quad l k q) ≡ length l
  unfolding put_quad
  put-length = go (ltb k (length l / 8))
    where
      go : (b : Bool) → length (cond b (sets l (k * 8) (numbers_of q)) l) ≡ length l
      go true = length-sets l (k * 8) (numbers_of q)
      go false = refl

  put-before : (j : ℕ) → j < k * 8 → get_or (put_quad l k q) j (pos 0) ≡ get_or l j (pos 0)
  unfolding put_quad
  put-before j h = go (ltb k (length l / 8))
    where
      go : (b : Bool) → get_or (cond b (sets l (k * 8) (numbers_of q)) l) j (pos 0) ≡ get_or l j (pos 0)
      go true = sets-before (numbers_of q) l (k * 8) (pos 0) j h
      go false = refl

  put-here : k < length l / 8 → (m : ℕ) → m < 8 → number_at (put_quad l k q) k m ≡ get_or (numbers_of q) m (pos 0)
  unfolding put_quad
  put-here h m n =
      rw (lt-ltb k (length l / 8) h)
      (sets-within (numbers_of q) l (k * 8) (pos 0) (omega (arith, quad-length q)) m (omega (arith, quad-length q)))

-- ---- panels one after the other

write-before : (qs : List Quad) (l : List ℤ) (k j : ℕ) → j < k * 8 → get_or (write_from l k qs) j (pos 0) ≡ get_or l j (pos 0)
unfolding write_from
write-before [] l k j h = refl
write-before (q ∷ qs) l k j h = write-before qs (put_quad l k q) (suc k) j (omega arith) ∙ put-before l k q j h

-- the first panel written: its eight numbers, read at place k
pub first-number : (l : List ℤ) (k : ℕ) (q : Quad) (qs : List Quad) → k < length l / 8 → (m : ℕ) → m < 8
    → number_at (write_from l k (q ∷ qs)) k m ≡ get_or (numbers_of q) m (pos 0)
unfolding write_from
first-number l k q qs h m n = write-before qs (put_quad l k q) (suc k) (k * 8 + m) (omega arith) ∙ put-here l k q h m n

-- a sum by its first term
sum_first : (f : ℕ → ℕ) (n : ℕ) → sum_to f (suc n) ≡ f 0 + sum_to (λ j. f (suc j)) n
unfolding sum_to
sum_first f zero = omega arith
sum_first f (suc n) = ap (λ (x : ℕ). x + f (suc n)) (sum_first f n) ∙ add_assoc (f 0) (sum_to (λ j. f (suc j)) n) (f (suc n))

-- where `at` reads from the list what `one` gives of the panel written there, its sum over the list is `all` of the panels
module _ (at : List ℤ → ℕ → ℕ) (one : Quad → ℕ) (all : List Quad → ℕ) (none : all [] ≡ 0) (more : (q : Quad) (qs : List Quad) → all (q ∷ qs) ≡ one q + all qs)
    (first-at : (l : List ℤ) (k : ℕ) (q : Quad) (qs : List Quad) → k < length l / 8 → at (write_from l k (q ∷ qs)) k ≡ one q) where
  sum-from : (qs : List Quad) (l : List ℤ) (k : ℕ) → k + length qs ≤ length l / 8 → sum_to (λ j. at (write_from l k qs) (k + j)) (length qs) ≡ all qs
  unfolding write_from sum_to
  sum-from [] l k h = sym none
  sum-from (q ∷ qs) l k h =
      let out = write_from (put_quad l k q) (suc k) qs in
      let e : k + 0 ≡ k = omega arith in
      sum_first (λ j. at out (k + j)) (length qs)
      ∙ (λ i. (ap (at out) e ∙ first-at l k q qs (omega arith)) i
      + (sum_same (λ j. at out (k + suc j)) (λ j. at out (suc k + j)) (length qs) (λ j _. let x : k + suc j ≡ suc k + j = omega arith in ap (at out) x)
      ∙ sum-from qs (put_quad l k q) (suc k) (omega (arith, put-length l k q))) i)
      ∙ sym (more q qs)

  pub sum-written : (qs : List Quad) (l : List ℤ) → length qs ≤ length l / 8 → sum_to (at (write_from l 0 qs)) (length qs) ≡ all qs
  sum-written qs l h =
      sum_same (at (write_from l 0 qs)) (λ j. at (write_from l 0 qs) (0 + j)) (length qs) (λ j _. let x : j ≡ 0 + j = omega arith in ap (at (write_from l 0 qs)) x)
      ∙ sum-from qs l 0 (omega arith)

-- ---- accepted

is_panels : Meshed → Bool
is_panels (panels n) = true
is_panels (refused n) = false
is_panels (short n k) = false

panels_in : Meshed → ℕ
panels_in (panels n) = n
panels_in (refused n) = n
panels_in (short n k) = n

-- what a call that answers n panels wrote
pub meshed-lists : (c want : ℕ) (m : List ℕ) (l : List ℤ) (qs : List Quad) (n : ℕ) → (meshed c want m l qs).answer ≡ panels n
    → (n ≡ length qs) × (length qs ≤ length l / 8) × ((meshed c want m l qs).list ≡ write_from l 0 qs)
unfolding meshed written is_panels panels_in
meshed-lists (suc c) want m l qs n e = absurd (true≢false (ap is_panels (sym e)))
meshed-lists zero want m l qs n e = go (leb (length qs) (length l / 8)) refl e
  where
    go : (b : Bool) → leb (length qs) (length l / 8) ≡ b → cond b (panels (length qs)) (short 11 (length qs)) ≡ panels n
        → (n ≡ length qs) × (length qs ≤ length l / 8) × (write_from l 0 qs ≡ write_from l 0 qs)
    go true p e = (sym (ap panels_in e), leb-true (length qs) (length l / 8) p, refl)
    go false p e = absurd (true≢false (ap is_panels (sym e)))

-- a section's panels are listed where header and cells fit, there is such a section, and mask and list are long enough
pub chunk-accepted : (v : Volume) (cells : List ℕ) (i : ℕ) (beyond : Bool) (m : List ℕ) (l : List ℤ)
    → well_formed v ≡ true → length cells ≡ sections (shape_of v) * 4096 → i < sections (shape_of v) → largest_side (section_part (shape_of v) i) ≤ length m
    → {n : ℕ} → n ≡ length (part_panels beyond (shape_of v) (look (shape_of v) cells) (section_part (shape_of v) i)) → n * 8 ≤ length l
    → (chunk_faces_call v cells i beyond m l).answer ≡ panels n
unfolding chunk_faces_call part_call first meshed written
chunk-accepted v cells i beyond m l formed len h room {n} e fits =
    let qs = part_panels beyond (shape_of v) (look (shape_of v) cells) (section_part (shape_of v) i) in
    rw (
      formed,
      eq-eqb (length cells) (sections (shape_of v) * 4096) len,
      lt-leb (sections (shape_of v)) i h,
      le-ltb (length m) (largest_side (section_part (shape_of v) i)) room,
      le-leb (length qs) (length l / 8) (omega (arith, e)),
    )
    (ap panels (sym e))
