-- The scan of a slice, row by row, is the merging of `h ∷ w ∷ []` with no key; what it leaves.
use mathlib.Core.Path.{◌≡◌, refl, sym, ap, ◌∙◌}
use mathlib.Core.Bool.{Bool, true, false, cond}
use mathlib.Core.List.{List, [], ◌∷◌, ◌++◌, map, map-append}
use Prim.Native.Nat.{ℕ, zero, suc, ◌+◌, ◌*◌, ◌-◌, ◌/◌, ◌%◌, ◌≤◌, ◌<◌}
use native.Mathlib.Nat.{add-zero, add-suc, zero-mul, suc-mul, mul-one, mul-add-mod_self_right, mul-add-div_right, mod-eq_of_lt, div-eq_of_lt, div-one, le_refl}
use native.Mathlib.Omega.{arith}
use borrow.Author.Tests.{eqb-false, eq-eqb, ne_eqb}
use lib.Dec.{eqb}
use lib.ListN.{get_or, length, length-append}
use Rattle.mesh.specs.Cover.{Each}
use Rattle.mesh.specs.Merge.{Dir, Box, Cuts, full, all, grow, rep, clear_box, alike, box_at, cut, cut_to, total, limits}
use Rattle.mesh.specs.Scan.{State, fresh, place, slot, run_len, rows_len, clear_run, clear_rect, rect_at, clear_of, step_at, row_to, rows_to, scan}
use Rattle.mesh.specs.declared.claim.Rect.{Rect}
use Rattle.mesh.proofs.Boxes.{clear_in, clear_zero}
use Rattle.mesh.proofs.Merged.{each_append, Parted, merged}
use Rattle.mesh.proofs.Runs.{run-most, run_pass, run-some, rows-most, rows-some}

-- ---- the same cuts

-- no key
abbrev pub nokey : ℕ → ℕ
nokey q = 0

unfoldable pub as_box : ℕ → Rect → Box
as_box w r = record { start = place w r.u r.v; dirs = record { stride = w; count = r.rows } ∷ record { stride = 1; count = r.run } ∷ []; value = r.value }

abbrev pub as_cuts : ℕ → State → Cuts
as_cuts w s = record { mask = s.mask; boxes = map (as_box w) s.rects }

-- at two directions a box grows to the run and the rows
two : (w p a b x : ℕ) (m : List ℕ)
    → grow (λ r. eqb (get_or m r 0) x) p [] (record { stride = 1; count = a } ∷ record { stride = w; count = b } ∷ [])
    ≡ record { stride = w; count = rows_len m w p (run_len m p a x) b x } ∷ record { stride = 1; count = run_len m p a x } ∷ []
unfolding grow full all rows_len run_len
two w p a b x m = simp mul-one

-- the directions from slot (u, v)
limits_two : (w h u v : ℕ) → u < w → limits (h ∷ w ∷ []) (v * w + u) ≡ record { stride = 1; count = w - u } ∷ record { stride = w; count = h - v } ∷ []
unfolding limits total
limits_two w h u v l =
    let a : (v * w + u) % w ≡ u = mul-add-mod_self_right v w u ∙ mod-eq_of_lt l in
    let p : 0 < w = omega arith in
    let b : (v * w + u) / w ≡ v = mul-add-div_right p v u ∙ rw (div-eq_of_lt l, add-zero) in
    rw (mul-one, a, b, div-one)

run-same : (m : List ℕ) (p k : ℕ) → clear_box (record { stride = 1; count = k } ∷ []) p m ≡ clear_run m p k
unfolding clear_box rep clear_run
run-same m p zero = refl
run-same m p (suc k) = rw (mul-one, run-same m p k)

rect_same : (m : List ℕ) (w p run k : ℕ) → clear_box (record { stride = w; count = k } ∷ record { stride = 1; count = run } ∷ []) p m ≡ clear_rect m w p run k
unfolding clear_box rep clear_rect
rect_same m w p run zero = refl
rect_same m w p run (suc k) = ap (clear_box (record { stride = 1; count = run } ∷ []) (p + k * w)) (rect_same m w p run k) ∙ run-same (clear_rect m w p run k) (p + k * w) run

box-same : (w h : ℕ) (m : List ℕ) (u v : ℕ) → u < w → box_at (limits (h ∷ w ∷ [])) nokey m (place w u v) ≡ as_box w (rect_at w h m u v)
unfolding box_at alike as_box rect_at
box-same w h m u v l =
    rw (limits_two w h u v l)
    (ap (λ (ds : List Dir). record { start = place w u v; dirs = ds; value = slot w m u v }) (two w (place w u v) (w - u) (h - v) (slot w m u v) m))

claim_same : (w : ℕ) (m : List ℕ) (r : Rect) → clear_box (as_box w r).dirs (place w r.u r.v) m ≡ clear_of w m r
unfolding as_box clear_of
claim_same w m r = rect_same m w (place w r.u r.v) r.run r.rows

step_same : (w h : ℕ) (s : State) (u v : ℕ) → u < w → cut (limits (h ∷ w ∷ [])) nokey (as_cuts w s) (place w u v) ≡ as_cuts w (step_at w h s u v)
unfolding cut step_at rect_at
step_same w h s u v l = rw (box-same w h s.mask u v l) (go (eqb (slot w s.mask u v) 0))
  where
    r : Rect
    r = rect_at w h s.mask u v

    claim : Cuts
    claim = record { mask = clear_box (as_box w r).dirs (place w u v) s.mask; boxes = map (as_box w) s.rects ++ as_box w r ∷ [] }

    go : (b : Bool) → cond b (as_cuts w s) claim ≡ as_cuts w (cond b s (record { mask = clear_of w s.mask r; rects = s.rects ++ r ∷ [] }))
    go true = refl
    go false = λ i. record { mask = claim_same w s.mask r i; boxes = sym (map-append (as_box w) s.rects (r ∷ [])) i }

row_same : (w h : ℕ) (m : List ℕ) (s : State) (v u : ℕ) → u ≤ w → cut_to (limits (h ∷ w ∷ [])) nokey m (v * w) ≡ as_cuts w s
    → cut_to (limits (h ∷ w ∷ [])) nokey m (v * w + u) ≡ as_cuts w (row_to w h v s u)
unfolding cut_to row_to
row_same w h m s v zero l e = rw add-zero e
row_same w h m s v (suc u) l e = rw add-suc (ap (λ (c : Cuts). cut (limits (h ∷ w ∷ [])) nokey c (v * w + u)) (row_same w h m s v u (omega arith) e) ∙ step_same w h (row_to w h v s u) u v l)

rows_same : (w h : ℕ) (m : List ℕ) (v : ℕ) → cut_to (limits (h ∷ w ∷ [])) nokey m (v * w) ≡ as_cuts w (rows_to w h (fresh m) v)
unfolding cut_to rows_to
rows_same w h m zero = rw zero-mul
rows_same w h m (suc v) = rw suc-mul (row_same w h m (rows_to w h (fresh m) v) v w (omega arith) (rows_same w h m v))

pub scan-same : (w h : ℕ) (m : List ℕ) → cut_to (limits (h ∷ w ∷ [])) nokey m (total (h ∷ w ∷ [])) ≡ as_cuts w (scan w h m)
unfolding scan total
scan-same w h m = rw mul-one (rows_same w h m h)

-- ---- what the theorem of merging says of the scan

total_two : (w h : ℕ) → total (h ∷ w ∷ []) ≡ h * w
unfolding total
total_two w h = rw mul-one

module _ (w h : ℕ) (m : List ℕ) where
  -- each rectangle holds only slots that were not 0, each such slot lies in exactly one, which has its value, and the counts agree
  pub scan_parted : Parted nokey (h * w) m (as_cuts w (scan w h m))
  scan_parted = rw (scan-same w h m, total_two w h) at (merged (h ∷ w ∷ []) nokey m)

  pub scan_cleared : (q : ℕ) → q < h * w → get_or (scan w h m).mask q 0 ≡ 0
  scan_cleared = scan_parted.cleared

  pub scan-beyond : (q : ℕ) → h * w ≤ q → get_or (scan w h m).mask q 0 ≡ get_or m q 0
  scan-beyond = scan_parted.beyond

  pub scan-length : length (scan w h m).mask ≡ length m
  scan-length = scan_parted.same_length

-- ---- what one slot adds

abbrev pub claimed : ℕ → ℕ → State → ℕ → ℕ → State
claimed w h s u v = record { mask = clear_of w s.mask (rect_at w h s.mask u v); rects = s.rects ++ rect_at w h s.mask u v ∷ [] }

module _ (w h : ℕ) (s : State) (u v : ℕ) where
  pub step_skip : slot w s.mask u v ≡ 0 → step_at w h s u v ≡ s
  unfolding step_at
  step_skip z = rw (eq-eqb (slot w s.mask u v) 0 z)

  pub step_claim : (slot w s.mask u v ≡ 0 → ⊥) → step_at w h s u v ≡ claimed w h s u v
  unfolding step_at
  step_claim n = rw (ne_eqb (slot w s.mask u v) 0 n)

  -- what holds of the state, and of the state with a rectangle claimed, holds after the slot
  pub by_step : (P : State → Type 0) → P s → ((slot w s.mask u v ≡ 0 → ⊥) → P (claimed w h s u v)) → P (step_at w h s u v)
  unfolding step_at
  by_step P a b = go (eqb (slot w s.mask u v) 0) refl
    where
      go : (t : Bool) → eqb (slot w s.mask u v) 0 ≡ t → P (cond t s (claimed w h s u v))
      go true e = a
      go false e = b (eqb-false (slot w s.mask u v) 0 e)

-- what each slot keeps, a row keeps, and the rows keep
module _ (w h : ℕ) (P : State → Type 0) (step : (s : State) (u v : ℕ) → u < w → v < h → P s → P (step_at w h s u v)) where
  pub by_row : (v : ℕ) → v < h → (s : State) → P s → (u : ℕ) → u ≤ w → P (row_to w h v s u)
  unfolding row_to
  by_row v lv s a zero l = a
  by_row v lv s a (suc u) l = step (row_to w h v s u) u v l lv (by_row v lv s a u (omega arith))

  pub by_rows : (s : State) → P s → (v : ℕ) → v ≤ h → P (rows_to w h s v)
  unfolding rows_to
  by_rows s a zero l = a
  by_rows s a (suc v) l = by_row v l (rows_to w h s v) (by_rows s a v (omega arith)) w (omega arith)

-- ---- every rectangle is positive and lies in the mask

pub record Fits (w h : ℕ) (r : Rect) : Type 0 where
  pub some-run : 0 < r.run
  pub some-rows : 0 < r.rows
  pub wide : r.u + r.run ≤ w
  pub high : r.v + r.rows ≤ h
  pub seen : r.value ≡ 0 → ⊥

pub rect_fits : (w h : ℕ) (m : List ℕ) (u v : ℕ) → u < w → v < h → (slot w m u v ≡ 0 → ⊥) → Fits w h (rect_at w h m u v)
unfolding rect_at
rect_fits w h m u v lu lv seen =
    let x = slot w m u v in
    let p = place w u v in
    let n = run_len m p (w - u) x in
    let a = run-most m p (w - u) x in
    let b = rows-most m w p n (h - v) x in
    record {
      some-run = run-some m p (w - u) x (omega arith) refl;
      some-rows = rows-some m w p n (h - v) x (omega arith) (run_pass m p (w - u) x);
      wide = omega arith;
      high = omega arith;
      seen = seen;
    }

pub step_fits : (w h : ℕ) (s : State) (u v : ℕ) → u < w → v < h → Each (Fits w h) s.rects → Each (Fits w h) (step_at w h s u v).rects
step_fits w h s u v lu lv a =
    by_step w h s u v (λ s. Each (Fits w h) s.rects) a
    (λ n. each_append (Fits w h) s.rects (rect_at w h s.mask u v ∷ []) a (rect_fits w h s.mask u v lu lv n, tt))

pub scan-fits : (w h : ℕ) (m : List ℕ) → Each (Fits w h) (scan w h m).rects
unfolding scan
scan-fits w h m = by_rows w h (λ s. Each (Fits w h) s.rects) (step_fits w h) (fresh m) tt h (omega arith)

-- ---- a slot that is 0 stays so

clear_keeps : (w : ℕ) (m : List ℕ) (r : Rect) (q : ℕ) → get_or m q 0 ≡ 0 → get_or (clear_of w m r) q 0 ≡ 0
clear_keeps w m r q z = rw (claim_same w m r) at (clear_zero (as_box w r).dirs (place w r.u r.v) q m z)

pub step_keeps : (w h : ℕ) (s : State) (u v q : ℕ) → get_or s.mask q 0 ≡ 0 → get_or (step_at w h s u v).mask q 0 ≡ 0
step_keeps w h s u v q z = by_step w h s u v (λ t. get_or t.mask q 0 ≡ 0) z (λ n. clear_keeps w s.mask (rect_at w h s.mask u v) q z)

-- ---- how many so far: a loop that counts them

pub step-few : (w h : ℕ) (s : State) (u v : ℕ) → length (step_at w h s u v).rects ≤ length s.rects + 1
step-few w h s u v =
    by_step w h s u v (λ t. length t.rects ≤ length s.rects + 1) (omega arith)
    (λ n. omega (arith, length-append s.rects (rect_at w h s.mask u v ∷ [])))

pub row_few : (w h v : ℕ) (s : State) (u : ℕ) → length (row_to w h v s u).rects ≤ length s.rects + u
unfolding row_to
row_few w h v s zero = omega arith
row_few w h v s (suc u) = omega (arith, step-few w h (row_to w h v s u) u v, row_few w h v s u)

pub rows_few : (w h : ℕ) (s : State) (v : ℕ) → length (rows_to w h s v).rects ≤ length s.rects + v * w
unfolding rows_to
rows_few w h s zero = omega arith
rows_few w h s (suc v) = omega (arith, row_few w h v (rows_to w h s v) w, rows_few w h s v, suc-mul v w)

-- ---- a row walked by runs

-- slots that are 0 add nothing
pub row_skips : (w h v : ℕ) (s : State) (u k : ℕ) → ((i : ℕ) → i < k → slot w (row_to w h v s u).mask (u + i) v ≡ 0)
    → row_to w h v s (u + k) ≡ row_to w h v s u
unfolding row_to
row_skips w h v s u zero z = rw add-zero
row_skips w h v s u (suc k) z =
    rw add-suc
    (ap (λ (t : State). step_at w h t (u + k) v) (row_skips w h v s u k (λ i l. z i (omega arith))) ∙ step_skip w h (row_to w h v s u) (u + k) v (z k (le_refl _)))

pub row_skip : (w h v : ℕ) (s : State) (u : ℕ) → slot w (row_to w h v s u).mask u v ≡ 0 → row_to w h v s (u + 1) ≡ row_to w h v s u
row_skip w h v s u z = row_skips w h v s u 1 (λ i l. let e : u + i ≡ u = omega arith in rw e z)

-- the first row of a rectangle is 0 once it is cleared
clear_here : (w : ℕ) (m : List ℕ) (r : Rect) (i : ℕ) → i < r.run → 0 < r.rows → get_or (clear_of w m r) (place w r.u r.v + i) 0 ≡ 0
unfolding as_box
clear_here w m r i li lr =
    let p = place w r.u r.v in
    rw (claim_same w m r) at (clear_in (as_box w r).dirs p (p + i) m (0, lr, (i, li, omega arith)))

step-here : (w h : ℕ) (s : State) (u v i : ℕ) → u < w → v < h → (slot w s.mask u v ≡ 0 → ⊥) → i < (rect_at w h s.mask u v).run
    → slot w (step_at w h s u v).mask (u + i) v ≡ 0
unfolding rect_at
step-here w h s u v i lu lv n li =
    let e : place w (u + i) v ≡ place w u v + i = omega arith in
    rw (step_claim w h s u v n, e) (clear_here w s.mask (rect_at w h s.mask u v) i li (rect_fits w h s.mask u v lu lv n).some-rows)

-- after a claim at (u, v) the slots of its run are passed
pub row_jump : (w h v : ℕ) (s : State) (u r : ℕ) → u < w → v < h → (slot w (row_to w h v s u).mask u v ≡ 0 → ⊥)
    → r ≡ (rect_at w h (row_to w h v s u).mask u v).run → row_to w h v s (u + r) ≡ step_at w h (row_to w h v s u) u v
unfolding row_to
row_jump w h v s u r lu lv n e = go r e
  where
    t : State
    t = row_to w h v s u

    f : Fits w h (rect_at w h t.mask u v)
    f = rect_fits w h t.mask u v lu lv n

    go : (r : ℕ) → r ≡ (rect_at w h t.mask u v).run → row_to w h v s (u + r) ≡ step_at w h t u v
    go zero e = absurd (omega (arith, f.some-run))
    go (suc k) e =
        let a : u + suc k ≡ suc u + k = omega arith in
        ap (row_to w h v s) a ∙ row_skips w h v s (suc u) k (λ i l. let b : suc u + i ≡ u + suc i = omega arith in rw b (step-here w h t u v (suc i) lu lv n (omega arith)))
