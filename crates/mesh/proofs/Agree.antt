-- A scan reads its own slots alone: masks that agree there give the same rectangles.
use mathlib.Core.Path.{◌≡◌, refl, ap, ◌∙◌}
use mathlib.Core.Bool.{Bool, true, false, cond}
use mathlib.Core.List.{List, [], ◌∷◌, ◌++◌}
use Prim.Native.Nat.{ℕ, zero, suc, ◌+◌, ◌*◌, ◌-◌, ◌≤◌, ◌<◌}
use native.Mathlib.Decide.{ℕ_discrete}
use native.Mathlib.Nat.{add-mul}
use native.Mathlib.Omega.{arith}
use lib.Dec.{eqb}
use lib.ListN.{get_or, set}
use lib.Seq.{get_or-set_other}
use Rattle.mesh.specs.Scan.{State, clear_of, clear_rect, clear_run, fresh, place, rect_at, row_to, rows_len, rows_to, run_len, scan, slot, step_at}
use Rattle.mesh.specs.declared.claim.Rect.{Rect}
use Rattle.mesh.proofs.Runs.{run-alike, run-most}
use Rattle.mesh.proofs.Upto.{row_fits, upto-same}

-- ---- clearing, slot by slot

set_same : (m : List ℕ) (p : ℕ) → ◌≡◌ {A = ℕ} (get_or (set m p 0) p 0) 0
set_same [] p = refl
set_same (x ∷ m) zero = refl
set_same (x ∷ m) (suc p) = set_same m p

set-alike : (m n : List ℕ) (p q : ℕ) → ◌≡◌ {A = ℕ} (get_or m q 0) (get_or n q 0) → get_or (set m p 0) q 0 ≡ get_or (set n p 0) q 0
set-alike m n p q e = by (ℕ_discrete q p)
  where
    by : Dec (q ≡ p) → get_or (set m p 0) q 0 ≡ get_or (set n p 0) q 0
    by (yes h) = rw (h, set_same m p, set_same n p)
    by (no h) = get_or-set_other m p q 0 0 h ∙ rw (get_or-set_other n p q 0 0 h) e

run_clear : (m n : List ℕ) (p k q : ℕ) → ◌≡◌ {A = ℕ} (get_or m q 0) (get_or n q 0) → get_or (clear_run m p k) q 0 ≡ get_or (clear_run n p k) q 0
unfolding clear_run
run_clear m n p zero q e = e
run_clear m n p (suc k) q e = set-alike (clear_run m p k) (clear_run n p k) (p + k) q (run_clear m n p k q e)

rect_clear : (m n : List ℕ) (w p run j q : ℕ) → ◌≡◌ {A = ℕ} (get_or m q 0) (get_or n q 0) → get_or (clear_rect m w p run j) q 0 ≡ get_or (clear_rect n w p run j) q 0
unfolding clear_rect
rect_clear m n w p run zero q e = e
rect_clear m n w p run (suc j) q e = run_clear (clear_rect m w p run j) (clear_rect n w p run j) (p + j * w) run q (rect_clear m n w p run j q e)

-- ---- rectangles

module _ (w h : ℕ) where
  abbrev pub Agree : List ℕ → List ℕ → Type 0
  Agree m n = (q : ℕ) → q < h * w → get_or m q 0 ≡ get_or n q 0

  module _ (m n : List ℕ) (a : Agree m n) (u v : ℕ) (lu : u < w) (lv : v < h) where
    slot-alike : slot w m u v ≡ slot w n u v
    slot-alike = a (place w u v) (omega (arith, row_fits w h v lv))

    run-same : (x : ℕ) → run_len m (place w u v) (w - u) x ≡ run_len n (place w u v) (w - u) x
    run-same x = run-alike m n (place w u v) (place w u v) (w - u) x (λ i l. a (place w u v + i) (omega (arith, row_fits w h v lv)))

    rows_same : (run x : ℕ) → run ≤ w - u → rows_len m w (place w u v) run (h - v) x ≡ rows_len n w (place w u v) run (h - v) x
    unfolding rows_len
    rows_same run x lr =
        upto-same (λ j. eqb (run_len m (place w u v + j * w) run x) run) (λ j. eqb (run_len n (place w u v + j * w) run x) run) (h - v)
        (λ j l. ap (λ (k : ℕ). eqb k run)
        (run-alike m n (place w u v + j * w) (place w u v + j * w) run x
        (λ i li. a (place w u v + j * w + i) (omega (arith, row_fits w h (v + j) (omega arith), add-mul v j w)))))

    rect_alike : rect_at w h m u v ≡ rect_at w h n u v
    unfolding rect_at
    rect_alike =
        let e = slot-alike in
        let r : run_len m (place w u v) (w - u) (slot w m u v) ≡ run_len n (place w u v) (w - u) (slot w n u v) = run-same (slot w m u v) ∙ ap (run_len n (place w u v) (w - u)) e in
        let k : rows_len m w (place w u v) (run_len m (place w u v) (w - u) (slot w m u v)) (h - v) (slot w m u v) ≡ rows_len n w (place w u v) (run_len n (place w u v) (w - u) (slot w n u v)) (h - v) (slot w n u v) =
        rows_same (run_len m (place w u v) (w - u) (slot w m u v)) (slot w m u v) (run-most m (place w u v) (w - u) (slot w m u v))
        ∙ (λ i. rows_len n w (place w u v) (r i) (h - v) (e i)) in
        λ i. record { u = u; v = v; run = r i; rows = k i; value = e i }

  -- ---- states

  record Alike (s t : State) : Type 0 where
    mask : Agree s.mask t.mask
    rects : s.rects ≡ t.rects

  step-alike : (s t : State) (u v : ℕ) → u < w → v < h → Alike s t → Alike (step_at w h s u v) (step_at w h t u v)
  unfolding step_at clear_of
  step-alike s t u v lu lv a = rw (slot-alike s.mask t.mask a.mask u v lu lv) (by (eqb (slot w t.mask u v) 0))
    where
      r : Rect
      r = rect_at w h s.mask u v

      same : r ≡ rect_at w h t.mask u v
      same = rect_alike s.mask t.mask a.mask u v lu lv

      by : (b : Bool) → Alike (cond b s (record { mask = clear_of w s.mask r; rects = s.rects ++ r ∷ [] })) (cond b t (record { mask = clear_of w t.mask (rect_at w h t.mask u v); rects = t.rects ++ rect_at w h t.mask u v ∷ [] }))
      by true = a
      by false =
          record {
            mask = λ q l. rw (← same) (rect_clear s.mask t.mask w (place w r.u r.v) r.run r.rows q (a.mask q l));
            rects = λ i. a.rects i ++ same i ∷ [];
          }

  row_alike : (s t : State) (v : ℕ) → v < h → Alike s t → (u : ℕ) → u ≤ w → Alike (row_to w h v s u) (row_to w h v t u)
  unfolding row_to
  row_alike s t v lv a zero l = a
  row_alike s t v lv a (suc u) l = step-alike (row_to w h v s u) (row_to w h v t u) u v l lv (row_alike s t v lv a u (omega arith))

  rows_alike : (s t : State) → Alike s t → (v : ℕ) → v ≤ h → Alike (rows_to w h s v) (rows_to w h t v)
  unfolding rows_to
  rows_alike s t a zero l = a
  rows_alike s t a (suc v) l = row_alike (rows_to w h s v) (rows_to w h t v) v l (rows_alike s t a v (omega arith)) w (omega arith)

  pub scan_agree : (m n : List ℕ) → Agree m n → (scan w h m).rects ≡ (scan w h n).rects
  unfolding scan
  scan_agree m n a = (rows_alike (fresh m) (fresh n) (record { mask = a; rects = refl }) h (omega arith)).rects
