-- Merging in the two directions of a slice, as the code goes: document 01, 'Panels'. `scan-same` of proofs/Scanned says that it is `cut_to` of `Merge`.
-- A mask of h rows of w slots has slot (u, v) at v * w + u.
use Rattle.std.specs.Prelude.{cond, List, [], ◌∷◌, ◌++◌, ℕ, zero, suc, ◌+◌, ◌*◌, ◌-◌, eqb, get_or, set}
use Rattle.mesh.specs.Merge.{upto}
use Rattle.mesh.specs.declared.claim.Rect.{Rect}

-- the run of x from place p, at most k long
unfoldable pub run_len : List ℕ → ℕ → ℕ → ℕ → ℕ
run_len m p k x = upto (λ i. eqb (get_or m (p + i) 0) x) k

-- the rows from place p that hold x in all of their first `run` slots, at most k
unfoldable pub rows_len : List ℕ → ℕ → ℕ → ℕ → ℕ → ℕ → ℕ
rows_len m w p run k x = upto (λ j. eqb (run_len m (p + j * w) run x) run) k

unfoldable pub clear_run : List ℕ → ℕ → ℕ → List ℕ
clear_run m p zero = m
clear_run m p (suc k) = set (clear_run m p k) (p + k) 0

unfoldable pub clear_rect : List ℕ → ℕ → ℕ → ℕ → ℕ → List ℕ
clear_rect m w p run zero = m
clear_rect m w p run (suc j) = clear_run (clear_rect m w p run j) (p + j * w) run

abbrev pub place : ℕ → ℕ → ℕ → ℕ
place w u v = v * w + u

abbrev pub slot : ℕ → List ℕ → ℕ → ℕ → ℕ
slot w m u v = get_or m (place w u v) 0

-- 'widen along first .., then add rows': the rectangle that is claimed from (u, v)
unfoldable pub rect_at : ℕ → ℕ → List ℕ → ℕ → ℕ → Rect
rect_at w h m u v =
    let x = slot w m u v in
    let n = run_len m (place w u v) (w - u) x in
    record { u = u; v = v; run = n; rows = rows_len m w (place w u v) n (h - v) x; value = x }

unfoldable pub clear_of : ℕ → List ℕ → Rect → List ℕ
clear_of w m r = clear_rect m w (place w r.u r.v) r.run r.rows

pub record State : Type 0 where
  pub mask : List ℕ
  pub rects : List Rect

abbrev pub fresh : List ℕ → State
fresh m = record { mask = m; rects = [] }

-- 'from each unclaimed visible face': what slot (u, v) adds
unfoldable pub step_at : ℕ → ℕ → State → ℕ → ℕ → State
step_at w h s u v =
    let r = rect_at w h s.mask u v in
    cond (eqb (slot w s.mask u v) 0) s (record { mask = clear_of w s.mask r; rects = s.rects ++ r ∷ [] })

-- 'rows by second, then first': after the first u slots of row v, and after the first v rows
unfoldable pub row_to : ℕ → ℕ → ℕ → State → ℕ → State
row_to w h v s zero = s
row_to w h v s (suc u) = step_at w h (row_to w h v s u) u v

unfoldable pub rows_to : ℕ → ℕ → State → ℕ → State
rows_to w h s zero = s
rows_to w h s (suc v) = row_to w h v (rows_to w h s v) w

unfoldable pub scan : ℕ → ℕ → List ℕ → State
scan w h m = rows_to w h (fresh m) h
