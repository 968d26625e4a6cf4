-- Panels claimed one at a time: the call's answer, and that claiming on gives the panels of the merging.
use mathlib.Core.Path.{◌≡◌, refl, sym, ap, ◌∙◌, subst}
use mathlib.Core.Bool.{Bool, true, false, cond, ◌&&◌}
use mathlib.Core.List.{List, [], ◌∷◌, ◌++◌, append_assoc, append-nil, map, map-append}
use Rattle.std.specs.Prelude.{Some, None}
use Prim.Native.Nat.{ℕ, zero, suc, ◌+◌, ◌*◌, ◌-◌, ◌/◌, ◌%◌, ◌≤◌, ◌<◌, min}
use native.Mathlib.Nat.{add-suc, add-zero, div-add-mod', div-eq_of_lt, le-div_iff_mul-le, le_refl, mod-eq_of_lt, mul-add-div_right, mul-add-mod_self_right, mul-zero, suc-mul, zero-mul}
use native.Mathlib.Numerals.{add-one}
use native.Mathlib.Omega.{arith}
use borrow.Author.Tests.{le-leb, le-ltb, lt-ltb, leb-true, leb-false, ltb-true, ltb-false}
use lib.Dec.{eqb, leb, ltb}
use lib.IntN.{ℤ, pos, negsuc, ◌+ℤ◌}
use lib.ListN.{get_or, length}
use mir.Syntax.{w32}
use mir.Val.{SFits}
use Rattle.arith.proofs.Levels.{number_fits, number_past, number-sum}
use Rattle.arith.proofs.Signed.{sub_ge}
use Rattle.arith.specs.Level.{level_of, number_of}
use Rattle.arith.specs.Saturate.{saturate}
use Rattle.stand.proofs.Levels.{from_law}
use Rattle.stand.specs.Cells.{cell_of, moved}
use Rattle.stand.specs.Shape.{Below, point_of}
use Rattle.stand.specs.Sides.{first_at, normal_at}
use Rattle.stand.specs.Storage.{extent_of}
use Rattle.stand.specs.declared.volume.shape.Point.{Point}
use Rattle.mesh.specs.Claims.{ClaimPost, NextSeen}
use Rattle.mesh.specs.Frame.{Lies, along_frame, quad_from}
use Rattle.mesh.specs.Panels.{face_of}
use Rattle.mesh.specs.Part.{facing, turned}
use Rattle.mesh.specs.Scan.{State, clear_of, fresh, place, rect_at, row_to, rows_to, run_len, scan, slot, step_at}
use Rattle.mesh.specs.declared.claim.Rect.{Rect}
use Rattle.mesh.specs.Slice.{Claims, Outcome, claim_call, claim_from, claims_to, first_seen, onward, held_extent, outcome_of, quad_in, rect_from, shifted, slice_from}
use Rattle.mesh.specs.declared.Quad.{Quad}
use Rattle.mesh.specs.declared.scan.Frame.{Frame}
use Rattle.mesh.specs.declared.slice.Slice.{Slice}
use Rattle.mesh.proofs.Frame.{map_each, side-number}
use Rattle.mesh.proofs.Runs.{length-clear_rect, run-all, run_is, run_pass, run_stop}
use Rattle.mesh.proofs.Scanned.{Fits, by_step, claimed, scan_cleared, scan-fits, step_claim, step_skip}

-- ---- along the axes

module _ (s k u v : ℕ) where
  module _ {m : ℕ} (hk : k < m) (hu : u < m) (hv : v < m) where
    turned-below : (a : ℕ) → turned a s k u v < m
    unfolding turned
    turned-below a = go (eqb a (normal_at s)) (eqb a (first_at s))
      where
        go : (b c : Bool) → cond b k (cond c u v) < m
        go true c = hk
        go false true = hu
        go false false = hv

    pub facing-below : Below m (facing s k u v)
    unfolding facing
    facing-below = record { x = turned-below 0; y = turned-below 1; z = turned-below 2 }

-- ---- coordinates and extents

sat_past : (n : ℕ) → 2147483647 < n → saturate (pos n) ≡ pos 2147483647
unfolding saturate
sat_past n h = rw (lt-ltb 2147483647 n h)

sum_past : (o : ℤ) (d : ℕ) → SFits w32 o → 4294967295 < level_of o + d → saturate (o +ℤ pos d) ≡ pos 2147483647
sum_past (pos a) d f h = sat_past (a + d) (omega arith)
sum_past (negsuc a) d f h = ap saturate (sub_ge d (suc a) (omega (arith, f.sfits))) ∙ sat_past (d - suc a) (omega (arith, f.sfits))

-- the number of a sum of levels saturates as the sum does
pub number_sat : (o : ℤ) (d : ℕ) → SFits w32 o → number_of (level_of o + d) ≡ saturate (o +ℤ pos d)
number_sat o d f = go (ltb (level_of o + d) 4294967296) refl
  where
    go : (b : Bool) → ltb (level_of o + d) 4294967296 ≡ b → number_of (level_of o + d) ≡ saturate (o +ℤ pos d)
    go true e =
        let l : level_of o + d < 4294967296 = ltb-true (level_of o + d) 4294967296 e in
        number-sum o d f l ∙ sym (from_law o d f l)
    go false e =
        let l : 4294967295 < level_of o + d = ltb-false (level_of o + d) 4294967296 e in
        sym (number_past (level_of o + d) l) ∙ sym (sum_past o d f l)

pub number-held : (n : ℕ) → number_of (2147483648 + n) ≡ pos (min n 2147483647)
unfolding number_of
number-held n = rw (le-ltb (2147483648 + n) 2147483648 (omega arith)) (ap pos (omega arith))

level_number : (l : ℕ) → l ≤ 4294967295 → level_of (number_of l) ≡ l
unfolding number_of
level_number l h = go (ltb l 2147483648) refl
  where
    go : (b : Bool) → ltb l 2147483648 ≡ b → level_of (cond b (negsuc (2147483647 - l)) (pos (min (l - 2147483648) 2147483647))) ≡ l
    go true e = omega (arith, ltb-true l 2147483648 e)
    go false e = omega (arith, ltb-false l 2147483648 e)

-- a number by its level, moved on
number-on : (l d : ℕ) → l ≤ 4294967295 → saturate (number_of l +ℤ pos d) ≡ number_of (l + d)
number-on l d h = sym (number_sat (number_of l) d (number_fits l h)) ∙ ap (λ (k : ℕ). number_of (k + d)) (level_number l h)

-- ---- the first slot that is not 0

pub first-seen : {m : List ℕ} {from n q : ℕ} → NextSeen m from n q → q ≡ first_seen m from n
unfolding first_seen
first-seen {m} {from} {n} {q} s = go (leb n from) refl
  where
    go : (b : Bool) → leb n from ≡ b → q ≡ from + run_len m from (n - from) 0
    go true e =
        let l : n ≤ from = leb-true n from e in
        let z : 0 ≡ run_len m from (n - from) 0 = run_is m from (n - from) 0 0 (omega arith) (λ i k. absurd (omega arith)) (λ k. absurd (omega arith)) in
        omega (arith, s.past l)
    go false e =
        let l : from < n = leb-false n from e in
        let lo = s.low in
        let hi = s.high (omega arith) in
        let at : from + (q - from) ≡ q = omega arith in
        let z : q - from ≡ run_len m from (n - from) 0 =
        run_is m from (n - from) 0 (q - from) (omega arith)
        (λ i k. s.passed (from + i) (omega arith) (omega arith))
        (λ k y. s.seen (omega arith) (ap (λ (j : ℕ). get_or m j 0) (sym at) ∙ y)) in
        omega arith

-- ---- the call

module _ (s : Slice) (m : List ℕ) (from : ℕ) where
  none_by : (s.height * s.width ≤ length m → s.height * s.width ≤ first_seen m from (s.height * s.width)) → outcome_of None m ≡ claim_call s m from
  unfolding claim_call
  none_by h = go (leb (s.height * s.width) (length m)) refl
    where
      n : ℕ
      n = s.height * s.width

      go : (b : Bool) → leb n (length m) ≡ b → outcome_of None m ≡ cond (b && ltb (first_seen m from n) n) (claim_from s m (first_seen m from n)) (outcome_of None m)
      go true e = rw (le-ltb (first_seen m from n) n (h (leb-true n (length m) e)))
      go false e = refl

  call-some : s.height * s.width ≤ length m → first_seen m from (s.height * s.width) < s.height * s.width
      → claim_from s m (first_seen m from (s.height * s.width)) ≡ claim_call s m from
  unfolding claim_call
  call-some l h = rw (le-leb (s.height * s.width) (length m) l, lt-ltb (first_seen m from (s.height * s.width)) (s.height * s.width) h)

  pub none-narrow : s.width ≡ 0 → outcome_of None m ≡ claim_call s m from
  none-narrow e = none_by (λ _. let z : s.height * s.width ≡ 0 = ap (λ (w : ℕ). s.height * w) e ∙ mul-zero s.height in omega arith)

  module _ (wide : s.width ≡ 0 → ⊥) where
    some-wide : 0 < s.width
    some-wide = omega arith

    pub none-short : length m / s.width < s.height → outcome_of None m ≡ claim_call s m from
    none-short h = none_by (λ l. let k = (le-div_iff_mul-le {x = s.height} {y = length m} some-wide).1 l in absurd (omega arith))

    module _ (high : s.height ≤ length m / s.width) where
      pub slots_fit : s.height * s.width ≤ length m
      slots_fit = (le-div_iff_mul-le some-wide).0 high

      module _ {q : ℕ} (seen : NextSeen m from (s.height * s.width) q) where
        pub none_left : s.height * s.width ≤ q → outcome_of None m ≡ claim_call s m from
        none_left h = none_by (λ _. rw (sym (first-seen seen)) h)

        module _ (inside : q < s.height * s.width) where
          claim_by : claim_from s m q ≡ claim_call s m from
          claim_by = let e = first-seen seen in ap (claim_from s m) e ∙ call-some slots_fit (omega arith)

          pub claim_gives : {m' : List ℕ} {r : Rect} {p : Quad} → ClaimPost m m' s.width s.height (q % s.width) (q / s.width) r → p ≡ quad_in s r
              → outcome_of (Some (record { quad = p; next = q + 1 })) m' ≡ claim_call s m from
          unfolding claim_from rect_from
          claim_gives {m'} {r} k e =
              (λ i. outcome_of (Some (record { quad = (e ∙ ap (quad_in s) k.rect) i; next = q + 1 })) ((k.mask ∙ ap (clear_of s.width m) k.rect) i)) ∙ claim_by

-- ---- the scan by places

unfoldable places_to : ℕ → ℕ → State → ℕ → State
places_to w h s zero = s
places_to w h s (suc q) = step_at w h (places_to w h s q) (q % w) (q / w)

module _ (w h : ℕ) (s : State) where
  places_row : (v u : ℕ) → u ≤ w → places_to w h s (v * w) ≡ rows_to w h s v → places_to w h s (v * w + u) ≡ row_to w h v (rows_to w h s v) u
  unfolding places_to row_to
  places_row v zero l e = rw add-zero e
  places_row v (suc u) l e =
      let a : (v * w + u) % w ≡ u = mul-add-mod_self_right v w u ∙ mod-eq_of_lt l in
      let p : 0 < w = omega arith in
      let b : (v * w + u) / w ≡ v = mul-add-div_right p v u ∙ rw (div-eq_of_lt l, add-zero) in
      rw (add-suc, a, b) (ap (λ (t : State). step_at w h t u v) (places_row v u (omega arith) e))

  places_rows : (v : ℕ) → places_to w h s (v * w) ≡ rows_to w h s v
  unfolding places_to rows_to
  places_rows zero = rw zero-mul
  places_rows (suc v) = rw suc-mul (places_row v w (omega arith) (places_rows v))

  place-slot : (m : List ℕ) (q : ℕ) → slot w m (q % w) (q / w) ≡ get_or m q 0
  place-slot m q = ap (λ (i : ℕ). get_or m i 0) (div-add-mod' q w)

  places_skip : (q k : ℕ) → ((i : ℕ) → i < k → get_or (places_to w h s q).mask (q + i) 0 ≡ 0) → places_to w h s (q + k) ≡ places_to w h s q
  unfolding places_to
  places_skip q zero z = rw add-zero
  places_skip q (suc k) z =
      rw add-suc
      (ap (λ (t : State). step_at w h t ((q + k) % w) ((q + k) / w)) (places_skip q k (λ i l. z i (omega arith)))
      ∙ step_skip w h (places_to w h s q) ((q + k) % w) ((q + k) / w) (place-slot (places_to w h s q).mask (q + k) ∙ z k (le_refl _)))

  places_length : (q : ℕ) → length (places_to w h s q).mask ≡ length s.mask
  unfolding places_to clear_of
  places_length zero = refl
  places_length (suc q) =
      let t : State = places_to w h s q in
      let r : Rect = rect_at w h t.mask (q % w) (q / w) in
      by_step w h t (q % w) (q / w) (λ (t : State). length t.mask ≡ length s.mask) (places_length q)
      (λ _. length-clear_rect t.mask w (place w r.u r.v) r.run r.rows ∙ places_length q)

-- ---- claims one after the other

module _ (s : Slice) (m : List ℕ) (fits : s.height * s.width ≤ length m) where
  abbrev slots : ℕ
  slots = s.height * s.width

  abbrev to : ℕ → State
  to q = places_to s.width s.height (fresh m) q

  module _ (q : ℕ) (n : get_or (to q).mask q 0 ≡ 0 → ⊥) where
    next-state : to (q + 1) ≡ claimed s.width s.height (to q) (q % s.width) (q / s.width)
    unfolding places_to
    next-state =
        rw add-one
        (step_claim s.width s.height (to q) (q % s.width) (q / s.width)
        (λ z. n (sym (place-slot s.width s.height (fresh m) (to q).mask q) ∙ z)))

    next-rects : (to (q + 1)).rects ≡ (to q).rects ++ rect_from s.width s.height (to q).mask q ∷ []
    unfolding rect_from
    next-rects = ap (λ (t : State). t.rects) next-state

    next-mask : (to (q + 1)).mask ≡ clear_of s.width (to q).mask (rect_from s.width s.height (to q).mask q)
    unfolding rect_from
    next-mask = ap (λ (t : State). t.mask) next-state

  -- from state t on, c is what is left
  record Ends (c : Claims) (t : State) : Type 0 where
    mask : c.mask ≡ (to slots).mask
    quads : map (quad_in s) t.rects ++ c.quads ≡ map (quad_in s) (to slots).rects

  ends_here : (t : State) → to slots ≡ t → Ends (record { mask = t.mask; quads = [] }) t
  ends_here t e =
      record {
        mask = ap (λ (t : State). t.mask) (sym e);
        quads = append-nil (map (quad_in s) t.rects) ∙ ap (λ (t : State). map (quad_in s) t.rects) (sym e);
      }

  -- a claim from place q, and c after it
  abbrev after_claim : (q : ℕ) → (ℕ → List ℕ → Claims) → List ℕ → Claims
  after_claim q on m =
      record {
        mask = (on (q + 1) (clear_of s.width m (rect_from s.width s.height m q))).mask;
        quads = quad_in s (rect_from s.width s.height m q) ∷ (on (q + 1) (clear_of s.width m (rect_from s.width s.height m q))).quads;
      }

  ends_claim : (q : ℕ) → (get_or (to q).mask q 0 ≡ 0 → ⊥) → (on : ℕ → List ℕ → Claims) → Ends (on (q + 1) (to (q + 1)).mask) (to (q + 1))
      → Ends (after_claim q on (to q).mask) (to q)
  ends_claim q n on e =
      let r : Rect = rect_from s.width s.height (to q).mask q in
      let d : Ends (on (q + 1) (clear_of s.width (to q).mask r)) (to (q + 1)) = subst (λ (l : List ℕ). Ends (on (q + 1) l) (to (q + 1))) (next-mask q n) e in
      let c : Claims = on (q + 1) (clear_of s.width (to q).mask r) in
      record {
        mask = d.mask;
        quads =
            sym (append_assoc (map (quad_in s) (to q).rects) (quad_in s r ∷ []) c.quads)
            ∙ ap (λ (l : List Quad). l ++ c.quads) (sym (ap (map (quad_in s)) (next-rects q n) ∙ map-append (quad_in s) (to q).rects (r ∷ [])))
            ∙ d.quads;
      }

  module _ (from : ℕ) (l : from ≤ slots) where
    abbrev seen : ℕ
    seen = first_seen (to from).mask from slots

    abbrev follow : (ℕ → List ℕ → Claims) → Outcome → Claims
    follow on o = onward o.answer o.mask (λ k. on k o.mask)

    held : slots ≤ length (to from).mask
    held = omega (arith, places_length s.width s.height (fresh m) from)

    -- up to the first slot that is not 0 nothing is added
    stays : (q : ℕ) → from ≤ q → q ≤ seen → to q ≡ to from
    unfolding first_seen
    stays q lo hi =
        let e : q ≡ from + (q - from) = omega arith in
        ap to e
        ∙ places_skip s.width s.height (fresh m) from (q - from) (λ i k. run_pass (to from).mask from (slots - from) 0 i (omega arith))

    ends_none : (on : ℕ → List ℕ → Claims) → slots ≤ seen → Ends (follow on (claim_call s (to from).mask from)) (to from)
    ends_none on h =
        subst (λ (o : Outcome). Ends (follow on o) (to from)) (none_by s (to from).mask from (λ _. h)) (ends_here (to from) (stays slots l h))

    seen_not : seen < slots → get_or (to from).mask seen 0 ≡ 0 → ⊥
    unfolding first_seen
    seen_not h = run_stop (to from).mask from (slots - from) 0 (omega arith)

    seen_low : from ≤ seen
    unfolding first_seen
    seen_low = omega arith

    ends_some : (on : ℕ → List ℕ → Claims) → seen < slots → Ends (on (seen + 1) (to (seen + 1)).mask) (to (seen + 1))
        → Ends (follow on (claim_call s (to from).mask from)) (to from)
    unfolding claim_from
    ends_some on h e =
        let st : to seen ≡ to from = stays seen seen_low (le_refl _) in
        let nz : get_or (to seen).mask seen 0 ≡ 0 → ⊥ = λ z. seen_not h (ap (λ (t : State). get_or t.mask seen 0) (sym st) ∙ z) in
        subst (λ (o : Outcome). Ends (follow on o) (to from)) (call-some s (to from).mask from held h)
        (subst (λ (t : State). Ends (after_claim seen on t.mask) t) st (ends_claim seen nz on e))

  -- as many as there are slots are enough
  ends : (n from : ℕ) → from ≤ slots → slots ≤ n + from → Ends (claims_to n s (to from).mask from) (to from)
  unfolding claims_to
  ends zero from l k = let e : slots ≡ from = omega arith in ends_here (to from) (ap to e)
  ends (suc n) from l k = go (ltb (seen from l) slots) refl (λ q lo hi. ends n q hi (omega arith))
    where
      on : ℕ → List ℕ → Claims
      on k m = claims_to n s m k

      go : (b : Bool) → ltb (seen from l) slots ≡ b → ((q : ℕ) → from < q → q ≤ slots → Ends (on q (to q).mask) (to q))
          → Ends (follow from l on (claim_call s (to from).mask from)) (to from)
      go true e more =
          let h : seen from l < slots = ltb-true (seen from l) slots e in
          let g = seen_low from l in
          ends_some from l on h (more (seen from l + 1) (omega arith) (omega arith))
      go false e more = ends_none from l on (ltb-false (seen from l) slots e)

  -- claims from slot 0 on, as many as there are slots or more, are the rectangles of the scan in order, and leave its mask
  pub claims_all : (n : ℕ) → slots ≤ n
      → claims_to n s m 0 ≡ record { mask = (scan s.width s.height m).mask; quads = map (quad_in s) (scan s.width s.height m).rects }
  unfolding places_to scan
  claims_all n h =
      let e : to slots ≡ scan s.width s.height m = places_rows s.width s.height (fresh m) s.height in
      let d : Ends (claims_to n s m 0) (fresh m) = ends n 0 (omega arith) (omega arith) in
      λ i. record { mask = (d.mask ∙ ap (λ (t : State). t.mask) e) i; quads = (d.quads ∙ ap (λ (t : State). map (quad_in s) t.rects) e) i }

  -- none is left then
  pub claims_over : (from : ℕ) → outcome_of None (scan s.width s.height m).mask ≡ claim_call s (scan s.width s.height m).mask from
  unfolding first_seen
  claims_over from =
      let m' = (scan s.width s.height m).mask in
      none_by s m' from (λ _. omega (arith, run-all m' from (slots - from) 0 (λ i l. scan_cleared s.width s.height m (from + i) (omega arith))))

-- ---- the slice that lies as a frame says

turned-sum : (a s k u v p q : ℕ) → turned a s k u v + turned a s 0 p q ≡ turned a s k (u + p) (v + q)
unfolding turned
turned-sum a s k u v p q = go (eqb a (normal_at s)) (eqb a (first_at s))
  where
    go : (b c : Bool) → cond b k (cond c u v) + cond b 0 (cond c p q) ≡ cond b k (cond c (u + p) (v + q))
    go true c = add-zero k
    go false true = refl
    go false false = refl

held_same : {p : Point} → Below 2147483648 p → held_extent p ≡ extent_of p
unfolding held_extent
held_same {p} b = λ i. extent_of (point_of (cut b.x i) (cut b.y i) (cut b.z i))
  where
    cut : {n : ℕ} → n < 2147483648 → min n 2147483647 ≡ n
    cut h = omega arith

module _ (f : Frame) (lies : Lies f) where
  module _ (q : Rect) (fits : Fits f.width f.height q) where
    coordinate : (a : ℕ) → saturate (along_frame f 0 0 a +ℤ pos (turned a f.side 0 q.u q.v)) ≡ along_frame f q.u q.v a
    unfolding along_frame
    coordinate a =
        let l : turned a f.side f.normal (f.first + 0) (f.second + 0) < 4294967296 =
        turned-below f.side f.normal (f.first + 0) (f.second + 0) lies.normal
        (omega (arith, lies.first, fits.wide, fits.some-run)) (omega (arith, lies.second, fits.high, fits.some-rows)) a in
        number-on (turned a f.side f.normal (f.first + 0) (f.second + 0)) (turned a f.side 0 q.u q.v) (omega arith)
        ∙ ap number_of (turned-sum a f.side f.normal (f.first + 0) (f.second + 0) q.u q.v)
        ∙ rw (add-zero f.first, add-zero f.second)

    -- its panels are the frame's
    pub slice-quad : quad_in (slice_from f) q ≡ quad_from f q
    unfolding quad_in slice_from quad_from shifted moved facing
    slice-quad =
        let e = side-number f.side lies.side in
        let b : Below 2147483648 (facing f.side 1 q.run q.rows) =
        facing-below f.side 1 q.run q.rows (omega arith)
        (omega (arith, lies.width, fits.wide)) (omega (arith, lies.height, fits.high)) in
        rw e
        (λ i. record {
          cell = cell_of (coordinate 0 i) (coordinate 1 i) (coordinate 2 i);
          face = face_of f.side;
          voxel = record { 0 = q.value };
          extent = held_same b i;
        })

  -- claims one after the other give what `scan_mask` writes
  pub claims_frame : (m : List ℕ) (n : ℕ) → f.height * f.width ≤ length m → f.height * f.width ≤ n
      → claims_to n (slice_from f) m 0 ≡ record { mask = (scan f.width f.height m).mask; quads = map (quad_from f) (scan f.width f.height m).rects }
  unfolding slice_from
  claims_frame m n h k =
      claims_all (slice_from f) m h n k
      ∙ (λ i. record {
        mask = (scan f.width f.height m).mask;
        quads = map_each (quad_in (slice_from f)) (quad_from f) slice-quad (scan f.width f.height m).rects (scan-fits f.width f.height m) i;
      })
