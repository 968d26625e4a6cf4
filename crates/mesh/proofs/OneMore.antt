-- One more size of 1 around a mask changes nothing: each box has one more direction, of one step.
use mathlib.Core.Path.{◌≡◌, refl, sym, ap, ◌∙◌}
use mathlib.Core.Bool.{Bool, true, false, cond}
use mathlib.Core.List.{List, [], ◌∷◌, ◌++◌, map, map-append}
use Prim.Native.Nat.{ℕ, zero, suc, ◌+◌, ◌*◌, ◌≤◌, ◌<◌}
use native.Mathlib.Nat.{zero-mul, add-zero, mod-eq_of_lt, div-eq_of_lt}
use native.Mathlib.Omega.{arith}
use lib.Dec.{eqb}
use lib.ListN.{get_or}
use Rattle.mesh.specs.Merge.{Dir, upto, Box, Cuts, full, grow, rep, clear_box, alike, box_at, cut, cut_to, total, limits}
use Rattle.mesh.proofs.Boxes.{grow-full, alike_self}

abbrev pub once : ℕ → Dir
once n = record { stride = n; count = 1 }

unfoldable pub stay : ℕ → Box → Box
stay n b = record { start = b.start; dirs = once n ∷ b.dirs; value = b.value }

-- the same cuts, each with one more direction
abbrev pub stays : ℕ → Cuts → Cuts
stays n s = record { mask = s.mask; boxes = map (stay n) s.boxes }

grow_snoc : (ok : ℕ → Bool) (p : ℕ) (done xs : List Dir) (d : Dir) → grow ok p done (xs ++ d ∷ []) ≡ grow ok p (grow ok p done xs) (d ∷ [])
unfolding grow
grow_snoc ok p done [] d = refl
grow_snoc ok p done (x ∷ xs) d = grow_snoc ok p (record { stride = x.stride; count = upto (λ i. full ok (p + i * x.stride) done) x.count } ∷ done) xs d

grow_once : (ok : ℕ → Bool) (p n : ℕ) (ds : List Dir) → full ok p ds ≡ true → grow ok p ds (once n ∷ []) ≡ once n ∷ ds
unfolding grow upto
grow_once ok p n ds h = rw (zero-mul, add-zero, h)

clear_once : (n q : ℕ) (ds : List Dir) (m : List ℕ) → clear_box (once n ∷ ds) q m ≡ clear_box ds q m
unfolding clear_box rep
clear_once n q ds m = rw (zero-mul, add-zero)

clear_stay : (n : ℕ) (b : Box) (q : ℕ) (m : List ℕ) → clear_box (stay n b).dirs q m ≡ clear_box b.dirs q m
unfolding stay
clear_stay n b q m = clear_once n q b.dirs m

box_once : (ks : List ℕ) (key : ℕ → ℕ) (m : List ℕ) (q : ℕ) → q < total ks → box_at (limits (1 ∷ ks)) key m q ≡ stay (total ks) (box_at (limits ks) key m q)
unfolding box_at stay limits full
box_once ks key m q l =
    let ok = alike key m q in
    let n = total ks in
    let e = grow_snoc ok q [] (limits ks q) (once n) ∙ grow_once ok q n (grow ok q [] (limits ks q)) (grow-full ok q [] (limits ks q) (alike_self key m q)) in
    rw (mod-eq_of_lt l, div-eq_of_lt l) (ap (λ (ds : List Dir). record { start = q; dirs = ds; value = get_or m q 0 }) e)

pub one_more : (ks : List ℕ) (key : ℕ → ℕ) (m : List ℕ) (q : ℕ) → q ≤ total ks → cut_to (limits (1 ∷ ks)) key m q ≡ stays (total ks) (cut_to (limits ks) key m q)
unfolding cut_to cut
one_more ks key m zero l = refl
one_more ks key m (suc q) l = rw (one_more ks key m q (omega arith), box_once ks key s.mask q l) (go (eqb (get_or s.mask q 0) 0))
  where
    s : Cuts
    s = cut_to (limits ks) key m q

    n : ℕ
    n = total ks

    b : Box
    b = box_at (limits ks) key s.mask q

    yes_one : Cuts
    yes_one = record { mask = clear_box (stay n b).dirs q s.mask; boxes = map (stay n) s.boxes ++ stay n b ∷ [] }

    yes_two : Cuts
    yes_two = record { mask = clear_box b.dirs q s.mask; boxes = s.boxes ++ b ∷ [] }

    same : yes_one ≡ stays n yes_two
    same = λ i. record { mask = clear_stay n b q s.mask i; boxes = sym (map-append (stay n) s.boxes (b ∷ [])) i }

    go : (t : Bool) → cond t (stays n s) yes_one ≡ stays n (cond t s yes_two)
    go true = refl
    go false = same
