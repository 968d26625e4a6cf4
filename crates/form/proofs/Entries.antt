-- Entries and what slots hold: each tells the other.
use mathlib.Core.Path.{◌≡◌, refl, sym, ap, ◌∙◌, subst}
use mathlib.Core.Bool.{Bool, true, false, cond, false≢true}
use mathlib.Core.List.{List, [], ◌∷◌}
use Prim.Native.Nat.{ℕ, zero, suc, ◌+◌, ◌*◌, ◌<◌, ◌≤◌}
use native.Mathlib.Omega.{arith}
use borrow.Author.Tests.{eqb-false, eqb-true, ltb-false, ltb-true, ne_eqb}
use lib.Dec.{eqb, ltb}
use lib.ListN.{get_or, length, length-replicate, length-set, replicate, set}
use lib.Seq.{get_or-set_other, get_or-set_same}
use Rattle.stand.specs.Cells.{is_empty}
use Rattle.stand.specs.Shape.{Shape, sections}
use Rattle.stand.proofs.Kept.{zeros}
use Rattle.stand.proofs.Tests.{by-test}
use Rattle.form.specs.Inner.{Asc, Each}
use Rattle.form.specs.Entries.{Entry, entries_from, entries_of, entry_of, inside_at, kept_at, lookup, placed}

abbrev pub Filled : Entry → Type 0
Filled e = e.finish ≡ 0 → ⊥

pub asc_less : (i k : ℕ) (es : List Entry) → i ≤ k → Asc k es → Asc i es
asc_less i k [] h a = tt
asc_less i k (e ∷ es) h a = (omega (arith, a.0), a.1)

-- below an ascending list's start nothing is found
pub lookup-below : (es : List Entry) (k j : ℕ) → j < k → Asc k es → lookup es j ≡ 0
unfolding lookup
lookup-below [] k j h a = refl
lookup-below (e ∷ es) k j h a =
    rw (ne_eqb j e.slot (λ q. omega (arith, a.0))) (lookup-below es (suc e.slot) j (omega (arith, a.0)) a.1)

-- ---- from slots to entries

pub entries_asc : (look : ℕ → ℕ) (m k : ℕ) → Asc k (entries_from look k m)
unfolding entries_from
entries_asc look zero k = tt
entries_asc look (suc m) k = go (is_empty (look k)) (entries_asc look m (suc k))
  where
    go : (b : Bool) → Asc (suc k) (entries_from look (suc k) m) → Asc k (cond b (entries_from look (suc k) m) (entry_of k (look k) ∷ entries_from look (suc k) m))
    go true a = asc_less k (suc k) (entries_from look (suc k) m) (omega arith) a
    go false a = (omega arith, a)

pub lookup_entries : (look : ℕ → ℕ) (m k j : ℕ) → k ≤ j → j < k + m → lookup (entries_from look k m) j ≡ look j
unfolding entries_from lookup
lookup_entries look zero k j h l = absurd (omega arith)
lookup_entries look (suc m) k j h l = go (eqb (look k) 0) refl (eqb j k) refl (lookup_entries look m (suc k) j)
  where
    none : (j ≡ k) → lookup (entries_from look (suc k) m) j ≡ 0
    none p = lookup-below (entries_from look (suc k) m) (suc k) j (omega arith) (entries_asc look m (suc k))

    go : (b : Bool) → eqb (look k) 0 ≡ b → (c : Bool) → eqb j k ≡ c
        → (suc k ≤ j → j < suc k + m → lookup (entries_from look (suc k) m) j ≡ look j)
        → lookup (cond b (entries_from look (suc k) m) (entry_of k (look k) ∷ entries_from look (suc k) m)) j ≡ look j
    go true p true q rest = let e = eqb-true j k q in none e ∙ sym (eqb-true (look k) 0 p) ∙ ap look (sym e)
    go true p false q rest = let n = eqb-false j k q in rest (omega arith) (omega arith)
    go false p true q rest = let e = eqb-true j k q in rw q (ap look (sym e))
    go false p false q rest = let n = eqb-false j k q in rw q (rest (omega arith) (omega arith))

-- ---- from entries to slots and back

-- a list of entries goes by what its slots hold
pub entries_same : (f h : ℕ → ℕ) (m k : ℕ) → ((j : ℕ) → k ≤ j → j < k + m → f j ≡ h j) → entries_from f k m ≡ entries_from h k m
unfolding entries_from
entries_same f h zero k e = refl
entries_same f h (suc m) k e =
    let r = entries_same f h m (suc k) (λ j a b. e j (omega arith) (omega arith)) in
    let x = e k (omega arith) (omega arith) in
    λ i. cond (is_empty (x i)) (r i) (entry_of k (x i) ∷ r i)

later : (k m : ℕ) (es : List Entry) → Each (λ e. e.slot < k + suc m) es → Each (λ e. e.slot < suc k + m) es
later k m [] b = tt
later k m (e ∷ es) b = (omega (arith, b.0), later k m es b.1)

pub entries_lookup : (m k : ℕ) (es : List Entry) → Asc k es → Each (λ e. e.slot < k + m) es → Each Filled es → entries_from (lookup es) k m ≡ es
unfolding entries_from lookup
entries_lookup zero k [] a b f = refl
entries_lookup zero k (e ∷ es) a b f = absurd (omega (arith, a.0, b.0))
entries_lookup (suc m) k [] a b f = entries_lookup m (suc k) [] tt tt tt
entries_lookup (suc m) k (e ∷ es) a b f =
    by-test (eqb k e.slot)
    (λ q.
    let p = eqb-true k e.slot q in
    let r : entries_from (lookup (e ∷ es)) (suc k) m ≡ es =
    entries_same (lookup (e ∷ es)) (lookup es) m (suc k) (λ j x y. rw (ne_eqb j e.slot (λ q. omega arith)))
    ∙ entries_lookup m (suc k) es (subst (λ (n : ℕ). Asc (suc n) es) (sym p) a.1) (later k m es b.1) f.1 in
    rw q (rw (ne_eqb e.finish 0 f.0) (λ i. entry_of (p i) e.finish ∷ r i)))
    (λ q.
    let n = eqb-false k e.slot q in
    rw q (rw (lookup-below es (suc e.slot) k (omega (arith, a.0)) a.1) (entries_lookup m (suc k) (e ∷ es) (omega (arith, a.0), a.1) (later k m (e ∷ es) b) f)))

-- ---- entries placed

pub placed-length : (es : List Entry) (cells : List ℕ) → length (placed es cells) ≡ length cells
unfolding placed
placed-length [] cells = refl
placed-length (e ∷ es) cells = placed-length es (set cells e.slot e.finish) ∙ length-set cells e.slot e.finish

pub placed-other : (es : List Entry) (cells : List ℕ) (k j : ℕ) → j < k → Asc k es → get_or (placed es cells) j 0 ≡ get_or cells j 0
unfolding placed
placed-other [] cells k j h a = refl
placed-other (e ∷ es) cells k j h a =
    placed-other es (set cells e.slot e.finish) (suc e.slot) j (omega (arith, a.0)) a.1
    ∙ get_or-set_other cells e.slot j e.finish 0 (λ q. omega (arith, a.0))

-- a list that takes a number keeps its length
pub below_set : (cells : List ℕ) (k v : ℕ) (es : List Entry) → Each (λ e. e.slot < length cells) es → Each (λ e. e.slot < length (set cells k v)) es
below_set cells k v [] b = tt
below_set cells k v (e ∷ es) b = (omega (arith, b.0, length-set cells k v), below_set cells k v es b.1)

pub placed-look : (es : List Entry) (cells : List ℕ) (k : ℕ) → Asc k es → Each (λ e. e.slot < length cells) es
    → ((j : ℕ) → k ≤ j → get_or cells j 0 ≡ 0) → (j : ℕ) → k ≤ j → get_or (placed es cells) j 0 ≡ lookup es j
unfolding placed lookup
placed-look [] cells k a b z j h = z j h
placed-look (e ∷ es) cells k a b z j h =
    by-test (eqb j e.slot)
    (λ q.
    let p = eqb-true j e.slot q in
    rw q (ap (λ (n : ℕ). get_or (placed es (set cells e.slot e.finish)) n 0) p
    ∙ placed-other es (set cells e.slot e.finish) (suc e.slot) e.slot (omega arith) a.1
    ∙ get_or-set_same cells e.slot e.finish 0 b.0))
    (λ q.
    let n = eqb-false j e.slot q in
    rw q (by-test (ltb j e.slot)
    (λ x.
    let l = ltb-true j e.slot x in
    placed-other es (set cells e.slot e.finish) (suc e.slot) j (omega arith) a.1
    ∙ get_or-set_other cells e.slot j e.finish 0 n
    ∙ z j h
    ∙ sym (lookup-below es (suc e.slot) j (omega arith) a.1))
    (λ x.
    let l = ltb-false j e.slot x in
    placed-look es (set cells e.slot e.finish) (suc e.slot) a.1 (below_set cells e.slot e.finish es b.1)
    (λ i y. get_or-set_other cells e.slot i e.finish 0 (λ w. omega arith) ∙ z i (omega (arith, a.0))) j (omega arith))))

-- ---- a stand's own entries

-- an entry that a stand can have
pub record Own (g : Shape) (e : Entry) : Type 0 where
  pub below : e.slot < sections g * 4096
  pub inside_it : inside_at g e.slot ≡ true
  pub filled : e.finish ≡ 0 → ⊥

pub lookup-inside : (g : Shape) (es : List Entry) → Each (Own g) es → (j : ℕ) → inside_at g j ≡ false → lookup es j ≡ 0
unfolding lookup
lookup-inside g [] h j n = refl
lookup-inside g (e ∷ es) h j n =
    by-test (eqb j e.slot)
    (λ q. absurd (false≢true (sym n ∙ ap (inside_at g) (eqb-true j e.slot q) ∙ h.0.inside_it)))
    (λ q. rw q (lookup-inside g es h.1 j n))

pub each_so : (P Q : Entry → Type 0) → ((e : Entry) → P e → Q e) → (es : List Entry) → Each P es → Each Q es
each_so P Q f [] h = tt
each_so P Q f (e ∷ es) h = (f e h.0, each_so P Q f es h.1)

-- loaded cells are stored as the same entries
pub entries_placed : (g : Shape) (es : List Entry) → Asc 0 es → Each (Own g) es → entries_of g (placed es (replicate (sections g * 4096) 0)) ≡ es
unfolding entries_of kept_at
entries_placed g es a h =
    let n = sections g * 4096 in
    let zs : List ℕ = replicate n 0 in
    entries_same (kept_at g (placed es zs)) (lookup es) n 0
    (λ j x y.
    by-test (inside_at g j)
    (λ q. rw q (placed-look es zs 0 a (each_so (Own g) (λ e. e.slot < length zs) (λ e o. omega (arith, o.below, length-replicate {A = ℕ} n 0)) es h) (λ i _. zeros n i) j x))
    (λ q. rw q (sym (lookup-inside g es h j q))))
    ∙ entries_lookup n 0 es a (each_so (Own g) (λ e. e.slot < 0 + n) (λ e o. omega (arith, o.below)) es h) (each_so (Own g) Filled (λ e o. o.filled) es h)

-- equal entries mean equal cells inside, and only then
pub entries_only : (g : Shape) (xs ys : List ℕ) → entries_of g xs ≡ entries_of g ys → (j : ℕ) → j < sections g * 4096 → kept_at g xs j ≡ kept_at g ys j
unfolding entries_of
entries_only g xs ys e j l =
    sym (lookup_entries (kept_at g xs) (sections g * 4096) 0 j (omega arith) (omega arith))
    ∙ ap (λ (es : List Entry). lookup es j) e
    ∙ lookup_entries (kept_at g ys) (sections g * 4096) 0 j (omega arith) (omega arith)

pub entries_then : (g : Shape) (xs ys : List ℕ) → ((j : ℕ) → j < sections g * 4096 → kept_at g xs j ≡ kept_at g ys j) → entries_of g xs ≡ entries_of g ys
unfolding entries_of
entries_then g xs ys e = entries_same (kept_at g xs) (kept_at g ys) (sections g * 4096) 0 (λ j x y. e j (omega arith))
