-- The walk over the log since a mark gives the sections that the book has noted since.
use mathlib.Core.Path.{◌≡◌, refl, sym, ap, ◌∙◌}
use mathlib.Core.Bool.{Bool, true, false, false≢true}
use mathlib.Core.Logic.{⊎_elim}
use mathlib.Core.List.Memᴰ
use mathlib.Core.List.{List, [], ◌∷◌, Memᴰ}
use Prim.Native.Nat.{ℕ, ◌+◌, ◌-◌, ◌≤◌, ◌<◌}
use native.Mathlib.Omega.{arith}
use borrow.Author.Tests.{le-ltb, ltb-false}
use lib.Dec.{ltb}
use lib.ListN.{get_or}
use Rattle.stand.specs.Feed.{logged, walk}
use Rattle.stand.specs.Shape.{counted, sections}
use Rattle.stand.specs.Storage.{State, shape}
use Rattle.stand.proofs.Feed.{changed-is, changed-walk, is-changed, walk-changed}
use Rattle.stand.proofs.Tests.{by-test, neither}
use Rattle.mesh.specs.Near.{near}
use Rattle.sheet.specs.Due.{due_of, hits, todo}
use Rattle.ledger.specs.Book.{Book, Changed}
use Rattle.ledger.proofs.Tells.{Tells}

-- ---- one of a list

none-hits : (p : ℕ → Bool) (ds : List ℕ) → hits p ds ≡ false → (d : ℕ) → Memᴰ d ds → p d ≡ false
unfolding hits
none-hits p [] e d m = absurd (Memᴰ.not-nil m)
none-hits p (x ∷ ds) e d m =
    let q = neither (p x) (hits p ds) e in
    ⊎_elim (λ r. ap p r ∙ q.0) (none-hits p ds q.1 d) (Memᴰ.cases_cons m)

hits-none : (p : ℕ → Bool) (ds : List ℕ) → ((d : ℕ) → Memᴰ d ds → p d ≡ true → ⊥) → hits p ds ≡ false
unfolding hits
hits-none p [] h = refl
hits-none p (x ∷ ds) h =
    by-test (p x)
    (λ q. absurd (h x (Memᴰ.head refl) q))
    (λ q. rw q (hits-none p ds (λ d m. h d (Memᴰ.tail m))))

-- ---- the walk and the book

module _ (s : State) (b : Book) (t : Tells s b) (mark : ℕ) where
  abbrev walked : List ℕ
  walked = walk (sections b.shape) s.log s.last mark (b.count - mark)

  module _ (behind : mark ≤ b.count) where
    pub walk_says : (d : ℕ) → Memᴰ d (walk (sections b.shape) s.log s.last mark (b.count - mark)) → Changed b mark d
    walk_says d m =
        let w = is-changed (sections b.shape) s.log s.last mark (mark + (b.count - mark)) d (walk-changed (sections b.shape) s.log s.last mark (b.count - mark) d m).1 in
        let l = t.notes.last-noted d (omega (arith, w.above)) in
        record { number = get_or s.last d 0; above = w.above; within = l.0; is = l.1 }

    module _ (lag : b.count - mark ≤ sections b.shape) where
      -- where the book says so, the log and the last change do
      pub says_walk : (d : ℕ) → Changed b mark d → Memᴰ d (walk (sections b.shape) s.log s.last mark (b.count - mark))
      unfolding logged
      says_walk d w =
          let k : 1 ≤ w.number = omega (arith, w.above) in
          let m : w.number ≤ get_or s.last d 0 = rw w.is at (t.notes.last-most w.number k w.within) in
          let h : d < sections b.shape = rw w.is at (t.notes.noted_in w.number k w.within) in
          let l = t.notes.last-noted d (omega arith) in
          let e : get_or s.last d 0 - 1 + 1 ≡ get_or s.last d 0 = omega arith in
          let r = t.notes.ring (get_or s.last d 0 - 1) (omega (arith, l.0)) (omega (arith, w.above)) in
          changed-walk (sections b.shape) s.log s.last mark (b.count - mark) d h
          (changed-is (sections b.shape) s.log s.last mark (mark + (b.count - mark)) d
          (record { above = omega (arith, w.above); within = omega (arith, l.0); says = r ∙ ap b.noted e ∙ l.1 }))

      pub due_none : (i : ℕ) → due_of b.shape s.log s.last mark b.count i ≡ false → (d : ℕ) → near (counted b.shape) d i ≡ true → Changed b mark d → ⊥
      unfolding due_of
      due_none i e d h w = false≢true (sym (none-hits (λ (x : ℕ). near (counted b.shape) x i) walked e d (says_walk d w)) ∙ h)

    pub none_due : (i : ℕ) → ((d : ℕ) → near (counted b.shape) d i ≡ true → Changed b mark d → ⊥) → due_of b.shape s.log s.last mark b.count i ≡ false
    unfolding due_of
    none_due i h = hits-none (λ (x : ℕ). near (counted b.shape) x i) walked (λ d m q. h d q (walk_says d m))

  -- ---- the sections that a refresh of this state measures

  todo-is : (i : ℕ) → todo (shape s) s.log s.last mark s.volume.generation i ≡ todo b.shape s.log s.last mark b.count i
  todo-is i = λ j. todo (t.shape_is j) s.log s.last mark (t.count-is j) i

  module _ (behind : mark ≤ b.count) where
    pub none-todo : b.count - mark ≤ sections b.shape → (i : ℕ) → ((d : ℕ) → near (counted b.shape) d i ≡ true → Changed b mark d → ⊥) → todo (shape s) s.log s.last mark s.volume.generation i ≡ false
    unfolding todo
    none-todo lag i h = todo-is i ∙ rw (le-ltb (sections b.shape) (b.count - mark) lag) (none_due behind i h)

    pub todo-none : (i : ℕ) → todo (shape s) s.log s.last mark s.volume.generation i ≡ false → (d : ℕ) → near (counted b.shape) d i ≡ true → Changed b mark d → ⊥
    unfolding todo
    todo-none i e =
        let p = neither (ltb (sections b.shape) (b.count - mark)) (due_of b.shape s.log s.last mark b.count i) (sym (todo-is i) ∙ e) in
        due_none behind (ltb-false (sections b.shape) (b.count - mark) p.0) i p.1
