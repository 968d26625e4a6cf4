-- Laws of setting a cell: where a change is safe, what it keeps, and what a set comes to by its tests.
use Rattle.std.proofs.Common.{◌≡◌, ℕ, Option, Some, None, zero, suc, ◌+◌, ◌*◌, ◌<◌, Bool, true, false, cond, eqb, ◌≢◌, List, ◌++◌, length, get_or, sym, refl, ap, ◌∙◌, arith, length-set, get_or-set_other, get_or-set_same, eq-eqb, ne_eqb, eqb-true}
use mathlib.Core.Bool.{and-false, false≢true}
use borrow.Author.Tests.{eqb-false, not-false}
use Rattle.std.proofs.lemmas.Option.{cond_some, none-some}
use Rattle.stand.specs.Answer.{refusal_number}
use Rattle.stand.specs.Edit.{Edited, Storable, advanced, changed, edited, edited_of, fitting, last_generation, look, put, set_call, set_def, set_refusal}
use Rattle.stand.specs.Lent.{stand_in, storage_in}
use Rattle.stand.specs.Refusal.{Rule, first, gives, refused}
use Rattle.stand.specs.Shape.{Shape, inside, place_of, sections, shape_of, slot, well_formed}
use Rattle.stand.specs.Storage.{Outcome, State, lengths_of, outcome_of, shape, storage, storage_rules}
use Rattle.stand.specs.declared.Cell.{Cell}
use Rattle.stand.specs.declared.volume.Volume.{Volume}
use Rattle.stand.specs.declared.volume.refusal.Refusal.{Refusal}
use Rattle.stand.specs.declared.volume.storage.Storage.{Storage}
use Rattle.stand.proofs.Refusal.{first_part, passes, some_number}
use Rattle.stand.proofs.Shape.{formed-opens, sections-few, sections-some, slot_inj, slot_lt}
use Rattle.stand.proofs.Storage.{Fitting, fits-apart}
use Rattle.stand.proofs.Tests.{by-test}

-- ---- storage that fits

pub fitting-lengths : (s : State) → fitting s ≡ true → Fitting (sections (shape s)) (lengths_of (storage s))
unfolding fitting
fitting-lengths s e = fits-apart _ _ e

-- a change is safe at each slot of a well-formed, fitting state
pub storable : (s : State) (i : ℕ) → well_formed s.volume ≡ true → fitting s ≡ true → i < sections (shape s) * 4096 → Storable s i
storable s i ok fit h =
    let l = fitting-lengths s fit in
    let o = formed-opens s.volume ok in
    let few = sections-few (shape s) o in
    let some = sections-some (shape s) o in
    record {
      cell = omega arith;
      hash = omega arith;
      version = omega arith;
      last = omega arith;
      ring = l.log;
      some = omega arith;
      few = omega arith;
      chunk = omega arith;
    }

-- ---- what a change keeps

pub changed-shape : (s : State) (i v : ℕ) → shape (changed s i v) ≡ shape s
unfolding changed advanced shape_of
changed-shape s i v = refl

pub changed-formed : (s : State) (i v : ℕ) → well_formed (changed s i v).volume ≡ well_formed s.volume
unfolding changed advanced well_formed
changed-formed s i v = refl

pub changed-fitting : (s : State) (i v : ℕ) → fitting (changed s i v) ≡ fitting s
unfolding changed advanced fitting shape_of
changed-fitting s i v = simp length-set

-- ---- one cell by its storage index

-- what holds of the two cases holds of `put`
pub by_put : (Q : Edited → Type 0) (s : State) (i v : ℕ)
    → (get_or s.cells i 0 ≡ v → Q (edited_of 0 s))
    → ((get_or s.cells i 0 ≡ v → ⊥) → Q (edited_of 1 (changed s i v)))
    → Q (put s i v)
unfolding put
by_put Q s i v same other = go (eqb (get_or s.cells i 0) v) refl
  where
    go : (b : Bool) → eqb (get_or s.cells i 0) v ≡ b → Q (cond b (edited_of 0 s) (edited_of 1 (changed s i v)))
    go true e = same (eqb-true _ _ e)
    go false e = other (eqb-false _ _ e)

module _ (s : State) (i v : ℕ) where
  -- what a change keeps
  pub put_keeps : {A : Type 0} (f : State → A) → f (changed s i v) ≡ f s → f (put s i v).state ≡ f s
  put_keeps f e = by_put (λ p. f p.state ≡ f s) s i v (λ h. refl) (λ h. e)

  -- each change is one generation
  pub put-generation : (put s i v).state.volume.generation ≡ s.volume.generation + (put s i v).count
  unfolding changed advanced
  put-generation =
      by_put (λ p. p.state.volume.generation ≡ s.volume.generation + p.count) s i v (λ h. omega arith) (λ h. refl)

  -- read after write, and elsewhere
  pub put_same : i < length s.cells → get_or (put s i v).state.cells i 0 ≡ v
  unfolding changed
  put_same h = by_put (λ p. get_or p.state.cells i 0 ≡ v) s i v (λ e. e) (λ n. get_or-set_same s.cells i v 0 h)

  pub put_read : fitting s ≡ true → i < sections (shape s) * 4096 → get_or (put s i v).state.cells i 0 ≡ v
  put_read fit h = put_same (omega (arith, (fitting-lengths s fit).cells))

  pub put_other : (j : ℕ) → j ≢ i → get_or (put s i v).state.cells j 0 ≡ get_or s.cells j 0
  unfolding changed
  put_other j n =
      by_put (λ p. get_or p.state.cells j 0 ≡ get_or s.cells j 0) s i v (λ e. refl) (λ h. get_or-set_other s.cells i j v 0 n)

-- ---- one cell by its address

module _ (s : State) (c : Cell) (v : ℕ) where
  pub set_keeps : {A : Type 0} (f : State → A) → ((i : ℕ) → f (changed s i v) ≡ f s) → f (set_def s c v).state ≡ f s
  unfolding set_def
  set_keeps f e = put_keeps s (slot (shape s) c) v f (e (slot (shape s) c))

  pub set-shape : shape (set_def s c v).state ≡ shape s
  set-shape = set_keeps shape (λ i. changed-shape s i v)

  pub set-formed : well_formed (set_def s c v).state.volume ≡ well_formed s.volume
  set-formed = set_keeps (λ (t : State). well_formed t.volume) (λ i. changed-formed s i v)

  pub set-fitting : fitting (set_def s c v).state ≡ fitting s
  set-fitting = set_keeps fitting (λ i. changed-fitting s i v)

  -- read after a set, and elsewhere
  module _ (ok : well_formed s.volume ≡ true) (at : inside (shape s) c ≡ true) where
    pub set_same : fitting s ≡ true → look (shape s) (set_def s c v).state.cells c ≡ v
    unfolding set_def look
    set_same fit = put_read s (slot (shape s) c) v fit (slot_lt (shape s) c (formed-opens s.volume ok) at)

    pub set_other : (d : Cell) → inside (shape s) d ≡ true → d ≢ c → look (shape s) (set_def s c v).state.cells d ≡ look (shape s) s.cells d
    unfolding set_def look
    set_other d h n =
        put_other s (slot (shape s) c) v (slot (shape s) d)
        (λ e. n (slot_inj (shape s) d c (formed-opens s.volume ok) h at e))

-- ---- a call whose table begins with the rules of storage

-- a number that is not 0 turns an edit back
edited-turned : (n : ℕ) (s : State) (e : Edited) → (n ≡ 0 → ⊥) → outcome_of (refused n) s ≡ edited n s e
unfolding edited
edited-turned zero s e h = absurd (h refl)
edited-turned (suc n) s e h = refl

module _ (s : State) {n : ℕ} (e : n ≡ first (storage_rules s.volume (lengths_of (storage s)))) where
  -- the number that they give is the call's
  pub storage-turned : (qs : List Rule) (d : Edited) → (n ≡ 0 → ⊥) → outcome_of (refused n) s ≡ edited (first (storage_rules s.volume (lengths_of (storage s)) ++ qs)) s d
  storage-turned qs d h =
      edited-turned n s d h
      ∙ ap (λ (m : ℕ). edited m s d) (e ∙ sym (first_part (storage_rules s.volume (lengths_of (storage s))) qs (λ z. h (e ∙ z))))

  -- where they give none, the state is as it should be
  pub storage-passed : n ≡ 0 → (well_formed s.volume ≡ true) × (fitting s ≡ true)
  unfolding fitting
  storage-passed z =
      let p = passes _ 2 _ (sym e ∙ z) in
      let q = passes _ 3 _ p.1 in
      (not-false _ p.0, not-false _ q.0)

-- ---- what a set comes to, one law for each return of the code

module _ (v : Volume) (t : Storage) (c : Cell) where
  pub set_turned : (n : ℕ) (e : Refusal) → refusal_number e ≡ first (storage_rules v (lengths_of (storage_in t))) → outcome_of (refused (refusal_number e)) (stand_in v t) ≡ set_call (stand_in v t) c n
  unfolding set_call set_refusal fitting
  set_turned n e d = storage-turned (stand_in v t) d _ _ (some_number e)

  -- storage passes, and the cell is looked for
  module _ (z : 0 ≡ first (storage_rules v (lengths_of (storage_in t)))) {w : Volume} (same : w ≡ v) {p : Option ℕ} (at : p ≡ place_of (shape_of w) c) where
    passed : (well_formed v ≡ true) × (fitting (stand_in v t) ≡ true)
    passed = storage-passed (stand_in v t) z refl

    sought : p ≡ place_of (shape_of v) c
    sought = at ∙ ap (λ (u : Volume). place_of (shape_of u) c) same

    outside : p ≡ None → inside (shape_of v) c ≡ false
    unfolding place_of
    outside o = by-test (inside (shape_of v) c) (λ i. absurd (none-some _ (sym o ∙ (rw i at sought)))) (λ i. i)

    pub refuse_5 : (n : ℕ) → p ≡ None → outcome_of (refused 5) (stand_in v t) ≡ set_call (stand_in v t) c n
    unfolding set_call set_refusal first edited
    refuse_5 n o = rw (passed.0, passed.1, outside o)

    module _ {i : ℕ} (found : p ≡ Some i) where
      place : (inside (shape_of v) c ≡ true) × (slot (shape_of v) c ≡ i)
      unfolding place_of
      place = cond_some _ _ _ (sym sought ∙ found)

      pub place_storable : Storable (stand_in v t) i
      place_storable = storable (stand_in v t) i passed.0 passed.1 (rw (← place.1) (slot_lt (shape_of v) c (formed-opens v passed.0) place.0))

      pub place_cell : i < length t.cells.now
      place_cell = place_storable.cell

      module _ (n : ℕ) where
        pub unchanged : get_or t.cells.now i 0 ≡ n → outcome_of (gives 0) (stand_in v t) ≡ set_call (stand_in v t) c n
        unfolding set_call set_refusal first edited set_def put look
        unchanged e = rw (passed.0, passed.1, place.0, place.1, eq-eqb _ _ e, and-false)

        module _ (other : get_or t.cells.now i 0 ≡ n → ⊥) where
          pub refuse_6 : v.generation ≡ last_generation → outcome_of (refused 6) (stand_in v t) ≡ set_call (stand_in v t) c n
          unfolding set_call set_refusal first edited look
          refuse_6 e = rw (passed.0, passed.1, place.0, place.1, ne_eqb _ _ other, eq-eqb _ _ e)

          pub change_at : {s : State} → (v.generation ≡ last_generation → ⊥) → s ≡ changed (stand_in v t) i n → outcome_of (gives 1) s ≡ set_call (stand_in v t) c n
          unfolding set_call set_refusal first edited set_def put look
          change_at m d = rw (passed.0, passed.1, place.0, place.1, ne_eqb _ _ other, ne_eqb _ _ m) (ap (outcome_of (gives 1)) d)

-- one for each goal of the code
pub ruleset set_laws = (set_turned, refuse_5, place_cell, unchanged, refuse_6, change_at)

-- ---- calls that edit

-- what holds of the state under each refusal, and of the edit under none, holds of the call
pub by_edited : (Q : Outcome ℕ → Type 0) (n : ℕ) (s : State) (e : Edited)
    → ((k : ℕ) → n ≡ suc k → Q (outcome_of (refused n) s))
    → (n ≡ 0 → Q (outcome_of (gives e.count) e.state))
    → Q (edited n s e)
unfolding edited
by_edited Q zero s e n y = y refl
by_edited Q (suc k) s e n y = n k refl

-- a set that nothing refuses
pub record Settable (formed fits : Bool) (g : Shape) (generation old : ℕ) (c : Cell) (v : ℕ) : Type 0 where
  pub fits-is : fits ≡ true
  pub inside_is : inside g c ≡ true
  pub room : (old ≡ v → ⊥) → generation ≡ last_generation → ⊥

pub settable : (formed fits : Bool) (g : Shape) (generation old : ℕ) (c : Cell) (v : ℕ)
    → set_refusal formed fits g generation old c v ≡ 0 → Settable formed fits g generation old c v
unfolding set_refusal
settable formed fits g generation old c v e =
    let p = passes _ _ _ e in
    let q = passes _ _ _ p.1 in
    let r = passes _ _ _ q.1 in
    let t = passes _ _ _ r.1 in
    record {
      fits-is = not-false _ q.0;
      inside_is = not-false _ r.0;
      room = λ n m. false≢true (sym t.0 ∙ rw (eq-eqb _ _ m, ne_eqb _ _ n));
    }
