-- What a fill does to each cell: document 02, 2.1.
use Rattle.std.proofs.Common.{◌≡◌, ℕ, Bool, true, false, cond, eqb, ◌≢◌, List, [], ◌∷◌, length, get_or, pos, sym, refl, ap, ◌∙◌, eqb-true}
use mathlib.Core.Bool.{false≢true}
use mathlib.Core.HLevel.{⊥_prop}
use mathlib.Core.List.{Memᴰ, eq-nil_iff_forall_not-mem}
use mathlib.Core.Logic.{∥∥₁_elim}
use borrow.Author.Tests.{eqb-false, not-false}
use Rattle.stand.specs.Cells.{cell_of}
use Rattle.stand.specs.Edit.{Edited, edited_of, fitting, look, set_def}
use Rattle.stand.specs.Fill.{and_then, between, box_cells, box_of, cells_in, fill_call, fill_def, fill_refusal, high_z, low_z, misses, misses_on, set_each}
use Rattle.stand.specs.Refusal.{gives}
use Rattle.stand.specs.Shape.{Shape, inside, opens, point_of, product, slot, well_formed}
use Rattle.stand.specs.Storage.{Outcome, State, outcome_of, shape}
use Rattle.stand.specs.declared.Cell.{Cell}
use Rattle.stand.proofs.Parts.{box-inside, box-length}
use Rattle.stand.proofs.Common.{box-between, box_has}
use Rattle.stand.proofs.Misses.{misses-apart}
use Rattle.stand.proofs.Edit.{by_edited, put_other, set-fitting, set-formed, set_same, set-shape}
use Rattle.stand.proofs.Fill.{each_keeps, fill-empty}
use Rattle.stand.proofs.Refusal.{never_given, passes}
use Rattle.stand.proofs.Shape.{formed-opens, slot_inj}
use Rattle.stand.proofs.Tests.{by-test}

-- ---- setting cells one after another, cell by cell

-- a stand of the shape g that can be set
record Settled (g : Shape) (s : State) : Type 0 where
  formed : well_formed s.volume ≡ true
  fits : fitting s ≡ true
  shape_is : shape s ≡ g

module _ (g : Shape) (v : ℕ) where
  set_settled : (s : State) (c : Cell) → Settled g s → Settled g (set_def s c v).state
  set_settled s c q = record { formed = set-formed s c v ∙ q.formed; fits = set-fitting s c v ∙ q.fits; shape_is = set-shape s c v ∙ q.shape_is }

  module _ (s : State) (d : Cell) (q : Settled g s) (at : inside g d ≡ true) where
    shape-opens : opens g ≡ true
    shape-opens = ap opens (sym q.shape_is) ∙ formed-opens s.volume q.formed

    set_here : look g (set_def s d v).state.cells d ≡ v
    set_here = ap (λ (f : Shape). look f (set_def s d v).state.cells d) (sym q.shape_is) ∙ set_same s d v q.formed (ap (λ (f : Shape). inside f d) q.shape_is ∙ at) q.fits

    -- a cell that has the finish keeps it
    set_stays : (c : Cell) → inside g c ≡ true → look g s.cells c ≡ v → look g (set_def s d v).state.cells c ≡ v
    unfolding look set_def
    set_stays c i e =
        by-test (eqb (slot g c) (slot g d))
        (λ t. ap (look g (set_def s d v).state.cells) (slot_inj g c d shape-opens i at (eqb-true _ _ t)) ∙ set_here)
        (λ t. put_other s (slot (shape s) d) v (slot g c) (λ p. eqb-false _ _ t (p ∙ ap (λ (f : Shape). slot f d) q.shape_is)) ∙ e)

  -- each of them has the finish afterwards
  each_set : (c : Cell) → inside g c ≡ true → (cs : List Cell) → ((d : Cell) → Memᴰ d cs → inside g d ≡ true) → Memᴰ c cs → (e : Edited) → Settled g e.state → look g (set_each e cs v).state.cells c ≡ v
  unfolding set_each and_then
  each_set c i [] h m e q = elim m [ ]
  each_set c i (d ∷ cs) h (Memᴰ.head p) e q =
      (each_keeps (λ (s : State). Settled g s × (look g s.cells c ≡ v)) v cs
      (λ s f m r. (set_settled s f r.0, set_stays s f r.0 (h f (Memᴰ.tail m)) c i r.1))
      (and_then e.count (set_def e.state d v))
      (set_settled e.state d q, ap (look g (set_def e.state d v).state.cells) p ∙ set_here e.state d q (h d (Memᴰ.head refl)))).1
  each_set c i (d ∷ cs) h (Memᴰ.tail m) e q =
      each_set c i cs (λ f n. h f (Memᴰ.tail n)) m (and_then e.count (set_def e.state d v)) (set_settled e.state d q)

-- any other slot of the storage keeps
each-other : (v i : ℕ) (cs : List Cell) (s : State) → ((d : Cell) → Memᴰ d cs → slot (shape s) d ≢ i) → get_or (set_each (edited_of 0 s) cs v).state.cells i 0 ≡ get_or s.cells i 0
unfolding set_def
each-other v i cs s h =
    (each_keeps (λ (t : State). (shape t ≡ shape s) × (get_or t.cells i 0 ≡ get_or s.cells i 0)) v cs
    (λ t d m r. (
      set-shape t d v ∙ r.0,
      put_other t (slot (shape t) d) v i (λ p. h d m (ap (λ (f : Shape). slot f d) (sym r.0) ∙ sym p)) ∙ r.1,
    ))
    (edited_of 0 s) (refl, refl)).1

-- ---- the request: a fill changes only cells that lie both in the box and in the stand

module _ (s : State) (a b : Cell) (v : ℕ) where
  -- whatever it answers, a slot of no such cell keeps
  pub fill-other : (i : ℕ) → ((c : Cell) → inside (shape s) c ≡ true → between a b c ≡ true → slot (shape s) c ≢ i) → get_or (fill_call s a b v).state.cells i 0 ≡ get_or s.cells i 0
  unfolding fill_call fill_def
  fill-other i h =
      by_edited (λ (o : Outcome ℕ). get_or o.state.cells i 0 ≡ get_or s.cells i 0) (fill_refusal (well_formed s.volume) (fitting s) (shape s) s.volume.generation a b) s (fill_def s a b v)
      (λ k e. refl)
      (λ e. each-other v i (box_cells (shape s) (box_of (shape s) a b)) s (λ d m. h d (box-inside (shape s) a b d m) (box-between (shape s) a b d m)))

  module _ (ok : well_formed s.volume ≡ true) (fit : fitting s ≡ true) where
    -- each cell inside has the new finish if it is between the corners, else what it had
    effect_look : (c : Cell) → inside (shape s) c ≡ true → look (shape s) (fill_def s a b v).state.cells c ≡ cond (between a b c) v (look (shape s) s.cells c)
    unfolding fill_def look
    effect_look c i =
        by-test (between a b c)
        (λ e. each_set (shape s) v c i (box_cells (shape s) (box_of (shape s) a b)) (λ d m. box-inside (shape s) a b d m) (box_has (shape s) a b c i e) (edited_of 0 s) (record { formed = ok; fits = fit; shape_is = refl }) ∙ ap (λ (t : Bool). cond t v (look (shape s) s.cells c)) (sym e))
        (λ e. each-other v (slot (shape s) c) (box_cells (shape s) (box_of (shape s) a b)) s
        (λ d m p. false≢true (sym e ∙ ap (between a b) (sym (slot_inj (shape s) d c (formed-opens s.volume ok) (box-inside (shape s) a b d m) i p)) ∙ box-between (shape s) a b d m))
        ∙ ap (λ (t : Bool). cond t v (look (shape s) s.cells c)) (sym e))

    -- a box with no cell of the stand leaves everything as it was, and is accepted
    pub fill-beside : ((c : Cell) → inside (shape s) c ≡ true → between a b c ≡ false) → fill_call s a b v ≡ outcome_of (gives 0) s
    unfolding cells_in product
    fill-beside h =
        let e = eq-nil_iff_forall_not-mem.1 (λ c m. ∥∥₁_elim m ⊥_prop (λ d. false≢true (sym (h c (box-inside (shape s) a b c d)) ∙ box-between (shape s) a b c d))) in
        sym (fill-empty s a b v ok fit (sym (box-length (shape s) (box_of (shape s) a b)) ∙ ap length e))

    -- and so does one that misses the stand on one axis or more
    pub fill-misses : misses (shape s) a b ≡ true → fill_call s a b v ≡ outcome_of (gives 0) s
    fill-misses e = fill-beside (misses-apart (shape s) a b e)

  -- where it is accepted, each cell inside has the new finish if it is between the corners, else what it had
  pub fill-look : (n : ℕ) → (fill_call s a b v).answer ≡ gives n → (c : Cell) → inside (shape s) c ≡ true → look (shape s) (fill_call s a b v).state.cells c ≡ cond (between a b c) v (look (shape s) s.cells c)
  unfolding fill_call fill_refusal
  fill-look n answered c i =
      by_edited (λ (o : Outcome ℕ). o.answer ≡ gives n → look (shape s) o.state.cells c ≡ cond (between a b c) v (look (shape s) s.cells c))
      (fill_refusal (well_formed s.volume) (fitting s) (shape s) s.volume.generation a b) s (fill_def s a b v)
      (λ k e p. absurd (never_given p))
      (λ e p.
      let f = passes _ _ _ e in
      let l = passes _ _ _ f.1 in
      effect_look (not-false _ f.0) (not-false _ l.0) c i)
      answered

-- ---- the premises can be met: P10's box misses P10's stand

pub beside_two : misses (record { origin = cell_of (pos 0) (pos 0) (pos 0); size = point_of 2 1 1 }) (cell_of (pos 5) (pos 5) (pos 5)) (cell_of (pos 9) (pos 9) (pos 9)) ≡ true
unfolding misses misses_on high_z low_z
beside_two = refl
