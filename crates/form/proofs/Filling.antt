-- A loaded stand is the fresh stand after a set for each entry, but for generation, versions, log and last changes.
use mathlib.Core.Path.{◌≡◌, refl, sym, ap, ◌∙◌, subst}
use mathlib.Core.Bool.{true}
use mathlib.Core.List.{List, [], ◌∷◌}
use Prim.Native.Nat.{ℕ, suc, ◌+◌, ◌*◌, ◌/◌, ◌%◌, ◌<◌, ◌≤◌, ◌^◌}
use native.Mathlib.Nat.{mod-eq_of_lt}
use native.Mathlib.Omega.{arith}
use borrow.Author.Tests.{ne_eqb}
use lib.ListN.{get_or, length, replicate, set}
use lib.Seq.{get_or-set_other}
use Rattle.stand.specs.Edit.{advanced, changed, edited, fitting, hash_after, last_generation, look, put, set_call, set_def, set_refusal, solid_after, toggled}
use Rattle.stand.specs.Refusal.{first}
use Rattle.stand.specs.Shape.{Shape, cell_from, counted, inside, opens, sections, shape_of, slot, spot_at, well_formed}
use Rattle.stand.specs.Storage.{State, fresh_state, fresh_storage, shape, volume_of}
use Rattle.stand.proofs.Edit.{changed-fitting, changed-formed, changed-shape}
use Rattle.stand.proofs.Kept.{fresh_sound, zeros}
use Rattle.stand.proofs.Shape.{sections-few}
use Rattle.stand.proofs.Slots.{slot_of_cell}
use Rattle.form.specs.Entries.{Entry, inside_at, loaded_state, loaded_storage, mixed, placed}
use Rattle.form.proofs.Entries.{Own, each_so}
use Rattle.form.specs.Inner.{Asc, Each}
use Rattle.form.specs.Keeping.{Alike, filled}
use Rattle.form.proofs.Loaded.{few_entries, fill_term}

-- a stand being filled: n entries set
record Fills (g : Shape) (s : State) (cells hashes : List ℕ) (k n : ℕ) : Type 0 where
  formed : well_formed s.volume ≡ true
  fits : fitting s ≡ true
  is : shape s ≡ g
  origin : s.volume.origin ≡ (volume_of g 0 0).origin
  chunks : s.volume.chunks ≡ (volume_of g 0 0).chunks
  size : s.volume.size ≡ (volume_of g 0 0).size
  generation : s.volume.generation ≡ n
  solid : s.volume.solid ≡ n
  cells_are : s.cells ≡ cells
  hashes_are : s.hashes ≡ hashes
  free : (j : ℕ) → k ≤ j → get_or cells j 0 ≡ 0

one_more : (n : ℕ) (v : ℕ) → (v ≡ 0 → ⊥) → n + 1 < 2 ^ 64 → solid_after n 0 v ≡ n + 1
unfolding solid_after
one_more n v h l = rw (ne_eqb v 0 h) (mod-eq_of_lt l)

module _ (g : Shape) (s : State) (cells hashes : List ℕ) (k n : ℕ) (e : Entry) (f : Fills g s cells hashes k n) (o : Own g e) (a : k ≤ e.slot) (l : n + 1 < 2 ^ 64) where
  empty : get_or s.cells e.slot 0 ≡ 0
  empty = ap (λ (c : List ℕ). get_or c e.slot 0) f.cells_are ∙ f.free e.slot a

  there : (inside (shape s) (cell_from (shape s) (spot_at (counted (shape s)) e.slot)) ≡ true) × (slot (shape s) (cell_from (shape s) (spot_at (counted (shape s)) e.slot)) ≡ e.slot)
  unfolding inside_at
  there = (rw f.is o.inside_it, slot_of_cell (shape s) e.slot)

  set_is : (set_call s (cell_from (shape s) (spot_at (counted (shape s)) e.slot)) e.finish).state ≡ changed s e.slot e.finish
  unfolding set_call set_refusal first edited set_def put look
  set_is =
      rw (f.formed, f.fits, there.0, there.1, ne_eqb (get_or s.cells e.slot 0) e.finish (λ q. o.filled (sym q ∙ empty)), ne_eqb s.volume.generation last_generation (λ q. omega (arith, f.generation, q)))

  fills_more : Fills g (changed s e.slot e.finish) (set cells e.slot e.finish) (set hashes (e.slot / 4096) (toggled (e.slot % 4096) e.finish (get_or hashes (e.slot / 4096) 0))) (suc e.slot) (n + 1)
  unfolding changed advanced
  fills_more =
      record {
        formed = changed-formed s e.slot e.finish ∙ f.formed;
        fits = changed-fitting s e.slot e.finish ∙ f.fits;
        is = changed-shape s e.slot e.finish ∙ f.is;
        origin = f.origin;
        chunks = f.chunks;
        size = f.size;
        generation = ap (λ (m : ℕ). m + 1) f.generation;
        solid = (λ i. solid_after (f.solid i) (empty i) e.finish) ∙ one_more n e.finish o.filled l;
        cells_are = ap (λ (c : List ℕ). set c e.slot e.finish) f.cells_are;
        hashes_are = (λ i. set (f.hashes_are i) (e.slot / 4096) (hash_after (get_or (f.hashes_are i) (e.slot / 4096) 0) (e.slot % 4096) (empty i) e.finish))
            ∙ ap (set hashes (e.slot / 4096)) (fill_term (get_or hashes (e.slot / 4096) 0) (e.slot % 4096) e.finish);
        free = λ j h. get_or-set_other cells e.slot j e.finish 0 (λ q. omega arith) ∙ f.free j (omega arith);
      }

  fills_set : Fills g (set_call s (cell_from (shape s) (spot_at (counted (shape s)) e.slot)) e.finish).state (set cells e.slot e.finish) (set hashes (e.slot / 4096) (toggled (e.slot % 4096) e.finish (get_or hashes (e.slot / 4096) 0))) (suc e.slot) (n + 1)
  fills_set = subst (λ (t : State). Fills g t (set cells e.slot e.finish) (set hashes (e.slot / 4096) (toggled (e.slot % 4096) e.finish (get_or hashes (e.slot / 4096) 0))) (suc e.slot) (n + 1)) (sym set_is) fills_more

pub record Sets (g : Shape) (t : State) (cells hashes : List ℕ) (n : ℕ) : Type 0 where
  pub origin : t.volume.origin ≡ (volume_of g 0 0).origin
  pub chunks : t.volume.chunks ≡ (volume_of g 0 0).chunks
  pub size : t.volume.size ≡ (volume_of g 0 0).size
  pub generation : t.volume.generation ≡ n
  pub solid : t.volume.solid ≡ n
  pub cells_are : t.cells ≡ cells
  pub hashes_are : t.hashes ≡ hashes

fills_all : (g : Shape) (es : List Entry) (s : State) (cells hashes : List ℕ) (k n : ℕ) → Fills g s cells hashes k n → Asc k es → Each (Own g) es → n + length es < 2 ^ 64
    → Sets g (filled s es) (placed es cells) (mixed es hashes) (n + length es)
unfolding filled placed mixed
fills_all g [] s cells hashes k n f a h l =
    let z : n ≡ n + 0 = omega arith in
    record { origin = f.origin; chunks = f.chunks; size = f.size; generation = f.generation ∙ z; solid = f.solid ∙ z; cells_are = f.cells_are; hashes_are = f.hashes_are }
fills_all g (e ∷ es) s cells hashes k n f a h l =
    let z : n + 1 + length es ≡ n + length (e ∷ es) = omega arith in
    subst (λ (m : ℕ). Sets g (filled s (e ∷ es)) (placed (e ∷ es) cells) (mixed (e ∷ es) hashes) m) z
    (fills_all g es _ _ _ (suc e.slot) (n + 1) (fills_set g s cells hashes k n e f h.0 a.0 (omega arith)) a.1 h.1 (omega arith))

fresh_fills : (g : Shape) → opens g ≡ true → Fills g (fresh_state g) (replicate (sections g * 4096) 0) (replicate (sections g) 0) 0 0
unfolding fresh_state fresh_storage volume_of shape_of
fresh_fills g o =
    let q = fresh_sound g o in
    record {
      formed = q.formed;
      fits = q.fits;
      is = refl;
      origin = refl;
      chunks = refl;
      size = refl;
      generation = refl;
      solid = refl;
      cells_are = refl;
      hashes_are = refl;
      free = λ j _. zeros (sections g * 4096) j;
    }

module _ (g : Shape) (es : List Entry) (o : opens g ≡ true) (a : Asc 0 es) (h : Each (Own g) es) where
  all_set : Sets g (filled (fresh_state g) es) (placed es (replicate (sections g * 4096) 0)) (mixed es (replicate (sections g) 0)) (0 + length es)
  all_set =
      let q = few_entries es 0 (sections g * 4096) a (each_so (Own g) (λ e. e.slot < sections g * 4096) (λ e w. w.below) es h) in
      fills_all g es (fresh_state g) (replicate (sections g * 4096) 0) (replicate (sections g) 0) 0 0 (fresh_fills g o) a h (omega (arith, q, sections-few g o))

  -- the loaded stand and the fresh stand after a set for each entry
  pub loaded-filled : Alike (loaded_state g es) (filled (fresh_state g) es)
  unfolding loaded_state loaded_storage volume_of
  loaded-filled =
      let r = all_set in
      let z : length es ≡ 0 + length es = omega arith in
      record { origin = sym r.origin; chunks = sym r.chunks; size = sym r.size; solid = z ∙ sym r.solid; cells = sym r.cells_are; hashes = sym r.hashes_are }

  -- each set changed its cell
  pub filled-generation : (filled (fresh_state g) es).volume.generation ≡ length es
  filled-generation = omega (arith, all_set.generation)
