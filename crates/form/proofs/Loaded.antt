-- A stand just loaded is sound: solid and hashes are those of its cells, and nothing lies beyond the size.
use mathlib.Core.Path.{◌≡◌, refl, sym, ap, ◌∙◌}
use mathlib.Core.Bool.{true, false, cond}
use mathlib.Core.List.{List, [], ◌∷◌}
use Prim.Native.Nat.{ℕ, suc, ◌+◌, ◌*◌, ◌/◌, ◌%◌, ◌^◌, ◌<◌, ◌≤◌, max}
use native.Mathlib.Nat.{mod-eq_of_lt}
use native.Mathlib.Omega.{arith}
use borrow.Author.Tests.{eq-eqb, eqb-false, eqb-true, ne_eqb}
use lib.Dec.{eqb}
use lib.ListN.{get_or, length, length-replicate, length-set, replicate, set}
use lib.Seq.{get_or-set_other, get_or-set_same}
use Rattle.stand.specs.Cells.{is_empty}
use Rattle.stand.specs.Edit.{fitting, hash_after, toggled}
use Rattle.stand.specs.Shape.{Shape, cell_from, counted, inside, opens, sections, shape_of, spot_at}
use Rattle.stand.specs.Sound.{Sound, occupied, terms_of}
use Rattle.stand.specs.Storage.{fresh_state, fresh_storage, joined, storage_fits, volume_of}
use Rattle.stand.proofs.Kept.{none-occupied, fresh_sound, zeros}
use Rattle.stand.proofs.Opening.{volume-formed}
use Rattle.stand.proofs.Shape.{sections-few}
use Rattle.stand.proofs.Sound.{occupied_change, terms_change, terms_keep}
use Rattle.stand.proofs.Tests.{by-test}
use Rattle.form.specs.Entries.{Entry, inside_at, loaded_state, loaded_storage, lookup, mixed, placed}
use Rattle.form.proofs.Entries.{below_set, Own, each_so, lookup-inside, placed-length, placed-look}
use Rattle.form.specs.Inner.{Asc, Each}

-- an empty slot filled: the hash takes in one term
pub fill_term : (h w v : ℕ) → hash_after h w 0 v ≡ toggled w v h
unfolding hash_after toggled
fill_term h w v = refl

-- hashes that are the cells' terms stay so
pub mixed-terms : (n : ℕ) (es : List Entry) (cells hashes : List ℕ) (k : ℕ) → Asc k es → Each (λ e. e.slot < n * 4096) es
    → length cells ≡ n * 4096 → length hashes ≡ n → ((j : ℕ) → k ≤ j → get_or cells j 0 ≡ 0)
    → ((i : ℕ) → i < n → get_or hashes i 0 ≡ terms_of cells i 4096)
    → (i : ℕ) → i < n → get_or (mixed es hashes) i 0 ≡ terms_of (placed es cells) i 4096
unfolding mixed placed
mixed-terms n [] cells hashes k a b lc lh z t i l = t i l
mixed-terms n (e ∷ es) cells hashes k a b lc lh z t i l =
    mixed-terms n es (set cells e.slot e.finish) (set hashes (e.slot / 4096) (toggled (e.slot % 4096) e.finish (get_or hashes (e.slot / 4096) 0))) (suc e.slot) a.1 b.1
    (length-set cells e.slot e.finish ∙ lc) (length-set hashes (e.slot / 4096) _ ∙ lh)
    (λ j h. get_or-set_other cells e.slot j e.finish 0 (λ q. omega arith) ∙ z j (omega (arith, a.0)))
    (λ i l. by-test (eqb i (e.slot / 4096)) (λ q. same i (eqb-true i (e.slot / 4096) q)) (λ q. other i l (eqb-false i (e.slot / 4096) q))) i l
  where
    h : ℕ
    h = toggled (e.slot % 4096) e.finish (get_or hashes (e.slot / 4096) 0)

    same : (i : ℕ) → i ≡ e.slot / 4096 → get_or (set hashes (e.slot / 4096) h) i 0 ≡ terms_of (set cells e.slot e.finish) i 4096
    same i p =
        ap (λ (m : ℕ). get_or (set hashes (e.slot / 4096) h) m 0) p
        ∙ get_or-set_same hashes (e.slot / 4096) h 0 (omega (arith, b.0))
        ∙ ap (toggled (e.slot % 4096) e.finish) (t (e.slot / 4096) (omega (arith, b.0)))
        ∙ sym (fill_term (terms_of cells (e.slot / 4096) 4096) (e.slot % 4096) e.finish)
        ∙ ap (λ (x : ℕ). hash_after (terms_of cells (e.slot / 4096) 4096) (e.slot % 4096) x e.finish) (sym (z e.slot a.0))
        ∙ sym (terms_change cells e.slot e.finish (omega (arith, b.0)))
        ∙ ap (λ (m : ℕ). terms_of (set cells e.slot e.finish) m 4096) (sym p)

    other : (i : ℕ) → i < n → (i ≡ e.slot / 4096 → ⊥) → get_or (set hashes (e.slot / 4096) h) i 0 ≡ terms_of (set cells e.slot e.finish) i 4096
    other i l q =
        get_or-set_other hashes (e.slot / 4096) i h 0 q ∙ t i l ∙ sym (terms_keep cells i e.slot e.finish (λ r. q (sym r)))

pub mixed-length : (es : List Entry) (hashes : List ℕ) → length (mixed es hashes) ≡ length hashes
unfolding mixed
mixed-length [] hashes = refl
mixed-length (e ∷ es) hashes = mixed-length es _ ∙ length-set hashes (e.slot / 4096) _

-- as many occupied cells as entries
occupied-placed : (es : List Entry) (cells : List ℕ) (k : ℕ) → Asc k es → Each (λ e. e.slot < length cells) es → Each (λ e. e.finish ≡ 0 → ⊥) es → ((j : ℕ) → k ≤ j → get_or cells j 0 ≡ 0)
    → occupied (placed es cells) (length cells) ≡ occupied cells (length cells) + length es
unfolding placed
occupied-placed [] cells k a b f z = omega arith
occupied-placed (e ∷ es) cells k a b f z =
    let c = set cells e.slot e.finish in
    let n = length-set cells e.slot e.finish in
    let p = occupied-placed es c (suc e.slot) a.1 (below_set cells e.slot e.finish es b.1) f.1 (λ j h. get_or-set_other cells e.slot j e.finish 0 (λ q. omega arith) ∙ z j (omega (arith, a.0))) in
    let q = occupied_change cells e.slot e.finish (length cells) b.0 b.0 in
    let r : occupied c (length cells) ≡ occupied cells (length cells) + 1 = one q in
    ap (occupied (placed es c)) (sym n) ∙ p ∙ ap (λ (m : ℕ). occupied c m + length es) n ∙ omega arith
  where
    one : occupied (set cells e.slot e.finish) (length cells) + cond (is_empty (get_or cells e.slot 0)) 0 1 ≡ occupied cells (length cells) + cond (is_empty e.finish) 0 1
        → occupied (set cells e.slot e.finish) (length cells) ≡ occupied cells (length cells) + 1
    one q =
        let x : get_or cells e.slot 0 ≡ 0 = z e.slot a.0 in
        let y = ne_eqb e.finish 0 f.0 in
        (let w = rw (x, y) at q in omega arith)

pub few_entries : (es : List Entry) (k n : ℕ) → Asc k es → Each (λ e. e.slot < n) es → length es + k ≤ max k n
few_entries [] k n a b = omega arith
few_entries (e ∷ es) k n a b = omega (arith, few_entries es (suc e.slot) n a.1 b.1, a.0, b.0)

module _ (g : Shape) (es : List Entry) (o : opens g ≡ true) (a : Asc 0 es) (h : Each (Own g) es) where
  cells-length : length (placed es (replicate (sections g * 4096) 0)) ≡ sections g * 4096
  cells-length = placed-length es (replicate (sections g * 4096) 0) ∙ length-replicate {A = ℕ} (sections g * 4096) 0

  hashes-length : length (mixed es (replicate (sections g) 0)) ≡ sections g
  hashes-length = mixed-length es (replicate (sections g) 0) ∙ length-replicate {A = ℕ} (sections g) 0

  below_length : Each (λ e. e.slot < length (replicate {A = ℕ} (sections g * 4096) 0)) es
  below_length = each_so (Own g) (λ e. e.slot < length (replicate {A = ℕ} (sections g * 4096) 0)) (λ e w. omega (arith, w.below, length-replicate {A = ℕ} (sections g * 4096) 0)) es h

  solid-is : length es ≡ occupied (placed es (replicate (sections g * 4096) 0)) (length (placed es (replicate (sections g * 4096) 0))) % 2 ^ 64
  solid-is =
      let n = sections g * 4096 in
      let p = occupied-placed es (replicate n 0) 0 a below_length (each_so (Own g) (λ e. e.finish ≡ 0 → ⊥) (λ e w. w.filled) es h) (λ j _. zeros n j) in
      let q = few_entries es 0 n a (each_so (Own g) (λ e. e.slot < n) (λ e w. w.below) es h) in
      let r : occupied (placed es (replicate n 0)) (length (placed es (replicate n 0))) ≡ length es =
      ap (occupied (placed es (replicate n 0))) (placed-length es (replicate n 0)) ∙ p ∙ ap (λ (m : ℕ). m + length es) (none-occupied n (length (replicate {A = ℕ} n 0))) ∙ omega arith in
      sym (ap (λ (m : ℕ). m % 2 ^ 64) r ∙ mod-eq_of_lt (omega (arith, q, sections-few g o)))

  beyond-is : (i : ℕ) → inside g (cell_from g (spot_at (counted g) i)) ≡ false → inside_at g i ≡ false
  unfolding inside_at
  beyond-is i e = e

  pub fresh-hash : (j : ℕ) → j < sections g → get_or (replicate (sections g) 0) j 0 ≡ terms_of (replicate (sections g * 4096) 0) j 4096
  unfolding fresh_state fresh_storage volume_of shape_of
  fresh-hash j m = (fresh_sound g o).hash j m

  pub loaded_sound : Sound (loaded_state g es)
  unfolding loaded_state loaded_storage fitting storage_fits volume_of shape_of
  loaded_sound =
      record {
        formed = volume-formed g 0 (length es) o;
        fits = rw (eq-eqb _ _ cells-length, eq-eqb _ _ hashes-length, eq-eqb _ _ (length-replicate {A = ℕ} (sections g) 0));
        solid = solid-is;
        beyond = λ i e. placed-look es (replicate (sections g * 4096) 0) 0 a below_length (λ j _. zeros (sections g * 4096) j) i (omega arith) ∙ lookup-inside g es h i (beyond-is i e);
        hash = λ i l.
            mixed-terms (sections g) es (replicate (sections g * 4096) 0) (replicate (sections g) 0) 0 a (each_so (Own g) (λ e. e.slot < sections g * 4096) (λ e w. w.below) es h)
            (length-replicate {A = ℕ} (sections g * 4096) 0) (length-replicate {A = ℕ} (sections g) 0) (λ j _. zeros (sections g * 4096) j)
            (λ j m. fresh-hash j m) i l;
      }

-- storage of a stand just loaded fits, whatever its header's solid
pub sound_fits : (g : Shape) (es : List Entry) (n : ℕ) → Sound (loaded_state g es) → fitting (joined (volume_of g 0 n) (loaded_storage g es)) ≡ true
unfolding loaded_state fitting volume_of shape_of
sound_fits g es n q = q.fits

-- what a slot holds after it
pub placed-own : (g : Shape) (es : List Entry) → Asc 0 es → Each (Own g) es → (j : ℕ) → get_or (placed es (replicate (sections g * 4096) 0)) j 0 ≡ lookup es j
placed-own g es a h j =
    placed-look es (replicate (sections g * 4096) 0) 0 a
    (each_so (Own g) (λ e. e.slot < length (replicate {A = ℕ} (sections g * 4096) 0)) (λ e w. omega (arith, w.below, length-replicate {A = ℕ} (sections g * 4096) 0)) es h)
    (λ i _. zeros (sections g * 4096) i) j (omega arith)
