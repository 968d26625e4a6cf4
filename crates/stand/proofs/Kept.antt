-- Opening gives a sound stand, and changes keep it sound and its finishes u16.
use Rattle.std.proofs.Common.{◌≡◌, ℕ, zero, suc, ◌+◌, ◌*◌, ◌/◌, ◌%◌, ◌^◌, ◌<◌, ◌≤◌, Bool, true, false, cond, eqb, List, [], ◌∷◌, length, get_or, set, replicate, sym, refl, ap, ◌∙◌, mod-eq_of_lt, arith, length-set, get_or-set_other, get_or-set_same, eqb-true}
use mathlib.Core.Bool.{false≢true}
use borrow.Author.Tests.{eqb-false}
use Rattle.stand.specs.Cells.{is_empty}
use Rattle.stand.specs.Edit.{Edited, advanced, changed, fitting, hash_after, look, put, set_call, set_def, set_refusal, toggled}
use Rattle.stand.specs.Shape.{Shape, cell_from, counted, inside, opens, sections, shape_of, slot, spot_at, well_formed}
use Rattle.stand.specs.Sound.{Sound, occupied, terms_of}
use Rattle.stand.specs.Storage.{Outcome, State, fresh_state, fresh_storage, shape, volume_of}
use Rattle.stand.specs.declared.Cell.{Cell}
use Rattle.stand.proofs.Edit.{by_edited, by_put, changed-fitting, changed-formed, changed-shape, fitting-lengths, settable}
use Rattle.stand.proofs.Opening.{fresh-fits, volume-formed}
use Rattle.stand.proofs.Shape.{formed-opens, sections-few, slot_lt}
use Rattle.stand.proofs.Slots.{cell-from-slot}
use Rattle.stand.proofs.Sound.{occupied_change, solid_change, terms_change, terms_keep}

-- ---- a change

module _ (s : State) (i v : ℕ) (q : Sound s) (h : i < sections (shape s) * 4096) (at : inside (shape s) (cell_from (shape s) (spot_at (counted (shape s)) i)) ≡ true) where
  cell-lt : i < length s.cells
  cell-lt = omega (arith, (fitting-lengths s q.fits).cells)

  chunk-lt : i / 4096 < length s.hashes
  chunk-lt = omega (arith, (fitting-lengths s q.fits).hashes)

  solid-kept : (changed s i v).volume.solid ≡ occupied (changed s i v).cells (length (changed s i v).cells) % 2 ^ 64
  unfolding changed advanced
  solid-kept =
      solid_change s.volume.solid (occupied s.cells (length s.cells)) (occupied (set s.cells i v) (length s.cells)) (get_or s.cells i 0) v q.solid
      (occupied_change s.cells i v (length s.cells) cell-lt cell-lt)
      ∙ ap (λ (n : ℕ). occupied (set s.cells i v) n % 2 ^ 64) (sym (length-set s.cells i v))

  hash-kept : (k : ℕ) → k < sections (shape s) → get_or (changed s i v).hashes k 0 ≡ terms_of (changed s i v).cells k 4096
  unfolding changed
  hash-kept k l = by (eqb k (i / 4096)) refl
    where
      by : (t : Bool) → eqb k (i / 4096) ≡ t → get_or (set s.hashes (i / 4096) (hash_after (get_or s.hashes (i / 4096) 0) (i % 4096) (get_or s.cells i 0) v)) k 0 ≡ terms_of (set s.cells i v) k 4096
      by true e =
          let p = eqb-true k (i / 4096) e in
          rw (p, get_or-set_same s.hashes (i / 4096) (hash_after (get_or s.hashes (i / 4096) 0) (i % 4096) (get_or s.cells i 0) v) 0 chunk-lt)
          (ap (λ (n : ℕ). hash_after n (i % 4096) (get_or s.cells i 0) v) (q.hash (i / 4096) (omega arith)) ∙ sym (terms_change s.cells i v cell-lt))
      by false e =
          let p = eqb-false k (i / 4096) e in
          get_or-set_other s.hashes (i / 4096) k (hash_after (get_or s.hashes (i / 4096) 0) (i % 4096) (get_or s.cells i 0) v) 0 p
          ∙ q.hash k l
          ∙ sym (terms_keep s.cells k i v (λ (r : i / 4096 ≡ k). p (sym r)))

  beyond-kept : (k : ℕ) → inside (shape s) (cell_from (shape s) (spot_at (counted (shape s)) k)) ≡ false → get_or (changed s i v).cells k 0 ≡ 0
  unfolding changed
  beyond-kept k e =
      get_or-set_other s.cells i k v 0
      (λ (r : k ≡ i). false≢true (sym e ∙ ap (λ (j : ℕ). inside (shape s) (cell_from (shape s) (spot_at (counted (shape s)) j))) r ∙ at))
      ∙ q.beyond k e

  pub changed_sound : Sound (changed s i v)
  changed_sound =
      record {
        formed = changed-formed s i v ∙ q.formed;
        fits = changed-fitting s i v ∙ q.fits;
        solid = solid-kept;
        beyond = λ k e. beyond-kept k (rw (changed-shape s i v) at e);
        hash = λ k l. hash-kept k (rw (changed-shape s i v) at l);
      }

  pub put_sound : Sound (put s i v).state
  put_sound = by_put (λ (e : Edited). Sound e.state) s i v (λ e. q) (λ n. changed_sound)

-- a set of a cell inside
pub set_sound : (s : State) (c : Cell) (v : ℕ) → Sound s → inside (shape s) c ≡ true → Sound (set_def s c v).state
unfolding set_def
set_sound s c v q e =
    let o = formed-opens s.volume q.formed in
    put_sound s (slot (shape s) c) v q (slot_lt (shape s) c o e) (ap (inside (shape s)) (cell-from-slot (shape s) c o e) ∙ e)

-- any call of set
pub set-call_sound : (s : State) (c : Cell) (v : ℕ) → Sound s → Sound (set_call s c v).state
unfolding set_call
set-call_sound s c v q =
    by_edited (λ (o : Outcome ℕ). Sound o.state) (set_refusal (well_formed s.volume) (fitting s) (shape s) s.volume.generation (look (shape s) s.cells c) c v) s (set_def s c v)
    (λ k e. q)
    (λ e. set_sound s c v q (settable _ _ _ _ _ _ _ e).inside_is)

-- ---- finishes

-- each slot holds a u16, as the type of the lent list has it
abbrev pub Finishes : List ℕ → Type 0
Finishes cells = (k : ℕ) → get_or cells k 0 < 65536

finish-set : (cells : List ℕ) (i v : ℕ) → v < 65536 → Finishes cells → Finishes (set cells i v)
finish-set [] i v l h k = h k
finish-set (x ∷ xs) zero v l h zero = l
finish-set (x ∷ xs) zero v l h (suc k) = h (suc k)
finish-set (x ∷ xs) (suc i) v l h zero = h zero
finish-set (x ∷ xs) (suc i) v l h (suc k) = finish-set xs i v l (λ j. h (suc j)) k

pub set-finishes : (s : State) (c : Cell) (v : ℕ) → v < 65536 → Finishes s.cells → Finishes (set_def s c v).state.cells
unfolding set_def changed
set-finishes s c v l h = by_put (λ (e : Edited). Finishes e.state.cells) s (slot (shape s) c) v (λ e. h) (λ n. finish-set s.cells (slot (shape s) c) v l h)

-- any call of set
pub set-call-finishes : (s : State) (c : Cell) (v : ℕ) → v < 65536 → Finishes s.cells → Finishes (set_call s c v).state.cells
unfolding set_call
set-call-finishes s c v l h = by_edited (λ (o : Outcome ℕ). Finishes o.state.cells) _ s (set_def s c v) (λ k e. h) (λ e. set-finishes s c v l h)

-- ---- a stand just opened

pub zeros : (n i : ℕ) → ◌≡◌ {A = ℕ} (get_or (replicate n 0) i 0) 0
zeros zero i = refl
zeros (suc n) zero = refl
zeros (suc n) (suc i) = zeros n i

pub none-occupied : (m n : ℕ) → occupied (replicate m 0) n ≡ 0
unfolding occupied
none-occupied m zero = refl
none-occupied m (suc n) = rw (zeros m n, none-occupied m n)

no_terms : (m i n : ℕ) → terms_of (replicate m 0) i n ≡ 0
unfolding terms_of toggled
no_terms m i zero = refl
no_terms m i (suc n) = rw (zeros m (i * 4096 + n), no_terms m i n)

fresh-fitting : (g : Shape) → fitting (fresh_state g) ≡ true
unfolding fitting fresh_state shape_of volume_of
fresh-fitting g = fresh-fits (sections g)

pub fresh_sound : (g : Shape) → opens g ≡ true → Sound (fresh_state g)
unfolding fresh_state fresh_storage volume_of shape_of
fresh_sound g e =
    record {
      formed = volume-formed g 0 0 e;
      fits = fresh-fitting g;
      beyond = λ i e. zeros (sections g * 4096) i;
      solid = rw (none-occupied (sections g * 4096) (length (replicate {A = ℕ} (sections g * 4096) 0)));
      hash = λ i l. zeros (sections g) i ∙ sym (no_terms (sections g * 4096) i 4096);
    }

-- ---- what soundness says

occupied-le : (cells : List ℕ) (n : ℕ) → occupied cells n ≤ n
unfolding occupied
occupied-le cells zero = omega arith
occupied-le cells (suc n) = by (is_empty (get_or cells n 0)) (occupied-le cells n)
  where
    by : (t : Bool) → occupied cells n ≤ n → occupied cells n + cond t 0 1 ≤ suc n
    by true h = omega arith
    by false h = omega arith

-- solid is the number of occupied cells
pub solid_exact : (s : State) → Sound s → s.volume.solid ≡ occupied s.cells (length s.cells)
solid_exact s q =
    q.solid
    ∙ mod-eq_of_lt (omega (arith, occupied-le s.cells (length s.cells), (fitting-lengths s q.fits).cells, sections-few (shape s) (formed-opens s.volume q.formed)))
