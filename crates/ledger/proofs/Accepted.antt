-- A call that measures, accepted or refused.
use mathlib.Core.Path.{◌≡◌, refl, ap, ◌∙◌}
use mathlib.Core.Bool.{Bool, true, false≢true}
use mathlib.Core.List.{List}
use Prim.Native.Nat.{ℕ, zero, suc, ◌*◌}
use lib.ListN.{length}
use Rattle.stand.specs.Edit.{look}
use Rattle.stand.specs.Shape.{sections, shape_of}
use Rattle.stand.specs.Storage.{State, shape}
use Rattle.stand.specs.declared.Cell.{Cell}
use Rattle.stand.specs.declared.volume.Volume.{Volume}
use Rattle.mesh.specs.Faces.{wiped}
use Rattle.sheet.specs.Calls.{Outcome, done, measure_refusal, measuring, outcome_of, refused, want_of}
use Rattle.sheet.specs.Card.{Terms}
use Rattle.sheet.specs.Row.{measured}
use Rattle.sheet.specs.Rows.{remeasure}
use Rattle.sheet.specs.declared.Marks.{Marks}
use Rattle.ledger.specs.Calls.{Four, is_done}
use Rattle.ledger.proofs.Measured.{Measures, Passed, passed}

-- ---- under its refusal's number

module _ (t : Terms) (v : Volume) (f : Cell → ℕ) (p : ℕ → Bool) (k : Marks) (m l : List ℕ) where
  abbrev Done : Outcome
  Done = outcome_of done (record { sheet = v.generation }) (wiped (want_of (shape_of v) p (sections (shape_of v))) m) (remeasure p (measured t (shape_of v) f) l)

  pub by_measuring : (P : Outcome → Type 0) (n : ℕ) → ((j : ℕ) → P (outcome_of (refused (suc j)) k m l)) → P Done → P (measuring n t v f p k m l)
  unfolding measuring
  by_measuring P zero r d = d
  by_measuring P (suc n) r d = r n

  done-number : (n : ℕ) → is_done (measuring n t v f p k m l).verdict ≡ true → n ≡ 0
  unfolding measuring
  done-number zero e = refl
  done-number (suc n) e = absurd (false≢true e)

  done-is : (n : ℕ) → n ≡ 0 → measuring n t v f p k m l ≡ Done
  unfolding measuring
  done-is n e = ap (λ (n : ℕ). measuring n t v f p k m l) e

-- ---- on a state, and accepted

module _ (t : Terms) (s : State) (p : ℕ → Bool) (fits ahead : Bool) (k : Marks) (m l : List ℕ) where
  abbrev number : ℕ
  number = measure_refusal t s.volume (look (shape s) s.cells) p fits ahead (length m)

  abbrev outcome : Outcome
  outcome = measuring number t s.volume (look (shape s) s.cells) p k m l

  module _ (e : is_done outcome.verdict ≡ true) where
    none : number ≡ 0
    none = done-number t s.volume (look (shape s) s.cells) p k m l number e

    pub call-passed : Passed t s.volume (look (shape s) s.cells) p fits ahead
    call-passed = passed t s.volume (look (shape s) s.cells) p fits ahead (length m) none

    -- marks and sheet left as the call says
    pub call_measures : length l ≡ sections (shape s) * 3 → (after : Four) → after.sheet ≡ outcome.sheet → after.marks ≡ outcome.marks → Measures t s p l after
    call_measures h after es em =
        let q = call-passed in
        let d = done-is t s.volume (look (shape s) s.cells) p k m l number none in
        record {
          length-is = h;
          cut_in = q.cut_in;
          priced-is = q.priced-is;
          sheet-is = es ∙ ap (λ (r : Outcome). r.sheet) d;
          mark_is = ap (λ (k : Marks). k.sheet) em ∙ ap (λ (r : Outcome). r.marks.sheet) d;
        }
