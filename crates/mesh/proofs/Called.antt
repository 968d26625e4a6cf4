-- The calls that mesh: refusals before a part is meshed, the mask wiped, and what is answered.
use Rattle.std.specs.Prelude.{Result, Err, IsErrAnd}
use Rattle.std.proofs.lemmas.Result.{err_from_is_err_and}
use mathlib.Core.Path.{◌≡◌, refl, sym, ap, ◌∙◌}
use mathlib.Core.Bool.{Bool, true}
use mathlib.Core.List.{List, [], ◌++◌}
use Prim.Native.Nat.{ℕ, zero, suc, ◌/◌, ◌≤◌, ◌<◌}
use native.Mathlib.Omega.{arith}
use borrow.Author.Tests.{le-leb, le-ltb, lt-leb, lt-ltb}
use lib.IntN.{ℤ}
use lib.ListN.{drop, get_or-append, get_or-replicate, length, length-append, length-drop, length-replicate, replicate, take}
use lib.Seq.{length-take-le}
use Rattle.stand.specs.Answer.{refusal_number}
use Rattle.stand.specs.Edit.{look}
use Rattle.stand.specs.Refusal.{Rule, first, list_rules}
use Rattle.stand.specs.Shape.{Shape, shape_of}
use Rattle.stand.specs.declared.volume.refusal.Refusal.{Refusal}
use Rattle.stand.specs.declared.volume.view.View.{View}
use Rattle.stand.specs.declared.volume.Volume.{Volume}
use Rattle.stand.specs.declared.volume.shape.Region.{Region}
use Rattle.stand.proofs.Refusal.{begun, first_rest, numbered, some_number}
use Rattle.mesh.specs.Faces.{Meshing, chunk_faces_call, chunk_rules, faces_answer, faces_call, meshed, meshing_of, panels, part_call, refused, short, wiped, written}
use Rattle.mesh.specs.Listed.{Listed}
use Rattle.mesh.specs.Panels.{part_panels}
use Rattle.mesh.specs.Part.{largest_side, section_part, whole_part}
use Rattle.mesh.specs.Scene.{open_in, shape_in}
use Rattle.mesh.specs.Tiles.{Cleared, part_of}
use Rattle.mesh.specs.Visible.{empty_beyond}
use Rattle.mesh.specs.declared.Beyond.{Beyond}
use Rattle.mesh.specs.declared.faces.Unmeshed.{Unmeshed}
use Rattle.mesh.specs.declared.faces.Unmeshed.TheVariants as U
use Rattle.mesh.specs.declared.scene.Part.{Part}
use Rattle.mesh.specs.declared.scene.Scene.{Scene}

-- ---- the mask

pub wiped_is : (n : ℕ) (m : List ℕ) {ys : List ℕ} → n ≤ length m → ys ≡ replicate (length (take n m)) 0 → ys ++ drop n m ≡ wiped n m
unfolding wiped
wiped_is n m l e = ap (λ (ys : List ℕ). ys ++ drop n m) (e ∙ ap (λ (k : ℕ). replicate k 0) (length-take-le n m l))

pub wiped_cleared : (n : ℕ) (m : List ℕ) {m₁ : List ℕ} → n ≤ length m → m₁ ≡ wiped n m → Cleared n m₁
unfolding wiped
wiped_cleared n m l e =
    rw e
    (record {
      room = omega (arith, length-append (replicate n 0) (drop n m), length-replicate {A = ℕ} n 0, length-drop n m);
      zero = λ q h. get_or-append (replicate n 0) (drop n m) 0 q (omega (arith, length-replicate {A = ℕ} n 0)) ∙ get_or-replicate n q 0 0 h;
    })

-- ---- refusals

module _ (g : Shape) (cells : List ℕ) (beyond : Bool) (r : Region) (m : List ℕ) (l : List ℤ) where
  -- by the rules that a call begins with
  pub part_turned : (rs : List Rule) (d : Refusal) → refusal_number d ≡ first rs → meshing_of (refused (refusal_number d)) m l ≡ part_call rs g cells beyond r m l
  unfolding part_call meshed
  part_turned rs d e =
      by (refusal_number d) (some_number d)
      ∙ ap (λ (k : ℕ). meshed k (largest_side r) m l (part_panels beyond g (look g cells) r)) (begun d rs _ e)
    where
      by : (n : ℕ) → (n ≡ 0 → ⊥) → meshing_of (refused n) m l ≡ meshed n (largest_side r) m l (part_panels beyond g (look g cells) r)
      by zero h = absurd (h refl)
      by (suc n) h = refl

  pub part-passed : (rs : List Rule) → numbered rs ≡ true → first rs ≡ 0 → part_call [] g cells beyond r m l ≡ part_call rs g cells beyond r m l
  unfolding part_call
  part-passed rs k z = ap (λ (k : ℕ). meshed k (largest_side r) m l (part_panels beyond g (look g cells) r)) (sym (first_rest rs _ k z))

  -- by 10
  pub part_small : {w : ℕ} → w ≡ largest_side r → length m < w → meshing_of (refused 10) m l ≡ part_call [] g cells beyond r m l
  unfolding part_call first meshed
  part_small {w} e h = rw (lt-ltb (length m) (largest_side r) (omega (arith, e)))

  -- ---- the panels
  module _ {w n : ℕ} {m₁ m' : List ℕ} {l' : List ℤ} (e : w ≡ largest_side r) (h : w ≤ length m) (c : m₁ ≡ wiped w m)
      (o : Listed (part_panels beyond g (look g cells) r) m₁ m' l l' 0 n) where
    count-is : n ≡ length (part_panels beyond g (look g cells) r)
    count-is = omega (arith, o.total)

    mask_is : m' ≡ wiped (largest_side r) m
    mask_is = o.mask ∙ c ∙ ap (λ (k : ℕ). wiped k m) e

    pub part-short : {len : ℕ} → len ≡ length l → len / 8 < n → meshing_of (short 11 n) m' l' ≡ part_call [] g cells beyond r m l
    unfolding part_call first meshed written
    part-short k t =
        rw (le-ltb (length m) (largest_side r) (omega (arith, e)), lt-leb (length (part_panels beyond g (look g cells) r)) (length l / 8) (omega (arith, count-is)))
        (λ i. meshing_of (short 11 (count-is i)) (mask_is i) (o.list i))

    pub part-listed : {len : ℕ} → len ≡ length l → n ≤ len / 8 → meshing_of (panels n) m' l' ≡ part_call [] g cells beyond r m l
    unfolding part_call first meshed written
    part-listed k t =
        rw (le-ltb (length m) (largest_side r) (omega (arith, e)), le-leb (length (part_panels beyond g (look g cells) r)) (length l / 8) (omega (arith, count-is)))
        (λ i. meshing_of (panels (count-is i)) (mask_is i) (o.list i))

-- ---- a refusal before a part is meshed

exit_is : (d : Refusal) (r : Result ℕ Unmeshed) → IsErrAnd r (λ u. u ≡ U.Refused d) → r ≡ Err (U.Refused d)
exit_is d r x =
    let p = err_from_is_err_and r x in
    p.1 ∙ ap Err p.2

module _ (v : Volume) (cells : List ℕ) (b : Bool) (m : List ℕ) (l : List ℤ) (d : Refusal) (r : Result ℕ Unmeshed) (x : IsErrAnd r (λ u. u ≡ U.Refused d)) where
  exit : {o : Meshing} → meshing_of (refused (refusal_number d)) m l ≡ o → meshing_of (faces_answer r) m l ≡ o
  exit e = ap (λ (r : Result ℕ Unmeshed). meshing_of (faces_answer r) m l) (exit_is d r x) ∙ e

  pub faces_turned : refusal_number d ≡ first (list_rules 4096 v (length cells)) → meshing_of (faces_answer r) m l ≡ faces_call v cells b m l
  unfolding faces_call
  faces_turned e = exit (part_turned (shape_of v) cells b (whole_part (shape_of v)) m l (list_rules 4096 v (length cells)) d e)

  module _ (i : ℕ) where
    chunk_by : refusal_number d ≡ first (list_rules 4096 v (length cells) ++ chunk_rules v i) → meshing_of (faces_answer r) m l ≡ chunk_faces_call v cells i b m l
    unfolding chunk_faces_call
    chunk_by e = exit (part_turned (shape_of v) cells b (section_part (shape_of v) i) m l (list_rules 4096 v (length cells) ++ chunk_rules v i) d e)

    pub chunk_turned : refusal_number d ≡ first (list_rules 4096 v (length cells)) → meshing_of (faces_answer r) m l ≡ chunk_faces_call v cells i b m l
    chunk_turned e = chunk_by (begun d (list_rules 4096 v (length cells)) (chunk_rules v i) e)

    pub chunk_high : first (list_rules 4096 v (length cells)) ≡ 0 → refusal_number d ≡ first (chunk_rules v i) → meshing_of (faces_answer r) m l ≡ chunk_faces_call v cells i b m l
    unfolding numbered
    chunk_high z e = chunk_by (e ∙ sym (first_rest (list_rules 4096 v (length cells)) (chunk_rules v i) refl z))

-- ---- a part meshed is what the call gives

abbrev pub scene_of : View → Beyond → Scene
scene_of w b = record { stand = w; beyond = b }

module _ (v : Volume) (cells m : List ℕ) (l : List ℤ) (b : Beyond) (w : View) (ev : w.header.volume ≡ v) (ec : w.cells.now ≡ cells) {a : Meshing} (p : Part) (at : p.scene ≡ scene_of w b)
    (e : a ≡ part_call [] (shape_in p.scene) p.scene.stand.cells.now (open_in p.scene) (part_of p) m l) (z : first (list_rules 4096 v (length cells)) ≡ 0) where
  part_is : (f : Shape → Region) → part_of p ≡ f (shape_in (scene_of w b)) → a ≡ part_call [] (shape_of v) cells (empty_beyond b) (f (shape_of v)) m l
  part_is f r =
      e ∙ (λ i. part_call [] (shape_in (at i)) (at i).stand.cells.now (open_in (at i)) (r i) m l)
      ∙ (λ i. part_call [] (shape_of (ev i)) (ec i) (empty_beyond b) (f (shape_of (ev i))) m l)

  pub faces_meshed : part_of p ≡ whole_part (shape_in (scene_of w b)) → a ≡ faces_call v cells (empty_beyond b) m l
  unfolding faces_call numbered
  faces_meshed r = part_is whole_part r ∙ part-passed (shape_of v) cells (empty_beyond b) (whole_part (shape_of v)) m l (list_rules 4096 v (length cells)) refl z

  pub chunk_meshed : (i : ℕ) → part_of p ≡ section_part (shape_in (scene_of w b)) i → first (chunk_rules v i) ≡ 0
      → a ≡ chunk_faces_call v cells i (empty_beyond b) m l
  unfolding chunk_faces_call numbered
  chunk_meshed i r q =
      part_is (λ g. section_part g i) r
      ∙ part-passed (shape_of v) cells (empty_beyond b) (section_part (shape_of v) i) m l (list_rules 4096 v (length cells) ++ chunk_rules v i) refl
      (first_rest (list_rules 4096 v (length cells)) _ refl z ∙ q)
