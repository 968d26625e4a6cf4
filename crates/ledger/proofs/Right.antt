-- A sheet whose mark is the count: every row is right, totals gives the sums, and each visible face was counted once.
use mathlib.Core.Path.{◌≡◌, sym, ap, ◌∙◌}
use mathlib.Core.Bool.{true}
use Prim.Native.Nat.{ℕ, ◌*◌, ◌<◌}
use native.Mathlib.Omega.{arith}
use borrow.Author.Tests.{eq-eqb}
use lib.Dec.{eqb}
use lib.ListN.{length}
use Rattle.stand.specs.Refusal.{answer, first, gives}
use Rattle.stand.specs.Shape.{inside, opens, sections, shape_of}
use Rattle.stand.specs.Sides.{side_number}
use Rattle.stand.specs.declared.Cell.{Cell}
use Rattle.stand.specs.declared.Face.{Face}
use Rattle.mesh.specs.Cover.{covers, face_sum, faces_in, sum_to}
use Rattle.mesh.specs.Merge.{all}
use Rattle.mesh.specs.Part.{section_part}
use Rattle.mesh.specs.Visible.{shown}
use Rattle.mesh.specs.declared.Quad.{Quad}
use Rattle.mesh.proofs.Panels.{Faced, part-faces, part-sum}
use Rattle.mesh.proofs.Sections.{part-inside, sections-count}
use Rattle.mesh.proofs.Slices.{each_so, sum_same}
use Rattle.mesh.proofs.Upto.{all-is}
use Rattle.sheet.specs.Calls.{totals_call, totals_refusal}
use Rattle.sheet.specs.Card.{Terms}
use Rattle.sheet.specs.Row.{measured, row_of}
use Rattle.sheet.specs.Rows.{row_at, sane, sums}
use Rattle.sheet.specs.declared.Row.{Row}
use Rattle.ledger.specs.Book.{Book}
use Rattle.ledger.specs.Calls.{Four}
use Rattle.ledger.specs.Claim.{Once, Right, book_sums, panels_of}
use Rattle.ledger.proofs.Rows.{sums_same}
use Rattle.ledger.proofs.Shows.{Clean, Shown, Shows}
use Rattle.ledger.proofs.Tells.{Tells}

-- ---- each visible face lies in exactly one panel

abbrev Panelled : Terms → Book → Quad → Type 0
Panelled t b q = (f : Face) (c : Cell) → covers q f c ≡ true → (inside b.shape c ≡ true) × (shown t.beyond b.shape b.look (side_number f) c ≡ q.voxel.0)

pub face_once : (t : Terms) (b : Book) → opens b.shape ≡ true → Once t b
face_once t b o =
    record {
      one = λ side l c h. sections-count t.beyond b.shape b.look o side l c h;
      each = λ i l.
          each_so (λ q. (f : Face) (c : Cell) → covers q f c ≡ true → Faced t.beyond b.shape b.look (section_part b.shape i) q f c)
          (Panelled t b) (λ q p f c e. (part-inside b.shape i c (p f c e).part, (p f c e).held))
          (panels_of t b i) (part-faces t.beyond b.shape b.look (section_part b.shape i));
    }

pub faces-sum : (t : Terms) (b : Book)
    → (book_sums t b).faces ≡ sum_to (λ i. faces_in t.beyond b.shape b.look (section_part b.shape i)) (sections b.shape)
unfolding book_sums sums measured row_of
faces-sum t b =
    sum_same (λ i. face_sum (panels_of t b i)) (λ i. faces_in t.beyond b.shape b.look (section_part b.shape i)) (sections b.shape)
    (λ i l. part-sum t.beyond b.shape b.look (section_part b.shape i))

-- ---- the rows, and totals

module _ (t : Terms) (s : Four) (b : Book) (k : Tells s.state b) (h : Shows t s.marks.sheet s.sheet b) (m : s.marks.sheet ≡ b.count) where
  -- nothing has changed since the mark
  clean : (i : ℕ) → Clean b s.marks.sheet i
  clean i d n r = absurd (omega (arith, r.above, r.within))

  row : (i : ℕ) → i < sections b.shape → Shown t s.sheet b i
  row i l = h.right i l (clean i)

  sums_are : sums (row_at s.sheet) (sections b.shape) ≡ book_sums t b
  unfolding book_sums
  sums_are = sums_same (sections b.shape) (row_at s.sheet) (measured t b.shape b.look) (λ i l. (row i l).row)

  count-is : sections (shape_of s.state.volume) ≡ sections b.shape
  count-is = ap sections k.shape_is

  not_refused : totals_refusal s.state.volume s.sheet ≡ 0
  unfolding totals_refusal first
  not_refused =
      let a : eqb (length s.sheet) (sections (shape_of s.state.volume) * 3) ≡ true = eq-eqb _ _ (h.length-is ∙ ap (λ (n : ℕ). n * 3) (sym count-is)) in
      let c : all (λ i. sane (row_at s.sheet i)) (sections (shape_of s.state.volume)) ≡ true =
      all-is (λ i. sane (row_at s.sheet i)) (sections (shape_of s.state.volume)) (λ i l. (row i (rw (sym count-is) l)).sane-is) in
      rw (k.formed, a, c)

  totals_are : totals_call s.state.volume s.sheet ≡ gives (book_sums t b)
  unfolding totals_call answer
  totals_are =
      ap (λ (n : ℕ). answer n (sums (row_at s.sheet) (sections (shape_of s.state.volume)))) not_refused
      ∙ ap (λ (r : Row). gives r) (ap (sums (row_at s.sheet)) count-is ∙ sums_are)

  pub right : Right t s b
  right =
      record {
        mark_is = m;
        rows = λ i l. (row i l).row;
        sums_are = sums_are;
        totals_are = totals_are;
        faces_are = faces-sum t b;
        faces_once = face_once t b k.opened;
      }
