-- What a sheet shows since its opening: the rows of sections away from all changes since the mark are those of the book.
use mathlib.Core.Path.{◌≡◌, sym, ap, ◌∙◌, subst}
use mathlib.Core.Bool.{true}
use mathlib.Core.List.{List, [], ◌∷◌}
use Prim.Native.Nat.{ℕ, zero, suc, ◌*◌, ◌≤◌, ◌<◌}
use native.Mathlib.Omega.{arith}
use lib.ListN.{length}
use Rattle.stand.specs.Shape.{Ranged, Shape, chunk_of, counted, opens, sections}
use Rattle.stand.specs.Storage.{Lengths}
use Rattle.stand.specs.declared.Cell.{Cell}
use Rattle.mesh.specs.Near.{near}
use Rattle.mesh.proofs.Locality.{Agree}
use Rattle.sheet.specs.Card.{Terms}
use Rattle.sheet.specs.Row.{measured}
use Rattle.sheet.specs.Rows.{row_at, sane}
use Rattle.sheet.proofs.Steps.{near_sym}
use Rattle.ledger.specs.Book.{Book, Changed, set_all, set_book, unless, write_fill, write_set}
use Rattle.ledger.proofs.Books.{all_changed, all-count_more, all-look, all-shape-kept}
use Rattle.ledger.proofs.Nearby.{measured_local}

-- neither section i nor one that shares a face with it has changed since the mark
abbrev pub Clean : Book → ℕ → ℕ → Type 0
Clean b mark i = (d : ℕ) → near (counted b.shape) d i ≡ true → Changed b mark d → ⊥

-- row i of the sheet is that of the section measured anew, and totals takes it
pub record Shown (t : Terms) (sheet : List ℕ) (b : Book) (i : ℕ) : Type 0 where
  pub row : row_at sheet i ≡ measured t b.shape b.look i
  pub sane-is : sane (row_at sheet i) ≡ true

pub record Shows (t : Terms) (mark : ℕ) (sheet : List ℕ) (b : Book) : Type 0 where
  pub opened : opens b.shape ≡ true
  pub ranged : Ranged b.shape.origin
  pub mark_le : mark ≤ b.count
  pub length-is : length sheet ≡ sections b.shape * 3
  pub right : (i : ℕ) → i < sections b.shape → Clean b mark i → Shown t sheet b i

-- ---- changes in the book

module _ {t : Terms} {mark : ℕ} {sheet : List ℕ} (b : Book) (cs : List Cell) (v : ℕ) (s : Shows t mark sheet b) where
  abbrev new : Book
  new = set_all b cs v

  same_shape : new.shape ≡ b.shape
  same_shape = all-shape-kept cs b v

  -- a row away from all changes is that of the new look
  module _ (i : ℕ) (clean : Clean new mark i) where
    near-clean : (d : ℕ) → near (counted b.shape) d i ≡ true → Changed new mark d → ⊥
    near-clean d n = clean d (ap (λ (g : Shape). near (counted g) d i) same_shape ∙ n)

    look-same : Agree b.shape i b.look new.look
    look-same c _ n =
        sym (all-look cs b v mark s.mark_le c (near-clean (chunk_of b.shape c) (near_sym (counted b.shape) (chunk_of b.shape c) i ∙ n)))

    row_same : measured t b.shape b.look i ≡ measured t new.shape new.look i
    row_same =
        measured_local t b.shape b.look new.look s.opened s.ranged i look-same
        ∙ ap (λ (g : Shape). measured t g new.look i) (sym same_shape)

    shown_still : i < sections new.shape → Shown t sheet new i
    shown_still h =
        let q = s.right i (rw (sym same_shape) h) (λ d n r. near-clean d n (all_changed cs b v mark d r)) in
        record { row = q.row ∙ row_same; sane-is = q.sane-is }

  pub shows_all : Shows t mark sheet new
  shows_all =
      record {
        opened = ap opens same_shape ∙ s.opened;
        ranged = subst (λ (g : Shape). Ranged g.origin) (sym same_shape) s.ranged;
        mark_le = omega (arith, s.mark_le, all-count_more cs b v);
        length-is = s.length-is ∙ ap (λ (g : Shape). sections g * 3) (sym same_shape);
        right = λ i h clean. shown_still i clean h;
      }

-- ---- the calls that change the book, accepted or not

pub unless_so : (P : Book → Type 0) (n : ℕ) (b c : Book) → P b → P c → P (unless n b c)
unfolding unless
unless_so P zero b c p q = q
unless_so P (suc n) b c p q = p

module _ {t : Terms} {mark : ℕ} {sheet : List ℕ} (b : Book) (l : Lengths) (c : Cell) (v : ℕ) (s : Shows t mark sheet b) where
  pub shows_write_set : Shows t mark sheet (write_set b l c v)
  unfolding write_set set_all
  shows_write_set = unless_so (Shows t mark sheet) _ b (set_book b c v) s (shows_all b (c ∷ []) v s)

  pub shows_write_fill : (d : Cell) → Shows t mark sheet (write_fill b l c d v)
  unfolding write_fill
  shows_write_fill d = unless_so (Shows t mark sheet) _ b _ s (shows_all b _ v s)
