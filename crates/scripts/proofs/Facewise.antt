-- What 12 asks of the sections' slots is what it asks of each visible face.
use mathlib.Core.Path.{◌≡◌, refl, sym, ap, ◌∙◌, subst}
use mathlib.Core.Bool.{true}
use mathlib.Core.List.{List, [], ◌∷◌}
use mathlib.Core.Option.{Option, none, some}
use Prim.Native.Nat.{ℕ, zero, suc, ◌+◌, ◌*◌, ◌/◌, ◌%◌, ◌<◌}
use native.Mathlib.Nat.{add-zero, div-eq_of_lt, mod-eq_of_lt, mul-add-div_right, mul-add-mod_self_right}
use native.Mathlib.Omega.{arith}
use Rattle.stand.specs.Opening.{opened_shape}
use Rattle.stand.specs.Shape.{Shape, chunk_of, opens, sections}
use Rattle.stand.specs.declared.Cell.{Cell}
use Rattle.stand.specs.declared.volume.Extent.{Extent}
use Rattle.stand.proofs.Opening.{opened-opens}
use Rattle.stand.proofs.Shape.{chunk-lt}
use Rattle.mesh.specs.Part.{cell_in, height_of, section_part, slot_shown, width_of}
use Rattle.mesh.specs.Visible.{shown}
use Rattle.mesh.proofs.Laid.{inner}
use Rattle.mesh.proofs.Panels.{InSlice, part_slice, slice-part}
use Rattle.mesh.proofs.Sections.{chunk_part, part-inside}
use Rattle.mesh.proofs.Upto.{all-is, all_pass, row_fits}
use Rattle.sheet.specs.Card.{Terms, payable}
use Rattle.sheet.specs.Row.{priced, slice_priced}
use Rattle.sheet.proofs.Pricing.{slot-payable}
use Rattle.ledger.specs.Book.{Book, open_book}
use Rattle.interpreter.specs.declared.Call.{Call}
use Rattle.interpreter.specs.declared.Call.TheVariants as K
use Rattle.scripts.specs.Page.{Page, blank, fill_on, on_book, open_number, opened, page_of, set_on, write}
use Rattle.scripts.specs.Said.{all_rated}
use Rattle.scripts.specs.Says.{EachRated}
use Rattle.scripts.proofs.Edits.{fill-shape, set-shape}
use Rattle.scripts.proofs.Openings.{number_passed}

-- ---- a page's stand is one that opening gives

unfoldable Opens : Option Book → Type 0
Opens none = Unit {0}
Opens (some b) = opens b.shape ≡ true

edit_opens : (f : Book → Book) → ((b : Book) → (f b).shape ≡ b.shape) → (b : Option Book) → Opens b → Opens (on_book f b)
unfolding Opens on_book
edit_opens f s none h = h
edit_opens f s (some b) h = ap opens (s b) ∙ h

open_opens : (o : Cell) (size : Extent) (b : Option Book) → Opens b → Opens (opened (open_number (opened_shape o size)) b (opened_shape o size))
unfolding Opens opened open_book
open_opens o size b h = go (open_number (opened_shape o size)) refl
  where
    go : (j : ℕ) → open_number (opened_shape o size) ≡ j → Opens (opened j b (opened_shape o size))
    go zero e = opened-opens o size (number_passed o size e).0
    go (suc j) e = h

write-opens : (p : Page) (c : Call) → Opens p.book → Opens (write p c).book
unfolding write
write-opens p (K.Open o size) h = open_opens o size p.book h
write-opens p (K.Set c v) h = edit_opens (set_on c v) (λ b. set-shape b c v) p.book h
write-opens p (K.Fill c d v) h = edit_opens (fill_on c d v) (λ b. fill-shape b c d v) p.book h
write-opens p K.Refresh h = h
write-opens p (K.Rate f r) h = h
write-opens p (K.Cut c) h = h

all-opens : (p : Page) (cs : List Call) → Opens p.book → Opens (page_of p cs).book
unfolding page_of
all-opens p [] h = h
all-opens p (c ∷ cs) h = all-opens (write p c) cs (write-opens p c h)

pub page_opens : (cs : List Call) (b : Book) → (page_of blank cs).book ≡ some b → opens b.shape ≡ true
unfolding Opens blank
page_opens cs b e = subst Opens e (all-opens blank cs tt)

-- ---- slots and faces

module _ (t : Terms) (b : Book) where
  abbrev g : Shape
  g = b.shape

  abbrev show : ℕ → Cell → ℕ
  show s c = shown t.beyond g b.look s c

  pub each-rated : EachRated t b → all_rated t b ≡ true
  unfolding all_rated priced slice_priced slot_shown
  each-rated h =
      all-is _ _ (λ i li. all-is _ _ (λ s ls. all-is _ _ (λ k lk. all-is _ _ (λ q lq.
      let r = section_part g i in
      let n = inner (width_of r s) (height_of r s) q lq in
      let c = cell_in g r s k (q % width_of r s) (q / width_of r s) in
      let a : InSlice g r s c = record { k = k; u = q % width_of r s; v = q / width_of r s; deep = lk; wide = n.0; high = n.1; cell = refl } in
      h s c ls (part-inside g i c (slice-part g r s ls c a))))))

  pub rated-each : opens g ≡ true → all_rated t b ≡ true → EachRated t b
  unfolding all_rated slot_shown
  rated-each o e s c ls h =
      let i = chunk_of g c in
      let li = chunk-lt g c o h in
      let r = section_part g i in
      let w = width_of r s in
      let a = part_slice g r s ls c (chunk_part g c o h) in
      let q = a.v * w + a.u in
      let some : 0 < w = omega (arith, a.wide) in
      let lq : q < height_of r s * w = omega (arith, a.wide, row_fits w (height_of r s) a.v a.high) in
      let eu : q % w ≡ a.u = mul-add-mod_self_right a.v w a.u ∙ mod-eq_of_lt a.wide in
      let ev : q / w ≡ a.v = mul-add-div_right some a.v a.u ∙ rw (div-eq_of_lt a.wide, add-zero) in
      (λ j. payable t.rates (show s (a.cell j)))
      ∙ (λ j. payable t.rates (show s (cell_in g r s a.k (sym eu j) (sym ev j))))
      ∙ slot-payable t.rates t.beyond g b.look i li (all_pass (priced t.rates t.beyond g b.look) (sections g) i e li) s a.k q ls a.deep lq
