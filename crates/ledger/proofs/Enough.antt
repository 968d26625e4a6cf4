-- What is enough for opening and refresh of the sheet to be accepted: a card that prices every finish, and a mask of 256 slots.
use mathlib.Core.Path.{◌≡◌, refl, sym, ap, ◌∙◌}
use mathlib.Core.Bool.{Bool, true, false, cond, not, ◌&&◌, ◌||◌}
use mathlib.Core.List.{List}
use mathlib.Core.Option.{Option, none}
use Prim.Native.Nat.{ℕ, zero, suc, ◌-◌, ◌*◌, ◌≤◌, min}
use native.Mathlib.Nat.{mul-le-mul}
use native.Mathlib.Omega.{arith}
use borrow.Author.Tests.{eq-eqb, le-ltb}
use lib.Dec.{eqb, ltb}
use lib.ListN.{length}
use Rattle.stand.specs.Edit.{look}
use Rattle.stand.specs.Refusal.{first}
use Rattle.stand.specs.Shape.{Shape, corner, counted, inside, sections, shape_of, well_formed}
use Rattle.stand.specs.Storage.{shape}
use Rattle.stand.specs.declared.Cell.{Cell}
use Rattle.stand.specs.declared.volume.Volume.{Volume}
use Rattle.stand.specs.declared.volume.shape.Point.{Point}
use Rattle.stand.proofs.Edit.{fitting-lengths}
use Rattle.mesh.specs.Part.{largest_side, section_part, slot_shown}
use Rattle.mesh.specs.Visible.{ahead, clears, shown}
use Rattle.mesh.proofs.Upto.{all-is}
use Rattle.sheet.specs.Calls as S
use Rattle.sheet.specs.Calls.{all_priced, every, measure_refusal, measuring, open_fits, refresh_fits, want_of}
use Rattle.sheet.specs.Card.{Terms, limit, payable}
use Rattle.sheet.specs.Due.{todo}
use Rattle.sheet.specs.Row.{priced, slice_priced}
use Rattle.sheet.specs.declared.Marks.{Marks}
use Rattle.ledger.specs.Book.{Book}
use Rattle.ledger.specs.Calls.{Four, Op, accepted, call, given, is_done, or_else, own, result, sheeted}
use Rattle.ledger.proofs.Tells.{Tells}

-- ---- the mask

side-few : (g : Shape) (i : ℕ) → largest_side (section_part g i) ≤ 256
unfolding largest_side section_part
side-few g i =
    let e : Point = corner (counted g) i in
    let x : min 16 (g.size.x - e.x) ≤ 16 = omega arith in
    let y : min 16 (g.size.y - e.y) ≤ 16 = omega arith in
    let z : min 16 (g.size.z - e.z) ≤ 16 = omega arith in
    omega (arith, mul-le-mul x y, mul-le-mul x z, mul-le-mul y z)

want_few : (g : Shape) (p : ℕ → Bool) (n : ℕ) → want_of g p n ≤ 256
unfolding want_of
want_few g p zero = omega arith
want_few g p (suc n) = let a = one (p n) in omega (arith, want_few g p n)
  where
    one : (x : Bool) → cond x (largest_side (section_part g n)) 0 ≤ 256
    one true = side-few g n
    one false = omega arith

-- ---- the card

-- it has a rate within the limit for each finish of the book
abbrev pub Paid : Terms → Shape → (Cell → ℕ) → Type 0
Paid t g f = (c : Cell) → inside g c ≡ true → payable t.rates (f c) ≡ true

module _ (t : Terms) (g : Shape) (f : Cell → ℕ) (h : Paid t g f) where
  shown-payable : (s : ℕ) (c : Cell) → payable t.rates (shown t.beyond g f s c) ≡ true
  unfolding shown payable
  shown-payable s c = go (inside g c) refl (clears t.beyond g f (ahead s c))
    where
      go : (x : Bool) → inside g c ≡ x → (y : Bool) → payable t.rates (cond (x && y) (f c) 0) ≡ true
      go true e true = h c e
      go true e false = refl
      go false e y = refl

  all-priced : (p : ℕ → Bool) (n : ℕ) → all_priced t.rates t.beyond g f p n ≡ true
  unfolding all_priced priced slice_priced slot_shown
  all-priced p n = all-is _ n (λ i l. either (p i) _ (all-is _ 6 (λ s ls. all-is _ _ (λ k lk. all-is _ _ (λ q lq. shown-payable s _)))))
    where
      either : (a b : Bool) → b ≡ true → (not a || b) ≡ true
      either true b e = e
      either false b e = refl

-- ---- so nothing refuses the call

pub record Enough (t : Terms) (b : Book) (m : List ℕ) : Type 0 where
  pub mask : 256 ≤ length m
  pub cut : t.cut ≤ limit
  pub paid : Paid t b.shape b.look

none_applies : (t : Terms) (v : Volume) (f : Cell → ℕ) (p : ℕ → Bool) (fits late : Bool) (mask : ℕ)
    → well_formed v ≡ true → fits ≡ true → late ≡ false → 256 ≤ mask → t.cut ≤ limit → Paid t (shape_of v) f
    → measure_refusal t v f p fits late mask ≡ 0
unfolding measure_refusal first
none_applies t v f p fits late mask a b c d e h =
    let n = want_of (shape_of v) p (sections (shape_of v)) in
    let w : ltb mask n ≡ false = le-ltb mask n (omega (arith, want_few (shape_of v) p (sections (shape_of v)))) in
    rw (a, b, c, w, le-ltb limit t.cut e, all-priced t (shape_of v) f h p (sections (shape_of v)))

done_at : (n : ℕ) (t : Terms) (v : Volume) (f : Cell → ℕ) (p : ℕ → Bool) (k : Marks) (m l : List ℕ) → n ≡ 0 → is_done (measuring n t v f p k m l).verdict ≡ true
unfolding measuring
done_at n t v f p k m l e = ap (λ (n : ℕ). is_done (measuring n t v f p k m l).verdict) e

module _ (s : Four) (b : Book) (k : Tells s.state b) (t : Terms) (m : List ℕ) (h : Enough t b m) where
  paid_too : Paid t (shape s.state) (look (shape s.state) s.state.cells)
  paid_too c i =
      let e : inside b.shape c ≡ true = ap (λ (g : Shape). inside g c) (sym k.shape_is) ∙ i in
      ap (payable t.rates) (k.cells_are c e) ∙ h.paid c e

  sheet-fits : (l : List ℕ) → length l ≡ sections b.shape * 3 → eqb (length l) (sections (shape s.state) * 3) ≡ true
  sheet-fits l len = eq-eqb _ _ (len ∙ ap (λ (g : Shape). sections g * 3) (sym k.shape_is))

  fits_open : (l : List ℕ) → length l ≡ sections b.shape * 3 → open_fits (sections (shape s.state)) (length s.state.cells) (length l) ≡ true
  unfolding open_fits
  fits_open l len = rw (eq-eqb _ _ (fitting-lengths s.state k.fits).cells) (sheet-fits l len)

  fits-refresh : length s.sheet ≡ sections b.shape * 3
      → refresh_fits (sections (shape s.state)) (length s.state.cells) (length s.state.log) (length s.state.last) (length s.sheet) ≡ true
  unfolding refresh_fits
  fits-refresh len =
      let l = fitting-lengths s.state k.fits in
      rw (eq-eqb _ _ l.cells, eq-eqb _ _ l.log, eq-eqb _ _ l.last) (sheet-fits s.sheet len)

  pub open_accepted : (l : Option (List ℕ)) → length (or_else l s.sheet) ≡ sections b.shape * 3 → accepted s (call none l (Op.open_sheet t m)) ≡ true
  unfolding accepted given result sheeted S.open_call
  open_accepted l len =
      done_at _ t s.state.volume (look (shape s.state) s.state.cells) every s.marks m (or_else l s.sheet)
      (none_applies t s.state.volume (look (shape s.state) s.state.cells) every _ false (length m) k.formed
      (fits_open (or_else l s.sheet) len) refl h.mask h.cut paid_too)

  pub refresh-accepted : length s.sheet ≡ sections b.shape * 3 → s.marks.sheet ≤ b.count → accepted s (own (Op.refresh t m)) ≡ true
  unfolding accepted given result sheeted S.refresh_call
  refresh-accepted len le =
      let p : ℕ → Bool = todo (shape s.state) s.state.log s.state.last s.marks.sheet s.state.volume.generation in
      done_at _ t s.state.volume (look (shape s.state) s.state.cells) p s.marks m s.sheet
      (none_applies t s.state.volume (look (shape s.state) s.state.cells) p _ _ (length m) k.formed (fits-refresh len)
      (le-ltb s.state.volume.generation s.marks.sheet (omega (arith, k.count-is))) h.mask h.cut paid_too)
