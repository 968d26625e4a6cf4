-- A section's row depends on its own cells and on those of sections that share a face with it.
use mathlib.Core.Path.{◌≡◌, ap}
use mathlib.Core.Bool.{true}
use Prim.Native.Nat.{ℕ}
use Rattle.stand.specs.Shape.{Ranged, Shape, inside, opens}
use Rattle.stand.specs.declared.Cell.{Cell}
use Rattle.mesh.specs.Part.{section_part}
use Rattle.mesh.proofs.Locality.{Agree, local, looks_same}
use Rattle.sheet.specs.Card.{Terms}
use Rattle.sheet.specs.Row.{measured, row_of}

module _ (t : Terms) (g : Shape) (f h : Cell → ℕ) where
  pub measured-same : (i : ℕ) → ((c : Cell) → inside g c ≡ true → f c ≡ h c) → measured t g f i ≡ measured t g h i
  unfolding measured
  measured-same i e = ap (row_of t.rates t.cut) (looks_same t.beyond g f h (section_part g i) e)

  pub measured_local : opens g ≡ true → Ranged g.origin → (i : ℕ) → Agree g i f h → measured t g f i ≡ measured t g h i
  unfolding measured
  measured_local o r i e = ap (row_of t.rates t.cut) (local t.beyond g f h o r i e)
