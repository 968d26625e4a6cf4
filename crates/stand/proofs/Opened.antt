-- What 3 lets pass is what opening gives, and the digest takes of it what its shape has.
use Rattle.std.proofs.Common.{◌≡◌, ℕ, ◌≤◌, true, ℤ, pos, negsuc, sym, refl, ap, ◌∙◌, arith}
use Rattle.arith.specs.Level.{count_of}
use Rattle.stand.specs.Hash.{shape_words}
use Rattle.stand.specs.Opening.{header_call, last_inside, opened_shape, shape_rules, sizes_of}
use Rattle.stand.specs.Refusal.{answer, first, gives}
use Rattle.stand.specs.Shape.{Shape, counts_of, point_of, shape_of, well_formed}
use Rattle.stand.specs.Storage.{extent_of, volume_of}
use Rattle.stand.specs.declared.volume.Extent.{Extent}
use Rattle.stand.specs.declared.volume.Volume.{Volume}
use Rattle.stand.proofs.Refusal.{accepted}
use Rattle.stand.proofs.Shape.{Axis, Good, chunks-some, formed-counts, formed-opens, goods, sections-few}
use Rattle.stand.proofs.Opening.{given-formed, rules_none, size-high}

-- a header at the start
abbrev pub anew : Volume → Volume
anew v = record { origin = v.origin; chunks = v.chunks; size = v.size; generation = 0; solid = 0 }

count_pos : (z : ℤ) → 1 ≤ count_of z → pos (count_of z) ≡ z
count_pos (pos n) h = refl
count_pos (negsuc n) h = absurd (omega arith)

extent-back : (e : Extent) → 1 ≤ count_of e.x → 1 ≤ count_of e.y → 1 ≤ count_of e.z → extent_of (counts_of e) ≡ e
extent-back e hx hy hz = λ i. record { x = count_pos e.x hx i; y = count_pos e.y hy i; z = count_pos e.z hz i }

module _ (v : Volume) (ok : well_formed v ≡ true) where
  parts : Good v.origin (counts_of v.size) (counts_of v.chunks)
  unfolding well_formed
  parts = goods _ _ _ ok

  same_shape : opened_shape v.origin v.size ≡ shape_of v
  unfolding opened_shape sizes_of shape_of
  same_shape =
      let g = parts in
      λ i. record {
        origin = v.origin;
        size = point_of (sym (size-high v.size.x refl g.x.some) i) (sym (size-high v.size.y refl g.y.some) i) (sym (size-high v.size.z refl g.z.some) i);
      }

  passes_both : first (shape_rules (shape_of v)) ≡ 0
  unfolding last_inside shape_of
  passes_both =
      let g = parts in
      rules_none (shape_of v) (sections-few (shape_of v) (formed-opens v ok)) (rw (g.x.last, g.y.last, g.z.last))

  pub same-volume : volume_of (shape_of v) 0 0 ≡ anew v
  unfolding volume_of shape_of
  same-volume =
      let g = parts in
      let k = ap extent_of (sym (formed-counts v ok)) ∙ extent-back v.chunks (some g.x) (some g.y) (some g.z) in
      let n = extent-back v.size g.x.some g.y.some g.z.some in
      λ i. record { origin = v.origin; chunks = k i; size = n i; generation = 0; solid = 0 }
    where
      some : {o : ℤ} {n k : ℕ} → Axis o n k → 1 ≤ k
      some {n = n} a = rw a.count (chunks-some n a.some)

  pub formed-opened : header_call v.origin v.size ≡ gives (anew v)
  unfolding header_call
  formed-opened =
      ap (λ (g : Shape). answer (first (shape_rules g)) (volume_of g 0 0)) same_shape
      ∙ sym (accepted (volume_of (shape_of v) 0 0) passes_both)
      ∙ ap gives same-volume

pub opened-formed : (v : Volume) → header_call v.origin v.size ≡ gives (anew v) → well_formed v ≡ true
unfolding well_formed
opened-formed v e = given-formed v.origin v.size {v = anew v} (sym e)

-- the digest takes of a header that 3 lets pass what its shape has
pub shape_words_lem : (v : Volume) → well_formed v ≡ true → shape_words v ≡ shape_words (volume_of (shape_of v) 0 0)
unfolding shape_words
shape_words_lem v ok = sym (ap shape_words (same-volume v ok) ∙ anew_words)
  where
    anew_words : shape_words (anew v) ≡ shape_words v
    anew_words = refl
