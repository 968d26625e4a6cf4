-- Laws of opening: sizes, the header that it gives, and what the whole call comes to.
use Rattle.std.proofs.Common.{◌≡◌, ℕ, zero, suc, ◌+◌, ◌*◌, ◌<◌, ◌≤◌, Bool, true, false, not, ◌&&◌, leb, Result, [], ◌∷◌, ℤ, sym, refl, ap, ◌∙◌, arith, ltb-false, le-ltb, lt-ltb, eq-eqb, le-leb, leb-false, leb-true}
use borrow.Author.Tests.{not-false}
use lib.ListN.{length-replicate}
use Rattle.std.specs.Result.{IsErrAnd}
use Rattle.arith.specs.Level.{count_of}
use Rattle.stand.specs.Answer.{answer_of, refusal_number}
use Rattle.stand.specs.Opening.{header_call, last_inside, open_call, opened, opened_shape, opening_of, open_refusal, shape_rules, size_on, sizes_of, too_many}
use Rattle.stand.specs.Refusal.{◌⇒◌, answer, first, gives, refused}
use Rattle.stand.specs.Shape.{Ranged, Shape, axis_good, chunks_in, chunks_on, counted, good, last_fits, levels_of, max_chunks, opens, product, sections, shape_of, well_formed}
use Rattle.stand.specs.Storage.{Storage, extent_of, fresh_storage, lengths_of, storage_fits, storage_rules, volume_of, zeros}
use Rattle.stand.specs.declared.Cell.{Cell}
use Rattle.stand.specs.declared.volume.Extent.{Extent}
use Rattle.stand.specs.declared.volume.Volume.{Volume}
use Rattle.stand.specs.declared.volume.refusal.Refusal.{Refusal}
use Rattle.stand.specs.declared.volume.shape.Point.{Point}
use Rattle.stand.proofs.Levels.{last_law}
use Rattle.stand.proofs.Refusal.{accepted, begun, exit_is, first_rest, given_by, numbered, passes, refused_by, some_number}
use Rattle.stand.proofs.Storage.{fits_all, zeros_fresh}
use Rattle.stand.proofs.Tests.{both}

-- ---- sizes

pub size-high : (s : ℤ) {n : ℕ} → n ≡ count_of s → 1 ≤ n → n ≡ size_on s
unfolding size_on
size-high s e h = rw (← e) (omega arith)

size-some : (s : ℤ) → 1 ≤ size_on s
unfolding size_on
size-some s = omega arith

-- ---- a header of a shape

pub volume-shape : (g : Shape) (generation solid : ℕ) → shape_of (volume_of g generation solid) ≡ g
unfolding shape_of volume_of
volume-shape g generation solid = refl

pub volume-formed : (g : Shape) (generation solid : ℕ) → opens g ≡ true → well_formed (volume_of g generation solid) ≡ true
unfolding opens well_formed volume_of
volume-formed g generation solid e = e

-- ---- fresh storage

pub fresh-fits : (n : ℕ) → storage_fits n (lengths_of (fresh_storage n)) ≡ true
unfolding fresh_storage
fresh-fits n =
    fits_all n _
    (record {
      cells = length-replicate (n * 4096) 0;
      hashes = length-replicate n 0;
      versions = length-replicate n 0;
      log = length-replicate n 0;
      last = length-replicate n 0;
    })

-- ---- the last cell, by levels

module _ {o : Cell} {l : Point} (n : Point) (f : Ranged o) (e : l ≡ levels_of o) where
  pub last_by_levels : last_inside o n ≡ (leb (l.x + n.x) 4294967296 && (leb (l.y + n.y) 4294967296 && leb (l.z + n.z) 4294967296))
  unfolding last_inside
  last_by_levels = rw (e, last_law o.x n.x f.x, last_law o.y n.y f.y, last_law o.z n.z f.z)

-- ---- refusals 1 and 2

pub rules_many : (g : Shape) → max_chunks < sections g → first (shape_rules g) ≡ 1
unfolding first too_many
rules_many g h = rw (lt-ltb max_chunks (sections g) h)

pub rules_last : (g : Shape) → sections g ≤ max_chunks → last_inside g.origin g.size ≡ false → first (shape_rules g) ≡ 2
unfolding first too_many
rules_last g h e = rw (le-ltb max_chunks (sections g) h, e)

pub rules_none : (g : Shape) → sections g ≤ max_chunks → last_inside g.origin g.size ≡ true → first (shape_rules g) ≡ 0
unfolding first too_many
rules_none g h e = rw (le-ltb max_chunks (sections g) h, e)

-- and back
passed : (m l : Bool) → first ((m ⇒ 1) ∷ (not l ⇒ 2) ∷ []) ≡ 0 → (m ≡ false) × (l ≡ true)
unfolding first
passed true l e = absurd (omega arith)
passed false true e = (refl, refl)
passed false false e = absurd (omega arith)

record Passed (g : Shape) : Type 0 where
  few : sections g ≤ max_chunks
  x : last_fits g.origin.x g.size.x ≡ true
  y : last_fits g.origin.y g.size.y ≡ true
  z : last_fits g.origin.z g.size.z ≡ true

rules_passed : (g : Shape) → first (shape_rules g) ≡ 0 → Passed g
unfolding too_many last_inside
rules_passed g e =
    let p = passed (too_many g) (last_inside g.origin g.size) e in
    let q = both _ _ p.1 in
    let r = both _ _ q.1 in
    record { few = ltb-false max_chunks (sections g) p.0; x = q.0; y = r.0; z = r.1 }

good_axis : (o : ℤ) (n : ℕ) → 1 ≤ n → last_fits o n ≡ true → axis_good o n (chunks_on n) ≡ true
unfolding axis_good
good_axis o n h e = rw (le-leb 1 n h, e, eq-eqb (chunks_on n) (chunks_on n) refl)

pub opened-opens : (o : Cell) (s : Extent) → first (shape_rules (opened_shape o s)) ≡ 0 → opens (opened_shape o s) ≡ true
unfolding opens good counted opened_shape sizes_of chunks_in sections
opened-opens o s e =
    let p = rules_passed (opened_shape o s) e in
    rw (good_axis o.x (size_on s.x) (size-some s.x) p.x, good_axis o.y (size_on s.y) (size-some s.y) p.y, good_axis o.z (size_on s.z) (size-some s.z) p.z, le-leb _ _ p.few)

-- ---- the header

module _ (o : Cell) (s : Extent) {n k : Point} (en : n ≡ sizes_of s) (ek : k ≡ chunks_in n) where
  all-sections : product k ≡ sections (opened_shape o s)
  unfolding sections counted opened_shape
  all-sections = ap product (ek ∙ ap chunks_in en)

  pub header_many : leb (product k) max_chunks ≡ false → refused 1 ≡ header_call o s
  unfolding header_call answer
  header_many h = rw (rules_many (opened_shape o s) (rw all-sections at (leb-false _ _ h)))

  module _ (few : leb (product k) max_chunks ≡ true) where
    pub header-last : last_inside o n ≡ false → refused 2 ≡ header_call o s
    unfolding header_call answer opened_shape
    header-last e = rw (rules_last (opened_shape o s) (rw all-sections at (leb-true _ _ few)) (ap (last_inside o) (sym en) ∙ e))

    pub header_is : {a b : Extent} → last_inside o n ≡ true → a ≡ extent_of k → b ≡ extent_of n
        → gives (record { origin = o; chunks = a; size = b; generation = 0; solid = 0 }) ≡ header_call o s
    unfolding header_call volume_of counted opened_shape
    header_is e ea eb =
        let p = ea ∙ ap extent_of (ek ∙ ap chunks_in en) in
        let q = eb ∙ ap extent_of en in
        (λ i. gives (record { origin = o; chunks = p i; size = q i; generation = 0; solid = 0 }))
        ∙ accepted _ (rules_none (opened_shape o s) (rw all-sections at (leb-true _ _ few)) (ap (last_inside o) (sym en) ∙ e))

-- ---- the whole call

opened_not : (m : ℕ) (s : Storage) (g : Shape) → (m ≡ 0 → ⊥) → opening_of (refused m) s ≡ opened m s g
unfolding opened
opened_not zero s g h = absurd (h refl)
opened_not (suc m) s g h = refl

-- an exit by `?` under the number that the whole call has
exit_open : (o : Cell) (size : Extent) (s : Storage) (e : Refusal) (x : Result Volume Refusal)
    → IsErrAnd x (λ f. f ≡ e) → refusal_number e ≡ open_refusal (opened_shape o size) (lengths_of s) → opening_of (answer_of x) s ≡ open_call s o size
unfolding open_call
exit_open o size s e x h q =
    ap (λ (y : Result Volume Refusal). opening_of (answer_of y) s) (exit_is e x h)
    ∙ opened_not _ s (opened_shape o size) (some_number e)
    ∙ ap (λ (m : ℕ). opened m s (opened_shape o size)) q

-- refused by the header
pub open_turned : (o : Cell) (size : Extent) (s : Storage) (e : Refusal) (x : Result Volume Refusal)
    → refused (refusal_number e) ≡ header_call o size → IsErrAnd x (λ f. f ≡ e) → opening_of (answer_of x) s ≡ open_call s o size
unfolding header_call open_refusal
open_turned o size s e x q h =
    let g = opened_shape o size in
    exit_open o size s e x h (begun e (shape_rules g) _ (refused_by (first (shape_rules g)) _ (volume_of g 0 0) q).1)

module _ (o : Cell) (size : Extent) {v : Volume} (e : gives v ≡ header_call o size) where
  is-given : (first (shape_rules (opened_shape o size)) ≡ 0) × (v ≡ volume_of (opened_shape o size) 0 0)
  unfolding header_call
  is-given = given_by _ _ v e

  pub given-formed : well_formed v ≡ true
  given-formed = rw is-given.1 (volume-formed (opened_shape o size) 0 0 (opened-opens o size is-given.0))

  given_shape : shape_of v ≡ opened_shape o size
  given_shape = ap shape_of is-given.1 ∙ volume-shape (opened_shape o size) 0 0

  module _ (s : Storage) where
    -- lengths alone decide, as they do where a header and storage are given
    decide : first (storage_rules v (lengths_of s)) ≡ open_refusal (opened_shape o size) (lengths_of s)
    unfolding first open_refusal numbered
    decide =
        rw given-formed
        (ap (λ (g : Shape). first ((not (storage_fits (sections g) (lengths_of s)) ⇒ 4) ∷ [])) given_shape
        ∙ sym (first_rest (shape_rules (opened_shape o size)) ((not (storage_fits (sections (opened_shape o size)) (lengths_of s)) ⇒ 4) ∷ []) refl is-given.0))

    -- refused by storage
    pub open_short : (d : Refusal) (x : Result Volume Refusal) → refusal_number d ≡ first (storage_rules v (lengths_of s)) → IsErrAnd x (λ f. f ≡ d)
        → opening_of (answer_of x) s ≡ open_call s o size
    open_short d x q h = exit_open o size s d x h (q ∙ decide)

    pub open_done : {t : Storage} → 0 ≡ first (storage_rules v (lengths_of s)) → t ≡ zeros (lengths_of s) → opening_of (gives v) t ≡ open_call s o size
    unfolding open_call opened
    open_done z h =
        let p = passes _ 2 _ (sym z) in
        let f = not-false _ (passes _ 3 _ p.1).0 in
        rw (← decide, ← z)
        (λ i. opening_of (gives (is-given.1 i)) ((h ∙ zeros_fresh _ (lengths_of s) f ∙ ap (λ (g : Shape). fresh_storage (sections g)) given_shape) i))
