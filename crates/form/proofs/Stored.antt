-- A stand's form, read: its head, its entries and what refuses it.
use mathlib.Core.Path.{◌≡◌, refl, ap, ◌∙◌}
use mathlib.Core.Bool.{true}
use mathlib.Core.List.{List}
use Prim.Native.Nat.{ℕ, ◌*◌, ◌<◌, ◌≤◌}
use native.Mathlib.Nat.{le-mul_of_pos_right, mul_comm, one-le-mul}
use native.Mathlib.Omega.{arith}
use borrow.Author.Tests.{eq-eqb, le-leb}
use lib.ListN.{length}
use Rattle.arith.specs.Bytes.{byte_at}
use Rattle.stand.specs.Opening.{last_inside}
use Rattle.stand.specs.Shape.{Sized, Ranged, Shape, chunks_in, chunks_on, counted, max_chunks, opens, product, sections, shape_of}
use Rattle.stand.specs.Storage.{Lengths, storage_fits}
use Rattle.stand.specs.declared.volume.Volume.{Volume}
use Rattle.stand.proofs.Shape.{chunks-some, formed-opens, goods, sections-few}
use Rattle.form.specs.Calls.{load_refusal, stored_form}
use Rattle.form.specs.Entries.{Entry, entries_of}
use Rattle.form.specs.Form.{count_in, entries_in, form_of, has_head, head_bytes, head_shape, valid}
use Rattle.form.specs.Inner.{Each}
use Rattle.form.specs.Keeping.{Storable}
use Rattle.form.proofs.Loads.{Loads, loads_pass}
use Rattle.form.proofs.Reading.{Small, count-form, form-length, head_back}
use Rattle.form.proofs.OwnEntries.{small_of, stored_entries, stored-valid}

-- ---- sizes of a stand: i32 holds them, since its sections are few

few-each : (a b d : ℕ) → 1 ≤ a → 1 ≤ b → 1 ≤ d → a * b * d ≤ max_chunks → (a ≤ max_chunks) × (b ≤ max_chunks) × (d ≤ max_chunks)
few-each a b d ha hb hd h =
    let x : a ≤ a * b = le-mul_of_pos_right a hb in
    let y : b ≤ b * a = le-mul_of_pos_right b ha in
    let p : a * b ≤ a * b * d = le-mul_of_pos_right (a * b) hd in
    let q : d ≤ d * (a * b) = le-mul_of_pos_right d (one-le-mul ha hb) in
    let e : b * a ≡ a * b = mul_comm b a in
    let f : d * (a * b) ≡ a * b * d = mul_comm d (a * b) in
    (omega arith, omega arith, omega arith)

size_few : (n : ℕ) → chunks_on n ≤ max_chunks → n < 2147483648
unfolding chunks_on
size_few n h = omega arith

pub open_sizes : (g : Shape) → opens g ≡ true → Sized g.size
unfolding opens sections product counted chunks_in
open_sizes g o =
    let q = goods g.origin g.size (counted g) o in
    let k = few-each (chunks_on g.size.x) (chunks_on g.size.y) (chunks_on g.size.z) (chunks-some g.size.x q.x.some) (chunks-some g.size.y q.y.some) (chunks-some g.size.z q.z.some) q.few in
    record {
      low_x = q.x.some;
      low-y = q.y.some;
      low-z = q.z.some;
      x = size_few g.size.x k.0;
      y = size_few g.size.y k.1;
      z = size_few g.size.z k.2;
    }

open_last : (g : Shape) → opens g ≡ true → last_inside g.origin g.size ≡ true
unfolding opens last_inside
open_last g o = let q = goods g.origin g.size (counted g) o in rw (q.x.last, q.y.last, q.z.last)

-- ---- the head of a form

module _ (g : Shape) (es : List Entry) (r : Ranged g.origin) (s : Sized g.size) where
  form-shape : head_shape (form_of g es) ≡ g
  unfolding form_of
  form-shape = head_back g _ r s

  form_kind : byte_at (form_of g es) 0 ≡ 1
  unfolding form_of head_bytes
  form_kind = refl

  form_head : has_head (form_of g es) ≡ true
  unfolding has_head
  form_head =
      rw (form-shape, le-leb 25 (length (form_of g es)) (omega (arith, form-length g es)), eq-eqb (byte_at (form_of g es) 0) 1 form_kind)
      (rw (le-leb 1 g.size.x s.low_x, le-leb 1 g.size.y s.low-y, le-leb 1 g.size.z s.low-z))

-- ---- a stand's form

module _ (v : Volume) (cells : List ℕ) (k : Storable v cells) where
  pub storable_opens : opens (shape_of v) ≡ true
  storable_opens = formed-opens v k.formed

  pub storable_sizes : Sized (shape_of v).size
  storable_sizes = open_sizes (shape_of v) storable_opens

  pub storable_ranged : Ranged (shape_of v).origin
  unfolding shape_of
  storable_ranged = k.ranged

  pub storable_small : Each Small (entries_of (shape_of v) cells)
  storable_small = small_of (shape_of v) cells storable_opens k.finishes

  pub stored-shape : head_shape (stored_form v cells) ≡ shape_of v
  unfolding stored_form
  stored-shape = form-shape (shape_of v) (entries_of (shape_of v) cells) storable_ranged storable_sizes

  pub stored-count : count_in (stored_form v cells) ≡ length (entries_of (shape_of v) cells)
  unfolding stored_form
  stored-count = count-form (shape_of v) (entries_of (shape_of v) cells)

  pub stored-list : entries_in (stored_form v cells) ≡ entries_of (shape_of v) cells
  unfolding stored_form
  stored-list = stored_entries (shape_of v) cells storable_opens k.finishes

  module _ (l : Lengths) (h : storage_fits (sections (shape_of v)) l ≡ true) where
    pub stored_loads : Loads (stored_form v cells) l
    unfolding stored_form
    stored_loads =
        let f = stored_form v cells in
        record {
          head = form_head (shape_of v) (entries_of (shape_of v) cells) storable_ranged storable_sizes;
          few = omega (arith, ap sections stored-shape, sections-few (shape_of v) storable_opens);
          last = ap (λ (g : Shape). last_inside g.origin g.size) stored-shape ∙ open_last (shape_of v) storable_opens;
          fits = ap (λ (g : Shape). storage_fits (sections g) l) stored-shape ∙ h;
          ok = ap (λ (g : Shape). valid g f) stored-shape ∙ stored-valid (shape_of v) cells storable_opens k.finishes;
        }

    pub stored_passes : load_refusal (stored_form v cells) l ≡ 0
    stored_passes = loads_pass (stored_form v cells) l stored_loads
