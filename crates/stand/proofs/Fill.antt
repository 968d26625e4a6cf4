-- Laws of fills: what setting cells one after another keeps, the code's loops and tests, and that a sound stand stays so and its finishes u16.
use Rattle.std.proofs.Common.{◌≡◌, ℕ, Option, Some, None, Fits, w64, subst, ◌+◌, ◌-◌, ◌*◌, ◌^◌, ◌<◌, ◌≤◌, true, List, [], ◌∷◌, ◌++◌, sym, refl, ap, ◌∙◌, add-zero, add_assoc, mul_comm, mul-le-mul, mul-le-mul_left, zero-add, mul-suc, le-mul_of_pos_right, add-one, arith, le-ltb, lt-ltb}
use mathlib.Core.List.{Memᴰ}
use native.Mathlib.Nat.{mul-mul-mul_comm}
use Rattle.stand.specs.Answer.{refusal_number}
use Rattle.stand.specs.Edit.{Edited, Storable, edited, edited_of, fitting, last_generation, put, set_def}
use Rattle.stand.specs.Fill.{Fillable, Inside, and_then, box_cells, box_of, cells_in, common_of, fill_call, fill_def, fill_refusal, set_each, solid_cells}
use Rattle.stand.specs.Lent.{Kept, stand_in, storage_in}
use Rattle.stand.specs.Refusal.{first, gives, refused}
use Rattle.stand.specs.Shape.{Below, Shape, Stored, cell_from, chunks_in, chunks_on, counted, counts_of, max_chunks, opens, product, sections, shape_of, slot, slot_at, well_formed}
use Rattle.stand.specs.Sound.{Sound}
use Rattle.stand.specs.Storage.{Outcome, State, lengths_of, outcome_of, shape, storage_rules}
use Rattle.stand.specs.declared.Cell.{Cell}
use Rattle.stand.specs.declared.volume.Volume.{Volume}
use Rattle.stand.specs.declared.volume.refusal.Refusal.{Refusal}
use Rattle.stand.specs.declared.volume.shape.Point.{Point}
use Rattle.stand.specs.declared.volume.shape.Region.{Region}
use Rattle.stand.specs.declared.volume.storage.Storage.{Storage}
use Rattle.stand.proofs.Box.{box_in, common_box, common_none}
use Rattle.stand.proofs.Parts.{Parts, box-inside, box-length, length_none, planes, rows, solids}
use Rattle.stand.proofs.Kept.{Finishes, set-finishes, set_sound}
use Rattle.stand.proofs.Edit.{by_edited, put-generation, set-fitting, set-formed, set-shape, storable, storage-passed, storage-turned}
use Rattle.stand.proofs.Refusal.{some_number}
use Rattle.stand.proofs.Shape.{chunks-some, formed-counts, formed-opens, goods, sections-few, slot-at-lt, slot-from, stored}

-- ---- setting cells one after another

pub set_each-append : (e : Edited) (xs ys : List Cell) (v : ℕ) → set_each e (xs ++ ys) v ≡ set_each (set_each e xs v) ys v
unfolding set_each
set_each-append e [] ys v = refl
set_each-append e (c ∷ cs) ys v = set_each-append (and_then e.count (set_def e.state c v)) cs ys v

-- counts add up
pub each_from : (k n : ℕ) (s : State) (cs : List Cell) (v : ℕ) → set_each (edited_of (k + n) s) cs v ≡ and_then k (set_each (edited_of n s) cs v)
unfolding set_each and_then
each_from k n s [] v = refl
each_from k n s (c ∷ cs) v =
    ap (λ (m : ℕ). set_each (edited_of m (set_def s c v).state) cs v) (add_assoc k n (set_def s c v).count)
    ∙ each_from k (n + (set_def s c v).count) (set_def s c v).state cs v

pub each-one : (s : State) (c : Cell) (v : ℕ) → set_each (edited_of 0 s) (c ∷ []) v ≡ set_def s c v
unfolding set_each and_then
each-one s c v = λ i. edited_of (zero-add (set_def s c v).count i) (set_def s c v).state

-- what a set of each of them keeps, all of them keep
pub each_keeps : (Q : State → Type 0) (v : ℕ) (cs : List Cell) → ((s : State) (c : Cell) → Memᴰ c cs → Q s → Q (set_def s c v).state) → (e : Edited) → Q e.state → Q (set_each e cs v).state
unfolding set_each and_then
each_keeps Q v [] h e q = q
each_keeps Q v (c ∷ cs) h e q =
    each_keeps Q v cs (λ s d m. h s d (Memᴰ.tail m)) (and_then e.count (set_def e.state c v)) (h e.state c (Memᴰ.head refl) q)

-- each change is one generation
pub each-generation : (cs : List Cell) (e : Edited) (v : ℕ) → (set_each e cs v).state.volume.generation + e.count ≡ e.state.volume.generation + (set_each e cs v).count
unfolding set_each and_then set_def
each-generation [] e v = refl
each-generation (c ∷ cs) e v =
    let p = put-generation e.state (slot (shape e.state) c) v in
    omega (arith, each-generation cs (and_then e.count (set_def e.state c v)) v)

-- shape, header's form and fitting storage stay
module _ (cs : List Cell) (e : Edited) (v : ℕ) where
  same : {A : Type 0} (f : State → A) → ((s : State) (c : Cell) → f (set_def s c v).state ≡ f s) → f (set_each e cs v).state ≡ f e.state
  same f h = each_keeps (λ s. f s ≡ f e.state) v cs (λ s c m q. h s c ∙ q) e refl

  pub each-shape : shape (set_each e cs v).state ≡ shape e.state
  each-shape = same shape (λ s c. set-shape s c v)

  pub each-formed : well_formed (set_each e cs v).state.volume ≡ well_formed e.state.volume
  each-formed = same (λ (s : State). well_formed s.volume) (λ s c. set-formed s c v)

  pub each-fitting : fitting (set_each e cs v).state ≡ fitting e.state
  each-fitting = same fitting (λ s c. set-fitting s c v)

-- ---- a fill's loop: t parts of w cells each

-- the same lists stay lent
kept_on : {s t u : Storage} → Kept s t → Kept t u → Kept s u
kept_on k l =
    record {
      cells = l.cells ∙ k.cells;
      hashes = l.hashes ∙ k.hashes;
      versions = l.versions ∙ k.versions;
      log = l.log ∙ k.log;
      last = l.last ∙ k.last;
    }

-- after i parts, with k cells changed
pub record Filled (all : Shape → ℕ → List Cell) (w : ℕ) (v₀ : Volume) (s₀ : Storage) (f : ℕ) (v : Volume) (s : Storage) (k i : ℕ) : Type 0 where
  pub done : edited_of k (stand_in v s) ≡ set_each (edited_of 0 (stand_in v₀ s₀)) (all (shape_of v₀) i) f
  pub few : k ≤ w * i
  pub kept : Kept s₀ s

times_step : (w i t : ℕ) → i < t → w * i + w ≤ w * t
times_step w i t h = rw mul-suc at (mul-le-mul_left w h)

module _ {all part : Shape → ℕ → List Cell} {w : ℕ} (r : Parts all part w) where
  pub fill_none : (f : ℕ) (v : Volume) (s : Storage) → Filled all w v s f v s 0 0
  unfolding set_each
  fill_none f v s = record {
    done = rw (r.none (shape_of v));
    few = omega arith;
    kept = record { cells = refl; hashes = refl; versions = refl; log = refl; last = refl };
  }

  module _ {f k i : ℕ} {v₀ v : Volume} {s₀ s : Storage} (h : Filled all w v₀ s₀ f v s k i) where
    kept-shape : shape_of v ≡ shape_of v₀
    kept-shape = ap (λ (e : Edited). shape e.state) h.done ∙ each-shape (all (shape_of v₀) i) (edited_of 0 (stand_in v₀ s₀)) f

    module _ {t : ℕ} where
      -- no part is left
      pub fill_all : i ≤ t → t ≤ i → edited_of k (stand_in v s) ≡ set_each (edited_of 0 (stand_in v₀ s₀)) (all (shape_of v₀) t) f
      fill_all m l = let e : i ≡ t = omega arith in rw (← e) h.done

      pub fill_most : i ≤ t → t ≤ i → k ≤ w * t
      fill_most m l = let e : i ≡ t = omega arith in rw (← e) h.few

    -- one more part
    pub fill_more : {j : ℕ} {u : Volume} {x : Storage} → edited_of j (stand_in u x) ≡ set_each (edited_of 0 (stand_in v s)) (part (shape_of v) i) f → j ≤ w → Kept s x → Filled all w v₀ s₀ f u x (k + j) (i + 1)
    unfolding and_then
    fill_more {j} d b m = record {
      done =
          ap (and_then k) d
          ∙ sym (each_from k 0 (stand_in v s) (part (shape_of v) i) f)
          ∙ ap (λ (n : ℕ). set_each (edited_of n (stand_in v s)) (part (shape_of v) i) f) (add-zero k)
          ∙ (λ q. set_each (h.done q) (part (kept-shape q) i) f)
          ∙ sym (set_each-append (edited_of 0 (stand_in v₀ s₀)) (all (shape_of v₀) i) (part (shape_of v₀) i) f)
          ∙ ap (λ (cs : List Cell). set_each (edited_of 0 (stand_in v₀ s₀)) cs f) (sym (r.more (shape_of v₀) i))
          ∙ ap (λ (n : ℕ). set_each (edited_of 0 (stand_in v₀ s₀)) (all (shape_of v₀) n) f) (sym (add-one i));
      few = rw (add-one, mul-suc) (omega arith);
      kept = kept_on h.kept m;
    }

    -- which can be filled
    module _ {t : ℕ} (l : i < t) {p : Point} {n m o : ℕ} (g : Fillable (stand_in v₀ s₀) p n m o) (whole : n * m * o ≡ w * t) where
      pub fill_next : (d : Point) (a b c : ℕ) → a * b * c ≡ w → d.x + a ≤ p.x + n → d.y + b ≤ p.y + m → d.z + c ≤ p.z + o → Fillable (stand_in v s) d a b c
      fill_next d a b c e x y z =
          let q : v.generation + 0 ≡ v₀.generation + k = rw (← h.done) at (each-generation (all (shape_of v₀) i) (edited_of 0 (stand_in v₀ s₀)) f) in
          record {
            formed = ap (λ (e : Edited). well_formed e.state.volume) h.done ∙ each-formed _ _ f ∙ g.formed;
            fits = ap (λ (e : Edited). fitting e.state) h.done ∙ each-fitting _ _ f ∙ g.fits;
            x = rw kept-shape (omega (arith, g.x));
            y = rw kept-shape (omega (arith, g.y));
            z = rw kept-shape (omega (arith, g.z));
            left = rw e (omega (arith, g.left, h.few, times_step w i t l));
          }

      -- and its count fits
      pub fill_count : {j : ℕ} → j ≤ w → Fits w64 (k + j)
      fill_count b = record { fits = omega (arith, g.left, h.few, times_step w i t l) }

-- what each of the code's three loops asks
pub ruleset loop_laws = (rows, planes, solids, fill_count, fill_all, fill_most)

-- ---- one cell by its distances

module _ (v : Volume) (s : Storage) {d : Point} (f : Fillable (stand_in v s) d 1 1 1) {k : Point} (e : k ≡ counts_of v.chunks) where
  counts : k ≡ counted (shape_of v)
  counts = e ∙ formed-counts v f.formed

  pub spot_stored : Stored k d
  spot_stored = rw counts (stored (shape_of v) d (formed-opens v f.formed) (record { x = omega (arith, f.x); y = omega (arith, f.y); z = omega (arith, f.z) }))

  module _ {i : ℕ} (at : i ≡ slot_at k d) where
    pub spot_storable : Storable (stand_in v s) i
    unfolding sections
    spot_storable = rw at (storable (stand_in v s) (slot_at k d) f.formed f.fits (rw (← counts) (slot-at-lt k d spot_stored)))

    pub spot_set : (n : ℕ) {e : Edited} → e ≡ put (stand_in v s) i n → e ≡ set_def (stand_in v s) (cell_from (shape_of v) d) n
    unfolding set_def
    spot_set n h = h ∙ ap (λ (j : ℕ). put (stand_in v s) j n) (at ∙ ap (λ (c : Point). slot_at c d) counts ∙ sym (slot-from (shape_of v) d))

-- ---- sizes and boxes fit

whole-chunks : (n : ℕ) → n ≤ chunks_on n * 16
unfolding chunks_on
whole-chunks n = omega arith

le_times : (a b : ℕ) → 1 ≤ a → b ≤ a * b
le_times a b h = rw (mul_comm a b) (le-mul_of_pos_right b h)

factors : (a b d m : ℕ) → 1 ≤ a → 1 ≤ b → 1 ≤ d → a * b * d ≤ m → (a ≤ m) × (b ≤ m) × (d ≤ m)
factors a b d m ha hb hd h =
    let p = le-mul_of_pos_right a hb in
    let q = le_times a b ha in
    let r = le-mul_of_pos_right (a * b) hd in
    let t = le_times (a * b) d (omega arith) in
    (omega arith, omega arith, omega arith)

pub sizes_few : (g : Shape) → opens g ≡ true → Below (16 * max_chunks + 1) g.size
unfolding opens product counted chunks_in
sizes_few g e =
    let k = goods _ _ _ e in
    let f = factors _ _ _ max_chunks (chunks-some _ k.x.some) (chunks-some _ k.y.some) (chunks-some _ k.z.some) k.few in
    record {
      x = omega (arith, whole-chunks g.size.x, f.0);
      y = omega (arith, whole-chunks g.size.y, f.1);
      z = omega (arith, whole-chunks g.size.z, f.2);
    }

-- a step along an axis fits
module _ {s : State} {p : Point} {n m o : ℕ} (g : Fillable s p n m o) where
  held : Below (16 * max_chunks + 1) (shape s).size
  held = sizes_few (shape s) (formed-opens s.volume g.formed)

  pub step_x : {i : ℕ} → i < n → Fits w64 (p.x + i)
  step_x l = record { fits = omega (arith, g.x, held.x) }

  pub step_y : {i : ℕ} → i < m → Fits w64 (p.y + i)
  step_y l = record { fits = omega (arith, g.y, held.y) }

  pub step_z : {i : ℕ} → i < o → Fits w64 (p.z + i)
  step_z l = record { fits = omega (arith, g.z, held.z) }

pub box-few : (g : Shape) (k : Region) → opens g ≡ true → Inside g k → cells_in k ≤ sections g * 4096
unfolding cells_in product sections counted chunks_in
box-few g k e h =
    let x : k.count.x ≤ chunks_on g.size.x * 16 = omega (arith, h.x, whole-chunks g.size.x) in
    let y : k.count.y ≤ chunks_on g.size.y * 16 = omega (arith, h.y, whole-chunks g.size.y) in
    let z : k.count.z ≤ chunks_on g.size.z * 16 = omega (arith, h.z, whole-chunks g.size.z) in
    let q = mul-le-mul (mul-le-mul x y) z in
    rw (mul-mul-mul_comm (chunks_on g.size.x) 16 (chunks_on g.size.y) 16, mul-mul-mul_comm (chunks_on g.size.x * chunks_on g.size.y) 256 (chunks_on g.size.z) 16) at q

-- and so do the products of its sides
pub box-fits : (v : Volume) (k : Region) → well_formed v ≡ true → Inside (shape_of v) k → (k.count.x * k.count.y < 2 ^ 64) × (k.count.x * k.count.y * k.count.z < 2 ^ 64)
unfolding cells_in product
box-fits v k ok h =
    let o = formed-opens v ok in
    let f = box-few (shape_of v) k o h in
    let m = sections-few (shape_of v) o in
    let n = sizes_few (shape_of v) o in
    let x : k.count.x ≤ 16 * max_chunks = omega (arith, h.x, n.x) in
    let y : k.count.y ≤ 16 * max_chunks = omega (arith, h.y, n.y) in
    let p = mul-le-mul x y in
    (omega arith, omega arith)

-- ---- what a fill comes to

-- no cell changed, nothing written
pub fill-empty : (s : State) (a b : Cell) (n : ℕ) → well_formed s.volume ≡ true → fitting s ≡ true → cells_in (box_of (shape s) a b) ≡ 0 → outcome_of (gives 0) s ≡ fill_call s a b n
unfolding fill_call fill_refusal first edited fill_def set_each
fill-empty s a b n ok fit h =
    let e = length_none (box_cells (shape s) (box_of (shape s) a b)) (box-length (shape s) (box_of (shape s) a b) ∙ h) in
    rw (ok, fit, h, e, le-ltb (last_generation - s.volume.generation) 0 (omega arith))

module _ (v : Volume) (s : Storage) (a b : Cell) where
  pub fill_turned : (n : ℕ) (e : Refusal) → refusal_number e ≡ first (storage_rules v (lengths_of (storage_in s))) → outcome_of (refused (refusal_number e)) (stand_in v s) ≡ fill_call (stand_in v s) a b n
  unfolding fill_call fill_refusal fitting
  fill_turned n e d = storage-turned (stand_in v s) d _ _ (some_number e)

  -- storage passes, and the common part is looked for
  module _ (z : 0 ≡ first (storage_rules v (lengths_of (storage_in s)))) {p : Option Region} (common : p ≡ common_of (shape_of v) a b) where
    passed : (well_formed v ≡ true) × (fitting (stand_in v s) ≡ true)
    passed = storage-passed (stand_in v s) z refl

    pub fill_beside : (n : ℕ) → p ≡ None → outcome_of (gives 0) (stand_in v s) ≡ fill_call (stand_in v s) a b n
    fill_beside n o = fill-empty (stand_in v s) a b n passed.0 passed.1 (common_none (shape_of v) a b (sym o ∙ common))

    module _ {k : Region} (found : p ≡ Some k) where
      part : (k ≡ box_of (shape_of v) a b) × (cells_in k ≡ 0 → ⊥)
      part = common_box (shape_of v) a b k (sym found ∙ common)

      lies : Inside (shape_of v) k
      lies = subst (Inside (shape_of v)) (sym part.0) (box_in (shape_of v) a b)

      pub part_two : Fits w64 (k.count.x * k.count.y)
      part_two = record { fits = (box-fits v k passed.0 lies).0 }

      pub part_three : Fits w64 (k.count.x * k.count.y * k.count.z)
      part_three = record { fits = (box-fits v k passed.0 lies).1 }

      pub fill_6 : (n : ℕ) → last_generation - v.generation < k.count.x * k.count.y * k.count.z → outcome_of (refused 6) (stand_in v s) ≡ fill_call (stand_in v s) a b n
      unfolding fill_call fill_refusal first edited cells_in product
      fill_6 n h = rw (passed.0, passed.1, ← part.0, lt-ltb _ _ h)

      module _ (room : k.count.x * k.count.y * k.count.z ≤ last_generation - v.generation) where
        pub part_fillable : Fillable (stand_in v s) k.low k.count.x k.count.y k.count.z
        unfolding cells_in product
        part_fillable =
            let some = part.1 in
            record { formed = passed.0; fits = passed.1; x = lies.x; y = lies.y; z = lies.z; left = omega arith }

        pub fill_done : (n : ℕ) {m : ℕ} {t : State} → edited_of m t ≡ set_each (edited_of 0 (stand_in v s)) (solid_cells (shape_of v) k.low k.count.x k.count.y k.count.z) n → outcome_of (gives m) t ≡ fill_call (stand_in v s) a b n
        unfolding fill_call fill_refusal first edited fill_def cells_in product box_cells
        fill_done n d = rw (passed.0, passed.1, ← part.0, le-ltb _ _ room) (ap (λ (f : Edited). outcome_of (gives f.count) f.state) d)

-- one for each goal of the code
pub ruleset fill_laws = (fill_turned, fill_beside, part_two, part_three, fill_6)

-- ---- a sound stand stays so

pub fill_sound : (s : State) (a b : Cell) (v : ℕ) → Sound s → Sound (fill_def s a b v).state
unfolding fill_def
fill_sound s a b v q =
    (each_keeps (λ t. Sound t × (shape t ≡ shape s)) v (box_cells (shape s) (box_of (shape s) a b))
    (λ t c m p. (
      set_sound t c v p.0 (rw p.1 (box-inside (shape s) a b c m)),
      set-shape t c v ∙ p.1,
    ))
    (edited_of 0 s) (q, refl)).0

-- any call of fill
pub fill-call_sound : (s : State) (a b : Cell) (v : ℕ) → Sound s → Sound (fill_call s a b v).state
unfolding fill_call
fill-call_sound s a b v q =
    by_edited (λ (o : Outcome ℕ). Sound o.state) (fill_refusal (well_formed s.volume) (fitting s) (shape s) s.volume.generation a b) s (fill_def s a b v)
    (λ k e. q) (λ e. fill_sound s a b v q)

pub fill-call-finishes : (s : State) (a b : Cell) (v : ℕ) → v < 65536 → Finishes s.cells → Finishes (fill_call s a b v).state.cells
unfolding fill_call fill_def
fill-call-finishes s a b v l h =
    by_edited (λ (o : Outcome ℕ). Finishes o.state.cells) _ s (fill_def s a b v) (λ k e. h)
    (λ e. each_keeps (λ (t : State). Finishes t.cells) v (box_cells (shape s) (box_of (shape s) a b)) (λ t c m. set-finishes t c v l) (edited_of 0 s) h)
