-- Laws of stretches: a slot more, a mask in which more is 0, what is seen from a slot on; and a row walked by them.
use mathlib.Core.Path.{◌≡◌, sym, subst, ◌∙◌}
use mathlib.Core.List.{List}
use mathlib.Core.Logic.{◌⊎◌, ⊎_elim}
use Prim.Native.Nat.{ℕ, suc, ◌+◌, ◌-◌, ◌*◌, ◌≤◌, ◌<◌}
use native.Mathlib.Nat.{eq-or-lt_of_le}
use native.Mathlib.Omega.{arith}
use lib.IntN.{ℤ}
use lib.ListN.{get_or, length, length-set, set}
use lib.Seq.{get_or-set_same, get_or-set_other}
use Rattle.mesh.specs.Claims.{Blank}
use Rattle.mesh.specs.Frame.{StepPost, Wrote}
use Rattle.mesh.specs.Scan.{fresh, row_to}
use Rattle.mesh.specs.Stretch.{SeenFrom, SeenList, StretchIn}
use Rattle.mesh.specs.declared.scan.Frame.{Frame}
use Rattle.mesh.specs.declared.scan.Turn.{Turn}
use Rattle.mesh.proofs.Claims.{blank-front, blank-kept, blank-start, blank-wide}
use Rattle.mesh.proofs.Frame.{row_on, row_step}
use Rattle.mesh.proofs.Laid.{lt_or_le}
use Rattle.mesh.proofs.Scanned.{step_keeps}

-- nothing is listed yet
pub seen_none : (m : List ℕ) (row from to : ℕ) (seen : List ℕ) → SeenList m row from to to seen
seen_none m row from to seen = record { blank = λ i a b. absurd (omega arith) }

-- one slot more, before those that are listed
pub seen_more : {m : List ℕ} {row : ℕ} (seen : List ℕ) {from u n to : ℕ} (s : ℕ) → from ≤ u → n ≡ suc u → u - from < length seen
    → Blank m (row + u) (row + to) (row + s) → SeenList m row from n to seen → SeenList m row from u to (set seen (u - from) s)
seen_more {m} {row} seen {from} {u} {n} {to} s low near room b l =
    record {
      blank = λ i x y.
          ⊎_elim
          (λ e. subst (λ (k : ℕ). At k (get_or (set seen (u - from) s) (k - from) 0)) e (subst (At u) (sym (get_or-set_same seen (u - from) s 0 room)) b))
          (λ k. subst (At i) (sym (get_or-set_other seen (u - from) (i - from) s 0 (λ e. omega arith))) (l.blank i (omega arith) y))
          (eq-or-lt_of_le x);
    }
  where
    At : ℕ → ℕ → Type 0
    At i k = Blank m (row + i) (row + to) (row + k)

-- a stretch listed from slot u on; `near` is the first that is not 0 from there, or the stretch's end
pub record Listing (m : List ℕ) (row from u to near : ℕ) (seen : List ℕ) : Type 0 where
  pub low : from ≤ u
  pub next : Blank m (row + u) (row + to) (row + near)
  pub sixteen : length seen ≡ 16
  pub list : SeenList m row from u to seen

pub listing_start : {len : ℕ} (m : List ℕ) {row from to : ℕ} {seen : List ℕ} → StretchIn len row from to → length seen ≡ 16 → Listing m row from to to to seen
listing_start m {row} {from} {to} {seen} p l = record { low = p.low; next = blank-start (omega arith); sixteen = l; list = seen_none m row from to seen }

pub listing_more : {len : ℕ} {m : List ℕ} {row from n to near near' : ℕ} {seen : List ℕ} → StretchIn len row from to → Listing m row from n to near seen → from < n
    → ((near' ≡ near) × (get_or m (row + (n - 1)) 0 ≡ 0)) ⊎ (near' ≡ n - 1) → Listing m row from (n - 1) to near' (set seen (n - 1 - from) near')
listing_more {m = m} {row} {from} {n} {to} {near} {near'} {seen} p a t b =
    let low : from ≤ n - 1 = omega arith in
    let high : n ≤ to = omega (arith, a.next.low, a.next.high) in
    let on : Blank m (row + (n - 1)) (row + to) (row + near') =
    ⊎_elim
    (λ z. rw z.0 (blank-front (omega arith) z.1 a.next))
    (λ z. rw z (blank-start (omega arith))) b in
    record {
      low = low;
      next = on;
      sixteen = length-set seen (n - 1 - from) near' ∙ a.sixteen;
      list = seen_more seen near' low (omega arith) (omega (arith, a.sixteen, p.most)) on a.list;
    }

seen-kept : {m m' seen : List ℕ} {row from u to : ℕ} → ((q : ℕ) → get_or m q 0 ≡ 0 → get_or m' q 0 ≡ 0) → SeenList m row from u to seen → SeenList m' row from u to seen
seen-kept k l = record { blank = λ i x y. blank-kept k (l.blank i x y) }

-- what a list of the whole stretch has for a slot
seen-on : {m seen : List ℕ} {row from to w u r : ℕ} → from ≤ u → u ≤ w → to ≤ w → SeenList m row from from to seen → SeenFrom seen from to u r
    → Blank m (row + u) (row + w) (row + r)
seen-on {m} {seen} {row} {from} {to} {w} {u} {r} f k h l s = ⊎_elim inside past (lt_or_le u to)
  where
    inside : u < to → Blank m (row + u) (row + w) (row + r)
    inside a = rw (s.listed a) (blank-wide (omega arith) (l.blank u f a))

    past : to ≤ u → Blank m (row + u) (row + w) (row + r)
    past a = rw (s.past a) (blank-start (omega arith))

-- ---- a row walked by stretches

-- written as far as slot u, with what is seen in the stretch from slot `from` on
pub record RowScanned (f : Frame) (m₀ : List ℕ) (v row : ℕ) (out₀ : List ℤ) (n₀ : ℕ) (m : List ℕ) (out : List ℤ) (seen : List ℕ) (n from to u : ℕ) : Type 0 where
  pub wrote : Wrote f (row_to f.width f.height v (fresh m₀) u) m out₀ out n₀ n
  pub same-mask : length m ≡ length m₀
  pub same_out : length out ≡ length out₀
  pub sixteen : length seen ≡ 16
  pub wide : u ≤ f.width
  pub low : from ≤ u
  pub high : to ≤ f.width
  pub most : to ≤ from + 16
  pub listed : SeenList m row from from to seen

module _ {f : Frame} {m₀ : List ℕ} {v row : ℕ} {out₀ : List ℤ} {n₀ : ℕ} {m : List ℕ} {out : List ℤ} {seen : List ℕ} {n from to u : ℕ} (a : RowScanned f m₀ v row out₀ n₀ m out seen n from to u) where
  -- another stretch
  pub scanned_list : {m' : List ℕ} {out' : List ℤ} {seen' seen'' : List ℕ} {n' from' to' to'' u' : ℕ}
      → m' ≡ m → out' ≡ out → seen' ≡ seen'' → n' ≡ n → from' ≡ u → to' ≡ to'' → u' ≡ u
      → length seen'' ≡ 16 → (u < to'') × (to'' ≤ f.width) × (to'' ≤ u + 16) → SeenList m row u u to'' seen''
      → RowScanned f m₀ v row out₀ n₀ m' out' seen' n' from' to' u'
  scanned_list em eo et en ef ee eu l e s =
      rw (em, eo, et, en, ef, ee, eu)
      (record {
        wrote = a.wrote;
        same-mask = a.same-mask;
        same_out = a.same_out;
        sixteen = l;
        wide = a.wide;
        low = omega arith;
        high = e.1;
        most = e.2;
        listed = s;
      })

  -- a slot
  pub scanned_step : {m' m'' : List ℕ} {out' out'' : List ℤ} {seen' : List ℕ} {n' from' to' u' : ℕ} {r : Turn}
      → m' ≡ m'' → out' ≡ out'' → seen' ≡ seen → n' ≡ r.count → from' ≡ from → to' ≡ to → u' ≡ r.next
      → u < f.width → v < f.height → length m'' ≡ length m → length out'' ≡ length out → StepPost f u v m m'' out out'' n r
      → RowScanned f m₀ v row out₀ n₀ m' out' seen' n' from' to' u'
  scanned_step em eo et en ef ee eu lu lv km ko p =
      rw (em, eo, et, en, ef, ee, eu)
      (record {
        wrote = row_step m₀ v u lu lv a.wrote p;
        same-mask = km ∙ a.same-mask;
        same_out = ko ∙ a.same_out;
        sixteen = a.sixteen;
        wide = p.high;
        low = omega (arith, a.low, p.low);
        high = a.high;
        most = a.most;
        listed = seen-kept (λ q z. subst (λ (l : List ℕ). get_or l q 0 ≡ 0) (sym p.wrote.mask) (step_keeps f.width f.height (fresh m) u v q z)) a.listed;
      })

  -- on to what is seen
  pub scanned_on : {r : ℕ} → row ≡ v * f.width → SeenFrom seen from to u r → (u ≤ r) × RowScanned f m₀ v row out₀ n₀ m out seen n from to r
  scanned_on {r} e s =
      let o = seen-on a.low a.wide a.high a.listed s in (
        omega (arith, o.low),
        record {
          wrote = row_on m₀ v u r e o a.wrote;
          same-mask = a.same-mask;
          same_out = a.same_out;
          sixteen = a.sixteen;
          wide = omega (arith, o.high);
          low = omega (arith, a.low, o.low);
          high = a.high;
          most = a.most;
          listed = a.listed;
        },
      )
