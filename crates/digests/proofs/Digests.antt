-- What hashes and digests tell of two stands, proved.
use mathlib.Core.Path.{◌≡◌, refl, sym, ap, ◌∙◌, subst}
use mathlib.Core.Bool.{true}
use mathlib.Core.List.{List, [], ◌∷◌, ◌++◌, map}
use Prim.Native.Nat.{ℕ, ◌<◌, ◌≤◌}
use native.Mathlib.Omega.{arith}
use borrow.Author.Tests.{ltb-false, ltb-true}
use lib.Dec.{ltb}
use lib.ListN.{get_or}
use Rattle.stand.specs.Edit.{Edited, advanced, changed, look, set_call, set_def}
use Rattle.stand.specs.Hash as H
use Rattle.stand.specs.Refusal.{gives}
use Rattle.stand.specs.Shape.{Ranged, Shape, chunk_of, inside, opens, sections, slot}
use Rattle.stand.specs.Sound.{Sound}
use Rattle.stand.specs.Storage.{Outcome, State, shape}
use Rattle.stand.specs.declared.Cell.{Cell}
use Rattle.stand.proofs.Difference as D
use Rattle.stand.proofs.Edit.{by_edited, by_put, set_keeps, set_other, set_same, set-shape, settable}
use Rattle.stand.proofs.Refusal.{never_given}
use Rattle.stand.proofs.Shape.{chunk-lt, formed-opens, shape_same}
use Rattle.stand.proofs.Tests.{by-test}
use Rattle.form.specs.Keeping.{Same}
use Rattle.mesh.proofs.Merged.{each_append}
use Rattle.sheet.specs.declared.Marks.{Marks}
use Rattle.ledger.specs.Book.{Edit}
use Rattle.ledger.specs.Calls.{Call, Effect, Four, Op, effect_of, own, run}
use Rattle.ledger.specs.Claim.{All, Lent, Start, four_after}
use Rattle.ledger.proofs.Breadth.{breadth}
use Rattle.ledger.proofs.Claimed.{after_append, append-all}
use Rattle.ledger.proofs.Steps.{steps}
use Rattle.digests.specs.Digests.{AllTyped, Apart, ByCalls, Digests, OneOff, Reached, Typed, digest_answer, fresh_after, hash_answer, stand_of}
use Rattle.digests.proofs.ByCalls.{Good, by_calls-good}

-- ---- two stands

module _ (s t : State) (qs : Good s) (qt : Good t) where
  module _ (c : Cell) (o : OneOff s t c) where
    same : shape s ≡ shape t
    same = shape_same s.volume t.volume o.origin o.size

    within : chunk_of (shape s) c < sections (shape s)
    within = chunk-lt (shape s) c (formed-opens s.volume qs.sound.formed) o.there

    hash-apart : Apart (hash_answer s (chunk_of (shape s) c)) (hash_answer t (chunk_of (shape t) c))
    hash-apart =
        let i = chunk_of (shape s) c in
        subst (λ (g : Shape). Apart (hash_answer s (chunk_of (shape s) c)) (hash_answer t (chunk_of g c))) same
        record {
          one = get_or s.hashes i 0;
          other = get_or t.hashes i 0;
          one-is = D.hash_told s qs.sound i within;
          other-is = D.hash_told t qt.sound i (subst (λ (g : Shape). i < sections g) same within);
          apart = D.hash-apart s t qs.sound qt.sound same qs.finishes qt.finishes c o.there o.differ o.else_same;
        }

    digest-apart : Apart (digest_answer s) (digest_answer t)
    digest-apart =
        record {
          one = H.digest_of s.volume s.hashes;
          other = H.digest_of t.volume t.hashes;
          one-is = D.digest_told s qs.sound;
          other-is = D.digest_told t qt.sound;
          apart = D.digest-apart s t qs.sound qt.sound same qs.finishes qt.finishes c o.there o.differ o.else_same;
        }

  hash-alike : (i : ℕ) → s.volume.origin ≡ t.volume.origin → s.volume.size ≡ t.volume.size
      → ((d : Cell) → inside (shape s) d ≡ true → chunk_of (shape s) d ≡ i → look (shape s) s.cells d ≡ look (shape t) t.cells d) → hash_answer s i ≡ hash_answer t i
  hash-alike i p r h =
      let e = shape_same s.volume t.volume p r in
      by-test (ltb i (sections (shape s)))
      (λ u.
      let l = ltb-true i (sections (shape s)) u in
      D.hash_told s qs.sound i l
      ∙ ap gives (D.hash-same s t qs.sound qt.sound e i h)
      ∙ sym (D.hash_told t qt.sound i (subst (λ (g : Shape). i < sections g) e l)))
      (λ u.
      let l = ltb-false i (sections (shape s)) u in
      D.hash-none s qs.sound i l ∙ sym (D.hash-none t qt.sound i (subst (λ (g : Shape). sections g ≤ i) e l)))

  others-alike : (c : Cell) → OneOff s t c → (i : ℕ) → (i ≡ chunk_of (shape s) c → ⊥) → hash_answer s i ≡ hash_answer t i
  others-alike c o i n =
      hash-alike i o.origin o.size (λ d j p. o.else_same d j (λ r. n (sym p ∙ ap (chunk_of (shape s)) r)))

  digest-alike : Same s.volume s.cells t.volume t.cells → digest_answer s ≡ digest_answer t
  digest-alike o =
      let e = shape_same s.volume t.volume o.origin o.size in
      D.digest_told s qs.sound ∙ ap gives (D.digest-same s t qs.sound qt.sound e o.cells) ∙ sym (D.digest_told t qt.sound)

-- ---- such stands

any_list : (a : Start) (cs : List Call) → All Lent (four_after a []) cs → AllTyped cs → Reached (four_after a cs).state
any_list a cs w t = record { by_calls = record { start = a; calls = cs; lent = w; typed = t }; stand-is = refl }

any_calls : (g : Shape) (k : Marks) (l : List ℕ) (os : List Op) → opens g ≡ true → Ranged g.origin → AllTyped (map own os) → Reached (fresh_after g k l os)
unfolding four_after run
any_calls g k l os o r t =
    let b = breadth.fresh g k l o r in
    subst (λ (s : Four). Reached (run s (map own os)).state) b.four_is (any_list b.start (map own os) (breadth.own-lists (four_after b.start []) os) t)

typed_else : (e : Effect) → ((x : Edit) → e ≡ Effect.edits x → ⊥) → Typed e
typed_else (Effect.opens_stand x) h = tt
typed_else (Effect.edits x) h = absurd (h x refl)
typed_else (Effect.opens_sheet t m) h = tt
typed_else (Effect.refreshes t m) h = tt
typed_else Effect.leaves h = tt

-- a set that answers 1 changes its cell, and no other
module _ (s : State) (q : Sound s) (c : Cell) (v : ℕ) where
  changed-off : inside (shape s) c ≡ true → (set_def s c v).count ≡ 1 → OneOff s (set_def s c v).state c
  unfolding look set_def changed advanced
  changed-off i n =
      record {
        origin = sym (set_keeps s c v (λ (t : State). t.volume.origin) (λ k. refl));
        size = sym (set_keeps s c v (λ (t : State). t.volume.size) (λ k. refl));
        there = i;
        differ = λ e. other n (e ∙ look_after c ∙ set_same s c v q.formed i q.fits);
        else_same = λ d j m. sym (look_after d ∙ set_other s c v q.formed i d j m);
      }
    where
      look_after : (d : Cell) → look (shape (set_def s c v).state) (set_def s c v).state.cells d ≡ look (shape s) (set_def s c v).state.cells d
      look_after d = ap (λ (g : Shape). look g (set_def s c v).state.cells d) (set-shape s c v)

      other : (set_def s c v).count ≡ 1 → look (shape s) s.cells c ≡ v → ⊥
      other = by_put (λ (e : Edited). e.count ≡ 1 → look (shape s) s.cells c ≡ v → ⊥) s (slot (shape s) c) v (λ p z. omega arith) (λ d z. d)

  set-one-off : (set_call s c v).answer ≡ gives 1 → OneOff s (set_call s c v).state c
  unfolding set_call
  set-one-off =
      by_edited (λ (o : Outcome ℕ). o.answer ≡ gives 1 → OneOff s o.state c) _ s (set_def s c v)
      (λ k e z. absurd (never_given z))
      (λ e z. changed-off (settable _ _ _ _ _ _ _ e).inside_is cc)

more : ByCalls → Cell → ℕ → List Call
more a c v = a.calls ++ (own (Op.set c v) ∷ [])

set-reached : (a : ByCalls) (c : Cell) (v : ℕ) → v < 65536 → Reached (set_call (stand_of a) c v).state
unfolding run more
set-reached a c v l =
    subst (λ (s : Four). Reached s.state) (after_append a.start a.calls (own (Op.set c v) ∷ []) ∙ ((steps (four_after a.start a.calls)).set c v).four)
    (any_list a.start (more a c v)
    (append-all Lent (four_after a.start []) a.calls (own (Op.set c v) ∷ []) a.lent (breadth.own-lists (run (four_after a.start []) a.calls) (Op.set c v ∷ [])))
    (each_append (λ (d : Call). Typed (effect_of d.op)) a.calls (own (Op.set c v) ∷ []) a.typed (l, tt)))

module _ (a : ByCalls) (c : Cell) (v : ℕ) (l : v < 65536) (e : (set_call (stand_of a) c v).answer ≡ gives 1) where
  after_good : Good (set_call (stand_of a) c v).state
  after_good = subst Good (set-reached a c v l).stand-is (by_calls-good (set-reached a c v l).by_calls)

  set_shows : Apart (hash_answer (stand_of a) (chunk_of (shape (stand_of a)) c)) (hash_answer (set_call (stand_of a) c v).state (chunk_of (shape (stand_of a)) c))
      × Apart (digest_answer (stand_of a)) (digest_answer (set_call (stand_of a) c v).state)
  set_shows =
      let t = (set_call (stand_of a) c v).state in
      let o = set-one-off (stand_of a) (by_calls-good a).sound c v e in (
        subst (λ (g : Shape). Apart (hash_answer (stand_of a) (chunk_of (shape (stand_of a)) c)) (hash_answer t (chunk_of g c))) (sym (same (stand_of a) t (by_calls-good a) after_good c o))
            (hash-apart (stand_of a) t (by_calls-good a) after_good c o),
        digest-apart (stand_of a) t (by_calls-good a) after_good c o,
      )

pub digests : Digests
digests =
    record {
      hash_shows = λ a b c o. hash-apart (stand_of a) (stand_of b) (by_calls-good a) (by_calls-good b) c o;
      digest_shows = λ a b c o. digest-apart (stand_of a) (stand_of b) (by_calls-good a) (by_calls-good b) c o;
      hash-same = λ a b i p r h. hash-alike (stand_of a) (stand_of b) (by_calls-good a) (by_calls-good b) i p r h;
      others_same = λ a b c o. others-alike (stand_of a) (stand_of b) (by_calls-good a) (by_calls-good b) c o;
      digest-same = λ a b o. digest-alike (stand_of a) (stand_of b) (by_calls-good a) (by_calls-good b) o;
      set-off = λ a c v l e. (set-reached a c v l, set-one-off (stand_of a) (by_calls-good a).sound c v e);
      set_shows = set_shows;
      any_list = any_list;
      any_calls = any_calls;
      typed-set = λ c v l. l;
      typed-fill = λ c d v l. l;
      typed_else = typed_else;
      any_off = λ s t c p r i d e. record { origin = p; size = r; there = i; differ = d; else_same = e };
    }
