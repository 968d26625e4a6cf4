-- Laws of a whole walk: one step at a time, its sections written to a list.
use Rattle.std.proofs.Common.{◌≡◌, ℕ, zero, suc, ◌+◌, ◌-◌, ◌<◌, ◌≤◌, List, [], ◌∷◌, length, set, Result, Ok, Err, Option, Some, None, sym, refl, ap, ◌∙◌, subst, arith}
use Rattle.std.specs.Result.{IsErrAnd, result_unwrap_or}
use Rattle.stand.specs.Answer.{answer_of, refusal_number}
use Rattle.stand.specs.Lent.{step_answer}
use Rattle.stand.specs.Feed.{Next, changed_step, chunk, end, feed_refusal, next_after, next_from, sections_since, walk, walked, written_from}
use Rattle.stand.specs.Refusal.{Answer, gives, refused}
use Rattle.stand.specs.Shape.{sections, shape_of}
use Rattle.stand.specs.declared.volume.Volume.{Volume}
use Rattle.stand.specs.declared.volume.feed.Changed.{Changed}
use Rattle.stand.specs.declared.volume.refusal.Refusal.{Refusal}
use Rattle.stand.proofs.Feed.{fed, in_reach, walk-chunk, walk_end, walk-short}
use Rattle.stand.proofs.Refusal.{exit_is, given_by, refused_by, some_number}

-- a place past the end is no place
pub set_past : (xs : List ℕ) (i x : ℕ) → length xs ≤ i → set xs i x ≡ xs
set_past [] i x h = refl
set_past (y ∷ xs) zero x h = absurd (omega arith)
set_past (y ∷ xs) (suc i) x h = ap (λ (zs : List ℕ). y ∷ zs) (set_past xs i x (omega arith))

written_one : (i c : ℕ) (cs out : List ℕ) → written_from (i + 1) cs (set out i c) ≡ written_from i (c ∷ cs) out
unfolding written_from
written_one i c cs out = refl

written_none : (i : ℕ) (out : List ℕ) → written_from i [] out ≡ out
unfolding written_from
written_none i out = refl

-- what the call comes to: an exit by a refusal, and a whole walk
pub walk_exits : {n : ℕ} (e : Refusal) (r : Result ℕ Refusal) (cs out : List ℕ) → IsErrAnd r (λ f. f ≡ e) → refusal_number e ≡ n → (answer_of r, out) ≡ walked n cs out
walk_exits e r cs out x d = (λ i. (answer_of (exit_is e r x i), out)) ∙ back (refusal_number e) (some_number e) ∙ ap (λ (n : ℕ). walked n cs out) d
  where
    back : (n : ℕ) → (n ≡ 0 → ⊥) → (refused n, out) ≡ walked n cs out
    back zero h = absurd (h refl)
    back (suc n) h = unfold walked in refl

pub walked_so : {n : ℕ} {m : ℕ} {zs : List ℕ} (cs out : List ℕ) → n ≡ 0 → m ≡ length cs → zs ≡ written_from 0 cs out → (gives m, zs) ≡ walked n cs out
unfolding walked
walked_so cs out e f g = rw (e, f, g)

module _ (v : Volume) (log last : List ℕ) where
  abbrev from : ℕ → List ℕ
  from = sections_since v log last

  -- what the answer of a step says of the search
  answers : (j : ℕ) (x : Next) → gives x ≡ changed_step v log last j → x ≡ next_from (sections (shape_of v)) log last j (v.generation - j)
  unfolding changed_step
  answers j x e = (given_by _ _ x e).1

  refuses : (j m : ℕ) → refused m ≡ changed_step v log last j → feed_refusal v (length log) (length last) j ≡ 0 → ⊥
  unfolding changed_step
  refuses j m e = (refused_by _ m _ e).0

  -- a walk from the mark into the list out that stands at generation j, with i sections written and zs the list
  pub record UnderWay (mark : ℕ) (out : List ℕ) (j i : ℕ) (zs : List ℕ) : Type 0 where
    pub taken : feed_refusal v (length log) (length last) j ≡ 0
    pub count : i + length (from j) ≡ length (from mark)
    pub list : written_from i (from j) zs ≡ written_from 0 (from mark) out

  pub sets_out : (mark j : ℕ) (out : List ℕ) → feed_refusal v (length log) (length last) mark ≡ 0 → j ≡ mark → UnderWay mark out j 0 out
  sets_out mark j out e p = rw p (record { taken = e; count = omega arith; list = refl })

  module _ {mark : ℕ} {out : List ℕ} {j i : ℕ} {zs : List ℕ} (w : UnderWay mark out j i zs) where
    -- a step that gives section c by generation g: the walk goes on, nearer to its end
    pub record GoesOn (c g : ℕ) : Type 0 where
      pub on : UnderWay mark out g (i + 1) (set zs i c)
      pub nearer : v.generation - g < v.generation - j
      pub below : i + 1 ≤ v.generation

    pub goes_on : (c g : ℕ) → gives (chunk c g) ≡ changed_step v log last j → GoesOn c g
    goes_on c g e =
        let s = walk-chunk (sections (shape_of v)) log last (v.generation - j) j c g (sym (answers j (chunk c g) e)) in
        let f = fed v (length log) (length last) j w.taken in
        let left : (v.generation - j) - (g - j) ≡ v.generation - g = omega (arith, s.after) in
        let rest : from j ≡ c ∷ from g = s.rest ∙ ap (λ (k : ℕ). c ∷ walk (sections (shape_of v)) log last g k) left in
        let n : length (from j) ≡ suc (length (from g)) = ap length rest in
        record {
          on = record {
            taken = in_reach v (length log) (length last) g f.formed (sections (shape_of v)) refl f.log_is f.last-is (omega (arith, s.within, f.behind)) (omega (arith, s.after, f.near));
            count = omega (arith, w.count);
            list = written_one i c (from g) zs ∙ sym (ap (λ (cs : List ℕ). written_from i cs zs) rest) ∙ w.list;
          };
          nearer = omega (arith, s.after, s.within, f.behind);
          below = omega (arith, w.count, walk-short (sections (shape_of v)) log last (v.generation - mark) mark);
        }

    -- a step that gives none: all is written
    pub ends_there : (a : Answer Next) → a ≡ changed_step v log last j → ((c g : ℕ) → a ≡ gives (chunk c g) → ⊥) → (i ≡ length (from mark)) × (zs ≡ written_from 0 (from mark) out)
    ends_there (gives (chunk c g)) e h = absurd (h c g refl)
    ends_there (gives end) e h =
        let none : from j ≡ [] = walk_end (sections (shape_of v)) log last (v.generation - j) j (sym (answers j end e)) in
        let n : length (from j) ≡ 0 = ap length none in
        (omega (arith, w.count), sym (written_none i zs) ∙ sym (ap (λ (cs : List ℕ). written_from i cs zs) none) ∙ w.list)
    ends_there (refused m) e h = absurd (refuses j m e w.taken)

    -- ---- the same of the code's step, over lists that are those

    by_none : (r : Result (Option Changed) Refusal) → step_answer r ≡ changed_step v log last j → None ≡ result_unwrap_or r None → (i ≡ length (from mark)) × (zs ≡ written_from 0 (from mark) out)
    by_none (Ok (Some x)) e h = absurd (cc)
    by_none (Ok None) e h = ends_there (gives end) e (λ c g q. absurd (cc))
    by_none (Err m) e h = ends_there (refused (refusal_number m)) e (λ c g q. absurd (cc))

    by_some : (d : Changed) (r : Result (Option Changed) Refusal) → step_answer r ≡ changed_step v log last j → Some d ≡ result_unwrap_or r None → GoesOn d.chunk (next_after (step_answer r) j)
    by_some d (Ok (Some x)) e h = let t : x ≡ d = cc in subst (λ (y : Changed). GoesOn y.chunk x.generation) t (goes_on x.chunk x.generation e)
    by_some d (Ok None) e h = absurd (cc)
    by_some d (Err m) e h = absurd (cc)

    module _ {xs ys : List ℕ} (r : Result (Option Changed) Refusal) (e : step_answer r ≡ changed_step v xs ys j) (p : xs ≡ log) (q : ys ≡ last) where
      module _ (h : None ≡ result_unwrap_or r None) where
        pub step_count : i ≡ length (from mark)
        step_count = (by_none r (rw (p, q) at e) h).0

        pub step_list : zs ≡ written_from 0 (from mark) out
        step_list = (by_none r (rw (p, q) at e) h).1

      module _ (d : Changed) (h : Some d ≡ result_unwrap_or r None) where
        pub step_below : i + 1 ≤ v.generation
        step_below = (by_some d r (rw (p, q) at e) h).below

        module _ (k : ℕ) (g : k ≡ next_after (step_answer r) j) where
          pub step_nearer : v.generation - k < v.generation - j
          step_nearer = rw g (by_some d r (rw (p, q) at e) h).nearer

          pub step_on : (ws : List ℕ) → ws ≡ set zs i d.chunk → UnderWay mark out k (i + 1) ws
          step_on ws f = rw (g, f) (by_some d r (rw (p, q) at e) h).on
