-- Laws of the changes since a mark: refusals, one turn of the search, and the walk by its steps.
use Rattle.std.proofs.Common.{◌≡◌, ℕ, zero, suc, ◌+◌, ◌-◌, ◌<◌, ◌≤◌, true, false, ◌&&◌, eqb, ltb, leb, List, [], ◌∷◌, length, get_or, sym, refl, ap, ◌∙◌, ⊎_elim, arith, ltb-false, ltb-true, le-ltb, lt-ltb, eq-eqb, eqb-true, le-leb, leb-true}
use mathlib.Core.List.Memᴰ
use mathlib.Core.List.{Memᴰ}
use borrow.Author.Tests.{eqb-false, not-false}
use Rattle.stand.specs.Feed.{changed_of, chunk, end, feed_refusal, given_at, logged, next_from, walk}
use Rattle.stand.specs.Refusal.{first}
use Rattle.stand.specs.Shape.{sections, shape_of, well_formed}
use Rattle.stand.specs.declared.volume.Volume.{Volume}
use Rattle.stand.proofs.Refusal.{passes}
use Rattle.stand.proofs.Shape.{formed-opens, sections-some}
use Rattle.stand.proofs.Tests.{both, by-test, refuted}

-- ---- refusals

-- where none applies
pub in_reach : (v : Volume) (log last mark : ℕ) → well_formed v ≡ true → (n : ℕ) → n ≡ sections (shape_of v) → log ≡ n → last ≡ n → mark ≤ v.generation → v.generation - mark ≤ n
    → feed_refusal v log last mark ≡ 0
unfolding feed_refusal first
in_reach v log last mark ok n is p q r h =
    rw (ok, ← is, eq-eqb log n p, eq-eqb last n q, le-ltb v.generation mark r, le-ltb n (v.generation - mark) h)

-- what is known there
pub record Fed (v : Volume) (log last mark : ℕ) : Type 0 where
  pub formed : well_formed v ≡ true
  pub log_is : log ≡ sections (shape_of v)
  pub last-is : last ≡ sections (shape_of v)
  pub behind : mark ≤ v.generation
  pub near : v.generation - mark ≤ sections (shape_of v)

pub fed : (v : Volume) (log last mark : ℕ) → feed_refusal v log last mark ≡ 0 → Fed v log last mark
unfolding feed_refusal
fed v log last mark e =
    let p = passes _ 2 _ e in
    let q = passes _ 3 _ p.1 in
    let r = passes _ 7 _ q.1 in
    let s = passes _ 8 _ r.1 in
    let l = both _ _ (not-false _ q.0) in
    record {
      formed = not-false _ p.0;
      log_is = eqb-true _ _ l.0;
      last-is = eqb-true _ _ l.1;
      behind = ltb-false _ _ r.0;
      near = ltb-false _ _ s.0;
    }

-- so the lists are alike, and not empty
pub fed_some : (v : Volume) (log last mark : ℕ) → Fed v log last mark → (1 ≤ log) × (last ≡ log)
fed_some v log last mark f = (rw f.log_is (sections-some (shape_of v) (formed-opens v f.formed)), f.last-is ∙ sym f.log_is)

-- ---- one generation

module _ (n : ℕ) (log last : List ℕ) where
  -- the entry for generation j + 1 is a section, and its last change is that generation
  pub record IsGiven (j : ℕ) : Type 0 where
    pub there : logged n log last j < n
    pub last-is : get_or last (logged n log last j) 0 ≡ j + 1

  pub is-given : (j : ℕ) → given_at n log last j ≡ true → IsGiven j
  unfolding given_at
  is-given j e =
      let p = both (ltb (logged n log last j) n) (eqb (get_or last (logged n log last j) 0) (j + 1)) e in
      record { there = ltb-true _ _ p.0; last-is = eqb-true _ _ p.1 }

  pub given-at : (j c : ℕ) → c ≡ logged n log last j → c < n → get_or last c 0 ≡ j + 1 → given_at n log last j ≡ true
  unfolding given_at
  given-at j c e h t = rw (← e, lt-ltb c n h) (eq-eqb (get_or last c 0) (j + 1) t)

  -- each section is given once
  pub given_once : (i j : ℕ) → given_at n log last i ≡ true → given_at n log last j ≡ true → logged n log last i ≡ logged n log last j → i ≡ j
  given_once i j p q e =
      let r : get_or last (logged n log last j) 0 ≡ i + 1 = rw e at (is-given i p).last-is in
      omega (arith, (is-given j q).last-is)

  module _ (j k : ℕ) (e : given_at n log last j ≡ true) where
    next_yes : next_from n log last j (suc k) ≡ chunk (logged n log last j) (j + 1)
    unfolding next_from
    next_yes = rw e

    walk_yes : walk n log last j (suc k) ≡ logged n log last j ∷ walk n log last (j + 1) k
    unfolding walk
    walk_yes = rw e

  module _ (j k : ℕ) (e : given_at n log last j ≡ false) where
    next_no : next_from n log last j (suc k) ≡ next_from n log last (j + 1) k
    unfolding next_from
    next_no = rw e

    walk_no : walk n log last j (suc k) ≡ walk n log last (j + 1) k
    unfolding walk
    walk_no = rw e

  -- ---- one turn of the search up to generation e, with c the entry for generation j + 1

  more : (j e : ℕ) → j < e → e - j ≡ suc (e - (j + 1))
  more j e h = omega arith

  module _ (j e c : ℕ) (left : j < e) (entry : c ≡ logged n log last j) where
    pub found : c < n → get_or last c 0 ≡ j + 1 → next_from n log last j (e - j) ≡ chunk c (j + 1)
    found h t = rw (more j e left, entry) (next_yes j (e - (j + 1)) (given-at j c entry h t))

    pub passed : (c < n → get_or last c 0 ≡ j + 1 → ⊥) → next_from n log last j (e - j) ≡ next_from n log last (j + 1) (e - (j + 1))
    passed h = rw (more j e left) (next_no j (e - (j + 1)) (sym (refuted (given_at n log last j) (λ q. let g = is-given j q in h (rw entry g.there) (rw entry g.last-is)))))

  pub ended : (j e : ℕ) → e ≤ j → next_from n log last j (e - j) ≡ end
  unfolding next_from
  ended j e h = let s : e - j ≡ 0 = omega arith in rw s

  -- ---- the walk by its steps

  no_step : (c g : ℕ) → chunk c g ≡ end → ⊥
  no_step c g e = let o : ◌≡◌ {A = ℕ} 0 1 = cc in omega arith

  -- what the next step says of the whole walk: none is left
  pub walk_end : (k j : ℕ) → next_from n log last j k ≡ end → walk n log last j k ≡ []
  walk_end zero j e = unfold walk in refl
  walk_end (suc k) j e =
      by-test (given_at n log last j)
      (λ q. absurd (no_step _ _ (sym (next_yes j k q) ∙ e)))
      (λ q. walk_no j k q ∙ walk_end k (j + 1) (sym (next_no j k q) ∙ e))

  -- or section c, by generation g
  pub record Stepped (j k c g : ℕ) : Type 0 where
    pub after : j < g
    pub within : g ≤ j + k
    pub rest : walk n log last j k ≡ c ∷ walk n log last g (k - (g - j))

  pub walk-chunk : (k j c g : ℕ) → next_from n log last j k ≡ chunk c g → Stepped j k c g
  walk-chunk zero j c g e = absurd (no_step c g (sym e ∙ unfold next_from in refl))
  walk-chunk (suc k) j c g e =
      by-test (given_at n log last j)
      (λ q.
      let s : chunk (logged n log last j) (j + 1) ≡ chunk c g = sym (next_yes j k q) ∙ e in
      let at : logged n log last j ≡ c = cc in
      let by : j + 1 ≡ g = cc in
      let left : suc k - (g - j) ≡ k = omega arith in
      record { after = omega arith; within = omega arith; rest = walk_yes j k q ∙ rw (at, by, left) })
      (λ q.
      let w = walk-chunk k (j + 1) c g (sym (next_no j k q) ∙ e) in
      let left : k - (g - (j + 1)) ≡ suc k - (g - j) = omega (arith, w.after) in
      record { after = omega (arith, w.after); within = omega (arith, w.within); rest = walk_no j k q ∙ rw (← left) w.rest })

  walk_none : (j : ℕ) → walk n log last j 0 ≡ []
  unfolding walk
  walk_none j = refl

  -- no more sections than generations
  pub walk-short : (k j : ℕ) → length (walk n log last j k) ≤ k
  walk-short zero j = rw (walk_none j) (omega arith)
  walk-short (suc k) j =
      by-test (given_at n log last j)
      (λ q. let l : length (walk n log last j (suc k)) ≡ suc (length (walk n log last (j + 1) k)) = ap length (walk_yes j k q) in omega (arith, walk-short k (j + 1)))
      (λ q. let l : length (walk n log last j (suc k)) ≡ length (walk n log last (j + 1) k) = ap length (walk_no j k q) in omega (arith, walk-short k (j + 1)))

  -- ---- which sections a walk gives

  -- section c is given by one of generations j + 1 to j + k
  pub record Given (j k c : ℕ) : Type 0 where
    pub at : ℕ
    pub from : j ≤ at
    pub upto : at < j + k
    pub given : given_at n log last at ≡ true
    pub is : c ≡ logged n log last at

  later : {j k c : ℕ} → Given (j + 1) k c → Given j (suc k) c
  later w = record { at = w.at; from = omega arith; upto = omega arith; given = w.given; is = w.is }

  sooner : {j k c : ℕ} (w : Given j (suc k) c) → (w.at ≡ j → ⊥) → Given (j + 1) k c
  sooner w h = record { at = w.at; from = omega arith; upto = omega arith; given = w.given; is = w.is }

  pub in_walk : (k j c : ℕ) → Memᴰ c (walk n log last j k) → Given j k c
  in_walk zero j c m = absurd (Memᴰ.not-nil (rw (walk_none j) at m))
  in_walk (suc k) j c m =
      by-test (given_at n log last j)
      (λ q.
      ⊎_elim
      (λ e. record { at = j; from = omega arith; upto = omega arith; given = q; is = e })
      (λ t. later (in_walk k (j + 1) c t))
      (Memᴰ.cases_cons (rw (walk_yes j k q) at m)))
      (λ q. later (in_walk k (j + 1) c (rw (walk_no j k q) at m)))

  pub walk_has : (k j c : ℕ) → Given j k c → Memᴰ c (walk n log last j k)
  walk_has zero j c w = absurd (omega arith)
  walk_has (suc k) j c w =
      by-test (eqb w.at j)
      (λ e.
      let p : w.at ≡ j = eqb-true w.at j e in
      rw (walk_yes j k (rw p at w.given)) (Memᴰ.head (rw p at w.is)))
      (λ e.
      let m = walk_has k (j + 1) c (sooner w (eqb-false w.at j e)) in
      by-test (given_at n log last j) (λ q. rw (walk_yes j k q) (Memᴰ.tail m)) (λ q. rw (walk_no j k q) m))

  -- ---- the same by the section's last change alone

  pub record Changed (mark upto c : ℕ) : Type 0 where
    pub above : mark < get_or last c 0
    pub within : get_or last c 0 ≤ upto
    pub says : logged n log last (get_or last c 0 - 1) ≡ c

  pub is-changed : (mark upto c : ℕ) → changed_of n log last mark upto c ≡ true → Changed mark upto c
  unfolding changed_of
  is-changed mark upto c e =
      let t : ℕ = get_or last c 0 in
      let p = both (ltb mark t) (leb t upto && eqb (logged n log last (t - 1)) c) e in
      let q = both (leb t upto) (eqb (logged n log last (t - 1)) c) p.1 in
      record { above = ltb-true _ _ p.0; within = leb-true _ _ q.0; says = eqb-true _ _ q.1 }

  pub changed-is : (mark upto c : ℕ) → Changed mark upto c → changed_of n log last mark upto c ≡ true
  unfolding changed_of
  changed-is mark upto c w =
      rw (lt-ltb mark (get_or last c 0) w.above, le-leb (get_or last c 0) upto w.within) (eq-eqb (logged n log last (get_or last c 0 - 1)) c w.says)

  -- a walk gives the sections that the test finds changed, and no other
  pub walk-changed : (mark k c : ℕ) → Memᴰ c (walk n log last mark k) → (c < n) × (changed_of n log last mark (mark + k) c ≡ true)
  walk-changed mark k c m =
      let w = in_walk k mark c m in
      let g = is-given w.at w.given in
      let t : get_or last c 0 ≡ w.at + 1 = ap (λ (x : ℕ). get_or last x 0) w.is ∙ g.last-is in
      let b : get_or last c 0 - 1 ≡ w.at = omega arith in
      (omega (arith, w.is, g.there), changed-is mark (mark + k) c (record { above = omega (arith, w.from); within = omega (arith, w.upto); says = rw b (sym w.is) }))

  pub changed-walk : (mark k c : ℕ) → c < n → changed_of n log last mark (mark + k) c ≡ true → Memᴰ c (walk n log last mark k)
  changed-walk mark k c h e =
      let w = is-changed mark (mark + k) c e in
      walk_has k mark c
      (record {
        at = get_or last c 0 - 1;
        from = omega (arith, w.above);
        upto = omega (arith, w.above, w.within);
        given = given-at (get_or last c 0 - 1) c (sym w.says) h (omega (arith, w.above));
        is = sym w.says;
      })
