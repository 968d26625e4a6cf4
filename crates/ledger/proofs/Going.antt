-- How every list goes on so that the claim speaks of it.
use mathlib.Core.Path.{◌≡◌, refl, sym, ap, ◌∙◌, subst}
use mathlib.Core.Bool.{true}
use mathlib.Core.List.{List, [], ◌∷◌, ◌++◌, map}
use mathlib.Core.Option.{Option}
use Prim.Native.Nat.{ℕ, ◌*◌, ◌≤◌, ◌<◌}
use native.Mathlib.Omega.{arith}
use lib.ListN.{length}
use Rattle.stand.specs.Shape.{sections}
use Rattle.stand.specs.declared.Cell.{Cell}
use Rattle.mesh.specs.Cover.{Each}
use Rattle.sheet.specs.Card.{Terms, limit, payable}
use Rattle.sheet.specs.declared.Marks.{Marks}
use Rattle.ledger.specs.Book.{source_book}
use Rattle.ledger.specs.Breadth.{AllPay, Later, CanOpen, GoesOn, Pays, later, opening, sets}
use Rattle.ledger.specs.Calls.{Call, Four, Op, accepted, book, feed, or_else, own, run, step, write}
use Rattle.ledger.specs.Claim.{All, Keeps, Lent, Priced, Spared, Start, book_after, four_after}
use Rattle.ledger.proofs.Claimed.{after_append, append-all, shows_later, tells_after, written-append}
use Rattle.ledger.proofs.Enough.{Paid, open_accepted, refresh-accepted}
use Rattle.ledger.proofs.Kept.{tells_step}
use Rattle.ledger.proofs.Measured.{mark_count}
use Rattle.ledger.proofs.Sheeted.{open_measures}
use Rattle.ledger.proofs.Tells.{Tells}
use Rattle.ledger.proofs.Following.{Beside, Still, later-all, own-lent, sets-all, sets-marks, sets_still}
use Rattle.ledger.proofs.Finishes.{AllRated, book-rated, source-rated}

-- ---- a sheet opened on another list, calls that keep to its terms, and a refresh

module _ (a : Start) (xs : List Call) (w : All Lent (four_after a []) xs) (t : Terms) (l : Option (List ℕ)) (m m' : List ℕ)
    (room : 256 ≤ length m) (room' : 256 ≤ length m') (cut : t.cut ≤ limit) (len : length (or_else l (four_after a xs).sheet) ≡ sections (book_after a xs).shape * 3)
    (paid : Paid t (book_after a xs).shape (book_after a xs).look) where
  abbrev sheet_opening : Call
  sheet_opening = opening t l m

  abbrev last : Call
  last = own (Op.refresh t m')

  abbrev mid : Four
  mid = step (four_after a xs) sheet_opening

  opening-accepted : accepted (four_after a xs) sheet_opening ≡ true
  opening-accepted = open_accepted (four_after a xs) (book_after a xs) (tells_after a xs w) t m (record { mask = room; cut = cut; paid = paid }) l len

  opening-lent : Lent (four_after a xs) sheet_opening
  unfolding Lent
  opening-lent = tt

  module _ (ys : List Call) (lent : All Lent mid ys) (keeps : All (Keeps t) mid ys) where
    abbrev calls : List Call
    calls = xs ++ (sheet_opening ∷ ys)

    module _ (after : Paid t (book_after a calls).shape (book_after a calls).look) where
      all-lent : All Lent (four_after a []) calls
      unfolding four_after run All
      all-lent = append-all Lent (step a.four a.first) xs (sheet_opening ∷ ys) w (opening-lent, lent)

      all-keeps : All (Keeps t) (four_after a (xs ++ (sheet_opening ∷ []))) ys
      unfolding run
      all-keeps = subst (λ (s : Four). All (Keeps t) s ys) (sym (after_append a xs (sheet_opening ∷ []))) keeps

      refreshed : accepted (four_after a calls) last ≡ true
      refreshed =
          let h = shows_later a t m xs sheet_opening ys all-lent refl opening-accepted all-keeps in
          refresh-accepted (four_after a calls) (book_after a calls) (tells_after a calls all-lent) t m' (record { mask = room'; cut = cut; paid = after }) h.length-is h.mark_le

      last-lent : All Lent (four_after a calls) (last ∷ [])
      unfolding All
      last-lent = (own-lent (four_after a calls) (Op.refresh t m'), tt)

      lent_too : All Lent (four_after a []) (calls ++ (last ∷ []))
      unfolding four_after run
      lent_too = append-all Lent (step a.four a.first) calls (last ∷ []) all-lent last-lent

      pub priced_so : Priced a xs sheet_opening ys last t
      priced_so =
          record {
            lent = lent_too;
            mask = m;
            opens = refl;
            opened = opening-accepted;
            keeps = all-keeps;
            last_mask = m';
            refreshes = refl;
            refreshed = refreshed;
          }

  -- ---- and rows that keep, where cells have been set since

  module _ (cs : List Cell) (v : ℕ) (after : Paid t (book_after a (xs ++ (sheet_opening ∷ sets cs v))).shape (book_after a (xs ++ (sheet_opening ∷ sets cs v))).look) where
    abbrev setting : List Call
    setting = xs ++ (sheet_opening ∷ sets cs v)

    mark_is : (four_after a setting).marks.sheet ≡ (book_after a xs).count
    unfolding run
    mark_is =
        ap (λ (s : Four). s.marks.sheet) (after_append a xs (sheet_opening ∷ sets cs v))
        ∙ ap (λ (k : Marks). k.sheet) (sets-marks mid cs v)
        ∙ mark_count (tells_after a xs w) (open_measures (four_after a xs) t m sheet_opening refl opening-lent opening-accepted)

    book-is : book_after a setting ≡ book (book_after a xs) (feed mid (sets cs v))
    unfolding book feed write
    book-is = written-append a xs (sheet_opening ∷ sets cs v)

    still : (i : ℕ) → Each (Beside (book_after a xs).count i v (book_after a xs)) cs
        → Still (book_after a xs) (four_after a setting).marks.sheet i (length cs) (book_after a setting)
    still i n =
        rw (mark_is, book-is)
        (sets_still (book_after a xs).count i v cs mid (book_after a xs) (λ d e r. absurd (omega (arith, r.above, r.within))) n)

    spared_so : (i : ℕ) → i < sections (book_after a xs).shape → length cs ≤ sections (book_after a xs).shape
        → Each (Beside (book_after a xs).count i v (book_after a xs)) cs → Spared a setting last i
    spared_so i h few n =
        let q = sets-all t mid cs v in
        let r = still i n in
        let e : sections (book_after a setting).shape ≡ sections (book_after a xs).shape = ap sections r.shape_is in
        record {
          lent = lent_too (sets cs v) q.0 q.1 after;
          terms = t;
          mask = m';
          refreshes = refl;
          refreshed = refreshed (sets cs v) q.0 q.1 after;
          within = omega arith;
          clean = r.clean;
          few = omega (arith, mark_is, r.few);
        }

-- ---- how a list may go on

module _ (a : Start) (xs : List Call) (t : Terms) (l : Option (List ℕ)) (m m' : List ℕ) (h : CanOpen a xs t l m m') where
  rated : AllRated t.rates (book_after a xs)
  unfolding book_after
  rated =
      book-rated t.rates xs (step a.four a.first) (source_book a.source) h.pays.1
      (source-rated t.rates a.source (subst (Pays t.rates) a.opens h.pays.0))

  paid : Paid t (book_after a xs).shape (book_after a xs).look
  paid c i = rated c

  paid_after : (ys : List Call) → AllPay t.rates ys → Paid t (book_after a (xs ++ (opening t l m ∷ ys))).shape (book_after a (xs ++ (opening t l m ∷ ys))).look
  paid_after ys p c i =
      subst (AllRated t.rates) (sym (written-append a xs (opening t l m ∷ ys)))
      (book-rated t.rates (opening t l m ∷ ys) (four_after a xs) (book_after a xs) (tt, p) rated) c

  abbrev there : Four
  there = step (four_after a xs) (opening t l m)

  there_tells : Tells there.state (book_after a xs)
  unfolding write Lent
  there_tells = tells_step (four_after a xs) (book_after a xs) (opening t l m) tt (tells_after a xs h.lent)

  since : (ys : List Later) → AllPay t.rates (map (later t) ys) → Priced a xs (opening t l m) (map (later t) ys) (own (Op.refresh t m')) t
  since ys p =
      let q = later-all t there (book_after a xs) there_tells ys in
      priced_so a xs h.lent t l m m' h.mask h.last_mask h.cut h.length-is paid (map (later t) ys) q.0 q.1 (paid_after (map (later t) ys) p)

  sets_pay : (cs : List Cell) (v : ℕ) → payable t.rates v ≡ true → AllPay t.rates (sets cs v)
  sets_pay [] v p = tt
  sets_pay (c ∷ cs) v p = (p, sets_pay cs v p)

  pub wide : GoesOn a xs t l m m'
  wide =
      record {
        since = since;
        rows = λ cs v i p. spared_so a xs h.lent t l m m' h.mask h.last_mask h.cut h.length-is paid cs v (paid_after (sets cs v) (sets_pay cs v p)) i;
      }
