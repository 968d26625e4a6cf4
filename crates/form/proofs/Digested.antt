-- Of a sound stand the form's digest is what the stand's own call answers.
use mathlib.Core.Path.{◌≡◌, sym, ap, ◌∙◌}
use mathlib.Core.List.{List, ◌++◌}
use Prim.Native.Nat.{ℕ, ◌*◌, ◌<◌}
use native.Mathlib.Omega.{arith}
use lib.ListN.{get_or, length-replicate, replicate}
use lib.Seq.{ext_get_or}
use Rattle.stand.specs.Hash.{digest_of, digest_start, fold_words}
use Rattle.stand.specs.Read.{digest_call}
use Rattle.stand.specs.Refusal.{gives}
use Rattle.stand.specs.Shape.{Shape, cell_from, counted, inside, sections, shape_of, spot_at}
use Rattle.stand.specs.Sound.{Sound, terms_of}
use Rattle.stand.specs.Storage.{State, shape}
use Rattle.stand.proofs.Difference as D
use Rattle.stand.proofs.Edit.{fitting-lengths}
use Rattle.stand.proofs.Kept.{Finishes, zeros}
use Rattle.stand.proofs.Opened.{shape_words_lem}
use Rattle.stand.proofs.Shape.{formed-opens}
use Rattle.stand.proofs.Tests.{by-test}
use Rattle.form.specs.Entries.{digest_with, entries_of, inside_at, kept_at, mixed, placed}
use Rattle.form.proofs.Entries.{Own, each_so, placed-length}
use Rattle.form.proofs.Loaded.{fresh-hash, mixed-length, mixed-terms}
use Rattle.form.proofs.OwnEntries.{asc_of, own_of, store-load}

module _ (s : State) (q : Sound s) (small : Finishes s.cells) where
  g : Shape
  g = shape_of s.volume

  kept-is : (j : ℕ) → kept_at (shape_of s.volume) s.cells j ≡ get_or s.cells j 0
  unfolding kept_at inside_at
  kept-is j =
      by-test (inside (shape s) (cell_from (shape s) (spot_at (counted (shape s)) j)))
      (λ e. rw e)
      (λ e. rw e (sym (q.beyond j e)))

  -- loaded again, its cells are its own
  pub cells_again : placed (entries_of (shape_of s.volume) s.cells) (replicate (sections (shape_of s.volume) * 4096) 0) ≡ s.cells
  cells_again =
      let n = sections (shape_of s.volume) * 4096 in
      let es = entries_of (shape_of s.volume) s.cells in
      let l = placed-length es (replicate n 0) ∙ length-replicate {A = ℕ} n 0 in
      ext_get_or 0 _ _ (l ∙ sym (fitting-lengths s q.fits).cells)
      (λ j h. store-load (shape_of s.volume) s.cells (formed-opens s.volume q.formed) small j (omega (arith, h, l)) ∙ kept-is j)

  pub hashes_again : mixed (entries_of (shape_of s.volume) s.cells) (replicate (sections (shape_of s.volume)) 0) ≡ s.hashes
  hashes_again =
      let n = sections (shape_of s.volume) in
      let es = entries_of (shape_of s.volume) s.cells in
      let o = formed-opens s.volume q.formed in
      let own = own_of (shape_of s.volume) s.cells o small in
      let l = mixed-length es (replicate n 0) ∙ length-replicate {A = ℕ} n 0 in
      ext_get_or 0 _ _ (l ∙ sym (fitting-lengths s q.fits).hashes)
      (λ j h.
      mixed-terms n es (replicate (n * 4096) 0) (replicate n 0) 0 (asc_of (shape_of s.volume) s.cells o small)
      (each_so (Own (shape_of s.volume)) (λ e. e.slot < n * 4096) (λ e w. w.below) es own)
      (length-replicate {A = ℕ} (n * 4096) 0) (length-replicate {A = ℕ} n 0) (λ i _. zeros (n * 4096) i)
      (λ i m. fresh-hash (shape_of s.volume) es o (asc_of (shape_of s.volume) s.cells o small) own i m) j (omega (arith, h, l))
      ∙ ap (λ (c : List ℕ). terms_of c j 4096) cells_again
      ∙ sym (q.hash j (omega (arith, h, l))))

  pub digest_again : digest_with (shape_of s.volume) (entries_of (shape_of s.volume) s.cells) ≡ digest_of s.volume s.hashes
  unfolding digest_with digest_of
  digest_again = λ i. fold_words digest_start (sym (shape_words_lem s.volume q.formed) i ++ hashes_again i)

  pub digest_told : digest_call s.volume s.hashes ≡ gives (digest_with (shape_of s.volume) (entries_of (shape_of s.volume) s.cells))
  digest_told = D.digest_told s q ∙ ap gives (sym digest_again)
