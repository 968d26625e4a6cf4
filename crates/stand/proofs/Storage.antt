-- Laws of storage: lengths that fit, and lists all 0.
use Rattle.std.proofs.Common.{◌≡◌, ℕ, ◌*◌, true, replicate, eq-eqb, eqb-true}
use Rattle.stand.specs.Storage.{Lengths, fresh_storage, storage_fits, storage_of, zeros}
use Rattle.stand.proofs.Tests.{both}

-- ---- lengths

pub record Fitting (n : ℕ) (l : Lengths) : Type 0 where
  pub cells : l.cells ≡ n * 4096
  pub hashes : l.hashes ≡ n
  pub versions : l.versions ≡ n
  pub log : l.log ≡ n
  pub last : l.last ≡ n

pub fits-apart : (n : ℕ) (l : Lengths) → storage_fits n l ≡ true → Fitting n l
unfolding storage_fits
fits-apart n l e =
    let p = both _ _ e in
    let q = both _ _ p.1 in
    let r = both _ _ q.1 in
    let s = both _ _ r.1 in
    record {
      cells = eqb-true _ _ p.0;
      hashes = eqb-true _ _ q.0;
      versions = eqb-true _ _ r.0;
      log = eqb-true _ _ s.0;
      last = eqb-true _ _ s.1;
    }

pub fits_all : (n : ℕ) (l : Lengths) → Fitting n l → storage_fits n l ≡ true
unfolding storage_fits
fits_all n l f = rw (eq-eqb _ _ f.cells, eq-eqb _ _ f.hashes, eq-eqb _ _ f.versions, eq-eqb _ _ f.log, eq-eqb _ _ f.last)

-- storage that fits is fresh once all of it is 0
pub zeros_fresh : (n : ℕ) (l : Lengths) → storage_fits n l ≡ true → zeros l ≡ fresh_storage n
unfolding zeros fresh_storage
zeros_fresh n l e =
    let f = fits-apart n l e in
    λ i. storage_of (replicate (f.cells i) 0) (replicate (f.hashes i) 0) (replicate (f.versions i) 0) (replicate (f.log i) 0) (replicate (f.last i) 0)
