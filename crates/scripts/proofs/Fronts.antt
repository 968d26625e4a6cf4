-- The first sections of the lists: lent and given back, they are the lists again.
use mathlib.Core.Path.{◌≡◌, subst, sym, ◌∙◌}
use mathlib.Core.List.{List, ◌++◌}
use Prim.Native.Nat.{ℕ, ◌*◌, ◌≤◌}
use native.Mathlib.Omega.{arith}
use lib.ListN.{drop, length, take, take-append-drop}
use lib.Seq.{length_front, length-take-le, take-append_seam}
use Rattle.stand.specs.Storage.{Storage, lengths_of, storage_of}
use Rattle.stand.proofs.Storage.{Fitting}
use Rattle.interpreter.specs.Run.{back, front}

-- ---- one list

-- what is left of a part that came back before the others
pub part_back : (n : ℕ) (xs ys : List ℕ) → length xs ≡ n → take n (xs ++ ys) ≡ xs
part_back n xs ys e = subst (λ k. take k (xs ++ ys) ≡ xs) e (take-append_seam xs ys)

pub length_back : (n k : ℕ) (xs ys : List ℕ) → length xs ≡ n → n ≤ k → length ys ≡ k → length (xs ++ drop n ys) ≡ k
length_back n k xs ys e h l = length_front ys xs n (e ∙ sym (length-take-le n ys (omega arith))) ∙ l

-- ---- storage

-- the lengths of the program's lists
pub record Full (s : Storage) : Type 0 where
  pub cells : length s.cells ≡ 16384
  pub hashes : length s.hashes ≡ 4
  pub versions : length s.versions ≡ 4
  pub log : length s.log ≡ 4
  pub last : length s.last ≡ 4

-- what was lent and left comes back
pub back-front : (n : ℕ) (s : Storage) → back n (front n s) s ≡ s
back-front n s =
    λ i.
    storage_of (take-append-drop (n * 4096) s.cells i) (take-append-drop n s.hashes i) (take-append-drop n s.versions i)
    (take-append-drop n s.log i) (take-append-drop n s.last i)

module _ (n : ℕ) (t s : Storage) (f : Fitting n (lengths_of t)) where
  pub front-back : front n (back n t s) ≡ t
  front-back =
      λ i.
      storage_of (part_back (n * 4096) t.cells (drop (n * 4096) s.cells) f.cells i)
      (part_back n t.hashes (drop n s.hashes) f.hashes i)
      (part_back n t.versions (drop n s.versions) f.versions i)
      (part_back n t.log (drop n s.log) f.log i)
      (part_back n t.last (drop n s.last) f.last i)

  pub full_back : n ≤ 4 → Full s → Full (back n t s)
  full_back h u =
      record {
        cells = length_back (n * 4096) 16384 t.cells s.cells f.cells (omega arith) u.cells;
        hashes = length_back n 4 t.hashes s.hashes f.hashes h u.hashes;
        versions = length_back n 4 t.versions s.versions f.versions h u.versions;
        log = length_back n 4 t.log s.log f.log h u.log;
        last = length_back n 4 t.last s.last f.last h u.last;
      }

-- n sections of full storage fit n
pub front_fits : (n : ℕ) (s : Storage) → n ≤ 4 → Full s → Fitting n (lengths_of (front n s))
front_fits n s h u =
    record {
      cells = length-take-le (n * 4096) s.cells (omega (arith, u.cells));
      hashes = length-take-le n s.hashes (omega (arith, u.hashes));
      versions = length-take-le n s.versions (omega (arith, u.versions));
      log = length-take-le n s.log (omega (arith, u.log));
      last = length-take-le n s.last (omega (arith, u.last));
    }
