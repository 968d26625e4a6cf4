-- What the claiming functions need and give, by name.
use Rattle.std.specs.Prelude.{◌≡◌, List, ℕ, ◌+◌, ◌*◌, ◌≤◌, ◌<◌, get_or, length}
use Rattle.mesh.specs.Scan.{run_len, rows_len, clear_run, clear_rect, place, rect_at, clear_of}
use Rattle.mesh.specs.declared.claim.Rect.{Rect}

pub record TakePost (m m' : List ℕ) (at most r : ℕ) : Type 0 where
  pub run : r ≡ run_len m at most (get_or m at 0)
  pub mask : m' ≡ clear_run m at r
  pub low : 1 ≤ r
  pub high : r ≤ most

-- `most` rows of `run` slots, w apart, the first from `at` on, in a mask of `len` slots
pub record RowsPre (len w at run most : ℕ) : Type 0 where
  pub narrow : run ≤ w
  pub room : (j : ℕ) → j < most → at + j * w + run ≤ len

pub record RowsPost (m m' : List ℕ) (w at run most x r : ℕ) : Type 0 where
  pub rows : r ≡ rows_len m w at run most x
  pub mask : m' ≡ clear_rect m w at run r
  pub high : r ≤ most

-- the mask has h rows of w slots, and its slot (u, v), at `at`, is not 0
pub record ClaimPre (m : List ℕ) (w h u v at : ℕ) : Type 0 where
  pub whole : h * w ≤ length m
  pub first : u < w
  pub second : v < h
  pub here : at ≡ place w u v
  pub seen : get_or m at 0 ≡ 0 → ⊥

-- the rectangle claimed from (u, v), which is 0 in the mask afterwards
pub record ClaimPost (m m' : List ℕ) (w h u v : ℕ) (r : Rect) : Type 0 where
  pub rect : r ≡ rect_at w h m u v
  pub mask : m' ≡ clear_of w m r
  pub some-run : 1 ≤ r.run
  pub some-rows : 1 ≤ r.rows
  pub wide : u + r.run ≤ w
  pub high : v + r.rows ≤ h

-- q is `from` at least and n at most, and the slots from `from` on, below q, are 0
pub record Blank (m : List ℕ) (from n q : ℕ) : Type 0 where
  pub low : from ≤ q
  pub high : q ≤ n
  pub passed : (i : ℕ) → from ≤ i → i < q → get_or m i 0 ≡ 0

-- q is the first from `from` on, below n, that is not 0; n, or `from` where that is no less, if there is none
pub record NextSeen (m : List ℕ) (from n q : ℕ) : Type 0 where
  pub low : from ≤ q
  pub high : from ≤ n → q ≤ n
  pub past : n ≤ from → q ≡ from
  pub passed : (i : ℕ) → from ≤ i → i < q → get_or m i 0 ≡ 0
  pub seen : q < n → get_or m q 0 ≡ 0 → ⊥
