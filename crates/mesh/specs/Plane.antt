-- Planes of cells laid into a mask: what a slot takes, what a fill leaves, and what it asks.
use Rattle.std.specs.Prelude.{◌≡◌, cond, List, ℕ, ◌+◌, ◌*◌, ◌^◌, ◌<◌, ◌≤◌, get_or, length, Option, Some, None}
use Rattle.stand.specs.Cells.{is_empty}
use Rattle.mesh.specs.declared.plane.Grid.{Grid}
use Rattle.mesh.specs.declared.plane.Line.{Line}

-- document 01, 'Panels': the finish of a cell whose next one is empty, else 0
unfoldable pub seen_at : List ℕ → List ℕ → ℕ → ℕ → ℕ
seen_at here next i j = cond (is_empty (get_or next j 0)) (get_or here i 0) 0

-- rows and planes of slots: `u` steps along the first axis, `v` along the second; with no next cells all show
abbrev pub row_shown : Line → Option Line → ℕ → ℕ → ℕ → ℕ
row_shown here None step u v = get_or here.cells.now (here.at + u * step) 0
row_shown here (Some next) step u v = seen_at here.cells.now next.cells.now (here.at + u * step) (next.at + u * step)

abbrev pub plane_shown : Line → Option Line → Grid → ℕ → ℕ → ℕ
plane_shown here None g u v = get_or here.cells.now (here.at + v * g.second + u * g.first) 0
plane_shown here (Some next) g u v = seen_at here.cells.now next.cells.now (here.at + v * g.second + u * g.first) (next.at + v * g.second + u * g.first)

-- h rows of w slots, `pitch` apart, the first from `to` on, hold f; all other slots are kept
pub record Laid (m m' : List ℕ) (to pitch w h : ℕ) (f : ℕ → ℕ → ℕ) : Type 0 where
  pub same : length m' ≡ length m
  pub laid : (u v : ℕ) → u < w → v < h → get_or m' (to + v * pitch + u) 0 ≡ f u v
  pub kept : (q : ℕ) → ((u v : ℕ) → u < w → v < h → q ≡ to + v * pitch + u → ⊥) → get_or m' q 0 ≡ get_or m q 0

-- an answer of 0 says that nothing is visible
abbrev pub Quiet : ℕ → ℕ → ℕ → (ℕ → ℕ → ℕ) → Type 0
Quiet r w h f = r ≡ 0 → (u v : ℕ) → u < w → v < h → f u v ≡ 0

pub record Filled (m m' : List ℕ) (r to pitch w h : ℕ) (f : ℕ → ℕ → ℕ) : Type 0 where
  pub mask : Laid m m' to pitch w h f
  pub quiet : Quiet r w h f

-- a row is a fill of one row, for which no pitch counts
abbrev pub FilledRow : List ℕ → List ℕ → ℕ → ℕ → ℕ → (ℕ → ℕ → ℕ) → Type 0
FilledRow m m' r to w f = Filled m m' r to 0 w 1 f

-- sixteen slots, seen apart from the mask
pub record Sixteen (here next : Line) (row : List ℕ) : Type 0 where
  pub seen : (u : ℕ) → u < 16 → get_or row u 0 ≡ seen_at here.cells.now next.cells.now (here.at + u) (next.at + u)

-- what a closure answers at each of w slots, by the cells up to it, is f of the slot
abbrev pub Shows : (ℕ → ℕ → Type 0) → ℕ → ℕ → (ℕ → ℕ) → Type 0
Shows gives w step f = (u x : ℕ) → u < w → gives (u * step) x → x ≡ f u

-- ---- what a fill asks

-- w cells of a line, `step` apart
pub record LineIn (l : Line) (step w : ℕ) : Type 0 where
  pub room : (u : ℕ) → u < w → l.at + u * step < length l.cells.now

pub record PlaneIn (l : Line) (g : Grid) : Type 0 where
  pub room : (u v : ℕ) → u < g.w → v < g.h → l.at + v * g.second + u * g.first < length l.cells.now
  pub start : (v : ℕ) → v < g.h → l.at + v * g.second < 2 ^ 64

-- the same of next cells, if there are any
abbrev pub NextIn : Option Line → ℕ → ℕ → Type 0
NextIn None step w = Unit {0}
NextIn (Some l) step w = LineIn l step w

abbrev pub NextPlaneIn : Option Line → Grid → Type 0
NextPlaneIn None g = Unit {0}
NextPlaneIn (Some l) g = PlaneIn l g

-- rows of the mask that do not meet, and end in it
pub record MaskIn (to pitch w h len : ℕ) : Type 0 where
  pub apart : w ≤ pitch
  pub room : (v : ℕ) → v < h → to + v * pitch + w ≤ len
