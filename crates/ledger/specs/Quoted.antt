-- Document 01's example, the same stand loaded (document 02, 2.2), and the sheet's refusals, by evaluation of the definitions that the
-- contracts cite.
use Rattle.std.specs.Prelude.{ℕ, zero, suc, ◌-◌, ◌≡◌, true, List, [], ◌∷◌, ◌++◌, replicate}
use Rattle.stand.specs.Opening.{opened_shape}
use Rattle.stand.specs.Refusal as R
use Rattle.stand.specs.Refusal.{Answer, gives}
use Rattle.stand.specs.Storage.{fresh_state}
use Rattle.stand.specs.declared.volume.Volume.{Volume}
use Rattle.arith.specs.Bytes.{Bytes}
use Rattle.sheet.specs.Calls.{Verdict, open_call, refresh_call, refused, totals_call}
use Rattle.sheet.specs.Card.{Terms, terms_of}
use Rattle.sheet.specs.declared.Row.{Row}
use Rattle.ledger.specs.Calls.{Call, Four, Op, own, run}
use Rattle.ledger.specs.Trestles.{cell, extent, seventeen}

-- a rate that is not set
abbrev pub unset : ℕ
unset = 4294967295

-- finish 3 at a rate, a cut, outside empty
abbrev pub card_of : ℕ → ℕ → Terms
card_of rate cut = terms_of (unset ∷ unset ∷ unset ∷ rate ∷ []) cut true

abbrev pub card : Terms
card = card_of 100 50

-- a mask of n slots
abbrev pub mask_of : ℕ → List ℕ
mask_of n = replicate n 9

abbrev pub row_is : ℕ → ℕ → ℕ → Row
row_is panels faces cents = record { panels = panels; faces = faces; cents = cents }

-- ---- document 01's example, on a sheet and a mark of any contents

-- a stand of this many cells along x, just opened
abbrev pub row_of_cells : ℕ → ℕ → List ℕ → Four
row_of_cells n mark sheet = record { state = fresh_state (opened_shape (cell 0 0 0) (extent n 1 1)); marks = record { sheet = mark }; sheet = sheet }

-- 17 cells, mark and sheet holding anything
abbrev pub seventeen_at : ℕ → ℕ → ℕ → ℕ → ℕ → ℕ → ℕ → Four
seventeen_at k a b c d e f = row_of_cells 17 k (a ∷ b ∷ c ∷ d ∷ e ∷ f ∷ [])

-- filled with 3, and the sheet opened
abbrev pub filling : List Call
filling = own (Op.fill (cell 0 0 0) (cell 16 0 0) 3) ∷ own (Op.open_sheet card (mask_of 16)) ∷ []

-- the last cell emptied, and the sheet refreshed
abbrev pub emptying : List Call
emptying = own (Op.set (cell 16 0 0) 0) ∷ own (Op.refresh card (mask_of 16)) ∷ []

abbrev pub totals_of : Four → Answer Row
totals_of s = totals_call s.state.volume s.sheet

abbrev pub generation_of : Four → ℕ
generation_of s = s.state.volume.generation

-- ---- the 17 cells filled, kept in a file

-- the record of a cell with finish 3
abbrev pub cube_at : ℕ → ℕ → List ℕ
cube_at section within = 2 ∷ section ∷ 0 ∷ within ∷ 0 ∷ 3 ∷ 0 ∷ []

-- those of the first n cells of section 0, then the bytes after them
abbrev pub cubes_then : ℕ → List ℕ → List ℕ
cubes_then zero after = after
cubes_then (suc n) after = cubes_then n (cube_at 0 n ++ after)

-- 153 bytes; the digest, 7cdfea8f8bc6ee80, was worked out by a program of its own, not by these definitions
abbrev pub cubes : List ℕ
cubes =
    (1 ∷ 0 ∷ 0 ∷ 0 ∷ 0 ∷ 0 ∷ 0 ∷ 0 ∷ 0 ∷ 0 ∷ 0 ∷ 0 ∷ 0 ∷ 17 ∷ 0 ∷ 0 ∷ 0 ∷ 1 ∷ 0 ∷ 0 ∷ 0 ∷ 1 ∷ 0 ∷ 0 ∷ 0 ∷ [])
    ++ cubes_then 16 (cube_at 1 0 ++ (0 ∷ 0x80 ∷ 0xee ∷ 0xc6 ∷ 0x8b ∷ 0x8f ∷ 0xea ∷ 0xdf ∷ 0x7c ∷ []))

-- loaded, and the sheet opened
abbrev pub loading : Bytes cubes → List Call
loading w = own (Op.load_stand (record { bytes = cubes; typed = w })) ∷ own (Op.open_sheet card (mask_of 16)) ∷ []

-- ---- the sheet's refusals, on the 17 cells filled

abbrev pub opening : Terms → Volume → ℕ → List ℕ → Verdict
opening t v mask sheet = (open_call t v seventeen.cells (record { sheet = 0 }) (mask_of mask) sheet).verdict

abbrev pub refreshing : Terms → ℕ → ℕ → Verdict
refreshing t mark mask =
    (refresh_call t seventeen.volume seventeen.cells seventeen.log seventeen.last (record { sheet = mark }) (mask_of mask) (replicate 6 0)).verdict

-- a header that opening would not give: 17 cells in one section
abbrev pub misfit : Volume
misfit = record { origin = cell 0 0 0; chunks = extent 1 1 1; size = extent 17 1 1; generation = 0; solid = 0 }

-- ---- three sections: an edit, and a refresh from mark 0

-- 33 cells, the sheet holding anything
abbrev pub thirty_three : ℕ → ℕ → ℕ → ℕ → ℕ → ℕ → ℕ → ℕ → ℕ → Four
thirty_three a b c d e f g h i = row_of_cells 33 0 (a ∷ b ∷ c ∷ d ∷ e ∷ f ∷ g ∷ h ∷ i ∷ [])

abbrev pub then_refresh : Op → List Call
then_refresh o = own o ∷ own (Op.refresh card (mask_of 16)) ∷ []

-- so many cells of the first section filled, one change each
abbrev pub filling_first : ℕ → List Call
filling_first n = then_refresh (Op.fill (cell 0 0 0) (cell (n - 1) 0 0) 3)

-- ---- what holds

-- what the trial program's example prints
pub record Printed (k a b c d e f : ℕ) : Type 0 where
  pub filled : totals_of (run (seventeen_at k a b c d e f) filling) ≡ gives (row_is 10 70 7500)
  pub filled_at : generation_of (run (seventeen_at k a b c d e f) filling) ≡ 17
  pub emptied : totals_of (run (run (seventeen_at k a b c d e f) filling) emptying) ≡ gives (row_is 6 66 6900)
  pub emptied-at : generation_of (run (run (seventeen_at k a b c d e f) filling) emptying) ≡ 18

-- the stand loaded has the sums of the stand filled, at generation 0, and so after the edit, at generation 1
pub record Loaded (w : Bytes cubes) (k a b c d e f : ℕ) : Type 0 where
  pub loaded : totals_of (run (seventeen_at k a b c d e f) (loading w)) ≡ gives (row_is 10 70 7500)
  pub loaded_at : generation_of (run (seventeen_at k a b c d e f) (loading w)) ≡ 0
  pub emptied : totals_of (run (run (seventeen_at k a b c d e f) (loading w)) emptying) ≡ gives (row_is 6 66 6900)
  pub emptied-at : generation_of (run (run (seventeen_at k a b c d e f) (loading w)) emptying) ≡ 1

pub record Refusals : Type 0 where
  -- 3: a header that opening would not give
  pub three : opening card misfit 16 (replicate 6 0) ≡ refused 3
  -- 4: a sheet too short
  pub four : opening card seventeen.volume 16 (replicate 5 0) ≡ refused 4
  pub four-totals : totals_call seventeen.volume (replicate 5 0) ≡ R.refused 4
  -- 8: a mark above the generation
  pub eight : refreshing card 18 16 ≡ refused 8
  -- 10: a mask too short
  pub ten : opening card seventeen.volume 15 (replicate 6 0) ≡ refused 10
  pub ten-refresh : refreshing card 16 15 ≡ refused 10
  -- 12: a finish off the list, a rate above the limit, a cut above it where nothing is measured
  pub twelve_list : opening (terms_of (0 ∷ 0 ∷ 0 ∷ []) 50 true) seventeen.volume 16 (replicate 6 0) ≡ refused 12
  pub twelve_rate : opening (card_of 1000001 50) seventeen.volume 16 (replicate 6 0) ≡ refused 12
  pub twelve_cut : refreshing (card_of 100 1000001) 17 0 ≡ refused 12
  -- 13: a row above the most panels, faces or cents, and none at the most
  pub thirteen_panels : totals_call seventeen.volume (0 ∷ 0 ∷ 0 ∷ 24577 ∷ 0 ∷ 0 ∷ []) ≡ R.refused 13
  pub thirteen_faces : totals_call seventeen.volume (0 ∷ 0 ∷ 0 ∷ 0 ∷ 24577 ∷ 0 ∷ []) ≡ R.refused 13
  pub thirteen_cents : totals_call seventeen.volume (0 ∷ 0 ∷ 0 ∷ 0 ∷ 0 ∷ 49152000001 ∷ []) ≡ R.refused 13
  pub thirteen_not : totals_call seventeen.volume (0 ∷ 0 ∷ 0 ∷ 24576 ∷ 24576 ∷ 49152000000 ∷ []) ≡ gives (row_is 24576 24576 49152000000)

-- the sheet of three sections after a refresh: the row far from the change keeps
pub record Far (a b c d e f g h i : ℕ) : Type 0 where
  pub one : (run (thirty_three a b c d e f g h i) (then_refresh (Op.set (cell 0 0 0) 3))).sheet ≡ 6 ∷ 6 ∷ 900 ∷ 0 ∷ 0 ∷ 0 ∷ g ∷ h ∷ i ∷ []
  -- after a lag equal to the section count too
  pub lag_equal : (run (thirty_three a b c d e f g h i) (filling_first 3)).sheet ≡ 6 ∷ 14 ∷ 1700 ∷ 0 ∷ 0 ∷ 0 ∷ g ∷ h ∷ i ∷ []

pub record Quoted : Type 0 where
  pub printed : (k a b c d e f : ℕ) → Printed k a b c d e f
  pub cubes-typed : Bytes cubes
  pub loaded : (w : Bytes cubes) (k a b c d e f : ℕ) → Loaded w k a b c d e f
  pub refusals : Refusals
  pub far : (a b c d e f g h i : ℕ) → Far a b c d e f g h i
  -- after a lag above the section count all are measured
  pub lag_above : (a b c d e f g h i : ℕ) → (run (thirty_three a b c d e f g h i) (filling_first 4)).sheet ≡ 6 ∷ 18 ∷ 2100 ∷ 0 ∷ 0 ∷ 0 ∷ 0 ∷ 0 ∷ 0 ∷ []
