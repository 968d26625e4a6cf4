-- The bytes of a call: document 01, 'Trial program'.
use Rattle.std.specs.Prelude.{ℕ, ◌+◌, Bool, cond, ◌&&◌, List, eqb, ltb, leb, length, Option, Some, None}
use Rattle.arith.specs.Bytes.{byte_at, short_at, signed_at, word_at}
use Rattle.stand.specs.Extents.{extent_from}
use Rattle.stand.specs.declared.Cell.{Cell}
use Rattle.stand.specs.declared.volume.Extent.{Extent}
use Rattle.interpreter.specs.declared.Call.{Call}
use Rattle.interpreter.specs.declared.Call.TheVariants.{Open, Set, Fill, Refresh, Rate, Cut}

-- ---- three little-endian numbers, from a place on

unfoldable pub cell_at : List ℕ → ℕ → Cell
cell_at b at = record { x = signed_at b at; y = signed_at b (at + 4); z = signed_at b (at + 8) }

unfoldable pub extent_at : List ℕ → ℕ → Extent
extent_at b at = extent_from (cell_at b at)

-- ---- calls

-- the bytes of a call, its kind byte among them; 0 for an unknown kind
unfoldable pub length_of : ℕ → ℕ
length_of kind =
    cond (eqb kind 1) 25
    (cond (eqb kind 2) 15 (cond (eqb kind 3) 27 (cond (eqb kind 4) 1 (cond (eqb kind 5) 7 (cond (eqb kind 6) 5 0)))))

-- the call of a known kind
unfoldable pub call_of : ℕ → List ℕ → Call
call_of kind b =
    cond (eqb kind 1) (Open (cell_at b 1) (extent_at b 13))
    (cond (eqb kind 2) (Set (cell_at b 1) (short_at b 13))
    (cond (eqb kind 3) (Fill (cell_at b 1) (cell_at b 13) (short_at b 25))
    (cond (eqb kind 4) Refresh
    (cond (eqb kind 5) (Rate (short_at b 1) (word_at b 3)) (Cut (word_at b 1))))))

-- the kind is known and the body is not short; of no bytes the kind reads as 0, which is none
unfoldable pub whole : List ℕ → Bool
whole b = ltb 0 (length_of (byte_at b 0)) && leb (length_of (byte_at b 0)) (length b)

unfoldable pub decode_of : List ℕ → Option Call
decode_of b = cond (whole b) (Some (call_of (byte_at b 0) b)) None
