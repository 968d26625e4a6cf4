-- What bytes say lies in its type's range.
use Rattle.std.specs.Prelude.{Some, None, Option}
use mathlib.Core.Bool.{Bool, true, false, cond}
use mathlib.Core.List.{List, [], ◌∷◌}
use Prim.Native.Nat.{ℕ, zero, suc, ◌+◌}
use lib.Dec.{eqb}
use lib.ListN.{drop}
use Rattle.stand.specs.Shape.{Ranged}
use Rattle.arith.specs.Bytes.{Bytes, byte_at, signed_at, word_at}
use Rattle.arith.proofs.bytes.Laws.{signed_fits, word_lt}
use Rattle.interpreter.specs.Decode.{call_of, cell_at, decode_of, whole}
use Rattle.interpreter.specs.declared.Call.{Call}
use Rattle.scripts.specs.Quotes.{Typed}

-- ---- bytes

pub drop-bytes : (n : ℕ) (b : List ℕ) → Bytes b → Bytes (drop n b)
drop-bytes zero b w = w
drop-bytes (suc n) [] w = w
drop-bytes (suc n) (x ∷ b) w = drop-bytes n b (λ i. w (suc i))

cell-ranged : (b : List ℕ) → Bytes b → (at : ℕ) → Ranged (cell_at b at)
unfolding cell_at signed_at
cell-ranged b w at =
    record { x = signed_fits (word_at b at) (word_lt b w at); y = signed_fits (word_at b (at + 4)) (word_lt b w (at + 4)); z = signed_fits (word_at b (at + 8)) (word_lt b w (at + 8)) }

-- ---- calls

either : (t : Bool) (c d : Call) → Typed c → Typed d → Typed (cond t c d)
either true c d p q = p
either false c d p q = q

abbrev pub TypedIn : Option Call → Type 0
TypedIn (Some call) = Typed call
TypedIn None = Unit {0}

call-typed : (kind : ℕ) (b : List ℕ) → Bytes b → Typed (call_of kind b)
unfolding call_of Typed
call-typed kind b w =
    either (eqb kind 1) _ _ (cell-ranged b w 1)
    (either (eqb kind 2) _ _ tt (either (eqb kind 3) _ _ tt (either (eqb kind 4) _ _ tt (either (eqb kind 5) _ _ tt tt))))

pub decode_typed : (b : List ℕ) → Bytes b → TypedIn (decode_of b)
unfolding decode_of
decode_typed b w = by (whole b)
  where
    by : (t : Bool) → TypedIn (cond t (Some (call_of (byte_at b 0) b)) None)
    by true = call-typed (byte_at b 0) b w
    by false = tt
