-- Signed 32-bit numbers, and what the machine reads back from their bits.
use Rattle.std.proofs.Common.{◌≡◌, ℕ, suc, ◌-◌, ◌<◌, ◌≤◌, ℤ, pos, negsuc, arith, w32, SFits, to_z, of_z, le-ltb, lt-ltb}
use lib.IntN.{sub_ℕ}
use lib.Signed.{mag}
use mir.ValLaws.{to_z-of_z}
use Rattle.arith.specs.Level.{level_of}

-- a - b where b is not above a, and where it is
pub sub_ge : (a b : ℕ) → b ≤ a → sub_ℕ a b ≡ pos (a - b)
sub_ge a b h = rw (le-ltb a b h)

pub sub-lt : (a b : ℕ) → a < b → sub_ℕ a b ≡ negsuc (b - suc a)
sub-lt a b h = rw (lt-ltb a b h)

pub level_bound : (z : ℤ) → SFits w32 z → level_of z < 4294967296
level_bound (pos n) f = omega (arith, f.sfits)
level_bound (negsuc n) f = omega arith

-- what the machine reads back from the bits of an i32
pub back : (z : ℤ) → mag z < 2147483648 → to_z w32 (of_z w32 z) ≡ z
back z h = to_z-of_z w32 z (record { sfits = h })
