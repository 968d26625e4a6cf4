-- A number held to the range of i32.
use Rattle.std.specs.Prelude.{cond, ℤ, pos, negsuc, int_lt}

unfoldable pub saturate : ℤ → ℤ
saturate z = cond (int_lt z (negsuc 2147483647)) (negsuc 2147483647) (cond (int_lt (pos 2147483647) z) (pos 2147483647) z)
