-- Document 01's example of the trial program, as bytes and as text.
use Rattle.std.specs.Prelude.{ℕ, ◌/◌, ◌%◌, ◌≡◌, List, [], ◌∷◌, ◌++◌}
use Rattle.interpreter.specs.Line.{item}
use Rattle.interpreter.specs.Script.{printed}

-- little-endian, 16 and 32 bits
abbrev pub short : ℕ → List ℕ
short n = n % 256 ∷ n / 256 % 256 ∷ []

abbrev pub word : ℕ → List ℕ
word n = short n ++ short (n / 65536)

abbrev pub three : ℕ → ℕ → ℕ → List ℕ
three x y z = word x ++ word y ++ word z

-- 6(50), 5(3, 100), 1(0,0,0; 17,1,1), 3(0,0,0 to 16,0,0; 3), 4, 2(16,0,0; 0), 4
abbrev pub script : List ℕ
script =
    6 ∷ word 50
    ++ 5 ∷ short 3
    ++ word 100
    ++ 1 ∷ three 0 0 0
    ++ three 17 1 1
    ++ 3 ∷ three 0 0 0
    ++ three 16 0 0
    ++ short 3
    ++ 4 ∷ 2 ∷ three 16 0 0
    ++ short 0
    ++ 4 ∷ []

-- generation, panels, faces, cents
abbrev pub price_line : ℕ → ℕ → ℕ → ℕ → List ℕ
price_line generation panels faces cents = item generation 32 ++ item panels 32 ++ item faces 32 ++ item cents 10

-- the lines that document 01 gives
unfoldable pub Example : Type 0
Example = printed script ≡ price_line 17 10 70 7500 ++ price_line 18 6 66 6900
