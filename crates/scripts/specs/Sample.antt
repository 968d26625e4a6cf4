-- Two scripts and what they say: document 01's example, and one whose calls are refused.
use Rattle.std.specs.Prelude.{◌≡◌, List, [], ◌∷◌, ◌++◌, ℕ}
use Rattle.interpreter.specs.Example.{price_line, script, short, three, word}
use Rattle.interpreter.specs.Line.{broken_text, item, refused_text}
use Rattle.scripts.specs.Said.{said}

abbrev pub refusal_line : ℕ → List ℕ
refusal_line n = refused_text ++ item n 10

-- 4; 1(0,0,0; 1048577,1,1); 1(2147483647,0,0; 2,1,1); 1(0,0,0; 65,1,1); 5(64, 1); 1(0,0,0; 17,1,1); 2(17,0,0; 3); 2(16,0,0; 3); 4;
-- 5(3, 1000000), 6(1000000), 4; 6(1000001), 4; an unknown kind; 4
abbrev pub refused_calls : List ℕ
refused_calls =
    4 ∷ 1 ∷ three 0 0 0
    ++ three 1048577 1 1
    ++ 1 ∷ three 2147483647 0 0
    ++ three 2 1 1
    ++ 1 ∷ three 0 0 0
    ++ three 65 1 1
    ++ 5 ∷ short 64
    ++ word 1
    ++ 1 ∷ three 0 0 0
    ++ three 17 1 1
    ++ 2 ∷ three 17 0 0
    ++ short 3
    ++ 2 ∷ three 16 0 0
    ++ short 3
    ++ 4 ∷ 5 ∷ short 3
    ++ word 1000000
    ++ 6 ∷ word 1000000
    ++ 4 ∷ 6 ∷ word 1000001
    ++ 4 ∷ 9 ∷ 4 ∷ []

pub record Sample : Type 0 where
  pub example : said script ≡ price_line 17 10 70 7500 ++ price_line 18 6 66 6900
  -- 3; 1; 2; 4; 12 for the rate; nothing; 5; nothing; 12 for a face without a rate; the price of six faces; 12 for the cut; `broken`, and no more
  pub refusals : said refused_calls
      ≡ refusal_line 3 ++ refusal_line 1 ++ refusal_line 2 ++ refusal_line 4 ++ refusal_line 12 ++ refusal_line 5 ++ refusal_line 12
      ++ price_line 1 6 6 12000000 ++ refusal_line 12 ++ broken_text
