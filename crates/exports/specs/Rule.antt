-- Numbers that stand for a rule or a side; one that stands for none is refused by 100 before all else, and nothing is written.
use Rattle.std.specs.Prelude.{ℕ, Bool, true, false, cond, eqb, Option, Some, None}
use Rattle.mesh.specs.Visible.{empty_beyond}
use Rattle.mesh.specs.declared.Beyond.{Beyond}

abbrev pub bad_argument : ℕ
bad_argument = 100

-- 0: outside hides a face; 1: outside shows it
abbrev pub rule_at : ℕ → Option Bool
rule_at n = cond (eqb n 0) (Some false) (cond (eqb n 1) (Some true) None)

abbrev pub rule_answer : Option Beyond → Option Bool
rule_answer (Some b) = Some (empty_beyond b)
rule_answer None = None

abbrev pub named : {A B : Type 0} → Option A → (A → B) → B → B
named (Some a) f b = f a
named None f b = b
