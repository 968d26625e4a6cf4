use Rattle.std.proofs.Common.{refl, ◌+◌, ap, set, ℕ, List}
use native.Mathlib.Numerals.{unary_clauses}
use Rattle.mesh.specs.Scan.{clear_run}
use Rattle.mesh.proofs.claim.clear_run.Goals as goal

pub loop-n-init : goal.loop-n-init
unfolding clear_run
loop-n-init c = refl

pub loop-n-preserved : goal.loop-n-preserved
unfolding clear_run
loop-n-preserved c = simp unary_clauses (ap (λ (m : List ℕ). set m (c.args.at + c.loop-n.n) 0) c.loop-n.invariant)
