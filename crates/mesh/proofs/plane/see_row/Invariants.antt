use Rattle.std.proofs.Common.{◌≡◌, ℕ, ◌+◌, ◌<◌, get_or, length}
use Rattle.mesh.specs.Plane.{seen_at}
use Rattle.mesh.proofs.plane.see_row.Given as goal

abbrev pub invariant-loop-u : goal.invariant-loop-u
invariant-loop-u l =
    (length l.row ≡ 16) × ((i : ℕ) → i < l.u → get_or l.row i 0 ≡ seen_at l.here.cells.now l.next.cells.now (l.here.at + i) (l.next.at + i))
