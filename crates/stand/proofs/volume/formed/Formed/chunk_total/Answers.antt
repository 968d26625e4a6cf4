use Rattle.std.proofs.Common.{◌*◌, ◌≤◌, ap, arith}
use Rattle.stand.specs.Shape.{max_chunks, product, sections, shape_of}
use Rattle.stand.proofs.Shape.{formed-opens, sections-few}
use Rattle.stand.proofs.volume.formed.Formed.chunk_total.Goals as goal
use Rattle.stand.proofs.volume.formed.Formed.chunk_total.Goals.{After-chunk_counts-k}

few : (c : After-chunk_counts-k) → c.chunk_counts-k.result.x * c.chunk_counts-k.result.y * c.chunk_counts-k.result.z ≤ max_chunks
unfolding product sections
few c = let s = sections-few (shape_of c.args.self.volume) (formed-opens c.args.self.volume c.args.self.formed) in omega (arith, s, ap product c.chunk_counts-k.ensures.shape)

pub overflow_mul-result-2 : goal.overflow_mul-result-2
overflow_mul-result-2 c = omega (arith, few (goal.at.overflow_mul-result-2 c).After-chunk_counts-k)

pub returns-clause-few : goal.returns-clause-few
returns-clause-few c = few (goal.at.returns-clause-few c).After-chunk_counts-k
