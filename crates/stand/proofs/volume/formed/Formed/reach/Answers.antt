use Rattle.std.proofs.Common.{ap}
use Rattle.stand.specs.Shape.{point_of, shape_of}
use Rattle.stand.specs.declared.volume.shape.Reach.{Reach}
use Rattle.stand.proofs.Formed.{reach_some}
use Rattle.stand.proofs.volume.formed.Formed.reach.Goals as goal

pub returns-clause-size : goal.returns-clause-size
unfolding shape_of
returns-clause-size c = ap (λ (s : Reach). point_of s.x.count s.y.count s.z.count) c.reach_of.ensures.are

pub returns-clause-some : goal.returns-clause-some
returns-clause-some c = reach_some c.args.self.volume c.args.self.formed c.reach_of.ensures.are
