use Rattle.stand.proofs.Formed.{sided}
use Rattle.stand.proofs.Shape.{formed-counts}
use Rattle.stand.proofs.volume.formed.Formed.chunk_counts.Goals as goal
use Rattle.std.proofs.Common.{◌∙◌}

pub returns-clause-shape : goal.returns-clause-shape
returns-clause-shape c = c.counts.ensures.0 ∙ formed-counts c.args.self.volume c.args.self.formed

pub returns-clause-sized : goal.returns-clause-sized
returns-clause-sized c = sided c.args.self.volume c.args.self.formed c.counts.ensures.0 c.counts.ensures.1
