use Rattle.std.proofs.Common.{rules}
use Rattle.stand.specs.Shape.{Below, Ranged, shape_of}
use Rattle.stand.proofs.Formed.{size_below}
use Rattle.stand.proofs.Read.{made}
use Rattle.stand.proofs.volume.formed.Formed.cell_from.Goals as goal
use Rattle.stand.proofs.volume.formed.Formed.cell_from.Goals.{Start}

low : (c : Start) → Below 2147483648 c.args.d
unfolding shape_of
low c = size_below c.args.self.volume.size (search rules) (search rules) (search rules) c.requires

pub overflow_cast-d : goal.overflow_cast-d
overflow_cast-d c = record { sfits = (low (goal.at.overflow_cast-d c).Start).x }

pub overflow_cast-d-2 : goal.overflow_cast-d-2
overflow_cast-d-2 c = record { sfits = (low (goal.at.overflow_cast-d-2 c).Start).y }

pub overflow_cast-d-3 : goal.overflow_cast-d-3
overflow_cast-d-3 c = record { sfits = (low (goal.at.overflow_cast-d-3 c).Start).z }

pub returns : goal.returns
returns c =
    let v = c.args.self.volume in
    let o : Ranged v.origin = search rules in
    made v c.args.self.formed o c.args.d c.offset.ensures c.requires.0 c.requires.1 c.requires.2 (low (goal.at.returns c).Start)
