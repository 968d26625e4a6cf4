use Rattle.std.proofs.Common.{◌∙◌, ap}
use Rattle.std.specs.Option.{unwrap_or}
use Rattle.mesh.proofs.Runs.{run_first}
use Rattle.mesh.proofs.claim.run_len.Goals as goal

pub returns : goal.returns
returns c =
    let a = c.args in
    c.unwrap_or.ensures ∙ ap (λ o. unwrap_or o a.most) c.first_other.ensures ∙ run_first a.mask.now a.at a.most a.x c.requires
