use Rattle.form.proofs.put.Laws.{put_in}
use Rattle.form.proofs.put.put.Goals as goal

pub returns : goal.returns
returns c = put_in c.args.out.now c.args.at c.copy_from_slice.ensures.after c.requires
