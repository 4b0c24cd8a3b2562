use Rattle.pt_name.proofs.Fronts.{take_least}
use Rattle.pt_name.proofs.encoding.front.Goals as goal

pub returns : goal.returns
returns c = take_least c.args.id.now c.min.result c.min.ensures
