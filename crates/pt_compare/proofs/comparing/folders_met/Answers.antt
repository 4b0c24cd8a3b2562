use Rattle.pt_compare.proofs.Ways.{are_met}
use Rattle.pt_compare.proofs.comparing.folders_met.Goals as goal

pub returns : goal.returns
returns c = rw c.in-Some.is
    (are_met c.in-Some.last c.args.path.now c.alike_names-alike.result c.saturating_sub.result
    (rw (c.names.ensures, c.names-2.ensures) at c.alike_names-alike.ensures.alike) c.saturating_sub.ensures)
