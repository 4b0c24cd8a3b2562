use Rattle.pt_guard.proofs.GoingOn.{stays}
use Rattle.pt_guard.proofs.apart.RunPaths.first_found.Goals as goal

pub returns-in_default-in_either : goal.returns-in_default-in_either
returns-in_default-in_either g c =
    (_, _, c.in-Apart.ensures, (_, _, c.in_either-2.ensures, stays _ _ _ c.in_default-in_either.not-Apart))
