use Rattle.std.proofs.Common.{inr, refl, rules}
use Rattle.pt_tree.proofs.AtPaths.{same_from}
use Rattle.pt_audit.proofs.root_reader.RootReader.begin.Goals as goal

pub returns-else-ne-2 : goal.returns-else-ne-2
returns-else-ne-2 c =
    let from = same_from _ _ (search rules) in
    let place = same_from _ _ (search rules) in
    record { from_is = from; place_is = place; folder = refl; reads = refl; kept = inr (refl, from, place) }
