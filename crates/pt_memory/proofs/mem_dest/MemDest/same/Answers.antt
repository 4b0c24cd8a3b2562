use Rattle.std.proofs.Common.{ap, sym, ◌∙◌}
use Rattle.pt_tree.specs.Forest.{same_forest}
use Rattle.pt_tree.specs.Tree.{tree_of}
use Rattle.pt_memory.specs.Entries.{forest_of}
use Rattle.pt_tree.proofs.Canonical.{canonical, same_forest-itself, same_from_test}
use Rattle.pt_memory.proofs.mem_dest.MemDest.same.Goals as goal

pub returns : goal.returns
returns c =
    let f = forest_of c.args.self.now.entries in
    let g = forest_of c.args.other.now.entries in (
      λ h. ap tree_of (same_from_test f g (sym c.same.ensures ∙ h)),
      λ h. c.same.ensures ∙ ap (same_forest f) (sym (canonical f g c.args.self.now.proper c.args.other.now.proper (λ q i. h i q))) ∙ same_forest-itself f,
    )
