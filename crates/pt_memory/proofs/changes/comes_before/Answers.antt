use Rattle.std.proofs.Common.{sym, ap, ◌∙◌}
use Rattle.pt_tree.specs.Forest.{first_name}
use Rattle.pt_memory.specs.Entries.{forest_of}
use Rattle.pt_tree.specs.Listing.{is_before}
use Rattle.pt_tree.proofs.Rising.{is_before-empty}
use Rattle.pt_memory.proofs.changes.comes_before.Goals as goal

pub returns-in-End : goal.returns-in-End
returns-in-End c =
    let name = c.args.name.now in
    sym (ap (λ e. is_before name (first_name (forest_of e))) c.in-End.is ∙ is_before-empty name)
