use Rattle.std.proofs.Common.{◌∙◌, ap, sym}
use Rattle.std.specs.Prelude.{Some}
use Rattle.pt_memory.specs.Entries.{forest_of, node_of}
use Rattle.pt_tree.specs.Forest.{Dir}
use Rattle.pt_tree.proofs.Proper.{proper_at}
use Rattle.pt_memory.proofs.mem_source.MemSource.listing.Goals as goal

pub list-requires : goal.list-requires
list-requires c =
    proper_at (Dir (forest_of c.args.self.now.entries)) c.names.result.now (Dir (forest_of c.in-Some-Dir.inside.now)) c.args.self.now.proper
    (sym c.in-Some-Dir.ensures ∙ ap (λ f. Some (node_of f)) c.in-Some-Dir.field-0-is)
