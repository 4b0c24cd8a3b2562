use Rattle.std.proofs.Common.{◌∙◌, ap, sym, rules}
use Rattle.std.specs.Prelude.{Some}
use Rattle.pt_memory.specs.Entries.{forest_of, node_of}
use Rattle.pt_tree.specs.Forest.{Dir}
use Rattle.pt_tree.proofs.Proper.{proper_at}
use Rattle.pt_memory.proofs.mem_source.MemSource.list_at.Goals as goal

pub list-requires : goal.list-requires
list-requires c =
    proper_at (Dir (forest_of c.count_call.new.self.entries)) c.names.result.now (Dir (forest_of c.in-Some-Dir.inside.now)) c.count_call.new.self.proper
    (sym c.in-Some-Dir.ensures ∙ ap (λ f. Some (node_of f)) c.in-Some-Dir.field-0-is)

pub returns-in-Err : goal.returns-in-Err
returns-in-Err c = search rules
