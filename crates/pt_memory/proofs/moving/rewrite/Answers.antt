use Rattle.std.proofs.Common.{ap, ◌∙◌}
use Rattle.pt_tree.specs.Forest.{changed, is_proper, rewritten}
use Rattle.pt_memory.specs.Entries.{forest_of}
use Rattle.pt_tree.proofs.Paths.{split_parts}
use Rattle.pt_tree.proofs.AtPaths.{proper_appended}
use Rattle.pt_memory.proofs.moving.rewrite.Goals as goal

pub returns-clause-forest : goal.returns-clause-forest
returns-clause-forest c =
    let parts = split_parts c.args.path.now c.in-Some.dir.now c.in-Some.name.now c.in-Some.ensures in
    (rw c.unwrap.ensures at c.edit_bytes.ensures.ok) ∙ (λ i. changed (rewritten (λ _. c.args.bytes.items) (parts.1 i)) (forest_of c.args.entries.now)
    (parts.0 i))

pub returns-clause-proper : goal.returns-clause-proper
returns-clause-proper c =
    ap is_proper (rw c.unwrap.ensures at c.edit_bytes.ensures.ok) ∙ proper_appended (forest_of c.args.entries.now) (λ _. c.args.bytes.items) c.in-Some.name.now
    c.in-Some.dir.now c.requires.proper
