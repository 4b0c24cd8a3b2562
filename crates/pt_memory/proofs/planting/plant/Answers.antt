use Rattle.std.proofs.Common.{ap, ◌∙◌}
use Rattle.pt_tree.specs.Forest.{changed, inserted, is_proper}
use Rattle.pt_tree.specs.Tree.{tree_of}
use Rattle.pt_memory.specs.Entries.{forest_of}
use Rattle.pt_tree.proofs.Paths.{split_parts}
use Rattle.pt_memory.proofs.Planted.{tree_planted, proper_planted}
use Rattle.pt_memory.proofs.planting.plant.Goals as goal

pub returns-in-Some-clause-tree : goal.returns-in-Some-clause-tree
returns-in-Some-clause-tree c =
    let path = c.args.path.now in
    let f = forest_of c.args.entries.now in
    let leaf = forest_of c.args.leaf in
    let parts = split_parts path c.in-Some.dir.now _ c.in-Some.ensures in
    ap tree_of (c.insert.ensures.forest ∙ ap (changed (inserted leaf) f) parts.0) ∙ tree_planted f leaf path c.requires.free c.requires.leaf

pub returns-in-Some-clause-proper : goal.returns-in-Some-clause-proper
returns-in-Some-clause-proper c =
    let path = c.args.path.now in
    let f = forest_of c.args.entries.now in
    let leaf = forest_of c.args.leaf in
    let parts = split_parts path c.in-Some.dir.now _ c.in-Some.ensures in
    ap is_proper (c.insert.ensures.forest ∙ ap (changed (inserted leaf) f) parts.0)
    ∙ proper_planted f leaf path c.requires.free c.requires.leaf c.requires.proper
