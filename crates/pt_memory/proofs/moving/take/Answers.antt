use Rattle.std.proofs.Common.{ap, ◌∙◌}
use Rattle.pt_tree.specs.Forest.{is_proper}
use Rattle.pt_tree.specs.Tree.{tree_of}
use Rattle.pt_memory.specs.Entries.{forest_of}
use Rattle.pt_tree.proofs.AtPaths.{take_at, proper_taken}
use Rattle.pt_memory.proofs.moving.take.Goals as goal

pub returns-in-Some-clause-tree : goal.returns-in-Some-clause-tree
returns-in-Some-clause-tree c =
    ap tree_of c.remove.ensures.forest
    ∙ take_at (forest_of c.args.entries.now) c.args.path.now c.in-Some.dir.now c.in-Some.name.now c.in-Some.ensures c.requires.proper c.requires.stands
    c.requires.below

pub returns-in-Some-clause-proper : goal.returns-in-Some-clause-proper
returns-in-Some-clause-proper c =
    ap is_proper c.remove.ensures.forest ∙ proper_taken (forest_of c.args.entries.now) c.in-Some.name.now c.in-Some.dir.now c.requires.proper
