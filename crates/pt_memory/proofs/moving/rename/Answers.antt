use Rattle.std.proofs.Common.{ap, ◌∙◌}
use Rattle.pt_tree.specs.Forest.{changed, inserted, is_proper, named}
use Rattle.pt_tree.specs.Tree.{tree_of}
use Rattle.pt_memory.specs.Entries.{forest_of}
use Rattle.pt_tree.proofs.Renamed.{rename_at}
use Rattle.pt_memory.proofs.moving.rename.Goals as goal

pub returns-clause-ok : goal.returns-clause-ok
returns-clause-ok c =
    let leaf = c.with_name.ensures ∙ (λ i. named (c.in_ok-name.ensures.bytes i) (c.remove-moved.ensures.entry i)) in
    let forest = c.insert.ensures.forest ∙ (λ i. changed (inserted (leaf i)) (c.remove-moved.ensures.forest i) c.in-Some-split.to_dir.now) in
    ap tree_of forest
    ∙ (rename_at (forest_of c.args.entries.now) c.args.from.now c.args.to.now c.in-Some.from_dir.now c.in-Some-split.to_dir.now c.in-Some.from_name.now
    c.in-Some-split.to_name.now
    c.in-Some.ensures c.in-Some-split.ensures c.requires.proper c.requires.may c.in_ok-name.ensures.name).0

pub returns-clause-proper : goal.returns-clause-proper
returns-clause-proper c =
    let leaf = c.with_name.ensures ∙ (λ i. named (c.in_ok-name.ensures.bytes i) (c.remove-moved.ensures.entry i)) in
    let forest = c.insert.ensures.forest ∙ (λ i. changed (inserted (leaf i)) (c.remove-moved.ensures.forest i) c.in-Some-split.to_dir.now) in
    ap is_proper forest
    ∙ (rename_at (forest_of c.args.entries.now) c.args.from.now c.args.to.now c.in-Some.from_dir.now c.in-Some-split.to_dir.now c.in-Some.from_name.now
    c.in-Some-split.to_name.now
    c.in-Some.ensures c.in-Some-split.ensures c.requires.proper c.requires.may c.in_ok-name.ensures.name).1
