use Rattle.std.proofs.Common.{Some, ap, ◌∙◌, ◌≡◌, sym, subst, true}
use Rattle.pt_tree.specs.Forest.{dir, none}
use Rattle.pt_tree.specs.Name.{is_name}
use Rattle.pt_tree.specs.Path.{last_name}
use Rattle.pt_tree.proofs.Paths.{split_parts}
use Rattle.pt_tree.specs.Tree.{put, tree_of}
use Rattle.pt_memory.specs.Entries.{forest_of}
use Rattle.pt_memory.specs.Planting.{leaf_entry, leaf_of}
use Rattle.pt_memory.specs.MemDest.{dest_state}
use Rattle.pt_memory.proofs.Calls.{passed}
use Rattle.pt_memory.proofs.DestCalls.{may_plant, not_top, passes}
use Rattle.pt_memory.proofs.mem_dest.MemDestDest.mkdir.Goals as goal

pub unreachable-requires : goal.unreachable-requires
unreachable-requires c = not_top (forest_of c.args.self.now.entries) c.args.self.now.writing c.args.path.now c.requires c.in_default.ensures

pub plant-requires-clause-free : goal.plant-requires-clause-free
plant-requires-clause-free c = may_plant (forest_of c.args.self.now.entries) c.args.self.now.writing c.args.path.now c.requires

pub plant-requires-clause-leaf : goal.plant-requires-clause-leaf
plant-requires-clause-leaf c =
    let path = c.args.path.now in
    let at : c.in-Some.name.now ≡ last_name path = (split_parts path _ _ c.in-Some.ensures).1 in
    let leaf = c.in_ok-leaf.ensures.leaf.0 in
    record {
      alone = leaf ∙ ap (λ n. dir n none none) at ∙ sym (ap (λ l. leaf_of (last_name path) (leaf_entry l)) leaf);
      name = subst (λ n. is_name n ≡ true) at c.in_ok-leaf.ensures.name;
    }

pub returns-clause-gives : goal.returns-clause-gives
returns-clause-gives c =
    let old = dest_state c.args.self.now in
    let path = c.args.path.now in
    let tree = c.plant.ensures.tree ∙ ap (λ leaf. put old.told.tree path (leaf_entry leaf)) c.in_ok-leaf.ensures.leaf.0 in
    passes _ old _ _ _ (passed old.fuse c.in_ok-pass.ensures.answer)
    (λ i. record { told = record { tree = tree i; writing = old.told.writing }; fuse = c.in_ok-pass.ensures.state i })

pub returns-clause-made : goal.returns-clause-made
returns-clause-made c =
    let path = c.args.path.now in
    let tree = c.plant.ensures.tree ∙ ap (λ leaf. put (tree_of (forest_of c.args.self.now.entries)) path (leaf_entry leaf)) c.in_ok-leaf.ensures.leaf.0 in
    λ i. Some (record { tree = tree i; writing = c.args.self.now.writing })
