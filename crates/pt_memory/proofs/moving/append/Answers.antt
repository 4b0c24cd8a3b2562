use Rattle.std.proofs.Common.{ap, ◌∙◌, ◌++◌}
use Rattle.std.specs.Prelude.{not}
use Rattle.pt_tree.specs.Forest.{is_proper}
use Rattle.pt_tree.specs.Tree.{tree_of}
use Rattle.pt_memory.specs.Entries.{forest_of}
use Rattle.pt_tree.proofs.AtPaths.{append_at, proper_appended, added_nowhere, no_file, stands_from_file}
use Rattle.pt_memory.proofs.moving.append.Goals as goal

pub returns-then-is_none-clause-ok : goal.returns-then-is_none-clause-ok
returns-then-is_none-clause-ok c =
    let f = forest_of c.args.entries.now in
    added_nowhere (tree_of f) c.args.path.now c.args.piece.now (no_file f c.args.path.now c.file_in.result c.file_in.ensures (c.is_none.ensures
    ∙ ap not c.if-is_none.true))

pub returns-clause-ok : goal.returns-clause-ok
returns-clause-ok c =
    let f = forest_of c.args.entries.now in
    let stands = stands_from_file f c.args.path.now c.file_in.result c.file_in.ensures (c.is_none.ensures ∙ ap not c.if-is_none.false) in
    ap tree_of c.in_ok-edit_bytes.ensures.ok ∙ append_at f c.args.path.now c.in-Some.dir.now c.in-Some.name.now c.args.piece.now c.in-Some.ensures stands

pub returns-clause-proper : goal.returns-clause-proper
returns-clause-proper c =
    ap is_proper c.in_ok-edit_bytes.ensures.ok
    ∙ proper_appended (forest_of c.args.entries.now) (λ bytes. bytes ++ c.args.piece.now) c.in-Some.name.now c.in-Some.dir.now c.requires
