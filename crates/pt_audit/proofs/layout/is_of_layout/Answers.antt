use Rattle.std.proofs.Common.{subst, sym}
use Rattle.std.specs.Option.{ForSome}
use Rattle.pt_audit.proofs.Layouts.{no_root, other_root, root_is_folder}
use Rattle.pt_audit.specs.Layout.{IsFolder}
use Rattle.pt_tree.specs.Source.{IsSeen}
use Rattle.pt_tree.specs.Source.{tree_in}
use Rattle.pt_state.specs.States.{job_of}
use Rattle.pt_audit.proofs.layout.is_of_layout.Goals as goal

pub returns-then-is_none-clause-layout : goal.returns-then-is_none-clause-layout
returns-then-is_none-clause-layout g c =
    no_root _ (job_of c.args.job.now) c.in_ok-top.top c.in_ok-here.here c.in_ok-top.ensures
    (subst (λ o. IsSeen (tree_in o) c.in_ok-top.top c.in_ok-here.here) c.in_ok-_entries.ensures.same c.in_ok-here.ensures.kind) c.if-is_none.ensures

pub has_files-requires-clause-folder : goal.has_files-requires-clause-folder
has_files-requires-clause-folder g c =
    subst (λ o. ForSome (tree_in o) IsFolder) (sym c.in_ok-here.ensures.same)
    (root_is_folder _ (job_of c.args.job.now) c.in_ok-top.top c.in_ok-here.here c.in_ok-top.ensures c.in_ok-here.ensures.kind (sym c.if-is_dir.ensures))

pub returns-clause-layout : goal.returns-clause-layout
returns-clause-layout g c =
    other_root _ (job_of c.args.job.now) c.in_ok-top.top c.in_ok-here.here c.in_ok-top.ensures
    (subst (λ o. IsSeen (tree_in o) c.in_ok-top.top c.in_ok-here.here) c.in_ok-_entries.ensures.same c.in_ok-here.ensures.kind) c.if-is_none.ensures
    (sym c.if-is_dir.ensures)
