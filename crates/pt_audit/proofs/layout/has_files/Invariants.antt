use Rattle.std.proofs.Common.{◌≡◌}
use Rattle.std.specs.Option.{ForSome}
use Rattle.pt_audit.specs.Layout.{root_of}
use Rattle.pt_invariant.specs.DestInvariant.{HasRootFiles}
use Rattle.pt_compare.specs.Root.{KeepsRoot}
use Rattle.pt_tree.specs.Source.{tree_in}
use Rattle.pt_state.specs.States.{job_of}
use Rattle.pt_audit.proofs.layout.has_files.Given as goal

abbrev pub invariant-loop-i : goal.invariant-loop-i
invariant-loop-i g l =
    KeepsRoot g.R.Source.told g.R.Source.keeps l.initial.root l.root
    × (g.R.Source.failed l.root ≡ g.R.Source.failed l.initial.root)
    × ForSome (tree_in (g.R.Source.told l.initial.root)) (λ f. HasRootFiles (job_of l.fn.job) (root_of f) l.i)
