-- What a rehearsal tells of the run that it rehearses.
use Rattle.std.specs.Prelude.{◌≡◌, ◌++◌, ℕ, true, false, List, Option, None, Some, Ok}
use Rattle.pt_plan.specs.DeviceStates.{DeviceStates, dest_tree}
use Rattle.pt_tree.specs.Source.{tree_in}
use Rattle.pt_state.specs.declared.job.Job.{Job}
use Rattle.pt_state.specs.declared.job.Report.{Report}
use Rattle.pt_tree.specs.Dest.{Writing}
use Rattle.pt_tree.specs.Forest.{Forest}
use Rattle.pt_tree.specs.Tree.{Tree}
use Rattle.pt_host.specs.Ends.{run_status}
use Rattle.pt_host.specs.Made.{IsRun}
use Rattle.pt_host.specs.declared.options.AllowedLines.{AllowedLines}

-- where a rehearsal and a run, of one job, over the same store and the same tree of the destination, both end well, both
-- logs get the same text, and both end with the same status, whichever lines these may have
abbrev pub RehearsalTellsTheRun : Type 0
RehearsalTellsTheRun =
    (job : Job) (allowed : AllowedLines) (s : Forest) (t : Tree) (was : Option Writing) (old new old' new' : DeviceStates)
    (report report' : Report) (now : Writing) (first last first' last' : List ℕ)
    → IsRun job true (Some (record { tree = t; writing = None })) old new (Ok report)
    → IsRun job false was old' new' (Ok report')
    → tree_in old.source ≡ Some s → tree_in old'.source ≡ Some s
    → dest_tree old'.dest ≡ Some t → new'.dest ≡ Some now
    → old.log ≡ Some first → new.log ≡ Some last
    → old'.log ≡ Some first' → new'.log ≡ Some last'
    → ((told : List ℕ) × (last ≡ first ++ told) × (last' ≡ first' ++ told))
    × (run_status allowed (Ok report) ≡ run_status allowed (Ok report'))
