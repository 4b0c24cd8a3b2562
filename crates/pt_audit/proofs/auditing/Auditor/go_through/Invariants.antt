use Rattle.std.proofs.Common.{◌≡◌, ◌-◌, ℕ}
use Rattle.pt_audit.specs.Auditing.{IsUnderWay, start_over}
use Rattle.pt_audit.specs.RootReader.{FollowsOn}
use Rattle.pt_audit.specs.Bounds.{Surveyed}
use Rattle.pt_audit.specs.Failing.{failures}
use Rattle.pt_tree.specs.Source.{tree_in}
use Rattle.pt_audit.specs.AuditSteps.{KeepsAll}
use Rattle.pt_audit.proofs.auditing.Auditor.go_through.Given as goal

abbrev pub invariant-loop-more : goal.invariant-loop-more
invariant-loop-more g l =
    IsUnderWay (g.S.Source.told l.source) (start_over l.self.by (tree_in (g.S.Source.told l.source)) (tree_in (g.R.Source.told l.root)) (g.L.Log.told l.fn.log))
    (g.L.Log.told l.log) l.self.counts l.self.survey
    × FollowsOn (g.S.Source.told l.source) (g.R.Source.told l.root) l.self.beside l.self.survey
    × (l.self.survey.state.job ≡ l.fn.self.survey.state.job)
    × KeepsAll g.S.Source g.R.Source g.L.Log (l.fn.source, l.fn.root, l.fn.log) (l.source, l.root, l.log)
    × (failures (g.S.Source.failed l.source) (g.R.Source.failed l.root) (g.L.Log.failed l.log)
    ≡ failures (g.S.Source.failed l.fn.source) (g.R.Source.failed l.fn.root) (g.L.Log.failed l.fn.log))
    × ((n : ℕ) × Surveyed (tree_in (g.S.Source.told l.fn.source)) l.fn.self.survey n l.self.survey)
    × (l.self.by ≡ l.fn.self.by)

abbrev pub decreases-loop-more : goal.decreases-loop-more
decreases-loop-more g l = l.self.survey.state.job.limits.turns - l.self.survey.state.counts.turns
