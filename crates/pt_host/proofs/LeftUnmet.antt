-- What a run leaves unmet, by what it came to.
use Rattle.std.proofs.Common.{◌≡◌, ℕ, List, subst, sym}
use Rattle.std.specs.Prelude.{IfOk, OnOk, Option, Result, Ok, Err}
use Rattle.pt_audit.specs.Auditing.{AreUnmetIn}
use Rattle.pt_move.specs.Unmet.{report_of}
use Rattle.pt_move.specs.declared.migration.Completion.{Completion}
use Rattle.pt_plan.specs.declared.fault.Fault.{Fault}
use Rattle.pt_state.specs.declared.job.Job.{Job}
use Rattle.pt_state.specs.declared.job.Report.{Report}
use Rattle.pt_tree.specs.Forest.{Forest}

pub left_unmet : (job : Job) (source : Option Forest) (ran : Result Completion Fault) (reported : Result Report Fault) (unmet : List (Option (List ℕ)))
    → reported ≡ report_of ran → IfOk ran (λ completion. unmet ≡ completion.unmet) → IfOk ran (λ completion. AreUnmetIn job source completion.unmet)
    → OnOk reported (AreUnmetIn job source unmet)
left_unmet job source (Ok completion) reported unmet is same leaves = rw is (subst (AreUnmetIn job source) (sym same) leaves)
left_unmet job source (Err why) reported unmet is same leaves = rw is tt
