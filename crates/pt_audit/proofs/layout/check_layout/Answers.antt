use Rattle.std.specs.Prelude.{false, true}
use Rattle.pt_audit.proofs.Layouts.{layout_told}
use Rattle.pt_compare.proofs.Single.{was_ok}
use Rattle.pt_state.specs.States.{job_of}
use Rattle.pt_audit.proofs.layout.check_layout.Goals as goal

pub returns-then-same-clause-layout : goal.returns-then-same-clause-layout
returns-then-same-clause-layout g c =
    layout_told _ (job_of c.args.job.now) c.is_of_layout.result c.in_ok-same.same true
    (was_ok _ _ _ _ c.map_err.ensures.cases c.map_err.ensures.variant c.in_ok-same.was) c.if-same.true c.is_of_layout.ensures.layout

pub returns-else-same-clause-layout : goal.returns-else-same-clause-layout
returns-else-same-clause-layout g c =
    layout_told _ (job_of c.args.job.now) c.is_of_layout.result c.in_ok-same.same false
    (was_ok _ _ _ _ c.map_err.ensures.cases c.map_err.ensures.variant c.in_ok-same.was) c.if-same.false c.is_of_layout.ensures.layout
