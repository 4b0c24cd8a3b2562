use Rattle.std.proofs.Common.{◌∙◌, rules, subst, sym}
use Rattle.std.specs.Prelude.{IfErr}
use Rattle.std.specs.Option.{ForSome}
use Rattle.pt_audit.specs.Auditing.{AllToldAs, FrontToldAs, AreUnmetIn, start_over}
use Rattle.pt_audit.specs.Failing.{AuditSays}
use Rattle.pt_audit.specs.Layout.{IsOfLayout}
use Rattle.pt_audit.specs.declared.counts.Counts.{Counts}
use Rattle.pt_tree.specs.Source.{tree_in}
use Rattle.pt_state.specs.States.{job_of}
use Rattle.pt_state.specs.declared.job.Job.{Job}
use Rattle.pt_audit.proofs.Bounding.{made_stopped, made_within}
use Rattle.pt_audit.proofs.StepPromises.{fails_err}
use Rattle.pt_audit.proofs.ToldSteps.{first_step, surveys_first}
use Rattle.pt_audit.proofs.Pacing.{follows_first}
use Rattle.pt_audit.proofs.Saying.{begun_is_not_over}
use Rattle.pt_audit.proofs.ToldFront.{items_stopped}
use Rattle.pt_audit.proofs.auditing.audit_objects.Goals as goal

pub go_through-requires : goal.go_through-requires
go_through-requires g c =
    let it = c.start.ensures.begun (g.S.Source.told c.args.source.now) (g.met.S.Source.proper c.args.source.now) in record {
      under_way = first_step c.args.task.job _ _ _ _ _ _ c.start.ensures.new it c.none.ensures;
      follows = record {
        follows = follows_first _ _ _ c.start.result c.new.ensures c.start.ensures.new.phase (surveys_first _ 0 _ it);
        more = begun_is_not_over c.start.ensures.new;
      };
    }

pub returns-in_err-counts-clause-ends : goal.returns-in_err-counts-clause-ends
returns-in_err-counts-clause-ends g c =
    let start = start_over c.args.task.by (tree_in (g.S.Source.told c.args.source.now)) (tree_in (g.R.Source.told c.args.root.now))
    (g.L.Log.told c.args.log.now) in
    items_stopped c.from_residual.result c.in_err-counts.field-0.0 _ start _ (search rules)
    (subst (λ (job : Job). FrontToldAs (job_of job) start (g.L.Log.told c.go_through.new.log)) c.start.ensures.new.job_is c.in_err-counts.ensures.stops)

pub returns-in_err-counts-clause-made : goal.returns-in_err-counts-clause-made
returns-in_err-counts-clause-made g c =
    made_stopped c.from_residual.result c.in_err-counts.field-0.0 (search rules) (made_within c.start.ensures.new c.go_through.ensures.made)

pub returns-clause-ends : goal.returns-clause-ends
returns-clause-ends g c =
    let start = start_over c.args.task.by (tree_in (g.S.Source.told c.args.source.now)) (tree_in (g.R.Source.told c.args.root.now))
    (g.L.Log.told c.args.log.now) in
    let was = c.in_ok-counts.ensures.ends in
    rw c.into_audit.ensures.counts.1 (subst (λ (job : Job). AllToldAs (job_of job) start (g.L.Log.told c.go_through.new.log) c.in_ok-counts.counts)
    (was.1 ∙ c.start.ensures.new.job_is) was.0.told)

pub returns-clause-layout : goal.returns-clause-layout
returns-clause-layout g c =
    let was = c.in_ok-counts.ensures.ends in
    subst (λ (job : Job). ForSome (tree_in (g.R.Source.told c.args.root.now)) (IsOfLayout (job_of job))) (was.1 ∙ c.start.ensures.new.job_is) was.0.layout

pub returns-clause-made : goal.returns-clause-made
returns-clause-made g c = rw c.into_audit.ensures.counts.1 (made_within c.start.ensures.new c.in_ok-counts.ensures.made)

pub returns-in_err-counts-clause-blames : goal.returns-in_err-counts-clause-blames
returns-in_err-counts-clause-blames g c =
    (fails_err {T = Counts} c.from_residual.result c.in_err-counts.field-0.0 (search rules) c.in_err-counts.ensures.blamed).blames

pub returns-in_err-counts-clause-says : goal.returns-in_err-counts-clause-says
returns-in_err-counts-clause-says g c =
    let store = tree_in (g.S.Source.told c.args.source.now) in
    let root = tree_in (g.R.Source.told c.args.root.now) in
    subst (λ (job : Job). IfErr c.from_residual.result (AuditSays job store root)) c.start.ensures.new.job_is
    (fails_err {T = Counts} c.from_residual.result c.in_err-counts.field-0.0 (search rules) c.in_err-counts.ensures.blamed).says

pub returns-clause-blames : goal.returns-clause-blames
returns-clause-blames g c =
    let went = c.in_ok-counts.ensures.blamed.blames in
    record { source = went.source; root = went.root; log = went.log }

pub returns-clause-unmet : goal.returns-clause-unmet
returns-clause-unmet g c =
    let store = tree_in (g.S.Source.told c.args.source.now) in
    let was = c.in_ok-counts.ensures.ends in
    subst (λ (job : Job). AreUnmetIn job store c.into_audit.result.unmet) (was.1 ∙ c.start.ensures.new.job_is)
    (subst (AreUnmetIn c.go_through.new.self.survey.state.job store) (sym c.into_audit.ensures.unmet) was.0.unmet)
