use Rattle.std.proofs.Common.{◌≡◌, ap, rules, subst, sym}
use Rattle.std.specs.Prelude.{IfErr, Err, Ok, Result}
use Rattle.pt_audit.specs.Auditing.{LogsAs, start_over}
use Rattle.pt_audit.specs.Bounds.{IsMade, counts_at_end}
use Rattle.pt_audit.specs.Failing.{AuditSays}
use Rattle.pt_audit.specs.declared.auditing.AuditCompletion.{AuditCompletion}
use Rattle.pt_audit.specs.declared.counts.Counts.{Counts}
use Rattle.pt_plan.specs.declared.fault.Fault.{Fault}
use Rattle.pt_tree.specs.Source.{tree_in}
use Rattle.pt_audit.proofs.Bounding.{made_by, made_end}
use Rattle.pt_audit.proofs.Saying.{says_by}
use Rattle.pt_audit.proofs.ToldFront.{logs_before, logs_end}
use Rattle.pt_state.specs.States.{job_of}
use Rattle.pt_tree.proofs.Growing.{grows_on}
use Rattle.pt_audit.proofs.auditing.audit.Goals as goal

pub returns-in_err-audited-clause-ends : goal.returns-in_err-audited-clause-ends
returns-in_err-audited-clause-ends g c =
    let is : c.from_residual.result ≡ Err c.in_err-audited.field-0.0 = search rules in
    logs_before (counts_at_end c.from_residual.result) c.in_err-audited.field-0.0 _
    (start_over c.args.task.by (tree_in (g.S.Source.told c.args.source.now)) (tree_in (g.R.Source.told c.args.root.now)) (g.L.Log.told c.args.log.now))
    _ (ap counts_at_end is) c.in_err-audited.ensures.ends

pub returns-in_err-counts-clause-ends : goal.returns-in_err-counts-clause-ends
returns-in_err-counts-clause-ends g c =
    let is : c.from_residual-in_err-counts.result ≡ Err c.in_err-counts.field-0.0 = search rules in
    let start = start_over c.args.task.by (tree_in (g.S.Source.told c.args.source.now)) (tree_in (g.R.Source.told c.args.root.now))
    (g.L.Log.told c.args.log.now) in
    subst (LogsAs (job_of c.args.task.job) start (g.L.Log.told c.tell_audit_end.new.log)) (sym (ap counts_at_end is))
    (logs_end (Err c.in_err-counts.field-0.0) _ start _ _ _ c.in_ok-audited.ensures.ends tt c.in_err-counts.ensures.part)

pub returns-clause-ends : goal.returns-clause-ends
returns-clause-ends g c =
    logs_end (Ok c.in_ok-counts.counts) _
    (start_over c.args.task.by (tree_in (g.S.Source.told c.args.source.now)) (tree_in (g.R.Source.told c.args.root.now)) (g.L.Log.told c.args.log.now))
    _ _ _ c.in_ok-audited.ensures.ends c.in_ok-counts.ensures.told tt

pub returns-in_err-counts-clause-made : goal.returns-in_err-counts-clause-made
returns-in_err-counts-clause-made g c =
    let is : c.from_residual-in_err-counts.result ≡ Err c.in_err-counts.field-0.0 = search rules in
    subst (IsMade c.args.task.job (tree_in (g.S.Source.told c.args.source.now))) (sym (ap counts_at_end is))
    (made_by (Err c.in_err-counts.field-0.0) tt c.in_ok-audited.ensures.made)

pub returns-clause-made : goal.returns-clause-made
returns-clause-made g c = made_end _ (Ok c.in_ok-counts.counts) c.in_ok-counts.ensures.told c.in_ok-audited.ensures.made

pub returns-in_err-counts-clause-keeps : goal.returns-in_err-counts-clause-keeps
returns-in_err-counts-clause-keeps g c = record {
  sides = c.in_ok-audited.ensures.keeps.sides;
  log = (
    g.met.L.Log.keeps_on _ _ _ c.in_ok-audited.ensures.keeps.log.0 c.tell_audit_end.ensures.log.0,
    grows_on _ _ _ c.in_ok-audited.ensures.keeps.log.1 c.tell_audit_end.ensures.log.1,
  );
}

pub returns-clause-keeps : goal.returns-clause-keeps
returns-clause-keeps g c = record {
  sides = c.in_ok-audited.ensures.keeps.sides;
  log = (
    g.met.L.Log.keeps_on _ _ _ c.in_ok-audited.ensures.keeps.log.0 c.tell_audit_end.ensures.log.0,
    grows_on _ _ _ c.in_ok-audited.ensures.keeps.log.1 c.tell_audit_end.ensures.log.1,
  );
}

pub returns-in_err-counts-clause-says : goal.returns-in_err-counts-clause-says
returns-in_err-counts-clause-says g c =
    let is : c.from_residual-in_err-counts.result ≡ Err c.in_err-counts.field-0.0 = search rules in
    let said : AuditSays c.args.task.job (tree_in (g.S.Source.told c.args.source.now)) (tree_in (g.R.Source.told c.args.root.now)) c.in_err-counts.field-0.0 =
    says_by {T = Counts} (Err c.in_err-counts.field-0.0) _ _ _ _ _ c.in_err-counts.ensures.fails in
    subst (λ (r : Result AuditCompletion Fault). IfErr r (AuditSays c.args.task.job (tree_in (g.S.Source.told c.args.source.now))
    (tree_in (g.R.Source.told c.args.root.now)))) (sym is) said
