use Rattle.std.specs.Option.{ForSome}
use Rattle.pt_audit.specs.Auditing.{start_over}
use Rattle.pt_audit.specs.Bounds.{counts_at_end}
use Rattle.pt_audit.specs.Failing.{AuditSays, failures}
use Rattle.pt_audit.specs.Layout.{IsOfLayout}
use Rattle.pt_extra.proofs.BothWays.{plain_keeps, plain_logs, plain_made, plain_unmet}
use Rattle.pt_extra.proofs.Fields.{walk_holds_fields_alone}
use Rattle.pt_state.specs.States.{job_of}
use Rattle.pt_tree.specs.Failures.{HasRisen}
use Rattle.pt_tree.specs.Source.{tree_in}
use Rattle.pt_extra.proofs.auditing.audit.Goals as goal

pub returns-then-with_extras : goal.returns-then-with_extras
returns-then-with_extras g c = rw c.if-with_extras.true c.audit_with_extras.ensures

pub returns : goal.returns
returns g c =
    let task = c.args.task in
    let job = task.job in
    let before = c.args.devices in
    let after = c.audit-audited.new in
    let store = tree_in (g.S.Source.told before.store) in
    let root = tree_in (g.R.Source.told before.root) in
    let old = failures (g.S.Source.failed before.store) (g.R.Source.failed before.root) (g.L.Log.failed before.log) in
    let new = failures (g.S.Source.failed after.source) (g.R.Source.failed after.root) (g.L.Log.failed after.log) in
    let ran = counts_at_end c.audit-audited.result in
    let told = c.without_extras.result in
    let is = c.without_extras.ensures in
    let it = c.audit-audited.ensures in
    let kept = plain_keeps (ForSome root (IsOfLayout (job_of job))) (AuditSays job store root) old new c.audit-audited.result told is it.layout it.says
    it.blames in
    rw c.if-with_extras.false (record {
      ends = plain_logs (HasRisen (g.R.Source.failed before.root) (g.R.Source.failed after.root)) (job_of job)
          (start_over task.by store root (g.L.Log.told before.log)) (g.L.Log.told after.log) ran told is it.ends;
      layout = kept.ok;
      sides = it.keeps.sides;
      log = it.keeps.log;
      blames = kept.blames;
      says = kept.says;
      made = plain_made job store ran told is it.made;
      holds = walk_holds_fields_alone;
      unmet = plain_unmet job store c.audit-audited.result told c.unmet_after.result is c.unmet_after.ensures it.unmet;
    })
