use Rattle.std.proofs.Common.{ap, arith, refl, subst, sym, ℕ, ◌≡◌, ◌≤◌}
use Rattle.std.specs.Prelude.{IfOk, OnOk, Option, Result, Ok, Err}
use Rattle.pt_audit.proofs.Bounding.{made_by}
use Rattle.pt_audit.proofs.Saying.{blames_by, says_by}
use Rattle.pt_audit.specs.Auditing.{AreUnmetIn, start_over}
use Rattle.pt_audit.specs.Bounds.{IsMade}
use Rattle.pt_audit.specs.Failing.{BlamesRightly, failures}
use Rattle.pt_audit.specs.Growing.{sides_on}
use Rattle.pt_tree.proofs.Growing.{grows_on}
use Rattle.pt_audit.specs.declared.counts.Counts.{Counts}
use Rattle.pt_tree.specs.Failures.{HasRisen}
use Rattle.pt_tree.specs.Source.{tree_in}
use Rattle.pt_extra.proofs.BothWays.{extra_logs, extra_stops}
use Rattle.pt_extra.proofs.Fields.{walk_holds_fields_alone}
use Rattle.pt_extra.specs.Audits.{ExtraLogs, in_both}
use Rattle.pt_extra.specs.declared.auditing.AuditCounts.{AuditCounts}
use Rattle.pt_plan.specs.declared.fault.Fault.{Fault}
use Rattle.pt_state.specs.States.{job_of}
use Rattle.pt_state.specs.declared.job.Job as own
use Rattle.pt_tree.specs.Forest.{Forest}
use Rattle.pt_extra.proofs.auditing.audit_with_extras.Goals as goal

-- the counts of the objects stay what they were behind them
made_rest : (job : own.Job) (source : Option Forest) (counts : Counts) (ran : Result AuditCounts Fault) → IfOk ran (λ told. told.counts ≡ counts)
    → IsMade job source (Ok counts) → IsMade job source (in_both ran)
made_rest job source counts (Ok told) is it = made_by (Ok told.counts) (ap (λ (c : Counts). Ok c) (sym is)) it
made_rest job source counts (Err why) is it = made_by (Err why) tt it

-- what holds however it ends holds where it ends well
whenever : {T E A : Type 0} (r : Result T E) → A → OnOk r A
whenever (Ok x) it = it
whenever (Err e) it = tt

pub returns-in-Ok : goal.returns-in-Ok
returns-in-Ok g c =
    let start = start_over c.args.task.by (tree_in (g.S.Source.told c.args.devices.store)) (tree_in (g.R.Source.told c.args.devices.root))
    (g.L.Log.told c.args.devices.log) in
    let mid = c.audit_objects-audited.new in
    let end = c.tell_rest.result.devices in
    let ran = c.tell_rest.result.ran in
    let fails = c.tell_rest.ensures.fails in
    let had = c.in-Ok.ensures.blames in
    let passed = fails.0 in
    let now = failures (g.S.Source.failed end.store) (g.R.Source.failed end.root) (g.L.Log.failed end.log) in record {
      ends = subst (λ (n : ℕ). ExtraLogs (HasRisen n (g.R.Source.failed end.root)) (job_of c.args.task.job) start (g.L.Log.told end.log) ran) had.root
          (extra_logs (HasRisen (g.R.Source.failed mid.root) (g.R.Source.failed end.root)) c.args.task start
          (tree_in (g.S.Source.told mid.source)) (tree_in (g.R.Source.told mid.root))
          (g.L.Log.told mid.log) (g.L.Log.told end.log) c.in-Ok.audited ran refl
          c.audit_objects-audited.ensures.keeps.sides.source.1 c.audit_objects-audited.ensures.keeps.sides.root.1 c.in-Ok.ensures.ends c.in-Ok.ensures.given
          c.tell_rest.ensures.told);
      layout = whenever ran c.in-Ok.ensures.layout;
      sides = sides_on g.met.S.Source.keeps_on g.met.R.Source.keeps_on _ _ _ c.audit_objects-audited.ensures.keeps.sides c.tell_rest.ensures.sides;
      log = (
        g.met.L.Log.keeps_on _ _ _ c.audit_objects-audited.ensures.keeps.log.0 c.tell_rest.ensures.log.0,
        grows_on _ _ _ c.audit_objects-audited.ensures.keeps.log.1 c.tell_rest.ensures.log.1,
      );
      blames = (
        passed,
        subst (λ (n : ℕ). n ≤ passed) had.root fails.1,
        subst
            (λ (n : ℕ). BlamesRightly (failures n passed (g.L.Log.failed c.args.devices.log)) now ran) had.source
            (subst (λ (n : ℕ). BlamesRightly (failures (g.S.Source.failed mid.source) passed n) now ran) had.log
            (blames_by ran (failures (g.S.Source.failed mid.source) passed (g.L.Log.failed mid.log)) now fails.2)),
      );
      says = says_by ran _ _ _ _ _ fails.2;
      made = made_rest _ _ c.in-Ok.audited.counts ran c.tell_rest.ensures.counts c.in-Ok.ensures.made;
      holds = walk_holds_fields_alone;
      unmet = whenever ran (subst (AreUnmetIn c.args.task.job start.source) (sym c.tell_rest.ensures.unmet) c.in-Ok.ensures.unmet);
    }

pub returns-in-Err : goal.returns-in-Err
returns-in-Err g c =
    let had = c.in-Err.ensures.blames in record {
      ends = extra_stops _ (job_of c.args.task.job)
          (start_over c.args.task.by (tree_in (g.S.Source.told c.args.devices.store)) (tree_in (g.R.Source.told c.args.devices.root))
          (g.L.Log.told c.args.devices.log))
          _ c.in-Err.fault c.in-Err.ensures.ends;
      layout = tt;
      sides = c.in-Err.ensures.keeps.sides;
      log = c.in-Err.ensures.keeps.log;
      blames = (g.R.Source.failed c.args.devices.root, omega (arith), record { source = had.source; root = had.root; log = had.log });
      says = c.in-Err.ensures.says;
      made = c.in-Err.ensures.made;
      holds = walk_holds_fields_alone;
      unmet = tt;
    }
