use Rattle.std.proofs.Common.{ap, refl, sym, subst, ◌∙◌}
use Rattle.std.specs.Prelude.{OnOk}
use Rattle.std.specs.Option.{ForSome}
use Rattle.pt_audit.specs.Layout.{IsOfLayout}
use Rattle.pt_audit.specs.Auditing.{start_over}
use Rattle.pt_extra.specs.Audits.{AuditLogs}
use Rattle.pt_host.specs.Audits.{audit_call, failed_calls, root_seen, store_seen, store_view, words_with}
use Rattle.pt_host.specs.Durable.{LogFails}
use Rattle.pt_host.specs.Machine.{host_io_words}
use Rattle.pt_host.specs.ReadSteps.{FailsBetween}
use Rattle.pt_host.specs.StoreFailures.{FailsWhereStands}
use Rattle.pt_state.specs.States.{job_of}
use Rattle.pt_tree.specs.Failures.{HasRisen}
use Rattle.pt_tree.specs.Log.{Grows}
use Rattle.pt_host.proofs.AuditFailed.{logs_by, of_failed, store_failed}
use Rattle.pt_host.proofs.CameSo.{came_so}
use Rattle.pt_host.proofs.Audited.{ends_as, made_as, root_is, says_as, store_is, unmet_as}
use Rattle.pt_host.proofs.LogBlamed.{risen_put}
use Rattle.pt_host.proofs.Stepping.{risen_read}
use Rattle.pt_host.proofs.auditing.audit_over.Goals as goal

pub returns : goal.returns
returns g c =
    let made = c.audit-end.ensures in
    let end = c.conclude.ensures in
    let ran = c.audit-end.result.ran in
    let forest = g.S.System.forest in
    let folders = g.D.System.forest in
    let contents = g.W.Write.contents in
    let job = c.args.options.job in
    let opened = c.open_sides-source.ensures in
    let store-before = c.new-store.result.source.source.source in
    let store-after = c.audit-end.result.devices.store.source.source.source in
    let root-before = c.new-root.result.folder in
    let root-after = c.audit-end.result.devices.root.folder in
    let ignoring = ap (λ w. w.source) c.new-store.ensures ∙ c.watch-store.ensures.source in
    let names = ap (λ w. w.names) ignoring ∙ opened.left_out in
    let system = ap (λ w. w.source.syscalls.system) ignoring ∙ opened.store.0 in
    let path = ap (λ w. w.source.folder.path.now) ignoring ∙ opened.store.1 in
    let store = store_is forest _ names system path in
    let root = c.new-root.ensures in
    let root-system = ap (λ s. s.syscalls.system) root ∙ opened.folder.0 in
    let root-path = ap (λ s. s.folder.path.now) root ∙ opened.folder.1 in
    let folder = root_is folders _ root-system root-path in
    let log-before = c.watch-store.result.1.log in
    let log-after = c.audit-end.result.devices.log.log in
    let first = ap (λ l. contents l.writer) c.watch-store.ensures.log ∙ ap contents opened.log.0 in
    let later = store_is forest _ (made.sides.source.0.keeps.0 ∙ names) (sym end.store) (ap (λ f. f.path.now) made.sides.source.0.keeps.1.folder ∙ path) in
    let stands = root_is folders _ (sym end.folder) (ap (λ f. f.path.now) made.sides.root.0.same.folder ∙ root-path) in
    let words = host_io_words forest g.S.System.failing folders contents in
    let call = audit_call c.args.options c.args.folders.store.now c.args.folders.folder.now in
    let old = c.args.parts.host_io in
    let new = c.conclude.result.0 in
    let root_fails = FailsBetween g.D.System g.D.File.Handle g.D.File.Input g.D.Dir.Input in
    let log_fails = LogFails g.W.Writes.writes g.F.SyncsOutput.puts c.args.parts.file in
    let root-failed : HasRisen root-before.failures root-after.failures → root_fails call.folder old.folder new.folder = λ risen. (
      root-before,
      root-after,
      (root-system, root-path),
      risen_read root-before root-after made.sides.root.0 (ap (λ s. s.failures) root ∙ opened.unasked) risen,
      sym end.folder,
    ) in
    let put-fails = LogFails g.W.Writes.writes g.F.SyncsOutput.puts in
    let log-failed : HasRisen log-before.failures log-after.failures → log_fails old.output new.output = λ risen.
    let failed = risen_put g.W.Writes.writes g.F.SyncsOutput.puts log-before log-after made.log.0.0
    (ap (λ l. l.failures) c.watch-store.ensures.log ∙ opened.log.1) risen in
    subst (λ o. put-fails c.args.parts.file old.output o) (sym end.output)
    (subst (λ w. put-fails c.args.parts.file w log-after.writer) (ap (λ l. l.writer) c.watch-store.ensures.log ∙ opened.log.0)
    (subst (λ f. put-fails f log-before.writer log-after.writer) (ap (λ l. l.file) c.watch-store.ensures.log ∙ opened.log_synced) failed)) in
    let store-failed : HasRisen store-before.failures store-after.failures → FailsWhereStands (store_view words call old) = λ risen.
    store_failed forest g.S.System.failing g.S.File.Input.bytes g.S.File.Handle.fails _ _ store-before.failures store-after.failures names system path
    (ap (λ w. w.source.reading) ignoring ∙ opened.unread.0) (ap (λ w. w.source.failures) ignoring ∙ opened.unread.1) risen made.sides.source.0.fails in
    record {
      ran = ran;
      ends = subst (λ b. AuditLogs c.args.options.extra (root_fails call.folder old.folder new.folder) (job_of job)
          (start_over b (store_seen words call old) (root_seen words call old) (contents old.output)) (contents new.output) ran) c.compare_by-by.ensures
          (ends_as c.args.options.extra (root_fails call.folder old.folder new.folder) ran (job_of job) _ store folder first
          (ap contents (sym end.output)) (logs_by root-failed c.args.options.extra (job_of job) _ _ ran made.ends));
      layout = subst (λ t. OnOk ran (ForSome t (IsOfLayout (job_of job)))) folder made.layout;
      says = says_as ran job store folder made.says;
      blames = of_failed words (failed_calls root_fails log_fails) call old new c.args.options.extra _ _ ran made.blames store-failed root-failed
          log-failed;
      made = made_as _ job store made.made;
      store_stays = sym later ∙ made.sides.source.1 ∙ store;
      root_stays = sym stands ∙ made.sides.root.1 ∙ folder;
      grows = subst (λ l. Grows l (contents new.output)) first (subst (Grows _) (ap contents (sym end.output)) made.log.1);
      status_is = end.status;
      came = came_so _ _ _ _ c.conclude.result.1.outcome
          (ap (λ w. w.words) (c.new-account.ensures ∙ c.watching-watching.ensures) ∙ c.words_of.ensures
          ∙ ap (words_with c.args.options.extra) c.compare_by-by.ensures) refl end.came;
      unmet = unmet_as ran job store end.unmet made.unmet;
    }
