use Rattle.std.proofs.Common.{ap, sym, subst, ◌∙◌}
use Rattle.pt_tree.specs.Failures.{HasRisen}
use Rattle.pt_tree.specs.Log.{Grows}
use Rattle.pt_host.proofs.CameSo.{came_so}
use Rattle.pt_host.proofs.Audited.{store_is}
use Rattle.pt_host.proofs.Checked.{answers, checks_as, paths_of}
use Rattle.pt_host.proofs.LogBlamed.{risen_put}
use Rattle.pt_host.specs.Checking.{check_call}
use Rattle.pt_host.specs.Durable.{LogFails}
use Rattle.pt_host.specs.Told.{CameTo}
use Rattle.pt_host.specs.Totals.{check_totals}
use Rattle.pt_messages.specs.declared.watch.Words.TheVariants.{Check}
use Rattle.pt_host.proofs.checking.check_over.Goals as goal

pub returns : goal.returns
returns g c =
    let forest = g.S.System.forest in
    let contents = g.W.Write.contents in
    let made = c.run-ran.ensures in
    let begun = c.new.ensures in
    let of = c.of_share-check.ensures in
    let opened = c.open_store-source.ensures in
    let watched = c.watch-source.ensures in
    let of_source = ap (λ k. k.source) of ∙ begun.source in
    let names = ap (λ w. w.source.names) of_source ∙ ap (λ i. i.names) watched.source ∙ opened.left_out in
    let source = ap (λ w. w.source.source) of_source ∙ ap (λ i. i.source) watched.source in
    let system = ap (λ s. s.syscalls.system) source ∙ opened.store.0 in
    let path = ap (λ s. s.folder.path.now) source ∙ opened.store.1 in
    let store = store_is forest _ names system path in
    let fails = paths_of g.S.File.Handle.fails _ _ ∙ (λ i. g.S.System.failing (system i) (path i)) in
    let failures = ap (λ s. s.failures) source ∙ opened.unread.1 in
    let first = ap (λ k. contents k.log.log.writer) of ∙ ap (λ l. contents l.log.writer) begun.log ∙ ap (λ l. contents l.writer) watched.log
    ∙ ap contents opened.log.0 in
    let parts = c.into_parts-watched.ensures in
    let closed = c.close-source.ensures in
    let output = c.into_writer.ensures ∙ ap (λ l. l.writer) closed.log ∙ ap (λ l. l.log.writer) parts.log in
    let kept = c.into_system.ensures ∙ ap (λ s. s.syscalls.system) (closed.source ∙ ap (λ w. w.source.source) parts.source) in
    let later = store_is forest _ (made.keeps.source.0 ∙ names) (sym kept) (ap (λ f. f.path.now) made.keeps.source.1.folder ∙ path) in
    let log-before = c.of_share-check.result.log.log in
    let log-after = c.run-ran.new.self.log.log in
    let put-fails = LogFails g.W.Writes.writes g.F.SyncsOutput.puts in
    let before = ap (λ k. k.log.log) of ∙ ap (λ l. l.log) begun.log ∙ watched.log in
    let log-failed : HasRisen log-before.failures log-after.failures → put-fails c.args.parts.file c.args.parts.host_io.output c.into_writer.result =
    λ risen. subst (λ o. put-fails c.args.parts.file c.args.parts.host_io.output o) (sym output)
    (subst (λ w. put-fails c.args.parts.file w log-after.writer) (ap (λ l. l.writer) before ∙ opened.log.0)
    (subst (λ f. put-fails f log-before.writer log-after.writer) (ap (λ l. l.file) before ∙ opened.log_synced)
    (risen_put g.W.Writes.writes g.F.SyncsOutput.puts log-before log-after made.keeps.log_stays.0 (ap (λ l. l.failures) before ∙ opened.log.1) risen))) in
    record {
      ran = c.run-ran.result;
      checks = checks_as c.run-ran.result (check_call c.args.options c.args.folders.store.now) _ _ (ap (λ k. k.share) of)
          (ap (λ k. k.wants) of ∙ begun.wants ∙ c.wants_of-wants.ensures) store fails failures first (ap (λ k. k.numbers) of ∙ begun.numbers)
          (ap (λ k. k.unmet) of ∙ begun.unmet) (ap contents (sym output)) (sym parts.unmet) made.checked;
      fault = answers c.run-ran.result log-before.failures log-after.failures made.fault log-failed;
      store_stays = sym later ∙ made.keeps.tree ∙ store;
      grows = subst (λ l. Grows l (contents c.into_writer.result)) first (subst (Grows _) (ap contents (sym output)) made.keeps.log);
      folder_stays = opened.folder;
      status_is = c.status_of.ensures;
      came = came_so _ Check _ (check_totals c.run-ran.result) c.close-source.result.2
          (ap (λ w. w.words) (c.new-account.ensures ∙ c.watching-watching.ensures)) c.ended.ensures closed.outcome;
    }
