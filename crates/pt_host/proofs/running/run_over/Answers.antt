use Rattle.std.proofs.Common.{◌∙◌, ap, refl, sym}
use Rattle.std.specs.Result.{result_err}
use Rattle.pt_folder.specs.Reading.{unread_open}
use Rattle.pt_host.proofs.LogBlamed.{log_blamed}
use Rattle.pt_host.proofs.CameSo.{came_so, run_fault}
use Rattle.pt_host.proofs.Logged.{log_counts, logged}
use Rattle.pt_host.proofs.Rehearsed.{leaves_at}
use Rattle.pt_host.specs.Totals.{run_totals}
use Rattle.pt_messages.specs.declared.watch.Words.TheVariants.{Run}
use Rattle.pt_host.proofs.running.run_over.Goals as goal

pub returns : goal.returns
returns g c =
    let source = c.run_or_rehearse-made.new.source.source.source in
    let dest = c.run_or_rehearse-made.result.dest in
    let ran = c.run_or_rehearse-made.result.ran in
    let made = c.run_or_rehearse-made.ensures in
    let log-before = c.watch-source.result.1.log in
    let log-after = c.run_or_rehearse-made.new.log.log in
    let counts = log_counts c.args.options.job c.args.options.rehearse _ _ _ ran made.promises in
    let unfailed = ap (λ l. l.failures) c.watch-source.ensures.log in
    record {
      runs = (
        unread_open g.S.File.Input.bytes source.reading,
        dest.unsynced,
        dest.writing,
        record { source = source.failures; dest = dest.failures; log = log-after.failures },
        (
          ran,
          rw (
            c.into_system.ensures,
            c.into_system-2.ensures,
            c.into_writer.ensures,
            c.close-source.ensures.log,
            c.close-source.ensures.source,
            ← c.new-ignoring.ensures.source,
            ← c.new-ignoring.ensures.names,
            ← c.watch-source.ensures.source,
            ← c.watch-source.ensures.log,
          ) (rw (made.source.keeps.1.folder, made.source.keeps.0, made.dest) at made.promises),
          c.status_of-status.ensures,
          came_so _ Run _ (run_totals ran) c.close-source.result.2
              (ap (λ w. w.words) (c.new-account.ensures ∙ c.watching-watching.ensures)) c.ended.ensures c.close-source.ensures.outcome,
          rw (
            ← c.new-ignoring.ensures.source,
            ← c.new-ignoring.ensures.names,
            ← c.watch-source.ensures.source,
          ) made.unmet,
        ),
        rw (c.into_system-2.ensures)
            (leaves_at g.D.System.kept c.args.options.rehearse _ dest.syscalls.system (ap (λ f. f.path.now) made.dest) made.rehearsed),
        λ s is. let unsynced = made.unsynced c.args.options.allowed s is in (unsynced.0, λ none. c.status_of-status.ensures ∙ unsynced.1 none),
        rw (← c.new-ignoring.ensures.source, ← c.new-ignoring.ensures.names, ← c.watch-source.ensures.source) made.source.fails.failed,
        (dest, made.served, sym c.into_system-2.ensures, refl),
      );
      logged = λ none. rw (c.into_writer.ensures, c.close-source.ensures.log, c.status_of-status.ensures, ← c.watch-source.ensures.log)
          (logged g.W.Writes.writes g.F.SyncsOutput.puts c.args.options.allowed log-before log-after ran made.log.0 counts (unfailed ∙ none));
      log_fails = λ none. rw (c.into_writer.ensures, c.close-source.ensures.log, ← c.watch-source.ensures.log)
          (log_blamed g.W.Writes.writes g.F.SyncsOutput.puts log-before log-after ran _ made.log.0 counts (unfailed ∙ none)
          (c.close-source.ensures.outcome.1 ∙ ap (λ e. result_err e) c.ended.ensures ∙ run_fault ran));
    }
