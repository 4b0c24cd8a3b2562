use Rattle.std.proofs.Common.{◌∙◌, None, ap, sym}
use Rattle.std.proofs.lemmas.Result.{IfOk-weaker}
use Rattle.pt_folder.specs.DestHeld.{told_with as dest_told}
use Rattle.pt_move.specs.Unmet.{report_of}
use Rattle.pt_rehearsal.specs.Rehearsal.{told}
use Rattle.pt_tree.specs.Source.{tree_in}
use Rattle.pt_host.proofs.LeftUnmet.{left_unmet}
use Rattle.pt_host.proofs.Rehearsed.{carried, rehearsed, tells_still}
use Rattle.pt_host.proofs.AllSynced.{none_unsynced_by, unsynced_by}
use Rattle.pt_host.proofs.running.run_or_rehearse.Goals as goal

pub returns-then-rehearse-clause-promises : goal.returns-then-rehearse-clause-promises
returns-then-rehearse-clause-promises g c =
    let begun = c.new-rehearsal.result in
    let ended = c.migrate_observed-ran.new.dest in
    rw (c.end_of.ensures.dest, c.end_of.ensures.ran)
    (rehearsed c.args.task.job (dest_told (g.D.System.kept c.args.dest.syscalls.system c.args.dest.folder.path.now) None None) _ _ _ _ _ _ _ _ _
    c.args.task.rehearse (told begun) (told ended) _ _ _ _ begun.dest.failures ended.dest.failures
    c.if-rehearse.true c.new-rehearsal.ensures.told (tells_still begun ended c.migrate_observed-ran.ensures.run.dest_stays.0)
    (ap (λ t. t.3) c.new-rehearsal.ensures.still) (ap (λ d. d.failures) (sym c.into_dest-dest.ensures)) c.migrate_observed-ran.ensures.run.promises)

pub returns-clause-promises : goal.returns-clause-promises
returns-clause-promises g c = rw (c.end_of-2.ensures.dest, c.end_of-2.ensures.ran)
    (carried c.args.task.job (dest_told (g.D.System.kept c.args.dest.syscalls.system c.args.dest.folder.path.now) None None) _ _ _ _ _ _ _ _ _
    c.args.task.rehearse _ _ _ _ c.if-rehearse.false c.migrate_observed-ran-2.ensures.run.promises)

pub returns-then-rehearse-clause-served : goal.returns-then-rehearse-clause-served
returns-then-rehearse-clause-served g c =
    let begun = c.new-rehearsal.ensures in
    rw c.if-rehearse.true (
      c.new-rehearsal.result,
      c.migrate_observed-ran.new.dest,
      record { still = begun.still; longest = begun.longest; unsynced = begun.unsynced; empty = begun.remembered },
      c.migrate_observed-ran.ensures.run.dest_stays.1,
      c.end_of.ensures.dest ∙ c.into_dest-dest.ensures,
    )

pub returns-clause-served : goal.returns-clause-served
returns-clause-served g c = rw (c.if-rehearse.false, c.end_of-2.ensures.dest) c.migrate_observed-ran-2.ensures.run.dest_stays.1

pub returns-then-rehearse-clause-unsynced : goal.returns-then-rehearse-clause-unsynced
returns-then-rehearse-clause-unsynced g c =
    let stays = c.migrate_observed-ran.ensures.run.dest_stays in
    λ allowed. none_unsynced_by _ _ _ _ (ap (λ d. d.unsynced) (c.end_of.ensures.dest ∙ c.into_dest-dest.ensures) ∙ stays.0.3 ∙ c.new-rehearsal.ensures.unsynced)

pub returns-clause-unsynced : goal.returns-clause-unsynced
returns-clause-unsynced g c =
    let dest = c.migrate_observed-ran-2.new.dest in
    let stays = c.migrate_observed-ran-2.ensures.run.dest_stays in
    λ allowed. rw (c.end_of-2.ensures.dest, c.end_of-2.ensures.ran)
    (unsynced_by c.args.dest.synced allowed c.args.dest.failures dest.failures (report_of c.migrate_observed-ran-2.result) dest.unsynced
    (λ s is. sym stays.0.1.1 ∙ dest.wanted s is) dest.risen c.migrate_observed-ran-2.ensures.run.promises.dest)

pub returns-then-rehearse-clause-unmet : goal.returns-then-rehearse-clause-unmet
returns-then-rehearse-clause-unmet g c = left_unmet c.args.task.job (tree_in (g.S.Source.told c.args.source.now)) c.migrate_observed-ran.result
    c.end_of.result.ran c.end_of.result.unmet c.end_of.ensures.ran c.end_of.ensures.unmet
    (IfOk-weaker c.migrate_observed-ran.result _ _ (λ completion leaves. leaves.store) c.migrate_observed-ran.ensures.unmet)

pub returns-clause-unmet : goal.returns-clause-unmet
returns-clause-unmet g c = left_unmet c.args.task.job (tree_in (g.S.Source.told c.args.source.now)) c.migrate_observed-ran-2.result
    c.end_of-2.result.ran c.end_of-2.result.unmet c.end_of-2.ensures.ran c.end_of-2.ensures.unmet
    (IfOk-weaker c.migrate_observed-ran-2.result _ _ (λ completion leaves. leaves.store) c.migrate_observed-ran-2.ensures.unmet)

pub returns-then-rehearse-clause-source : goal.returns-then-rehearse-clause-source
returns-then-rehearse-clause-source g c =
    let run = c.migrate_observed-ran.ensures.run in
    record { keeps = run.source_stays; fails = run.source_fails }

pub returns-clause-source : goal.returns-clause-source
returns-clause-source g c =
    let run = c.migrate_observed-ran-2.ensures.run in
    record { keeps = run.source_stays; fails = run.source_fails }
