use Rattle.std.proofs.Common.{Ok, Err}
use Rattle.pt_folder.specs.Calls.{IsDueTo}
use Rattle.pt_folder.specs.Listing.{FailsToGet}
use Rattle.pt_folder.specs.Taking.{GetsAll}
use Rattle.pt_folder.specs.declared.failure.FailureReason.TheVariants as cause
use Rattle.pt_folder.proofs.Kept.{names_heard}
use Rattle.pt_folder.proofs.Taken.{each_way}
use Rattle.pt_folder.proofs.taking.take_dir.Goals as goal

pub returns-in-Ok-clause-asked : goal.returns-in-Ok-clause-asked
returns-in-Ok-clause-asked g c =
    let input = g.S.Dir.Input in
    let dir = c.in-Ok.dir in
    let after = c.take_all.new.dir in (
      Ok dir,
      c.in-Ok.ensures,
      (
        after,
        each_way c.take_all.result (GetsAll input g.T.Takes.has dir c.take_all.new.taken after)
            (λ f. IsDueTo f (FailsToGet input.reads g.T.Takes.refuses dir after)) c.take_all.ensures.read c.take_all.ensures.fault,
      ),
    )

pub returns-in-Err-clause-kept : goal.returns-in-Err-clause-kept
returns-in-Err-clause-kept g c = names_heard {T = Unit {0}} (Err c.record_error_at_copy.result) c.record_error_at_copy.new.self.failure c.args.text.now
    (cause.System c.in-Err.error) c.record_error_at_copy.ensures.kept tt
