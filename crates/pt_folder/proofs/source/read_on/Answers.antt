use Rattle.std.proofs.Common.{subst, sym}
use Rattle.std.specs.Prelude.{Err, IfSome}
use Rattle.pt_folder.specs.declared.reading.FileInReading.{FileInReading}
use Rattle.pt_folder.specs.Failure.{OnDevice}
use Rattle.pt_folder.specs.Reading.{FailsToReadOn, IsOfReading}
use Rattle.pt_folder.proofs.Kept.{kept_call}
use Rattle.pt_folder.proofs.source.read_on.Goals as goal

pub returns-in-Err-clause-kept : goal.returns-in-Err-clause-kept
returns-in-Err-clause-kept g c =
    let old = c.in-Some.open in
    let reads = g.F.Input.reads in
    let goes = g.F.Handle.goes in
    let kept = kept_call {T = Unit {0}} c.record_error_at_copy.new.self.failure c.args.at.now c.in-Err.error (λ e. (after : FileInReading g.row.F.Denot)
    × FailsToReadOn reads goes old e after) (Err c.record_error_at_copy.result) c.record_error_at_copy.ensures.kept
    (c.read.new.self, c.in-Err.ensures.error) in
    subst (λ o. OnDevice {T = Unit {0}} (Err c.record_error_at_copy.result)
    (IfSome c.record_error_at_copy.new.self.failure (IsOfReading reads goes c.args.at.now o))) (sym c.in-Some.is) kept
