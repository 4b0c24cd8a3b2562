use Rattle.std.proofs.Common.{subst, sym}
use Rattle.std.specs.Prelude.{Err, IfSome}
use Rattle.pt_folder.specs.Failure.{OnDevice}
use Rattle.pt_folder.specs.Folder.{entry_text}
use Rattle.pt_folder.specs.Writing.{FailsToAdd, IsOfWriting}
use Rattle.pt_folder.proofs.Kept.{kept_call}
use Rattle.pt_folder.proofs.writing.add.Goals as goal

pub returns-in-Err-clause-kept : goal.returns-in-Err-clause-kept
returns-in-Err-clause-kept g c =
    let old = c.in-Some.open in
    let folder = c.args.folder.now.path.now in
    let adds = FailsToAdd g.S.System.writes c.args.piece.now c.args.syscalls.now.system in
    let kept = kept_call {T = Unit {0}} c.record_error_at.new.last.failure (entry_text folder old.path) c.in-Err.error (adds old.file)
    (Err c.record_error_at.result) c.record_error_at.ensures.kept ((c.write_pieces.new.system, c.write_pieces.new.file), c.in-Err.ensures.error) in
    subst (λ o. OnDevice {T = Unit {0}} (Err c.record_error_at.result) (IfSome c.record_error_at.new.last.failure (IsOfWriting folder adds o)))
    (sym c.in-Some.is) kept
