use Rattle.std.proofs.Common.{refl}
use Rattle.pt_folder.proofs.Moved.{kept_sync}
use Rattle.pt_folder.proofs.moving.ReadyMove.go.Goals as goal

pub returns-in_err-sync_dir-clause-kept : goal.returns-in_err-sync_dir-clause-kept
returns-in_err-sync_dir-clause-kept g c =
    kept_sync g.S.System g.S.File.Handle.syncs c.args.self c.args.syscalls.now.system c.sync_dir.new.self.system _ _ c.from_residual.result
    c.in_err-sync_dir.field-0.0 c.sync_dir.new.self.last.failure c.from_residual.ensures.1 refl c.in_err-sync_dir.ensures.kept
