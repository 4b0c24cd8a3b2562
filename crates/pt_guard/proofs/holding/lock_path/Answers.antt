use Rattle.std.proofs.Common.{Err, Ok, refl}
use Rattle.pt_guard.proofs.holding.lock_path.Goals as goal

pub returns-in-Ok : goal.returns-in-Ok
returns-in-Ok g c = (Ok c.in-Ok.folder, c.in-Ok.ensures, c.lock_folder.ensures)

pub returns-in-Err : goal.returns-in-Err
returns-in-Err g c = (Err c.in-Err.error, c.in-Err.ensures, refl)
