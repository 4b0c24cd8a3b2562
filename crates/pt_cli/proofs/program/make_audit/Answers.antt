use Rattle.std.proofs.Common.{Err, Ok}
use Rattle.pt_cli.proofs.program.make_audit.Goals as goal

pub returns-in-Ok : goal.returns-in-Ok
returns-in-Ok g c = (
  Ok c.in-Ok.share,
  c.in-Ok.ensures,
  rw (c.as_str-in-Ok.ensures, c.as_str.ensures) at c.audit_guarded.ensures,
)

pub returns-in-Err : goal.returns-in-Err
returns-in-Err g c = (Err c.in-Err.why, c.in-Err.ensures, c.refuse_list.ensures)
