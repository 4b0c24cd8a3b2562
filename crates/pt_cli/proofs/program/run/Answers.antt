use Rattle.std.proofs.Common.{Err, Ok, map, string_bytes}
use Rattle.pt_cli.proofs.program.run.Goals as goal

pub returns-in-Ok : goal.returns-in-Ok
returns-in-Ok g c = (
  Ok (map string_bytes c.in-Ok.words.items),
  c.in-Ok.ensures,
  rw c.from.ensures (rw c.as_slice.ensures.value at c.answer.ensures),
)

pub returns-in-Err : goal.returns-in-Err
returns-in-Err g c = (Err c.in-Err.error, c.in-Err.ensures, rw c.from-in-Err.ensures c.wordless.ensures)
