use Rattle.std.proofs.Common.{rules}
use Rattle.pt_compare.proofs.Beside.{alike_taken}
use Rattle.pt_compare.proofs.meeting.meet_stored.Goals as goal

pub returns-then-stored-clause-met : goal.returns-then-stored-clause-met
returns-then-stored-clause-met g c = alike_taken _ _ _ _ _ _ _ c.take_file.result (c.requires.alike (search rules)) c.take_file.ensures.taken
