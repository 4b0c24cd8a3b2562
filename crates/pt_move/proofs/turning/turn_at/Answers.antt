use Rattle.std.proofs.Common.{rules}
use Rattle.pt_move.proofs.turning.turn_at.Goals as goal

pub returns-in-End-clause-turn : goal.returns-in-End-clause-turn
returns-in-End-clause-turn g c = search rules
