use Rattle.pt_move.specs.Running.{HasBegun, IsBegun}
use Rattle.pt_move.proofs.clients.owning.Run.with_log.Goals as goal

pub returns : goal.returns
unfolding HasBegun IsBegun
returns g c = rw c.requires.other_silent (rw c.requires.silent at c.requires.begun)
