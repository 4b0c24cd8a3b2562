use Rattle.pt_move.specs.Running.{HasBegun}
use Rattle.pt_state.specs.Outside.{states_of}
use Rattle.pt_move.proofs.clients.owning.Run.make_steps.Given as goal

-- the run is to begin, or in progress over its devices
abbrev pub invariant-loop : goal.invariant-loop
invariant-loop g l =
    HasBegun (states_of g.S.Source g.D.Dest g.L.Log l.self.source l.self.dest l.self.log) l.self.mover
