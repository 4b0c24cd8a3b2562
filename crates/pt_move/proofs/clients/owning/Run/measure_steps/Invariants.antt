use Rattle.pt_invariant.specs.RunInvariant.{Start}
use Rattle.pt_move.specs.Running.{HasBegun}
use Rattle.pt_state.specs.Outside.{states_of}
use Rattle.pt_tree.specs.Forest.{Forest}
use Rattle.pt_move.specs.Holding.{GoesOn, IsMost}
use Rattle.pt_move.proofs.clients.owning.Run.measure_steps.Given as goal

-- the run is to begin, or in progress over its devices, and held no more than the bound
abbrev pub invariant-loop : goal.invariant-loop
invariant-loop g l =
    let now =
    states_of g.S.Source g.D.Dest g.L.Log l.self.source l.self.dest l.self.log in
    let first =
    states_of g.S.Source g.D.Dest g.L.Log l.fn.self.source l.fn.self.dest l.fn.self.log in
    let job = l.fn.self.mover.state.job in record {
      begun : HasBegun now l.self.mover;
      held :
          (start : Start) (s : Forest) → GoesOn start s job first l.fn.self.mover
          → GoesOn start s job now l.self.mover × IsMost job start s l.most.records l.most.turns;
    }
