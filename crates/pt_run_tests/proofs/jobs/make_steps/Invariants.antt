use Rattle.pt_state.specs.Outside.{states_of}
use Rattle.pt_move.specs.Running.{HasBegun}
use Rattle.pt_run_tests.proofs.jobs.make_steps.Given as goal

abbrev pub invariant-turns : goal.invariant-turns
invariant-turns g l = HasBegun (states_of g.S.Source g.D.Dest g.L.Log l.source l.dest l.log) l.mover
