use Rattle.std.specs.Prelude.{◌≡◌}
use Rattle.pt_move.specs.Mending.{MayEndAs}
use Rattle.pt_state.specs.Outside.{states_of}
use Rattle.pt_tree.specs.Forest.{Forest}
use Rattle.pt_tree.specs.Tree.{Tree}
use Rattle.pt_move.proofs.clients.anew.carry_through.Given as goal

-- the job stays, and what a run may leave is what it may have left at first
abbrev pub invariant-loop : goal.invariant-loop
invariant-loop g l =
    let job = g.J.Jobs.job l.fn.attempts.jobs in
    let first =
    states_of g.S.Source g.D.Dest g.L.Log l.fn.source l.fn.dest l.fn.log in
    let now = states_of g.S.Source g.D.Dest g.L.Log l.source l.dest l.log in record {
      same : g.J.Jobs.job l.jobs ≡ job;
      ends : (s : Forest) (start : Tree) → MayEndAs job s start first → MayEndAs job s start now;
    }
