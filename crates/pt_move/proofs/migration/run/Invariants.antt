use Rattle.std.proofs.Common.{ℕ, ◌-◌}
use Rattle.pt_move.proofs.Migrating.{SoFar}
use Rattle.pt_move.proofs.migration.run.Given as goal

abbrev pub decreases-loop-mover : goal.decreases-loop-mover
decreases-loop-mover g l = l.mover.state.job.limits.turns - l.mover.state.counts.turns

abbrev pub invariant-loop-mover : goal.invariant-loop-mover
invariant-loop-mover g l = SoFar l.fn.job (g.O.Io.states l.fn.out) (g.O.Io.states l.out) l.mover × ((n k : ℕ) × g.O.Io.within n k l.fn.out l.out)
