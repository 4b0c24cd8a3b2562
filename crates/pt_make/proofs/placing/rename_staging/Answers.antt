use Rattle.std.proofs.Common.{refl, rules}
use Rattle.pt_state.proofs.Words.{DeviceStates, FailsUnchanged}
use Rattle.pt_state.proofs.Words.fault
use Rattle.pt_make.proofs.Pieces.{answers_with}
use Rattle.pt_make.proofs.placing.rename_staging.Goals as goal

-- memory was short before anything was called
uncalled : (w : DeviceStates) → FailsUnchanged fault.Memory w w
unfolding FailsUnchanged
uncalled w = (refl, refl, refl, refl, tt)

pub returns-in_err-from : goal.returns-in_err-from
returns-in_err-from g c = record {
  did = search rules;
  failed = answers_with _ _ _ c.from_residual.ensures.1 (uncalled _);
  few = g.met.O.Io.none _;
}
