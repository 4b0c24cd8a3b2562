-- A turn of the start leaves what is held.
use Rattle.std.proofs.Common.{◌≡◌}
use Rattle.std.specs.Prelude.{None, Ok, Err}
use Rattle.std.specs.String.{string_bytes}
use Rattle.pt_state.proofs.Words.{Answer, Did, Start, Calls, DeviceStates, Fault, Phase, Turned, KeepsAll, job_of}
use Rattle.pt_state.specs.declared.state.State.{State}
use Rattle.pt_plan.specs.TurnStart.{StartStep}
use Rattle.pt_state.proofs.Turns.{refused, went}

-- that it leaves the prefix too
abbrev pub StartsAt : Phase → State → Calls → Answer → Type 0
StartsAt here s calls answer = StartStep (job_of s.job) here (string_bytes s.prefix) (string_bytes s.prefix) calls answer

module _ {here : Phase} {s s' : State} (w w' : DeviceStates) {calls : Calls} where
  pub goes : {next : Phase} → StartsAt here s calls (Ok next) → Did calls w w' → calls.line ≡ None → KeepsAll s s' → s'.hasher ≡ s.hasher
      → Turned here s s' w w' (Ok next)
  goes starts did quiet keeps same = went w w' (λ fed. fed) (λ fed _. Start starts) did quiet (λ fed was. rw same was) keeps

  pub halts : {why : Fault} → StartsAt here s calls (Err why) → Did calls w w' → KeepsAll s s' → Turned here s s' w w' (Err why)
  halts starts did keeps = refused w w' (λ fed _. Start starts) did keeps
