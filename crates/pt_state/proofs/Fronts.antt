-- What the log gets of a line that wasn't put whole.
use Rattle.std.proofs.Common.{◌≡◌, List, ℕ, [], refl, sym}
use Rattle.std.specs.Prelude.{Some, Option, None}
use Rattle.std.specs.Io.KnownBytes.{Appends}
use Rattle.std.proofs.lemmas.List.{append-nil}
use Rattle.pt_state.proofs.Words.{Line, FailsPartway, Untouched, DeviceStates, tells, Fault}
use Rattle.pt_state.proofs.Words.fault

pub appends_nothing : (o : Option (List ℕ)) → Appends o o []
appends_nothing None = tt
appends_nothing (Some xs) = sym (append-nil xs)

-- memory was short before anything was put
pub front_none : (line : Line) (w : DeviceStates) (why : Fault) → why ≡ fault.Memory → FailsPartway (tells line) why w w
unfolding FailsPartway
front_none line w why is = (record { read = tt; found = tt; source = refl; dest = Untouched _ refl; log = (0, appends_nothing w.log) }, rw is refl, tt)

pub ruleset fronts = (front_none)
