use Rattle.std.proofs.Common.{ℕ, ◌<◌, get_or}
use Rattle.hex.specs.Hex.{IsBytes}
use Rattle.pt_object.specs.Entries.{no_content}
use Rattle.pt_object.proofs.inventories.tell_digests.Given as goal

abbrev pub invariant-loop-content : goal.invariant-loop-content
invariant-loop-content l = (p : ℕ) → p < l.content-index → IsBytes (get_or l.items p no_content).digest
