use Rattle.std.proofs.Common.{◌≡◌, true, take}
use Rattle.std.specs.Prelude.{All}
use Rattle.pt_tree.specs.Name.{is_name}
use Rattle.pt_quick.proofs.claimed.tell_path.Given as goal

abbrev pub invariant-loop-name : goal.invariant-loop-name
invariant-loop-name l = All (λ n. is_name n ≡ true) (take l.name-index l.names)
