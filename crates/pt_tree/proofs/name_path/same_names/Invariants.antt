use Rattle.std.proofs.Common.{◌≡◌, take}
use Rattle.pt_tree.proofs.name_path.same_names.Given as goal

abbrev pub invariant-loop-i : goal.invariant-loop-i
invariant-loop-i l = take l.i l.names ≡ take l.i l.others
