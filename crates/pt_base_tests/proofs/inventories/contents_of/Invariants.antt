use Rattle.std.proofs.Common.{◌≡◌, [], take}
use Rattle.pt_object.specs.Distinct.{noted_all}
use Rattle.pt_base_tests.proofs.inventories.contents_of.Given as goal

abbrev pub invariant-loop-row : goal.invariant-loop-row
invariant-loop-row l = l.contents ≡ noted_all [] (take l.row-index l.row-items)
