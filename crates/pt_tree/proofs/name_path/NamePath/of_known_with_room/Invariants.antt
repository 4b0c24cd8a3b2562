use Rattle.std.proofs.Common.{◌≡◌, map, take}
use Rattle.pt_tree.proofs.name_path.NamePath.of_known_with_room.Given as goal

abbrev pub invariant-loop-name : goal.invariant-loop-name
invariant-loop-name g l = l.list.items ≡ map g.K.KnownName.known_text (take l.name-index l.names)
