use Rattle.std.proofs.Common.{◌≡◌, map, take}
use Rattle.std.specs.List.{flat_map}
use Rattle.pt_folder.specs.Names.{ended}
use Rattle.pt_memory_system.proofs.names.names_of.Given as goal

-- the names so far are written
abbrev pub invariant-loop-i : goal.invariant-loop-i
invariant-loop-i l = record {
  so_far : l.bytes.items ≡ flat_map ended (map (λ item. item.0) (take l.i l.listing));
}
