use Rattle.pt_name.proofs.PlaceNames.{only_memory}
use Rattle.pt_name.proofs.layout.push_name.Goals as goal

pub unreachable-requires : goal.unreachable-requires
unreachable-requires c =
    c.in_default.not-Memory (only_memory c.args.bytes.now _ _ c.requires c.in-Err.ensures)
