use Rattle.std.proofs.Common.{rules}
use Rattle.pt_object.proofs.inventories.parts.Step.is_behind_value.Goals as goal

pub returns-in-Manifest : goal.returns-in-Manifest
returns-in-Manifest c = search rules
