use Rattle.std.proofs.Common.{rules}
use Rattle.pt_host.proofs.devices.open_devices.Goals as goal

pub returns-clause-synced : goal.returns-clause-synced
returns-clause-synced g c = search rules

pub returns-clause-longest : goal.returns-clause-longest
returns-clause-longest g c = search rules

pub returns-clause-store : goal.returns-clause-store
returns-clause-store g c = search rules

pub returns-clause-folder : goal.returns-clause-folder
returns-clause-folder g c = search rules
