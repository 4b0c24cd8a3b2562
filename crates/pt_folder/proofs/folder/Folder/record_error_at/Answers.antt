use Rattle.std.proofs.Common.{rules}
use Rattle.pt_folder.proofs.folder.Folder.record_error_at.Goals as goal

pub returns-clause-kept : goal.returns-clause-kept
returns-clause-kept c = search rules
