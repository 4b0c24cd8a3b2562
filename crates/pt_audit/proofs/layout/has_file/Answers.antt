use Rattle.std.proofs.Common.{rules}
use Rattle.pt_audit.proofs.Layouts.{no_file}
use Rattle.pt_audit.proofs.layout.has_file.Goals as goal

pub returns-then-not-is_file-clause-there : goal.returns-then-not-is_file-clause-there
returns-then-not-is_file-clause-there g c =
    no_file _ c.in_ok-whole.whole c.args.path.now c.args.bytes.now c.in_ok-here.here c.in_ok-whole.ensures (search rules) c.in_ok-here.ensures.kind
