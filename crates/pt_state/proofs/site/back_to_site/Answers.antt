use Rattle.std.proofs.Common.{rules}
use Rattle.pt_state.proofs.site.back_to_site.Goals as goal

pub returns : goal.returns
returns c = search rules
