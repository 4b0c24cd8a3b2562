use Rattle.std.proofs.Common.{◌∙◌}
use Rattle.pt_object.proofs.Noting.{noting_gives_distinct}
use Rattle.pt_quick.proofs.claimed.rows_with.Goals as goal

pub returns-clause-contents : goal.returns-clause-contents
returns-clause-contents c = c.loop-row.invariant.contents ∙ noting_gives_distinct c.loop-row.files.rows
