use Rattle.std.proofs.Common.{◌∙◌}
use Rattle.pt_make.proofs.NextParts.{told_stored}
use Rattle.pt_make.proofs.contents.is_stored.Goals as goal

pub returns-in-Some : goal.returns-in-Some
returns-in-Some c = c.eq.ensures ∙ told_stored c.args.state.now.rows c.args.state.now.contents c.args.position c.args.row.now c.in-Some.content.now
    c.requires.tells c.requires.row c.in-Some.ensures
