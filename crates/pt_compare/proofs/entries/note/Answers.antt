use Rattle.std.proofs.Common.{sym, ◌∙◌}
use Rattle.pt_compare.proofs.Entering.{listed_step}
use Rattle.pt_compare.proofs.entries.note.Goals as goal

pub loop-i-preserved : goal.loop-i-preserved
loop-i-preserved c = c.loop-i.invariant ∙ listed_step c.args.path.now c.loop-i.i c.args.listing.now (c.in-Some.name.now, c.in-Some.kind) _ _
    (sym c.in-Some.ensures) c.in_ok-note_entry.ensures
