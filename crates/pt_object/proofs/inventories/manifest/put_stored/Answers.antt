use Rattle.std.proofs.Common.{◌∙◌}
use Rattle.pt_object.specs.Entries.{stored}
use Rattle.pt_object.proofs.Entries.{one_more}
use Rattle.pt_object.proofs.inventories.manifest.put_stored.Goals as goal

pub loop-i-preserved : goal.loop-i-preserved
loop-i-preserved c =
    one_more stored _ _ c.args.from c.loop-i.i c.args.count c.get-position.result c.index-items-position.result _ _ _ c.requires.ordered c.loop-i-test.true
    c.requires.within c.get-position.ensures
    c.index-items-position.is (c.in_ok-read_ahead.ensures ∙ c.loop-i.invariant) c.in_ok-put_content.ensures
