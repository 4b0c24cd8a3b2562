use Rattle.std.proofs.Common.{codes}
use Rattle.pt_messages.proofs.EventPuts.{puts}
use Rattle.pt_messages.proofs.event.put_place.Goals as goal

pub returns-in-Ok : goal.returns-in-Ok
returns-in-Ok g c = puts c.put_text.result (codes "resolved") c.as_str.result.now _ _ c.put_text.ensures
