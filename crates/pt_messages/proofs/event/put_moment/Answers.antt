use Rattle.pt_messages.proofs.EventPuts.{puts}
use Rattle.pt_messages.proofs.event.put_moment.Goals as goal

pub returns-in-Some : goal.returns-in-Some
returns-in-Some g c = puts c.put_text.result c.args.key.now c.as_str.result.now _ _ c.put_text.ensures
