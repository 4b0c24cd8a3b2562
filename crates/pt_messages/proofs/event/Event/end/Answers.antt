use Rattle.std.proofs.Common.{◌∙◌, ap, codes}
use Rattle.pt_messages.proofs.EventPuts.{ends}
use Rattle.pt_messages.specs.Counts.{put_count}
use Rattle.pt_messages.specs.Members.{members_of}
use Rattle.pt_messages.proofs.event.Event.end.Goals as goal

pub returns : goal.returns
returns g c = ends c.put_fault.result c.args.status c.args.outcome.now _ (members_of c.put_moment.new.members) (members_of c.put_number.new.self)
    (members_of c.put_into.new.event) _ c.in_ok-put_moment.ensures
    (c.in_ok-put_number.ensures ∙ ap (λ n. put_count (codes "status") n (members_of c.put_moment.new.members)) c.from.ensures)
    c.in_ok-put_into.ensures c.put_fault.ensures
