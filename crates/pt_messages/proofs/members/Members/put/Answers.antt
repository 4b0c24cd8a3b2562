use Rattle.pt_messages.proofs.PlainPut.{plain_after, plain_members}
use Rattle.pt_messages.proofs.members.Members.put.Goals as goal

pub invariant_of-self : goal.invariant_of-self
invariant_of-self c = record {
  plain = plain_after c.put.result c.args.key.now _ c.in-Some.members.now c.put.new.map c.put.ensures.ok c.put.ensures.err c.requires
      (plain_members _ _ c.args.self.now.plain c.in-Some.ensures.value);
}
