use Rattle.std.proofs.Common.{drop}
use Rattle.serde.specs.Event.{Log}
use Rattle.serde_json.specs.Events.{SendsMembers}
use Rattle.pt_plan.specs.Members.{members_tree}
use Rattle.pt_plan.proofs.members.MembersSerialize.serialize.Given as goal

-- whatever ends it well from here ends it well from the start
abbrev pub invariant-loop-member : goal.invariant-loop-member
invariant-loop-member g l =
    (end : Log) → SendsMembers (members_tree (drop l.member-index l.member-items)) (g.S.Serializer.written l.out) end
    → SendsMembers (members_tree l.member-items) (g.S.Serializer.written l.initial.out) end
