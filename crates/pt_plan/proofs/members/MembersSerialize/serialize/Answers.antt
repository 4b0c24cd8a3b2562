use Rattle.std.proofs.Common.{◌≡◌, [], drop, Some, sym, subst, arith}
use Rattle.std.proofs.lemmas.List.{drop_all}
use Rattle.std.proofs.lemmas.Result.{on_ok_weaker}
use Rattle.serde.specs.Event.{Logs, map_begins}
use Rattle.serde_json.specs.Events.{SendsMembers}
use Rattle.pt_plan.specs.Members.{members_tree}
use Rattle.pt_plan.proofs.MemberTexts.{len_is}
use Rattle.pt_plan.proofs.members.MembersSerialize.serialize.Goals as goal

pub returns : goal.returns
returns g c =
    let members = c.args.self.now.0.now in
    let written = g.S.Serializer.written in
    let end = written c.end_map.new.self in
    let begun = subst (λ n. Logs (written c.args.out.now) (written c.begin_map.new.self) (map_begins (Some n))) (sym (len_is members))
    c.in_ok-begin_map.ensures in
    let none : drop c.loop-member.member-index members ≡ [] = drop_all c.loop-member.member-index members (omega arith) in
    on_ok_weaker c.end_map.result (λ e. (
      written c.begin_map.new.self,
      begun,
      c.loop-member.invariant end (subst (λ ms. SendsMembers (members_tree ms) (written c.loop-member.out) end) (sym none) e),
    )) c.end_map.ensures
