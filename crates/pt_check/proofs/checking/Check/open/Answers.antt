use Rattle.std.proofs.Common.{rules, ◌≡◌}
use Rattle.std.proofs.lemmas.Result.{on_ok_weaker}
use Rattle.pt_check.specs.Counting.{with_opened}
use Rattle.pt_check.specs.Visits.{counting, check_state, tree_by}
use Rattle.pt_check.proofs.Blocks.{opens_step}
use Rattle.pt_check.proofs.checking.Check.open.Goals as goal

pub returns-in-Ok-clause-opened : goal.returns-in-Ok-clause-opened
returns-in-Ok-clause-opened g c =
    let a = check_state g.S.Source g.L.Log c.args.self.now in
    let b = check_state g.S.Source g.L.Log c.tell_if.new.self in
    let source = c.open_whole.new.source in
    let now = record c.args.self.now { source = source; numbers = c.with_opened-self.result } in
    let same = g.met.S.Source.keeps_failing _ _ c.open_whole.ensures.keeps in
    let counted : check_state g.S.Source g.L.Log now ≡ counting (with_opened c.args.self.now.wants.reads c.args.within c.in-Ok.bytes) a = search rules in
    on_ok_weaker c.tell_if.result
    (λ tells. opens_step (tree_by g.S.Source.told c.args.self.now) c.args.self.now.wants.reads c.args.path.now c.args.within c.in-Ok.bytes
    c.size_trouble.result a
    (check_state g.S.Source g.L.Log now)
    b c.in-Ok.ensures.bytes c.size_trouble.ensures counted tells c.in-Ok.ensures.ended) c.tell_if.ensures.told

pub returns-in-Err-Device-clause-opened : goal.returns-in-Err-Device-clause-opened
returns-in-Err-Device-clause-opened g c = let same = g.met.S.Source.keeps_failing _ _ c.open_whole.ensures.keeps in search rules
