use Rattle.std.proofs.lemmas.Result.{on_ok_weaker}
use Rattle.pt_check.specs.Visits.{check_state}
use Rattle.pt_check.proofs.Keeping.{keeps_on}
use Rattle.pt_check.proofs.checking.Check.tell_reasons.Goals as goal

pub returns-clause-keeps : goal.returns-clause-keeps
returns-clause-keeps g c = keeps_on g.S.Source g.L.Log g.met.S.Source.keeps_on g.met.L.Log.keeps_on _ _ _ c.tell_reason.ensures.keeps
    c.tell_each.ensures.keeps

pub returns-clause-told : goal.returns-clause-told
returns-clause-told g c =
    on_ok_weaker c.tell_each.result (λ each. (check_state g.S.Source g.L.Log c.tell_reason.new.self, c.in_ok-tell_reason.ensures.told, each))
    c.tell_each.ensures.told
