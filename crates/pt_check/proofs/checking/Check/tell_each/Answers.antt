use Rattle.std.proofs.Common.{◌∙◌}
use Rattle.pt_check.specs.Visits.{check_state}
use Rattle.pt_check.proofs.Keeping.{keeps_on}
use Rattle.pt_check.proofs.Parts.{each_step}
use Rattle.pt_check.proofs.checking.Check.tell_each.Goals as goal

pub returns-in_err-tell_reason-clause-keeps : goal.returns-in_err-tell_reason-clause-keeps
returns-in_err-tell_reason-clause-keeps g c = keeps_on g.S.Source g.L.Log g.met.S.Source.keeps_on g.met.L.Log.keeps_on _ _ _ c.loop-reason.invariant.keeps
    c.tell_reason.ensures.keeps

pub loop-reason-preserved : goal.loop-reason-preserved
loop-reason-preserved g c =
    let so_far = c.loop-reason.invariant in
    record {
      keeps = keeps_on g.S.Source g.L.Log g.met.S.Source.keeps_on g.met.L.Log.keeps_on _ _ _ so_far.keeps c.tell_reason.ensures.keeps;
      source = c.tell_reason.ensures.source ∙ so_far.source;
      unfailed = c.in_ok-tell_reason.ensures.fault ∙ so_far.unfailed;
      told = each_step c.args.path.now c.args.reasons.now c.loop-reason.reason-index c.reason-item.result _ c.as_str.result.now
          (check_state g.S.Source g.L.Log c.args.self.now)
          (check_state g.S.Source g.L.Log c.loop-reason.self) (check_state g.S.Source g.L.Log c.tell_reason.new.self) c.loop-reason-test.true c.reason-item.is
          c.as_str.ensures.value
          so_far.told c.in_ok-tell_reason.ensures.told;
    }
