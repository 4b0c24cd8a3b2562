use Rattle.std.proofs.Common.{ap, refl, rules}
use Rattle.pt_audit.proofs.StepPromises.{all_kept, beside_log, tells_no_object}
use Rattle.pt_audit.proofs.ToldObject.{surveys_again, told_object}
use Rattle.pt_audit.proofs.ToldFront.{object_stops, seen_stops}
use Rattle.pt_audit.specs.Failing.{failures}
use Rattle.pt_plan.specs.DeviceStates.{Failures}
use Rattle.pt_plan.specs.declared.fault.Fault.TheVariants as fault
use Rattle.pt_tree.proofs.Growing.{grows_none}
use Rattle.pt_audit.proofs.auditing.Auditor.tell_object.Goals as goal

pub returns-clause-told : goal.returns-clause-told
returns-clause-told g c = record {
  on = λ first it.
      told_object _ _ _ _ first _ _ c.args.self.now.counts c.args.self.now.survey c.in_ok-hand.hand c.in_ok-finding.finding.comparison
      c.in_ok-finding.finding.is_twin _ c.args.self.now.survey.state.job c.with.result refl (search rules) c.requires.at_hand refl (search rules)
      c.in_ok-hand.ensures
      c.in_ok-finding.ensures.found c.in_ok-finding.ensures.twin c.in_ok-line.ensures (search rules) it;
  still = surveys_again _ _ _ c.requires.at_hand c.in_ok-finding.ensures.source.1 c.requires.paced.under_way;
  fails = search rules;
  stops = tt;
}

pub returns-in_err-hand-clause-told : goal.returns-in_err-hand-clause-told
returns-in_err-hand-clause-told g c =
    tells_no_object c.from_residual.result fault.Memory (search rules) refl (λ first it. seen_stops _ c.args.self.now.counts c.args.self.now.survey it)

pub returns-in_err-finding-clause-told : goal.returns-in_err-finding-clause-told
returns-in_err-finding-clause-told g c =
    tells_no_object c.from_residual-in_err-finding.result c.in_err-finding.field-0.0 (search rules)
    (beside_log c.in_err-finding.field-0.0 _ _ _ _ _ c.in_err-finding.ensures.fails)
    (λ first it. seen_stops _ c.args.self.now.counts c.args.self.now.survey it)

pub returns-in_err-line-clause-told : goal.returns-in_err-line-clause-told
returns-in_err-line-clause-told g c =
    tells_no_object c.from_residual-in_err-line.result fault.Memory (search rules)
    (ap (λ (f : Failures). failures f.source f.dest (g.L.Log.failed c.args.log.now)) c.in_ok-finding.ensures.fails)
    (λ first it. seen_stops _ c.args.self.now.counts c.args.self.now.survey it)

pub returns-in_err-map_err-clause-told : goal.returns-in_err-map_err-clause-told
returns-in_err-map_err-clause-told g c =
    tells_no_object c.from_residual-in_err-map_err.result c.in_err-map_err.field-0.0 (search rules) (search rules)
    (λ first it. object_stops _ _ first _ _ c.args.self.now.counts c.args.self.now.survey c.in_ok-hand.hand c.in_ok-finding.finding.comparison
    c.in_ok-finding.finding.is_twin _ c.args.self.now.survey.state.job refl c.requires.at_hand
    c.in_ok-hand.ensures
    c.in_ok-finding.ensures.found c.in_ok-finding.ensures.twin c.in_ok-line.ensures (search rules) it)

pub returns-in_err-hand-clause-keeps : goal.returns-in_err-hand-clause-keeps
returns-in_err-hand-clause-keeps g c = all_kept g.met.S.Source.is_kept g.met.R.Source.is_kept g.met.L.Log.is_kept _

pub returns-in_err-finding-clause-keeps : goal.returns-in_err-finding-clause-keeps
returns-in_err-finding-clause-keeps g c =
    record { sides = record { source = c.in_err-finding.ensures.source; root = c.in_err-finding.ensures.root }; log = (g.met.L.Log.is_kept _, grows_none _) }

pub returns-in_err-line-clause-keeps : goal.returns-in_err-line-clause-keeps
returns-in_err-line-clause-keeps g c =
    record { sides = record { source = c.in_ok-finding.ensures.source; root = c.in_ok-finding.ensures.root }; log = (g.met.L.Log.is_kept _, grows_none _) }

pub returns-in_err-map_err-clause-keeps : goal.returns-in_err-map_err-clause-keeps
returns-in_err-map_err-clause-keeps g c =
    record { sides = record { source = c.in_ok-finding.ensures.source; root = c.in_ok-finding.ensures.root }; log = search rules }

pub returns-clause-keeps : goal.returns-clause-keeps
returns-clause-keeps g c =
    record { sides = record { source = c.in_ok-finding.ensures.source; root = c.in_ok-finding.ensures.root }; log = search rules }
