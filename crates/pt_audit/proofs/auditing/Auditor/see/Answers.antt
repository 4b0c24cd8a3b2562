use Rattle.std.proofs.Common.{refl, rules}
use Rattle.pt_audit.proofs.Pacing.{behind, holds_its_fields}
use Rattle.pt_audit.proofs.Saying.{read_fails, says_read, says_survey}
use Rattle.pt_audit.proofs.StepPromises.{never_dest, sees_none, sees_on}
use Rattle.pt_audit.proofs.ToldSteps.{surveys_on}
use Rattle.pt_audit.proofs.ToldFront.{follow_stops, step_stops}
use Rattle.pt_audit.specs.declared.survey.SurveyEvent.{SurveyEvent}
use Rattle.pt_audit.proofs.auditing.Auditor.see.Goals as goal

pub returns-in_err-follow-clause-keeps : goal.returns-in_err-follow-clause-keeps
returns-in_err-follow-clause-keeps g c =
    record { sides = record { source = c.in_ok-sight.ensures.source.0; root = c.in_err-follow.ensures.root.0 }; log = c.in_ok-sight.ensures.log }

pub returns-in_err-sight-clause-keeps : goal.returns-in_err-sight-clause-keeps
returns-in_err-sight-clause-keeps g c =
    record { sides = record { source = c.in_err-sight.ensures.source.0; root = (g.met.R.Source.is_kept _, refl) }; log = c.in_err-sight.ensures.log }

pub returns-clause-keeps : goal.returns-clause-keeps
returns-clause-keeps g c =
    record { sides = record { source = c.in_ok-sight.ensures.source.0; root = c.in_ok-follow.ensures.root.0 }; log = c.in_ok-sight.ensures.log }

pub returns-in_err-follow-clause-made : goal.returns-in_err-follow-clause-made
returns-in_err-follow-clause-made g c =
    let why = c.in_err-follow.field-0.0 in
    let sight = c.in_ok-sight.ensures.blames in
    sees_none c.from_residual-in_err-follow.result why (search rules)
    (record {
      blames = read_fails why _ _ _ _ _ _ sight.source_is sight.log_is c.in_err-follow.ensures.failures;
      says = says_read _ _ _ why _ _ c.in_err-follow.ensures.failures;
    })
    (λ first it. follow_stops _ _ _ first _ _ _ _ _ c.in_ok-sight.ensures.source.0.1 c.in_ok-sight.ensures.came.made.steps.order
    c.in_ok-sight.ensures.on it)

pub returns-in_err-sight-clause-made : goal.returns-in_err-sight-clause-made
returns-in_err-sight-clause-made g c =
    let why = c.in_err-sight.field-0.0 in
    let sight = c.in_err-sight.ensures.blames in
    sees_none c.from_residual.result why (search rules)
    (record {
      blames = record { source = sight.source_is; root = never_dest SurveyEvent why _ sight.no_dest; log = sight.log_is };
      says = says_survey _ _ _ _ why c.requires.more c.in_err-sight.ensures.says;
    })
    (λ first it. step_stops _ _ first _ _ _ _ c.in_err-sight.ensures.stops it)

pub returns-clause-made : goal.returns-clause-made
returns-clause-made g c =
    let sight = c.in_ok-sight.ensures in
    let now = surveys_on _ _ _ _ _ _ c.requires.follows.under_way sight.on in
    sees_on _ _ c.in_ok-sight.sight c.in_ok-follow.ensures.beside sight.on sight.came.made.steps
    (record {
      follows = record {
        holds = holds_its_fields _;
        under_way = now;
        paced = c.in_ok-follow.ensures.paced _ (behind _ _ _ _ _ _ c.requires.follows.under_way now sight.came.made.scans
            sight.source.0.1 c.requires.follows.paced);
        can = c.in_ok-follow.ensures.still;
      };
      saw = sight.came.saw;
    })
    (record { blames = record { source = sight.blames.source_is; root = c.in_ok-follow.ensures.failures; log = sight.blames.log_is }; says = tt })
