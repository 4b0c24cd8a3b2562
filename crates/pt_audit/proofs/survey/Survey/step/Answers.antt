use Rattle.std.proofs.Common.{ap, arith, refl, rules, subst, ◌∙◌}
use Rattle.std.specs.Prelude.{IfErr}
use Rattle.pt_move.specs.Running.{Running}
use Rattle.pt_tree.specs.Source.{tree_in}
use Rattle.pt_state.specs.Counting.{calls_most, calls_none}
use Rattle.pt_audit.specs.Surveying.{SurveySays, Untold}
use Rattle.pt_audit.proofs.StepRules.{says_ended, says_step}
use Rattle.pt_audit.proofs.Stopping.{halt_seen}
use Rattle.pt_audit.proofs.survey.Survey.step.Goals as goal

-- after the end, and at the limit, nothing is called
pub returns-in-Ended-clause-source : goal.returns-in-Ended-clause-source
returns-in-Ended-clause-source g c = ((g.met.S.Source.is_kept _, refl), calls_most _ _ 0 _ (calls_none _) (omega arith))

pub returns-in-Ended-clause-stops : goal.returns-in-Ended-clause-stops
returns-in-Ended-clause-stops g c = λ count it f e. Untold refl

pub returns-then-self-turns-clause-stops : goal.returns-then-self-turns-clause-stops
returns-then-self-turns-clause-stops g c = λ count it f e. Untold refl

pub returns-in-Ended-clause-says : goal.returns-in-Ended-clause-says
returns-in-Ended-clause-says g c =
    says_ended _ c.args.self.now c.replace.result (c.replace.ensures.value ∙ ap (λ (r : Running). r.phase) c.self.view_is) c.requires c.in-Ended.is

pub returns-then-self-turns-clause-source : goal.returns-then-self-turns-clause-source
returns-then-self-turns-clause-source g c = ((g.met.S.Source.is_kept _, refl), calls_most _ _ 0 _ (calls_none _) (omega arith))

pub returns-in_err-self-inside : goal.returns-in_err-self-inside
returns-in_err-self-inside g c =
    let source = tree_in (g.S.Source.told c.args.source.now) in
    record {
      on = search rules;
      came = search rules;
      source = search rules;
      log = search rules;
      blames = search rules;
      says = subst (λ (r : Running). IfErr c.from_residual.result (SurveySays r.state.job r.phase source)) c.self.view_is
          (says_step c.from_residual.result c.in_err-self-inside.field-0.0 c.self.inside.state.job c.self.inside.phase source (search rules)
          c.in_err-self-inside.ensures.leaves.says);
      stops = halt_seen c.from_residual.result c.in_err-self-inside.field-0.0 _ _ _ _ _ c.args.self.now (search rules) (search rules) (search rules)
          c.in_err-self-inside.ensures.stops;
    }
