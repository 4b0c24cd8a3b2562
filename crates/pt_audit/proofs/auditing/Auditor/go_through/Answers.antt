use Rattle.std.proofs.Common.{◌+◌, arith, refl, rules, subst, sym, ◌∙◌}
use Rattle.std.specs.Prelude.{Option}
use Rattle.pt_audit.specs.Bounds.{NoStep, OneMore}
use Rattle.pt_audit.specs.Surveying.{Steps}
use Rattle.pt_tree.specs.Forest.{Forest}
use Rattle.pt_audit.proofs.ToldSteps.{same_end, same_trees}
use Rattle.pt_audit.proofs.Saying.{same_failures}
use Rattle.pt_audit.proofs.StepPromises.{all_kept, all_on, fails_err, fails_none, fails_on}
use Rattle.pt_audit.proofs.ToldFront.{same_stops}
use Rattle.std.proofs.lemmas.Bool.{OnTrue_at}
use Rattle.pt_audit.proofs.auditing.Auditor.go_through.Goals as goal

pub loop-more-init : goal.loop-more-init
loop-more-init g c = (
  c.requires.under_way,
  c.requires.follows,
  refl,
  all_kept g.met.S.Source.is_kept g.met.R.Source.is_kept g.met.L.Log.is_kept _,
  refl,
  (0, NoStep),
  refl,
)

pub returns-in_err-more-clause-keeps : goal.returns-in_err-more-clause-keeps
returns-in_err-more-clause-keeps g c =
    all_on g.met.S.Source.keeps_on g.met.R.Source.keeps_on g.met.L.Log.keeps_on _ _ _ c.loop-more.invariant.3 c.in_err-more.ensures.keeps

pub returns-in_err-more-clause-blamed : goal.returns-in_err-more-clause-blamed
returns-in_err-more-clause-blamed g c =
    let was = c.loop-more.invariant in
    fails_err c.from_residual.result c.in_err-more.field-0.0 (search rules)
    (fails_on was.2 was.3.sides.source.1 was.3.sides.root.1 was.4 c.in_err-more.ensures.made.blamed)

pub returns-then-not-more-clause-ends : goal.returns-then-not-more-clause-ends
returns-then-not-more-clause-ends g c =
    let was = c.loop-more.invariant in
    let went = c.in_ok-more.ensures.made in (
      same_end c.in_ok-more.more _ _ _ _ _ _ _ _ c.so_far-so_far.result c.go_on.new.self.survey (search rules) (search rules) (sym was.6)
          (sym was.3.sides.source.1) (sym was.3.sides.root.1) (went.on _ was.0),
      went.steps.job ∙ was.2,
    )

pub returns-then-not-more-clause-made : goal.returns-then-not-more-clause-made
returns-then-not-more-clause-made g c =
    let was = c.loop-more.invariant in record {
      count = was.5.0 + 1;
      last = c.go_on.new.self.survey;
      steps = OneMore was.5.1 (subst (λ (f : Option Forest). Steps f c.loop-more.self.survey c.go_on.new.self.survey) was.3.sides.source.1
          c.in_ok-more.ensures.made.steps);
      ended = (search rules, search rules);
    }

pub returns-in_err-more-clause-stops : goal.returns-in_err-more-clause-stops
returns-in_err-more-clause-stops g c =
    let was = c.loop-more.invariant in
    same_stops c.from_residual.result c.in_err-more.field-0.0 c.args.self.now.survey.state.job _ _ _ _ _ _ _ (search rules) was.2 was.6
    was.3.sides.source.1 was.3.sides.root.1 (c.in_err-more.ensures.made.stops _ was.0)

pub returns-in_err-more-clause-made : goal.returns-in_err-more-clause-made
returns-in_err-more-clause-made g c = record {
  count = c.loop-more.invariant.5.0;
  last = c.loop-more.self.survey;
  steps = c.loop-more.invariant.5.1;
  ended = search rules;
}

pub returns-then-not-more-clause-keeps : goal.returns-then-not-more-clause-keeps
returns-then-not-more-clause-keeps g c =
    all_on g.met.S.Source.keeps_on g.met.R.Source.keeps_on g.met.L.Log.keeps_on _ _ _ c.loop-more.invariant.3 c.in_ok-more.ensures.keeps

pub returns-then-not-more-clause-blamed : goal.returns-then-not-more-clause-blamed
returns-then-not-more-clause-blamed g c = fails_none (same_failures c.in_ok-more.ensures.made.blamed.blames ∙ c.loop-more.invariant.4)

pub loop-more-preserved : goal.loop-more-preserved
loop-more-preserved g c =
    let was = c.loop-more.invariant in
    let kept = c.in_ok-more.ensures.keeps in
    let went = c.in_ok-more.ensures.made in (
      same_trees c.in_ok-more.more _ _ _ _ _ _ _ _ c.go_on.new.self.survey (search rules) went.by kept.sides.source.1 kept.sides.root.1 (went.on _ was.0),
      record { follows = went.follows; more = OnTrue_at {b = c.in_ok-more.more} (search rules) went.more },
      went.steps.job ∙ was.2,
      all_on g.met.S.Source.keeps_on g.met.R.Source.keeps_on g.met.L.Log.keeps_on _ _ _ was.3 kept,
      same_failures went.blamed.blames ∙ was.4,
      (_, OneMore was.5.1 (subst (λ (f : Option Forest). Steps f c.loop-more.self.survey c.go_on.new.self.survey) was.3.sides.source.1 went.steps)),
      went.by ∙ was.6,
    )

-- each step is one more within the limit
pub loop-more-smaller : goal.loop-more-smaller
loop-more-smaller g c =
    let went = c.in_ok-more.ensures.made.steps in
    rw went.job (omega (arith, went.counted, went.within))
