use Rattle.std.proofs.Common.{List, ℕ, subst, ◌∙◌}
use Rattle.std.specs.Prelude.{Option}
use Rattle.pt_audit.specs.Auditing.{IsTwinAtHand}
use Rattle.pt_tree.specs.Source.{tree_in}
use Rattle.pt_tree.specs.Forest.{Forest}
use Rattle.pt_audit.proofs.auditing.Auditor.judge.Goals as goal

pub returns-clause-source : goal.returns-clause-source
returns-clause-source g c = (
  g.met.S.Source.keeps_on _ _ _ c.in_ok-comparison.ensures.source.0 c.in_ok-is_twin.ensures.source.0,
  c.in_ok-is_twin.ensures.source.1 ∙ c.in_ok-comparison.ensures.source.1,
)

pub returns-in_err-is_twin-clause-source : goal.returns-in_err-is_twin-clause-source
returns-in_err-is_twin-clause-source g c = (
  g.met.S.Source.keeps_on _ _ _ c.in_ok-comparison.ensures.source.0 c.in_err-is_twin.ensures.source.0,
  c.in_err-is_twin.ensures.source.1 ∙ c.in_ok-comparison.ensures.source.1,
)

pub returns-clause-twin : goal.returns-clause-twin
returns-clause-twin g c =
    subst (λ (t : Option Forest). IsTwinAtHand t c.args.self.now.survey c.args.hand.now.told.id.now c.in_ok-comparison.comparison c.in_ok-is_twin.is_twin)
    c.in_ok-comparison.ensures.source.1
    (subst (λ (id : List ℕ). IsTwinAtHand (tree_in (g.S.Source.told c.compare.new.source)) c.args.self.now.survey id c.in_ok-comparison.comparison
    c.in_ok-is_twin.is_twin) c.as_str.ensures c.in_ok-is_twin.ensures.twin)
