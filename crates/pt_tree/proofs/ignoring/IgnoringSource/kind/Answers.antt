use Rattle.std.proofs.Common.{◌∙◌, sym}
use Rattle.pt_tree.proofs.ToldWithout.{looks_as, none_past, seen_left}
use Rattle.pt_tree.proofs.ignoring.IgnoringSource.kind.Goals as goal

pub returns-then-leads_past-clause-kind : goal.returns-then-leads_past-clause-kind
returns-then-leads_past-clause-kind g c =
    none_past c.args.self.now.names (g.S.Source.told c.args.self.now.source) c.args.path.now (sym c.leads_past.ensures ∙ c.if-leads_past.true)

pub returns-then-leads_past-clause-fails : goal.returns-then-leads_past-clause-fails
returns-then-leads_past-clause-fails g c = looks_as _ _ _ _ _ c.in_ok-here.ensures.fails

pub returns-clause-kind : goal.returns-clause-kind
returns-clause-kind g c =
    seen_left c.args.self.now.names (g.S.Source.told c.args.self.now.source) c.args.path.now c.in_ok-here.here (sym c.leads_past.ensures
    ∙ c.if-leads_past.false) c.in_ok-here.ensures.kind
