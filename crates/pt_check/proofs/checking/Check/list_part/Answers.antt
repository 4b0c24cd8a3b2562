use Rattle.std.proofs.Common.{rules}
use Rattle.pt_tree.proofs.Told.{may_list}
use Rattle.pt_check.proofs.Keeping.{keeps_on, sources_on}
use Rattle.pt_check.proofs.checking.Check.list_part.Goals as goal

pub explain_listing-requires : goal.explain_listing-requires
explain_listing-requires g c = may_list (g.S.Source.told c.args.self.now.source) c.args.path.now c.requires

pub returns-clause-keeps : goal.returns-clause-keeps
returns-clause-keeps g c =
    let first = sources_on g.S.Source g.L.Log g.met.L.Log.is_kept c.args.self.now c.explain_listing.new.source c.explain_listing.ensures.same
    c.explain_listing.ensures.keeps in
    let on = keeps_on g.S.Source g.L.Log g.met.S.Source.keeps_on g.met.L.Log.keeps_on in
    on _ _ _ first c.tell_reasons.ensures.keeps

pub returns-clause-told : goal.returns-clause-told
returns-clause-told g c = let same = g.met.S.Source.keeps_failing _ _ c.explain_listing.ensures.keeps in search rules
