use Rattle.std.proofs.Common.{◌≡◌, refl, rules}
use Rattle.std.specs.Option.{ForSome}
use Rattle.std.specs.Prelude.{Some}
use Rattle.pt_tree.proofs.Told.{may_list}
use Rattle.pt_check.proofs.Goes.{listed_goes}
use Rattle.pt_check.proofs.PartListed.{part_found, part_listed}
use Rattle.pt_check.specs.Visits.{check_state, tree_by}
use Rattle.pt_tree.specs.Failures.{HasRisen}
use Rattle.pt_tree.specs.Forest.{listing_at}
use Rattle.pt_check.proofs.checking.Check.list.Goals as goal

pub list-requires : goal.list-requires
list-requires g c = may_list (g.S.Source.told c.args.self.now.source) c.args.path.now c.requires

pub returns-in-Ok-clause-found : goal.returns-in-Ok-clause-found
returns-in-Ok-clause-found g c =
    let same = g.met.S.Source.keeps_failing _ _ c.list.ensures.keeps in
    let goes = listed_goes (g.S.Source.failing c.args.self.now.source) _ c.args.path.now _ c.in-Ok.ensures.fails in
    search rules

pub returns-in-Err-Device-clause-listed : goal.returns-in-Err-Device-clause-listed
returns-in-Err-Device-clause-listed g c =
    let same = g.met.S.Source.keeps_failing _ _ c.list.ensures.keeps in
    let rose : HasRisen (g.S.Source.failed c.args.self.now.source) (g.S.Source.failed c.list.new.self) = search rules in
    let listed = c.list_part.ensures.listed in
    part_listed g.E.Explains.says c.args.path.now c.list_part.result
    (λ found. ForSome (tree_by g.S.Source.told c.args.self.now) (λ tree. listing_at tree c.args.path.now ≡ Some found.listing))
    (check_state g.S.Source g.L.Log c.args.self.now) _ (check_state g.S.Source g.L.Log c.list_part.new.self) (same, rose, refl, refl)
    c.list_part.ensures.told (search rules)

pub returns-in-Err-Device-clause-found : goal.returns-in-Err-Device-clause-found
returns-in-Err-Device-clause-found g c =
    let same = g.met.S.Source.keeps_failing _ _ c.list.ensures.keeps in
    let rose : HasRisen (g.S.Source.failed c.args.self.now.source) (g.S.Source.failed c.list.new.self) = search rules in
    part_found g.E.Explains.says c.args.path.now c.list_part.result
    (check_state g.S.Source g.L.Log c.args.self.now) _ (check_state g.S.Source g.L.Log c.list_part.new.self) (same, rose, refl, refl)
    c.list_part.ensures.told c.list_part.ensures.part
