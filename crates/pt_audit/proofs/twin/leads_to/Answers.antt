use Rattle.std.proofs.Common.{◌≡◌, ◌++◌, ◌∷◌, [], ap, drop, refl, rules, subst, sym, take, ◌∙◌}
use Rattle.std.proofs.lemmas.List.{take-append-drop}
use Rattle.pt_audit.proofs.Twins.{front_stands, seen_lacks}
use Rattle.pt_compare.proofs.Opening.{way_on}
use Rattle.pt_compare.proofs.Roots.{can_look, seen_dir}
use Rattle.pt_compare.specs.Root.{Stands}
use Rattle.pt_plan.specs.TurnMake.{common_names}
use Rattle.pt_plan.specs.Store.{pairtree_root}
use Rattle.pt_plan.specs.TurnWalk.{in_pairtree}
use Rattle.pt_tree.specs.Path.{Path}
use Rattle.pt_tree.specs.Source.{CanLook, IsSeen, tree_in}
use Rattle.pt_tree.specs.declared.kind.Kind.TheVariants as kind
use Rattle.pt_audit.proofs.twin.leads_to.Goals as goal

pub loop-name-init : goal.loop-name-init
loop-name-init g c =
    let tree = tree_in (g.S.Source.told c.args.source.now) in
    let n = c.alike_names-alike.result in
    let first = c.split_at.result.0.now in
    let rest = c.split_at.result.1.now in
    let way_is : c.in_ok-way.way ≡ in_pairtree first = search rules in
    let front : first ≡ take n c.args.path.now = search rules in
    let back : rest ≡ drop n c.args.path.now = search rules in
    let common : n ≡ common_names c.args.path.now c.args.standing.now = search rules in
    record {
      whole = ap (λ (p : Path). p ++ rest) way_is ∙ ap (λ (p : Path). in_pairtree p ++ rest) front
          ∙ ap (λ (p : Path). in_pairtree (take n c.args.path.now) ++ p) back
          ∙ ap (λ (p : Path). pairtree_root ∷ p) (take-append-drop n c.args.path.now);
      same = refl;
      failed = refl;
      stands = subst (λ (p : Path). Stands tree (p, kind.Dir)) (sym way_is)
          (front_stands tree c.args.path.now c.args.standing.now first n c.requires common front);
      keeps = g.met.S.Source.is_kept c.args.source.now;
    }

pub kind-requires : goal.kind-requires
kind-requires g c =
    let at = c.loop-name.invariant in
    subst (λ (p : Path). CanLook (tree_in (g.S.Source.told c.loop-name.source)) p) (sym c.in_ok-push.ensures.ok)
    (subst (λ t. CanLook (tree_in t) (c.loop-name.way ++ c.in_ok-copy.field-0 ∷ [])) (sym at.same)
    (can_look (tree_in (g.S.Source.told c.args.source.now)) c.loop-name.way c.in_ok-copy.field-0 at.stands))

pub loop-name-preserved : goal.loop-name-preserved
loop-name-preserved g c =
    let at = c.loop-name.invariant in
    let tree = tree_in (g.S.Source.told c.args.source.now) in
    let seen : IsSeen tree c.push.new.self c.in_ok-kind.field-0 = subst (λ t. IsSeen (tree_in t) c.push.new.self c.in_ok-kind.field-0) at.same
    c.in_ok-kind.ensures.kind in
    record {
      whole = way_on c.loop-name.way c.push.new.self c.split_at.result.1.now (in_pairtree c.args.path.now) c.in_ok-copy.field-0 _ c.loop-name.name-index
          at.whole c.loop-name-test.true (c.in_ok-copy.ensures.bytes ∙ c.name-item.is) c.in_ok-push.ensures.ok;
      same = c.in_ok-kind.ensures.same ∙ at.same;
      failed = c.in_ok-kind.ensures.failures ∙ at.failed;
      stands = seen_dir tree c.push.new.self c.in_ok-kind.field-0 seen (search rules);
      keeps = g.met.S.Source.keeps_on _ _ _ at.keeps c.in_ok-kind.ensures.keeps;
    }

pub returns-then-not-is_dir-clause-there : goal.returns-then-not-is_dir-clause-there
returns-then-not-is_dir-clause-there g c =
    let at = c.loop-name.invariant in
    let tree = tree_in (g.S.Source.told c.args.source.now) in
    let seen : IsSeen tree c.push.new.self c.in_ok-kind.field-0 = subst (λ t. IsSeen (tree_in t) c.push.new.self c.in_ok-kind.field-0) at.same
    c.in_ok-kind.ensures.kind in
    let whole = way_on c.loop-name.way c.push.new.self c.split_at.result.1.now (in_pairtree c.args.path.now) c.in_ok-copy.field-0 _ c.loop-name.name-index
    at.whole c.loop-name-test.true (c.in_ok-copy.ensures.bytes ∙ c.name-item.is) c.in_ok-push.ensures.ok in
    seen_lacks tree c.push.new.self c.args.path.now c.split_at.result.1.now c.loop-name.name-index c.in_ok-kind.field-0 seen (sym c.is_dir.ensures
    ∙ c.if-not-is_dir.true) whole
