use Rattle.pt_tree.specs.declared.kind.Kind.TheVariants as kind
use Rattle.std.proofs.Common.{rules, sym, subst, ◌∙◌, ◌++◌, ◌∷◌, [], refl, ap, arith}
use Rattle.pt_tree.specs.Path.{Path}
use Rattle.pt_compare.specs.Root.{Lacks, Stands}
use Rattle.pt_tree.specs.Source.{CanLook, IsSeen}
use Rattle.pt_tree.specs.Source.{tree_in}
use Rattle.pt_compare.proofs.Opening.{dir_alike, dir_whole, no_dir_on, way_on, way_start, way_whole}
use Rattle.pt_compare.proofs.Roots.{can_look, no_dir_seen, seen_dir}
use Rattle.pt_compare.proofs.root.stand_above.Goals as goal

pub returns-then-is_empty-clause-stands : goal.returns-then-is_empty-clause-stands
returns-then-is_empty-clause-stands g c = λ is.
    dir_whole _ c.args.above.now c.names.result.now _ c.alike_names-alike.result c.split_at.ensures.front c.split_at.ensures.back (search rules)
    c.alike_names-alike.ensures.alike (search rules)

pub kind-requires : goal.kind-requires
kind-requires g c =
    let at = c.loop-name.invariant in
    subst (λ (p : Path). CanLook (tree_in (g.R.Source.told c.loop-name.root)) p) (sym c.in_ok-push.ensures.ok)
    (subst (λ t. CanLook (tree_in t) (c.loop-name.way ++ c.in_ok-copy.field-0 ∷ [])) (sym at.1)
    (can_look (tree_in (g.R.Source.told c.args.root.now)) c.loop-name.way c.in_ok-copy.field-0 at.3))

pub loop-name-preserved : goal.loop-name-preserved
loop-name-preserved g c =
    let at = c.loop-name.invariant in
    let told = g.R.Source.told in (
      way_on c.loop-name.way c.push.new.self c.split_at.result.1.now c.args.above.now c.in_ok-copy.field-0 _ c.loop-name.name-index at.0 c.loop-name-test.true
          (c.in_ok-copy.ensures.bytes ∙ c.name-item.is) c.in_ok-push.ensures.ok,
      c.in_ok-kind.ensures.same ∙ at.1,
      c.in_ok-kind.ensures.failures ∙ at.2,
      seen_dir (tree_in (told c.args.root.now)) c.push.new.self c.in_ok-kind.field-0
          (subst (λ t. IsSeen (tree_in t) c.push.new.self c.in_ok-kind.field-0) at.1 c.in_ok-kind.ensures.kind) (search rules),
      g.met.R.Source.keeps_on _ _ _ at.4 c.in_ok-kind.ensures.keeps,
      at.5,
    )

pub returns-clause-stands : goal.returns-clause-stands
returns-clause-stands g c = λ is.
    let at = c.loop-name.invariant in
    subst (λ (p : Path). Stands (tree_in (g.R.Source.told c.args.root.now)) (p, kind.Dir))
    (way_whole c.loop-name.way c.split_at.result.1.now c.args.above.now c.loop-name.name-index at.0 (omega (arith, c.loop-name-test.false))) at.3

pub returns-then-not-is_dir-clause-lacks : goal.returns-then-not-is_dir-clause-lacks
returns-then-not-is_dir-clause-lacks g c = λ is.
    let tree = tree_in (g.R.Source.told c.args.root.now) in
    let at = c.loop-name.invariant in
    let seen = subst (λ t. IsSeen (tree_in t) c.push.new.self c.in_ok-kind.field-0) at.1 c.in_ok-kind.ensures.kind in
    subst (λ (p : Path). Lacks tree (p, kind.Dir)) (way_on c.loop-name.way c.push.new.self c.split_at.result.1.now c.args.above.now c.in_ok-copy.field-0 _
    c.loop-name.name-index at.0 c.loop-name-test.true (c.in_ok-copy.ensures.bytes ∙ c.name-item.is) c.in_ok-push.ensures.ok)
    (no_dir_on tree c.push.new.self _ (no_dir_seen tree c.push.new.self c.in_ok-kind.field-0 seen (sym c.is_dir.ensures ∙ c.if-not-is_dir.true)))

pub loop-name-init : goal.loop-name-init
loop-name-init g c =
    let tree = tree_in (g.R.Source.told c.args.root.now) in
    let known : Stands tree (c.names.result.now, kind.Dir) = subst (λ (p : Path). Stands tree (p, kind.Dir)) (sym c.names.ensures) c.requires in (
      way_start c.in_ok-way.way c.new.result c.split_at.result.0.now c.split_at.result.1.now c.args.above.now c.alike_names-alike.result c.in_ok-way.ensures
          c.new.ensures c.split_at.ensures.front c.split_at.ensures.back,
      refl,
      refl,
      subst (λ (p : Path). Stands tree (p, kind.Dir)) (sym (c.in_ok-way.ensures ∙ ap (λ (p : Path). p ++ c.split_at.result.0.now) c.new.ensures))
          (dir_alike tree c.args.above.now c.names.result.now c.split_at.result.0.now c.alike_names-alike.result known c.alike_names-alike.ensures.alike
          c.split_at.ensures.front),
      g.met.R.Source.is_kept c.args.root.now,
      c.requires,
    )

pub returns-in_err-kind-clause-keeps : goal.returns-in_err-kind-clause-keeps
returns-in_err-kind-clause-keeps g c = g.met.R.Source.keeps_on _ _ _ c.loop-name.invariant.4 c.kind.ensures.keeps

pub returns-then-not-is_dir-clause-keeps : goal.returns-then-not-is_dir-clause-keeps
returns-then-not-is_dir-clause-keeps g c = g.met.R.Source.keeps_on _ _ _ c.loop-name.invariant.4 c.kind.ensures.keeps
