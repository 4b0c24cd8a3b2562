use Rattle.std.proofs.lemmas.List.{take_all}
use Rattle.std.proofs.Common.{subst, sym, ◌∙◌, ◌++◌, ◌∷◌, [], arith}
use Rattle.std.specs.Prelude.{None}
use Rattle.pt_tree.specs.Path.{Path}
use Rattle.pt_tree.specs.Source.{CanLook, IsSeen}
use Rattle.pt_tree.specs.Source.{tree_in}
use Rattle.pt_compare.proofs.Roots.{look_below, none_below, way_more}
use Rattle.pt_compare.proofs.root.find_kind.Goals as goal

pub returns-then-not-is_dir-clause-kind : goal.returns-then-not-is_dir-clause-kind
returns-then-not-is_dir-clause-kind g c =
    let tree = tree_in (g.R.Source.told c.args.root.now) in
    let at = c.loop-name.invariant in
    subst (λ (p : Path). IsSeen tree p None) c.names-name-items.ensures
    (none_below tree c.names-name-items.result.now c.loop-name.way c.loop-name.name-index c.name-item.result _ c.loop-name.here c.loop-name-test.true
    c.name-item.is at.0 at.3 (sym c.is_dir.ensures ∙ c.if-not-is_dir.true))

pub kind-requires : goal.kind-requires
kind-requires g c =
    let at = c.loop-name.invariant in
    subst (λ (p : Path). CanLook (tree_in (g.R.Source.told c.loop-name.root)) p) (sym c.in_ok-push.ensures.ok)
    (subst (λ t. CanLook (tree_in t) (c.loop-name.way ++ c.in_ok-copy.field-0 ∷ [])) (sym at.1)
    (look_below (tree_in (g.R.Source.told c.args.root.now)) c.loop-name.way c.in_ok-copy.field-0 c.loop-name.here at.3 (sym c.is_dir.ensures
    ∙ c.if-not-is_dir.false)))

pub loop-name-preserved : goal.loop-name-preserved
loop-name-preserved g c =
    let at = c.loop-name.invariant in
    let told = g.R.Source.told in (
      way_more c.loop-name.way c.push.new.self c.names-name-items.result.now c.in_ok-copy.field-0 _ c.loop-name.name-index at.0 c.loop-name-test.true
          (c.in_ok-copy.ensures.bytes ∙ c.name-item.is) c.in_ok-push.ensures.ok,
      c.in_ok-here.ensures.same ∙ at.1,
      c.in_ok-here.ensures.failures ∙ at.2,
      subst (λ t. IsSeen (tree_in t) c.push.new.self c.in_ok-here.here) at.1 c.in_ok-here.ensures.kind,
      g.met.R.Source.keeps_on _ _ _ at.4 c.in_ok-here.ensures.keeps,
    )

pub returns-clause-kind : goal.returns-clause-kind
returns-clause-kind g c =
    let tree = tree_in (g.R.Source.told c.args.root.now) in
    let at = c.loop-name.invariant in
    subst (λ (p : Path). IsSeen tree p c.loop-name.here) (at.0 ∙ take_all c.loop-name.name-index c.names-name-items.result.now
    (omega (arith, c.loop-name-test.false)) ∙ c.names-name-items.ensures) at.3
