use Rattle.std.proofs.Common.{ap, subst, sym, ◌∙◌}
use Rattle.pt_extra.proofs.Tops.{look_top, top_kind}
use Rattle.pt_object.specs.WellKnown.{known_text}
use Rattle.pt_plan.specs.TurnStart.{is_dir_kind}
use Rattle.pt_tree.specs.Forest.{kind_at}
use Rattle.pt_tree.specs.Path.{Path}
use Rattle.pt_tree.specs.Source.{CanLook, tree_in}
use Rattle.pt_extra.proofs.store.has_folder.Goals as goal

pub kind-requires : goal.kind-requires
kind-requires g c =
    let tree = tree_in (g.S.Source.told c.args.source.now) in
    subst (λ (p : Path). CanLook tree p) (sym c.in_ok-path.ensures) (look_top tree (known_text c.args.name))

pub returns-clause-has : goal.returns-clause-has
returns-clause-has g c = λ tree told.
    c.is_dir.ensures
    ∙ ap is_dir_kind (sym (c.in_ok-kind.ensures.kind tree told)
    ∙ ap (λ (p : Path). kind_at tree p) c.in_ok-path.ensures
    ∙ top_kind tree (known_text c.args.name))
