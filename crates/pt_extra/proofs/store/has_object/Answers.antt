use Rattle.std.proofs.Common.{ap, drop, false, length, nat_lt, rules, subst, sym, true, Bool, List, ℕ, [], ◌∷◌, ◌≡◌, ◌/◌, ◌∙◌}
use Rattle.std.specs.Prelude.{◌&&◌, Option}
use Rattle.pt_audit.proofs.Twins.{none_of, none_there}
use Rattle.pt_audit.specs.Twin.{proper_site}
use Rattle.pt_compare.specs.Root.{Stands}
use Rattle.pt_extra.proofs.Objects.{held_by}
use Rattle.pt_extra.proofs.Sites.{none_so_deep}
use Rattle.pt_extra.proofs.Tops.{lacks_top, stands_top}
use Rattle.pt_name.specs.Share.{begins_with}
use Rattle.pt_plan.specs.Store.{pairtree_root}
use Rattle.pt_plan.specs.TurnWalk.{in_pairtree}
use Rattle.pt_state.specs.States.{job_of}
use Rattle.pt_tree.specs.Path.{Path}
use Rattle.pt_tree.specs.Source.{Reading, tree_in}
use Rattle.pt_tree.specs.declared.kind.Kind.TheVariants as kind
use Rattle.pt_extra.proofs.store.has_object.Goals as goal

pub returns-then-not-branch-clause-has : goal.returns-then-not-branch-clause-has
returns-then-not-branch-clause-has g c = λ x told.
    let tree = tree_in (g.S.Source.told c.args.store.now) in
    let site = proper_site (drop (length c.args.prefix.now) c.args.id.now) in
    none_of (begins_with c.args.prefix.now c.args.id.now)
    ∙ ap (λ (b : Bool). begins_with c.args.prefix.now c.args.id.now && b)
    (none_there (job_of c.args.job.now) site tree (λ s is. lacks_top s pairtree_root site (sym c.if-not-branch.true ∙ c.in_ok-has_folder.ensures.has s is)) x
    told)

pub object_stands-requires : goal.object_stands-requires
object_stands-requires g c =
    let tree = tree_in (g.S.Source.told c.args.store.now) in
    let stands : Stands tree (pairtree_root ∷ [], kind.Dir) = stands_top tree pairtree_root (λ s is. sym c.if-not-branch.false
    ∙ c.in_ok-has_folder.ensures.has s is) in
    let there : Stands tree (in_pairtree c.new.result, kind.Dir) = subst (λ (p : Path). Stands tree (in_pairtree p, kind.Dir)) (sym c.new.ensures) stands in
    subst (λ (t : Option Reading). Stands (tree_in t) (in_pairtree c.new.result, kind.Dir)) (sym c.in_ok-has_folder.ensures.same) there

pub returns-then-is_too_long-clause-has : goal.returns-then-is_too_long-clause-has
returns-then-is_too_long-clause-has g c = λ x told.
    let own = drop (length c.args.prefix.now) c.args.id.now in
    let job = job_of c.args.job.now in
    let begins : begins_with c.args.prefix.now c.args.id.now ≡ true = search rules in
    let own_is : c.skip_prefix-own.result.now ≡ own = search rules in
    let long : nat_lt job.limits.depth (length own / 2) ≡ true =
    ap (λ (n : ℕ). nat_lt n (length own / 2)) (sym c.depth.ensures.value)
    ∙ ap (λ (l : List ℕ). nat_lt c.depth.result (length l / 2)) (sym own_is)
    ∙ sym c.is_too_long.ensures ∙ c.if-is_too_long.true in
    held_by (record { job = job; prefix = c.args.prefix.now; store = x }) c.args.id.now false begins (none_so_deep job x own long)
