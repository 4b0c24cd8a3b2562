use Rattle.std.proofs.Common.{rules, ap, subst, ◌∙◌, ◌++◌}
use Rattle.std.specs.Prelude.{IfSome, Option, None, Some}
use Rattle.std.specs.Option.{option_map}
use Rattle.pt_quick.specs.Quick.{ClaimsIn, CouldBeOf}
use Rattle.pt_quick.specs.declared.claimed.ClaimedFiles.{ClaimedFiles}
use Rattle.pt_quick.proofs.Places.{all_by_paths, tells_absent, tells_claimed, tells_unclaimed}
use Rattle.pt_tree.specs.Forest.{Forest}
use Rattle.pt_tree.specs.Path.{Path}
use Rattle.pt_tree.specs.Source.{CanOpen, IsSeen, tree_in}
use Rattle.pt_quick.proofs.quick.look_over.Goals as goal

pub returns-in_default-clause-found : goal.returns-in_default-clause-found
returns-in_default-clause-found g c =
    let seen : IsSeen (tree_in (g.R.Source.told c.args.root.now)) c.args.object.now.to.now c.in_ok-here.here = search rules in
    tells_absent (tree_in (g.S.Source.told c.args.source.now)) (tree_in (g.R.Source.told c.args.root.now)) c.args.object.now c.requires.rows.order
    c.requires.rows.digests (subst (IsSeen (tree_in (g.R.Source.told c.args.root.now)) c.args.object.now.to.now) c.in_default.is seen)

pub compare-requires-clause-files : goal.compare-requires-clause-files
compare-requires-clause-files g c =
    let could : CouldBeOf c.args.object.now c.in-Some-2.files.rows = search rules in
    all_by_paths (λ (p : Path). CanOpen (g.S.Source.told c.args.source.now) (c.args.object.now.from.now ++ p)) c.args.object.now.rows.now c.in-Some-2.files.rows
    could.paths_are c.requires.files

pub returns-in-Some-2-clause-found : goal.returns-in-Some-2-clause-found
returns-in-Some-2-clause-found g c =
    let seen : IsSeen (tree_in (g.R.Source.told c.args.root.now)) c.args.object.now.to.now c.in_ok-here.here = search rules in
    let some : IfSome c.in_ok-files.field-0 (λ (files : ClaimedFiles). CouldBeOf c.args.object.now files.rows) = search rules in
    let could : CouldBeOf c.args.object.now c.in-Some-2.files.rows = rw c.in-Some-2.is at some in
    let claims : ClaimsIn (tree_in (g.R.Source.told c.look_at_place.new.root)) c.args.object.now
    (option_map (λ (files : ClaimedFiles). files.rows) c.in_ok-files.field-0) = search rules in
    tells_claimed (tree_in (g.S.Source.told c.args.source.now)) (tree_in (g.R.Source.told c.args.root.now)) (tree_in (g.R.Source.told c.claimed_at.new.root))
    c.args.object.now c.requires.rows.order c.requires.rows.digests (c.claimed_at.ensures.root.1 ∙ ap tree_in c.look_at_place.ensures.same)
    c.in-Some-2.files.rows c.in-Some.kind c.compare.result
    (subst (IsSeen (tree_in (g.R.Source.told c.args.root.now)) c.args.object.now.to.now) c.in-Some.is seen)
    (subst (λ (tree : Option Forest). ClaimsIn tree c.args.object.now (Some c.in-Some-2.files.rows)) (ap tree_in c.look_at_place.ensures.same)
    (rw c.in-Some-2.is at claims)) could c.compare.ensures.found

pub returns-in-None-clause-found : goal.returns-in-None-clause-found
returns-in-None-clause-found g c =
    let seen : IsSeen (tree_in (g.R.Source.told c.args.root.now)) c.args.object.now.to.now c.in_ok-here.here = search rules in
    let claims : ClaimsIn (tree_in (g.R.Source.told c.look_at_place.new.root)) c.args.object.now
    (option_map (λ (files : ClaimedFiles). files.rows) c.in_ok-files.field-0) = search rules in
    tells_unclaimed (tree_in (g.S.Source.told c.args.source.now)) (tree_in (g.R.Source.told c.args.root.now)) (tree_in (g.R.Source.told c.claimed_at.new.root))
    c.args.object.now c.requires.rows.order c.requires.rows.digests (c.claimed_at.ensures.root.1 ∙ ap tree_in c.look_at_place.ensures.same)
    c.in-Some.kind c.compare-in-None.result
    (subst (IsSeen (tree_in (g.R.Source.told c.args.root.now)) c.args.object.now.to.now) c.in-Some.is seen)
    (subst (λ (tree : Option Forest). ClaimsIn tree c.args.object.now None) (ap tree_in c.look_at_place.ensures.same) (rw c.in-None.is at claims))
    c.compare-in-None.ensures.found
