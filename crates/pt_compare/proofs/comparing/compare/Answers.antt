use Rattle.std.proofs.Common.{rules, ap, subst, ◌∙◌, ◌++◌}
use Rattle.std.specs.Prelude.{Err}
use Rattle.std.specs.Option.{ForSome}
use Rattle.std.proofs.lemmas.Result.{IfOk-weaker}
use Rattle.pt_compare.specs.Entries.{Noted}
use Rattle.pt_compare.specs.Found.{MeetsObject, sought_of}
use Rattle.pt_compare.specs.Marks.{inside, marks_of, with_mark}
use Rattle.pt_tree.specs.Source.{IsSeen}
use Rattle.pt_tree.specs.Source.{tree_in}
use Rattle.pt_compare.specs.declared.stop.Stop.{Stop}
use Rattle.pt_walk.specs.Left.{bytes_at}
use Rattle.pt_compare.proofs.Compared.{first_stands, found_differs, found_left, stored_order}
use Rattle.pt_compare.proofs.comparing.compare.Goals as goal

pub meet_object-requires-clause-noted : goal.meet_object-requires-clause-noted
meet_object-requires-clause-noted g c =
    let seen : IsSeen (tree_in (g.R.Source.told c.args.root.now)) c.args.object.now.to.now c.in_ok-here.here = search rules in
    first_stands (tree_in (g.R.Source.told c.args.root.now)) (tree_in (g.R.Source.told c.look_at_place.new.root)) c.args.object.now.to.now c.new.result
    c.in-Some.kind (marks_of c.add-2.new.self) (ap tree_in c.look_at_place.ensures.same)
    (subst (IsSeen (tree_in (g.R.Source.told c.args.root.now)) c.args.object.now.to.now) c.in-Some.is seen) c.new.ensures
    (c.in_ok-add.ensures.marks ∙ ap (λ (e : Noted). with_mark c.new.result c.in-Some.kind (marks_of e)) c.new-entries.ensures)

pub returns-in-Ok-clause-found : goal.returns-in-Ok-clause-found
returns-in-Ok-clause-found g c =
    let seen : IsSeen (tree_in (g.R.Source.told c.args.root.now)) c.args.object.now.to.now c.in_ok-here.here = search rules in
    IfOk-weaker c.find_left_over.result _ _
    (λ found left.
    found_left (tree_in (g.S.Source.told c.args.source.now)) (tree_in (g.R.Source.told c.args.root.now)) (tree_in (g.R.Source.told c.look_at_place.new.root))
    c.args.object.now.to.now c.new.result (λ s. sought_of c.args.object.now s)
    (λ s. stored_order (λ path. bytes_at s (c.args.object.now.from.now ++ path)) c.args.object.now.rows.now c.requires.order) c.in-Some.kind
    (marks_of c.add-2.new.self) (ap tree_in c.look_at_place.ensures.same)
    (subst (IsSeen (tree_in (g.R.Source.told c.args.root.now)) c.args.object.now.to.now) c.in-Some.is seen) c.new.ensures
    (c.in_ok-add.ensures.marks ∙ ap (λ (e : Noted). with_mark c.new.result c.in-Some.kind (marks_of e)) c.new-entries.ensures)
    (marks_of c.meet_object.new.entries) found c.in-Ok.field-0 c.in-Ok.ensures.met left) c.find_left_over.ensures.left

pub returns-in-Err-Differs-clause-found : goal.returns-in-Err-Differs-clause-found
returns-in-Err-Differs-clause-found g c =
    let seen : IsSeen (tree_in (g.R.Source.told c.args.root.now)) c.args.object.now.to.now c.in_ok-here.here = search rules in
    found_differs (tree_in (g.S.Source.told c.args.source.now)) (tree_in (g.R.Source.told c.args.root.now)) (tree_in (g.R.Source.told c.look_at_place.new.root))
    c.args.object.now.to.now c.new.result (λ s. sought_of c.args.object.now s)
    (λ s. stored_order (λ path. bytes_at s (c.args.object.now.from.now ++ path)) c.args.object.now.rows.now c.requires.order) c.in-Some.kind
    (marks_of c.add-2.new.self) (ap tree_in c.look_at_place.ensures.same)
    (subst (IsSeen (tree_in (g.R.Source.told c.args.root.now)) c.args.object.now.to.now) c.in-Some.is seen) c.new.ensures
    (c.in_ok-add.ensures.marks ∙ ap (λ (e : Noted). with_mark c.new.result c.in-Some.kind (marks_of e)) c.new-entries.ensures)
    c.in-Err-Differs.difference (marks_of c.meet_object.new.entries)
    (subst (λ (e : Stop). ForSome (tree_in (g.S.Source.told c.args.source.now))
    (λ s. ForSome (tree_in (g.R.Source.told c.look_at_place.new.root)) (λ f. MeetsObject (sought_of c.args.object.now s) (inside f c.args.object.now.to.now)
    (marks_of c.add-2.new.self) (marks_of c.meet_object.new.entries) (Err e)))) c.in-Err-Differs.field-0-is c.in-Err-Differs.ensures.met)

pub look_at_place-requires : goal.look_at_place-requires
look_at_place-requires g c = c.requires.known.stands

pub meet_object-requires-clause-alike : goal.meet_object-requires-clause-alike
meet_object-requires-clause-alike g c = rw c.look_at_place.ensures.same c.requires.known.alike

pub returns-in-Ok-clause-root : goal.returns-in-Ok-clause-root
returns-in-Ok-clause-root g c = (
  g.met.R.Source.keeps_on _ _ _ c.look_at_place.ensures.keeps c.meet_object.ensures.root.0,
  c.meet_object.ensures.root.1
      ∙ ap tree_in c.look_at_place.ensures.same,
)

pub returns-in-Err-Differs-clause-root : goal.returns-in-Err-Differs-clause-root
returns-in-Err-Differs-clause-root g c = (
  g.met.R.Source.keeps_on _ _ _ c.look_at_place.ensures.keeps c.meet_object.ensures.root.0,
  c.meet_object.ensures.root.1
      ∙ ap tree_in c.look_at_place.ensures.same,
)

pub returns-in_default-clause-found : goal.returns-in_default-clause-found
returns-in_default-clause-found g c = search rules
