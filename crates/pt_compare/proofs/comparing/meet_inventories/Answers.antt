use Rattle.std.proofs.Common.{◌∙◌}
use Rattle.pt_compare.specs.Found.{texts_of_object}
use Rattle.pt_compare.specs.Marks.{marks_of}
use Rattle.pt_tree.specs.Source.{tree_in}
use Rattle.pt_compare.proofs.Compared.{inventory_noted, inventory_stops, inventory_then}
use Rattle.pt_compare.proofs.comparing.meet_inventories.Goals as goal

pub returns-in_err-stands-clause-met : goal.returns-in_err-stands-clause-met
returns-in_err-stands-clause-met g c =
    inventory_stops (tree_in (g.R.Source.told c.args.root.now)) c.args.object.now.to.now c.in_ok-path.path c.args.object.now.algorithm
    (texts_of_object c.args.object.now) (marks_of c.args.entries.now) (marks_of c.meet_inventory.new.entries) (marks_of c.meet_inventory.new.entries)
    c.in_err-stands.field-0.0 c.from_residual-in_err-stands.result c.from_residual-in_err-stands.ensures.1
    c.in_ok-path.ensures c.in_err-stands.ensures.met

pub meet_copies-requires : goal.meet_copies-requires
meet_copies-requires g c =
    inventory_noted (tree_in (g.R.Source.told c.args.root.now)) (tree_in (g.R.Source.told c.meet_inventory.new.root)) c.args.object.now.to.now c.in_ok-path.path
    (texts_of_object c.args.object.now) (marks_of c.args.entries.now) (marks_of c.meet_inventory.new.entries) c.in_ok-stands.stands
    c.in_ok-stands.ensures.root.1 c.requires.noted c.in_ok-stands.ensures.met

pub returns-clause-met : goal.returns-clause-met
returns-clause-met g c =
    inventory_then (tree_in (g.R.Source.told c.args.root.now)) (tree_in (g.R.Source.told c.meet_inventory.new.root)) c.args.object.now.to.now c.in_ok-path.path
    c.args.object.now.algorithm (texts_of_object c.args.object.now) c.as_str.result.now (marks_of c.args.entries.now)
    (marks_of c.meet_inventory.new.entries) (marks_of c.meet_copies.new.entries) c.in_ok-stands.stands c.meet_copies.result c.in_ok-stands.ensures.root.1
    c.in_ok-path.ensures c.as_str.ensures.value c.in_ok-stands.ensures.met c.meet_copies.ensures.met

pub returns-clause-root : goal.returns-clause-root
returns-clause-root g c = (
  g.met.R.Source.keeps_on _ _ _ c.in_ok-stands.ensures.root.0 c.meet_copies.ensures.root.0,
  c.meet_copies.ensures.root.1
      ∙ c.in_ok-stands.ensures.root.1,
)
