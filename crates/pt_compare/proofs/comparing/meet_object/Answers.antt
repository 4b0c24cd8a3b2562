use Rattle.std.proofs.Common.{◌++◌, ◌∙◌}
use Rattle.pt_compare.specs.Found.{sought_of}
use Rattle.pt_compare.specs.Marks.{marks_of}
use Rattle.pt_compare.specs.Parts.{files_of, first_items}
use Rattle.pt_tree.specs.Path.{Path}
use Rattle.pt_tree.specs.Source.{CanOpen, tree_in}
use Rattle.pt_compare.proofs.Compared.{all_contents, contents_stop, files_are, first_stops, inventories_last}
use Rattle.pt_compare.proofs.Steps.{noted_items}
use Rattle.pt_compare.proofs.comparing.meet_object.Goals as goal

pub returns-in_err-meet_first-clause-met : goal.returns-in_err-meet_first-clause-met
returns-in_err-meet_first-clause-met g c =
    first_stops (tree_in (g.S.Source.told c.args.source.now)) (tree_in (g.R.Source.told c.args.root.now)) c.args.object.now.to.now
    (λ s. sought_of c.args.object.now s) (marks_of c.args.entries.now) (marks_of c.meet_first.new.entries) (marks_of c.meet_first.new.entries)
    c.in_err-meet_first.field-0.0 c.from_residual.result c.from_residual.ensures.1 c.in_err-meet_first.ensures.met

pub meet_contents-requires-clause-files : goal.meet_contents-requires-clause-files
meet_contents-requires-clause-files g c = all_contents (λ (p : Path). CanOpen (g.S.Source.told c.args.source.now) (c.args.object.now.from.now ++ p))
    c.args.object.now.rows.now c.args.object.now.contents.now c.requires.contents c.requires.files

pub meet_contents-requires-clause-noted : goal.meet_contents-requires-clause-noted
meet_contents-requires-clause-noted g c = noted_items (tree_in (g.R.Source.told c.args.root.now)) (tree_in (g.R.Source.told c.meet_first.new.root))
    c.args.object.now.to.now first_items (marks_of c.args.entries.now) (marks_of c.meet_first.new.entries) c.in_ok-meet_first.field-0
    c.in_ok-meet_first.ensures.root.1 c.requires.noted c.in_ok-meet_first.ensures.met

pub returns-in_err-meet_contents-clause-met : goal.returns-in_err-meet_contents-clause-met
returns-in_err-meet_contents-clause-met g c =
    contents_stop (tree_in (g.S.Source.told c.args.source.now)) (tree_in (g.R.Source.told c.args.root.now)) c.args.object.now.to.now
    (λ s. sought_of c.args.object.now s) (marks_of c.args.entries.now)
    (tree_in (g.R.Source.told c.meet_first.new.root)) (λ s. files_of s c.args.object.now.from.now c.args.object.now.contents.now)
    (λ s. files_are s c.args.object.now.from.now c.args.object.now.rows.now c.args.object.now.contents.now c.requires.contents)
    (marks_of c.meet_first.new.entries) (marks_of c.meet_contents.new.entries) c.in_ok-meet_first.field-0 c.in_ok-meet_first.ensures.root.1
    c.in_ok-meet_first.ensures.met (marks_of c.meet_contents.new.entries) c.in_err-meet_contents.field-0.0 c.from_residual-in_err-meet_contents.result
    c.from_residual-in_err-meet_contents.ensures.1 c.in_err-meet_contents.ensures.met

pub meet_inventories-requires-clause-noted : goal.meet_inventories-requires-clause-noted
meet_inventories-requires-clause-noted g c = c.in_ok-meet_contents.ensures.stands

pub returns-clause-met : goal.returns-clause-met
returns-clause-met g c =
    inventories_last (tree_in (g.S.Source.told c.args.source.now)) (tree_in (g.R.Source.told c.args.root.now)) c.args.object.now.to.now
    (λ s. sought_of c.args.object.now s) (marks_of c.args.entries.now)
    (tree_in (g.R.Source.told c.meet_first.new.root)) (λ s. files_of s c.args.object.now.from.now c.args.object.now.contents.now)
    (λ s. files_are s c.args.object.now.from.now c.args.object.now.rows.now c.args.object.now.contents.now c.requires.contents)
    (marks_of c.meet_first.new.entries) (marks_of c.meet_contents.new.entries) c.in_ok-meet_first.field-0 c.in_ok-meet_first.ensures.root.1
    c.in_ok-meet_first.ensures.met (tree_in (g.R.Source.told c.meet_contents.new.root)) c.in_ok-meet_contents.field-0
    (marks_of c.meet_inventories.new.entries) c.meet_inventories.result c.in_ok-meet_contents.ensures.root.1 c.in_ok-meet_contents.ensures.met
    (λ s. c.meet_inventories.ensures.met)

pub returns-in_err-meet_contents-clause-root : goal.returns-in_err-meet_contents-clause-root
returns-in_err-meet_contents-clause-root g c = (
  g.met.R.Source.keeps_on _ _ _ c.in_ok-meet_first.ensures.root.0 c.meet_contents.ensures.root.0,
  c.meet_contents.ensures.root.1 ∙ c.in_ok-meet_first.ensures.root.1,
)

pub returns-clause-root : goal.returns-clause-root
returns-clause-root g c = (
  g.met.R.Source.keeps_on _ _ _ c.in_ok-meet_first.ensures.root.0
      (g.met.R.Source.keeps_on _ _ _ c.in_ok-meet_contents.ensures.root.0 c.meet_inventories.ensures.root.0),
  c.meet_inventories.ensures.root.1
      ∙ c.in_ok-meet_contents.ensures.root.1 ∙ c.in_ok-meet_first.ensures.root.1,
)
