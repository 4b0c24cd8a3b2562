use Rattle.std.proofs.Common.{arith, rules, sym, subst, ◌++◌, ◌∙◌}
use Rattle.pt_compare.specs.Marks.{marks_of}
use Rattle.pt_tree.specs.Path.{Path}
use Rattle.pt_tree.specs.Source.{CanOpen, tree_in}
use Rattle.pt_tree.specs.declared.kind.Kind.TheVariants as kind
use Rattle.pt_compare.proofs.Entering.{noted_kind}
use Rattle.pt_compare.proofs.Reading.{can_open}
use Rattle.pt_compare.proofs.Single.{kind_is, opens}
use Rattle.pt_compare.proofs.meeting.open_file.Goals as goal

pub open-requires : goal.open-requires
open-requires g c =
    subst (λ (p : Path). CanOpen (g.R.Source.told c.args.root.now) p) (sym c.in_ok-whole.ensures)
    (can_open (g.R.Source.told c.args.root.now) (c.args.place.now ++ c.args.path.now)
    (noted_kind (tree_in (g.R.Source.told c.args.root.now)) c.args.place.now c.args.path.now (marks_of c.args.entries.now) kind.File c.requires
    (sym c.in_ok-here.ensures.kind ∙ kind_is kind.File c.in_ok-here.here (sym c.is_of_kind.ensures ∙ c.if-not-is_of_kind.false))))

pub returns-clause-opened : goal.returns-clause-opened
returns-clause-opened g c =
    opens (g.R.Source.told c.args.root.now) (g.R.Source.told c.open.new.self) c.args.place.now c.args.path.now c.in_ok-whole.whole (marks_of c.args.entries.now)
    (marks_of c.take.new.self) c.in_ok-here.here c.requires c.in_ok-here.ensures.kind
    (sym c.is_of_kind.ensures ∙ c.if-not-is_of_kind.false) c.in_ok-here.ensures.marks (first_of (search rules, grind arith)) c.in_ok-whole.ensures
