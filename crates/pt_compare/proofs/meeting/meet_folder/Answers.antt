use Rattle.std.proofs.Common.{arith, rules, refl, sym, subst, ◌++◌, ◌∙◌}
use Rattle.pt_compare.specs.Marks.{marks_of}
use Rattle.pt_compare.specs.Root.{Lists}
use Rattle.pt_plan.specs.declared.fault.Fault.TheVariants as fault
use Rattle.pt_tree.specs.Path.{Path}
use Rattle.pt_tree.specs.Source.{CanList, tree_in}
use Rattle.pt_tree.specs.declared.kind.Kind.TheVariants as kind
use Rattle.pt_compare.proofs.Entering.{listed_now, noted_kind}
use Rattle.pt_compare.proofs.Going.{halt_is, halted, halts_in}
use Rattle.pt_compare.proofs.Reading.{can_list}
use Rattle.pt_compare.proofs.Single.{entered, kind_is, wrong_one}
use Rattle.pt_compare.proofs.meeting.meet_folder.Goals as goal

pub returns-in_err-here-clause-met : goal.returns-in_err-here-clause-met
returns-in_err-here-clause-met g c = halts_in _ _ _ _ _ c.from_residual.result fault.Memory c.from_residual.ensures.1

pub returns-in_err-whole-clause-met : goal.returns-in_err-whole-clause-met
returns-in_err-whole-clause-met g c = halts_in _ _ _ _ _ c.from_residual-in_err-whole.result fault.Memory c.from_residual-in_err-whole.ensures.1

pub returns-in_err-listing-clause-met : goal.returns-in_err-listing-clause-met
returns-in_err-listing-clause-met g c =
    halted _ _ _ _ _ c.from_residual-in_err-listing.result c.in_err-listing.field-0.0 c.from_residual-in_err-listing.ensures.1
    (first_of (search rules, search (rules, halt_is), grind (arith, halt_is)))

pub returns-in_err-note-clause-met : goal.returns-in_err-note-clause-met
returns-in_err-note-clause-met g c = halts_in _ _ _ _ _ c.from_residual-in_err-note.result fault.Memory c.from_residual-in_err-note.ensures.1

pub list-requires : goal.list-requires
list-requires g c =
    subst (λ (p : Path). CanList (g.R.Source.told c.args.root.now) p) (sym c.in_ok-whole.ensures)
    (can_list (g.R.Source.told c.args.root.now) (c.args.place.now ++ c.args.path)
    (noted_kind (tree_in (g.R.Source.told c.args.root.now)) c.args.place.now c.args.path (marks_of c.args.entries.now) kind.Dir c.requires
    (sym c.in_ok-here.ensures.kind ∙ kind_is kind.Dir c.in_ok-here.here (sym c.is_of_kind.ensures ∙ c.if-not-is_of_kind.false))))

pub returns-clause-met : goal.returns-clause-met
returns-clause-met g c =
    entered (tree_in (g.R.Source.told c.args.root.now)) c.args.place.now c.args.path (marks_of c.args.entries.now) (marks_of c.take.new.self)
    (marks_of c.note.new.entries) c.in_ok-here.here c.in_ok-listing.listing _ refl c.requires c.in_ok-here.ensures.kind (sym c.is_of_kind.ensures
    ∙ c.if-not-is_of_kind.false) c.in_ok-here.ensures.marks
    (subst (λ (p : Path). Lists (tree_in (g.R.Source.told c.args.root.now)) p c.in_ok-listing.listing) c.in_ok-whole.ensures
    (listed_now (g.R.Source.told c.args.root.now) c.in_ok-whole.whole c.in_ok-listing.listing (g.met.R.Source.proper c.args.root.now)
    (first_of (search rules, grind arith)))) c.in_ok-note.ensures

pub returns-then-not-is_of_kind-clause-met : goal.returns-then-not-is_of_kind-clause-met
returns-then-not-is_of_kind-clause-met g c = wrong_one _ c.args.place.now _ _ _ c.in_ok-here.here c.wrong.result _ refl c.wrong.ensures
    c.in_ok-here.ensures.kind (sym c.is_of_kind.ensures ∙ c.if-not-is_of_kind.true)
