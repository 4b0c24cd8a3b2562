use Rattle.std.proofs.Common.{arith, rules, refl, sym, ◌∙◌}
use Rattle.pt_compare.specs.Bytes.{TellsRest}
use Rattle.pt_compare.specs.Marks.{marks_of}
use Rattle.pt_compare.proofs.Going.{halt_is, halted}
use Rattle.pt_compare.proofs.Single.{bytes_met, bytes_other, unopened}
use Rattle.pt_compare.proofs.meeting.meet_bytes.Goals as goal

pub returns-in_err-open_file-clause-met : goal.returns-in_err-open_file-clause-met
returns-in_err-open_file-clause-met g c = unopened (g.R.Source.told c.args.root.now) (g.R.Source.told c.open_file.new.root) _ _ _ _
    (marks_of c.open_file.new.entries) _ c.in_err-open_file.field-0.0 c.from_residual.result c.from_residual.ensures.1 c.in_err-open_file.ensures.opened

pub returns-in_err-map_err-clause-met : goal.returns-in_err-map_err-clause-met
returns-in_err-map_err-clause-met g c = halted _ _ _ _ _ c.from_residual-in_err-map_err.result c.in_err-map_err.field-0.0
    c.from_residual-in_err-map_err.ensures.1 (first_of (search rules, search (rules, halt_is), grind (arith, halt_is)))

pub returns-then-branch-clause-met : goal.returns-then-branch-clause-met
returns-then-branch-clause-met g c =
    let rest : TellsRest c.args.bytes.now (g.R.Source.told c.open_file.new.root) c.in_ok-map_err.field-0 = search rules in
    bytes_met (g.R.Source.told c.args.root.now) (g.R.Source.told c.open_file.new.root) c.args.place.now c.args.path c.args.bytes.now
    (marks_of c.args.entries.now) (marks_of c.open_file.new.entries) c.in_ok-map_err.field-0 _ refl c.in_ok-open_file.ensures.opened rest
    (sym c.if-branch.true)

pub returns-else-branch-clause-met : goal.returns-else-branch-clause-met
returns-else-branch-clause-met g c =
    let rest : TellsRest c.args.bytes.now (g.R.Source.told c.open_file.new.root) c.in_ok-map_err.field-0 = search rules in
    bytes_other (g.R.Source.told c.args.root.now) (g.R.Source.told c.open_file.new.root) c.args.place.now c.args.path c.args.bytes.now
    (marks_of c.args.entries.now) (marks_of c.open_file.new.entries) c.in_ok-map_err.field-0 c.other_bytes.result _ refl c.other_bytes.ensures
    c.in_ok-open_file.ensures.opened rest (sym c.if-branch.false)

pub returns-in_err-map_err-clause-root : goal.returns-in_err-map_err-clause-root
returns-in_err-map_err-clause-root g c = (
  g.met.R.Source.keeps_on _ _ _ c.in_ok-open_file.ensures.root.0 c.are_the_rest.ensures.keeps,
  c.are_the_rest.ensures.tree ∙ c.in_ok-open_file.ensures.root.1,
)

pub returns-then-branch-clause-root : goal.returns-then-branch-clause-root
returns-then-branch-clause-root g c = (
  g.met.R.Source.keeps_on _ _ _ c.in_ok-open_file.ensures.root.0 c.are_the_rest.ensures.keeps,
  c.are_the_rest.ensures.tree
      ∙ c.in_ok-open_file.ensures.root.1,
)

pub returns-else-branch-clause-root : goal.returns-else-branch-clause-root
returns-else-branch-clause-root g c = (
  g.met.R.Source.keeps_on _ _ _ c.in_ok-open_file.ensures.root.0 c.are_the_rest.ensures.keeps,
  c.are_the_rest.ensures.tree
      ∙ c.in_ok-open_file.ensures.root.1,
)
