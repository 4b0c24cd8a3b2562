use Rattle.pt_tree.specs.Failures.{IsCounted}
use Rattle.std.proofs.Common.{arith, rules, refl, subst, ◌∙◌, ◌≡◌}
use Rattle.std.specs.Prelude.{IfOk}
use Rattle.pt_compare.specs.Bytes.{IsAllLeft}
use Rattle.pt_compare.specs.Found.{texts_of_object}
use Rattle.pt_compare.specs.Marks.{marks_of}
use Rattle.pt_compare.specs.declared.stop.Stop.TheVariants as stop
use Rattle.pt_plan.specs.declared.fault.Fault.TheVariants as fault
use Rattle.pt_compare.proofs.Described.{on_none, on_some}
use Rattle.pt_compare.proofs.Going.{halt_is}
use Rattle.pt_compare.proofs.Single.{halted_text, text_met, text_other, unopened_text, was_ok}
use Rattle.pt_compare.proofs.meeting.meet_inventory.Goals as goal

pub returns-in_err-open_file-clause-met : goal.returns-in_err-open_file-clause-met
returns-in_err-open_file-clause-met g c = unopened_text (g.R.Source.told c.args.root.now) (g.R.Source.told c.open_file.new.root) _ _ _ _
    (marks_of c.open_file.new.entries) _ c.in_err-open_file.field-0.0 c.from_residual.result c.from_residual.ensures.1 c.in_err-open_file.ensures.opened

pub returns-in_err-stands-clause-met : goal.returns-in_err-stands-clause-met
returns-in_err-stands-clause-met g c = halted_text _ _ _ _ _ _ c.from_residual-in_err-stands.result c.in_err-stands.field-0.0
    c.from_residual-in_err-stands.ensures.1 (first_of (search rules, search (rules, halt_is), grind (arith, halt_is)))

pub returns-in_err-text-clause-met : goal.returns-in_err-text-clause-met
returns-in_err-text-clause-met g c = halted_text _ _ _ _ _ _ c.from_residual-in_err-text.result (stop.Fault fault.Memory) c.from_residual-in_err-text.ensures.1
    tt

pub returns-in-Some-clause-met : goal.returns-in-Some-clause-met
returns-in-Some-clause-met g c =
    let all : IsAllLeft (g.R.Source.told c.open_file.new.root) c.in_ok-stands.stands = subst (λ r. IfOk r (IsAllLeft (g.R.Source.told c.open_file.new.root)))
    (was_ok _ _ _ _ c.map_err.ensures.cases c.map_err.ensures.variant c.in_ok-stands.was) c.rest_of.ensures.rest in
    text_met (g.R.Source.told c.args.root.now) (g.R.Source.told c.open_file.new.root) c.args.object.now.to.now c.args.path (texts_of_object c.args.object.now)
    (marks_of c.args.entries.now) (marks_of c.open_file.new.entries) c.in_ok-stands.stands c.in_ok-stands.stands.items _ c.in_ok-open_file.ensures.opened
    all refl c.in-Some.text refl
    (on_some c.in_ok-text.field-0 c.in-Some.text _ _ c.in-Some.is c.in_ok-text.ensures)

pub returns-in-None-clause-met : goal.returns-in-None-clause-met
returns-in-None-clause-met g c =
    let all : IsAllLeft (g.R.Source.told c.open_file.new.root) c.in_ok-stands.stands = subst (λ r. IfOk r (IsAllLeft (g.R.Source.told c.open_file.new.root)))
    (was_ok _ _ _ _ c.map_err.ensures.cases c.map_err.ensures.variant c.in_ok-stands.was) c.rest_of.ensures.rest in
    text_other (g.R.Source.told c.args.root.now) (g.R.Source.told c.open_file.new.root) c.args.object.now.to.now c.args.path (texts_of_object c.args.object.now)
    (marks_of c.args.entries.now) (marks_of c.open_file.new.entries) c.in_ok-stands.stands c.in_ok-stands.stands.items _ c.in_ok-open_file.ensures.opened
    all refl c.other_bytes.result refl c.other_bytes.ensures
    (on_none c.in_ok-text.field-0 _ _ c.in-None.is c.in_ok-text.ensures)

pub returns-in-Some-clause-root : goal.returns-in-Some-clause-root
returns-in-Some-clause-root g c = (
  g.met.R.Source.keeps_on _ _ _ c.in_ok-open_file.ensures.root.0 c.rest_of.ensures.keeps,
  c.rest_of.ensures.tree
      ∙ c.in_ok-open_file.ensures.root.1,
)

pub returns-in_err-stands-clause-root : goal.returns-in_err-stands-clause-root
returns-in_err-stands-clause-root g c = (
  g.met.R.Source.keeps_on _ _ _ c.in_ok-open_file.ensures.root.0 c.rest_of.ensures.keeps,
  c.rest_of.ensures.tree
      ∙ c.in_ok-open_file.ensures.root.1,
)

pub returns-in_err-text-clause-root : goal.returns-in_err-text-clause-root
returns-in_err-text-clause-root g c = (
  g.met.R.Source.keeps_on _ _ _ c.in_ok-open_file.ensures.root.0 c.rest_of.ensures.keeps,
  c.rest_of.ensures.tree
      ∙ c.in_ok-open_file.ensures.root.1,
)

pub returns-in-None-clause-root : goal.returns-in-None-clause-root
returns-in-None-clause-root g c = (
  g.met.R.Source.keeps_on _ _ _ c.in_ok-open_file.ensures.root.0 c.rest_of.ensures.keeps,
  c.rest_of.ensures.tree
      ∙ c.in_ok-open_file.ensures.root.1,
)

pub returns-in-Some-clause-failures : goal.returns-in-Some-clause-failures
returns-in-Some-clause-failures g c =
    let failed : g.R.Source.failed c.rest_of.new.root ≡ g.R.Source.failed c.open_file.new.root = subst
    (λ r. IsCounted (g.R.Source.failed c.open_file.new.root) (g.R.Source.failed c.rest_of.new.root) r)
    (was_ok _ _ _ _ c.map_err.ensures.cases c.map_err.ensures.variant c.in_ok-stands.was) c.rest_of.ensures.failures in
    failed ∙ c.in_ok-open_file.ensures.failures
