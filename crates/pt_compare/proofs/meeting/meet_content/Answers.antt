use Rattle.pt_compare.proofs.Reading.{still_there}
use Rattle.std.proofs.Common.{arith, rules, refl, sym, ◌≡◌, ◌∙◌}
use Rattle.std.specs.Option.{option_map}
use Rattle.pt_compare.specs.Marks.{marks_of}
use Rattle.pt_plan.specs.declared.fault.Fault.TheVariants as fault
use Rattle.pt_tree.specs.Source.{after_open}
use Rattle.pt_compare.proofs.Going.{halt_is, halted_from, halts_from}
use Rattle.pt_compare.proofs.Single.{alike_met, alike_other, source_reads, unopened_from}
use Rattle.pt_compare.proofs.meeting.meet_content.Goals as goal

pub returns-in_err-open_file-clause-met : goal.returns-in_err-open_file-clause-met
returns-in_err-open_file-clause-met g c = unopened_from _ (g.R.Source.told c.args.root.now) (g.R.Source.told c.open_file.new.root) _ _ _ _
    (marks_of c.open_file.new.entries) _ c.in_err-open_file.field-0.0 c.from_residual.result c.from_residual.ensures.1 c.in_err-open_file.ensures.opened

pub returns-in_err-map_err-clause-met : goal.returns-in_err-map_err-clause-met
returns-in_err-map_err-clause-met g c = halted_from _ _ _ _ _ _ c.from_residual-in_err-map_err.result c.in_err-map_err.field-0.0
    c.from_residual-in_err-map_err.ensures.1 (first_of (search rules, search (rules, halt_is), grind (arith, halt_is)))

pub are_alike-requires-clause-source : goal.are_alike-requires-clause-source
are_alike-requires-clause-source g c =
    let opened : g.S.Source.told c.open.new.self ≡ option_map (after_open c.args.stored.now.from.now) (g.S.Source.told c.args.source.now) = search rules in
    source_reads (g.S.Source.told c.args.source.now) (g.S.Source.told c.open.new.self) c.args.stored.now.from.now c.requires.file opened

pub returns-in_err-are_alike-clause-met : goal.returns-in_err-are_alike-clause-met
returns-in_err-are_alike-clause-met g c = halted_from _ _ _ _ _ _ c.from_residual-in_err-are_alike.result c.in_err-are_alike.field-0.0
    c.from_residual-in_err-are_alike.ensures.1 c.in_err-are_alike.ensures.halts

pub returns-in_err-copy-clause-met : goal.returns-in_err-copy-clause-met
returns-in_err-copy-clause-met g c = halts_from _ _ _ _ _ _ c.from_residual-in_err-copy.result fault.Memory c.from_residual-in_err-copy.ensures.1

pub returns-then-branch-clause-met : goal.returns-then-branch-clause-met
returns-then-branch-clause-met g c =
    let opened : g.S.Source.told c.open.new.self ≡ option_map (after_open c.args.stored.now.from.now) (g.S.Source.told c.args.source.now) = search rules in
    alike_met (g.S.Source.told c.args.source.now) (g.S.Source.told c.open.new.self) (g.R.Source.told c.args.root.now) (g.R.Source.told c.open_file.new.root)
    c.args.place.now c.args.stored.now.path.now c.args.stored.now.from.now (marks_of c.args.entries.now) (marks_of c.open_file.new.entries)
    c.in_ok-are_alike.field-0 _ refl c.in_ok-open_file.ensures.opened c.requires.file opened c.in_ok-are_alike.ensures.alike (sym c.if-branch.true)

pub returns-in_ok-copy-clause-met : goal.returns-in_ok-copy-clause-met
returns-in_ok-copy-clause-met g c =
    let opened : g.S.Source.told c.open.new.self ≡ option_map (after_open c.args.stored.now.from.now) (g.S.Source.told c.args.source.now) = search rules in
    alike_other (g.S.Source.told c.args.source.now) (g.S.Source.told c.open.new.self) (g.R.Source.told c.args.root.now) (g.R.Source.told c.open_file.new.root)
    c.args.place.now c.args.stored.now.path.now c.args.stored.now.from.now c.in_ok-copy.field-0 (marks_of c.args.entries.now)
    (marks_of c.open_file.new.entries) c.in_ok-are_alike.field-0 c.other_bytes.result _ refl c.other_bytes.ensures c.in_ok-copy.ensures
    c.in_ok-open_file.ensures.opened c.requires.file opened c.in_ok-are_alike.ensures.alike (sym c.if-branch.false)

pub returns-in_err-are_alike-clause-source : goal.returns-in_err-are_alike-clause-source
returns-in_err-are_alike-clause-source g c = (
  g.met.S.Source.keeps_on _ _ _ c.open.ensures.keeps c.are_alike.ensures.source.0,
  c.are_alike.ensures.source.1
      ∙ still_there c.open.result (g.S.Source.told c.args.source.now) (g.S.Source.told c.open.new.self) c.args.stored.now.from.now c.open.ensures.opened
      c.open.ensures.same,
)

pub returns-in_err-are_alike-clause-root : goal.returns-in_err-are_alike-clause-root
returns-in_err-are_alike-clause-root g c = (
  g.met.R.Source.keeps_on _ _ _ c.in_ok-open_file.ensures.root.0 c.are_alike.ensures.root.0,
  c.are_alike.ensures.root.1 ∙ c.in_ok-open_file.ensures.root.1,
)

pub returns-in_err-copy-clause-source : goal.returns-in_err-copy-clause-source
returns-in_err-copy-clause-source g c = (
  g.met.S.Source.keeps_on _ _ _ c.open.ensures.keeps c.are_alike.ensures.source.0,
  c.are_alike.ensures.source.1
      ∙ still_there c.open.result (g.S.Source.told c.args.source.now) (g.S.Source.told c.open.new.self) c.args.stored.now.from.now c.open.ensures.opened
      c.open.ensures.same,
)

pub returns-in_err-copy-clause-root : goal.returns-in_err-copy-clause-root
returns-in_err-copy-clause-root g c = (
  g.met.R.Source.keeps_on _ _ _ c.in_ok-open_file.ensures.root.0 c.are_alike.ensures.root.0,
  c.are_alike.ensures.root.1
      ∙ c.in_ok-open_file.ensures.root.1,
)

pub returns-then-branch-clause-source : goal.returns-then-branch-clause-source
returns-then-branch-clause-source g c = (
  g.met.S.Source.keeps_on _ _ _ c.open.ensures.keeps c.are_alike.ensures.source.0,
  c.are_alike.ensures.source.1
      ∙ still_there c.open.result (g.S.Source.told c.args.source.now) (g.S.Source.told c.open.new.self) c.args.stored.now.from.now c.open.ensures.opened
      c.open.ensures.same,
)

pub returns-then-branch-clause-root : goal.returns-then-branch-clause-root
returns-then-branch-clause-root g c = (
  g.met.R.Source.keeps_on _ _ _ c.in_ok-open_file.ensures.root.0 c.are_alike.ensures.root.0,
  c.are_alike.ensures.root.1
      ∙ c.in_ok-open_file.ensures.root.1,
)

pub returns-in_ok-copy-clause-source : goal.returns-in_ok-copy-clause-source
returns-in_ok-copy-clause-source g c = (
  g.met.S.Source.keeps_on _ _ _ c.open.ensures.keeps c.are_alike.ensures.source.0,
  c.are_alike.ensures.source.1
      ∙ still_there c.open.result (g.S.Source.told c.args.source.now) (g.S.Source.told c.open.new.self) c.args.stored.now.from.now c.open.ensures.opened
      c.open.ensures.same,
)

pub returns-in_ok-copy-clause-root : goal.returns-in_ok-copy-clause-root
returns-in_ok-copy-clause-root g c = (
  g.met.R.Source.keeps_on _ _ _ c.in_ok-open_file.ensures.root.0 c.are_alike.ensures.root.0,
  c.are_alike.ensures.root.1
      ∙ c.in_ok-open_file.ensures.root.1,
)
