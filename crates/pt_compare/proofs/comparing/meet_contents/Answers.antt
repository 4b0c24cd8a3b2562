use Rattle.std.proofs.Common.{arith, refl, ap, sym, subst, ◌∙◌, ◌++◌}
use Rattle.std.specs.Prelude.{None}
use Rattle.pt_compare.specs.Marks.{marks_of}
use Rattle.pt_object.specs.Object.{in_content}
use Rattle.pt_compare.specs.Parts.{fronts, way_items}
use Rattle.pt_object.specs.declared.table.contents.Content.{Content}
use Rattle.pt_plan.specs.DeviceStates.{Failures}
use Rattle.pt_plan.specs.declared.fault.Fault.TheVariants as fault
use Rattle.pt_tree.specs.Path.{Path}
use Rattle.pt_tree.specs.Source.{CanOpen, tree_in}
use Rattle.std.proofs.lemmas.Bool.{ltb-true}
use Rattle.pt_compare.proofs.Beside.{alike_at, alike_still}
use Rattle.pt_compare.proofs.Going.{from_start, halts_from}
use Rattle.pt_compare.proofs.OnWay.{can_still, content_met, content_stops, content_way_stops, contents_ended, ended_at, items_from, one_of_all}
use Rattle.pt_compare.proofs.Steps.{noted_items, noted_without}
use Rattle.pt_compare.proofs.comparing.meet_contents.Goals as goal

pub loop-i-init : goal.loop-i-init
loop-i-init g c = record {
  source_keeps = g.met.S.Source.is_kept c.args.source.now;
  source_tree = refl;
  source_failed = refl;
  root_keeps = g.met.R.Source.is_kept c.args.root.now;
  root_tree = refl;
  root_failed = refl;
  noted = c.requires.noted;
  goes = from_start (tree_in (g.S.Source.told c.args.source.now)) (tree_in (g.R.Source.told c.args.root.now)) c.args.object.now.to.now
      (items_from c.args.object.now.from.now None c.args.object.now.contents.now) (marks_of c.args.entries.now);
}

pub returns-in_err-meet_way-clause-met : goal.returns-in_err-meet_way-clause-met
returns-in_err-meet_way-clause-met g c =
    content_way_stops (tree_in (g.S.Source.told c.args.source.now)) (tree_in (g.R.Source.told c.args.root.now)) c.args.object.now.to.now
    c.args.object.now.from.now c.args.object.now.contents.now c.loop-i.i c.in-Some.content.now (sym c.in-Some.ensures) c.loop-i.last
    (marks_of c.args.entries.now) (marks_of c.loop-i.entries) c.loop-i.invariant.goes
    (tree_in (g.R.Source.told c.loop-i.root)) (marks_of c.meet_way.new.entries) (marks_of c.meet_way.new.entries) c.in_err-meet_way.field-0.0
    c.from_residual.result c.loop-i.invariant.root_tree c.from_residual.ensures.1 c.in_err-meet_way.ensures.met

pub returns-in_err-path-clause-met : goal.returns-in_err-path-clause-met
returns-in_err-path-clause-met g c = halts_from _ _ _ _ _ _ c.from_residual-in_err-path.result fault.Memory c.from_residual-in_err-path.ensures.1

pub returns-in_err-from-clause-met : goal.returns-in_err-from-clause-met
returns-in_err-from-clause-met g c = halts_from _ _ _ _ _ _ c.from_residual-in_err-from.result fault.Memory c.from_residual-in_err-from.ensures.1

pub meet_stored-requires-clause-noted : goal.meet_stored-requires-clause-noted
meet_stored-requires-clause-noted g c =
    noted_items (tree_in (g.R.Source.told c.loop-i.root)) (tree_in (g.R.Source.told c.meet_way.new.root)) c.args.object.now.to.now
    (way_items c.loop-i.last (fronts c.in-Some.content.now.path)) (marks_of c.loop-i.entries) (marks_of c.meet_way.new.entries) c.in_ok-meet_way.field-0
    c.in_ok-meet_way.ensures.root.1 c.loop-i.invariant.noted c.in_ok-meet_way.ensures.met

pub meet_stored-requires-clause-file : goal.meet_stored-requires-clause-file
meet_stored-requires-clause-file g c =
    subst (λ (p : Path). CanOpen (g.S.Source.told c.loop-i.source) p) (sym c.in_ok-from.ensures)
    (can_still (g.S.Source.told c.args.source.now) (g.S.Source.told c.loop-i.source) (c.args.object.now.from.now ++ c.in-Some.content.now.path)
    c.loop-i.invariant.source_tree
    (one_of_all (λ (content : Content). CanOpen (g.S.Source.told c.args.source.now) (c.args.object.now.from.now ++ content.path)) c.loop-i.i
    c.args.object.now.contents.now c.in-Some.content.now (sym c.in-Some.ensures) c.requires.files))

pub meet_stored-requires-clause-alike : goal.meet_stored-requires-clause-alike
meet_stored-requires-clause-alike g c = λ is.
    alike_still c.args.object.now.to.now c.in_ok-path.path c.in_ok-from.from (sym c.loop-i.invariant.source_tree)
    (sym (c.in_ok-meet_way.ensures.root.1 ∙ c.loop-i.invariant.root_tree)) (c.in_ok-path.ensures ∙ ap in_content c.names.ensures) c.in_ok-from.ensures
    (alike_at (tree_in (g.S.Source.told c.args.source.now)) (tree_in (g.R.Source.told c.args.root.now)) c.args.object.now c.loop-i.i c.in-Some.content.now
    (ltb-true _ _ is) (sym c.in-Some.ensures) c.requires.alike)

pub returns-in_err-meet_stored-clause-met : goal.returns-in_err-meet_stored-clause-met
returns-in_err-meet_stored-clause-met g c =
    content_stops (tree_in (g.S.Source.told c.args.source.now)) (tree_in (g.R.Source.told c.args.root.now)) c.args.object.now.to.now c.args.object.now.from.now
    c.args.object.now.contents.now c.loop-i.i c.in-Some.content.now (sym c.in-Some.ensures) c.loop-i.last (marks_of c.args.entries.now)
    (marks_of c.loop-i.entries) c.loop-i.invariant.goes
    (tree_in (g.R.Source.told c.loop-i.root)) (marks_of c.meet_way.new.entries) c.in_ok-meet_way.field-0 c.loop-i.invariant.root_tree
    c.in_ok-meet_way.ensures.met
    (tree_in (g.S.Source.told c.loop-i.source)) (tree_in (g.R.Source.told c.meet_way.new.root)) c.in_ok-path.path c.in_ok-from.from
    c.loop-i.invariant.source_tree (c.in_ok-meet_way.ensures.root.1 ∙ c.loop-i.invariant.root_tree) (c.in_ok-path.ensures ∙ ap in_content c.names.ensures)
    c.in_ok-from.ensures (marks_of c.meet_stored.new.entries) (marks_of c.meet_stored.new.entries) c.in_err-meet_stored.field-0.0
    c.from_residual-in_err-meet_stored.result c.from_residual-in_err-meet_stored.ensures.1 c.in_err-meet_stored.ensures.met

pub loop-i-preserved : goal.loop-i-preserved
loop-i-preserved g c = record {
  source_keeps = g.met.S.Source.keeps_on _ _ _ c.loop-i.invariant.source_keeps c.in_ok-meet_stored.ensures.source.0;
  source_tree = c.in_ok-meet_stored.ensures.source.1 ∙ c.loop-i.invariant.source_tree;
  source_failed = ap (λ (f : Failures). f.source) c.in_ok-meet_stored.ensures.failures ∙ c.loop-i.invariant.source_failed;
  root_keeps = g.met.R.Source.keeps_on _ _ _ c.loop-i.invariant.root_keeps
      (g.met.R.Source.keeps_on _ _ _ c.in_ok-meet_way.ensures.root.0 c.in_ok-meet_stored.ensures.root.0);
  root_tree = c.in_ok-meet_stored.ensures.root.1 ∙ c.in_ok-meet_way.ensures.root.1 ∙ c.loop-i.invariant.root_tree;
  root_failed = ap (λ (f : Failures). f.dest) c.in_ok-meet_stored.ensures.failures ∙ c.in_ok-meet_way.ensures.failures ∙ c.loop-i.invariant.root_failed;
  noted = noted_without (tree_in (g.R.Source.told c.meet_way.new.root)) (tree_in (g.R.Source.told c.meet_stored.new.root)) c.args.object.now.to.now
      c.in_ok-path.path (marks_of c.meet_way.new.entries) (marks_of c.meet_stored.new.entries) c.in_ok-meet_stored.ensures.root.1
      (noted_items (tree_in (g.R.Source.told c.loop-i.root)) (tree_in (g.R.Source.told c.meet_way.new.root)) c.args.object.now.to.now
      (way_items c.loop-i.last (fronts c.in-Some.content.now.path)) (marks_of c.loop-i.entries) (marks_of c.meet_way.new.entries) c.in_ok-meet_way.field-0
      c.in_ok-meet_way.ensures.root.1 c.loop-i.invariant.noted c.in_ok-meet_way.ensures.met)
      c.in_ok-meet_stored.ensures.noted;
  goes = content_met (tree_in (g.S.Source.told c.args.source.now)) (tree_in (g.R.Source.told c.args.root.now)) c.args.object.now.to.now
      c.args.object.now.from.now c.args.object.now.contents.now c.loop-i.i c.in-Some.content.now (sym c.in-Some.ensures) c.loop-i.last
      (marks_of c.args.entries.now) (marks_of c.loop-i.entries) c.loop-i.invariant.goes
      (tree_in (g.R.Source.told c.loop-i.root)) (marks_of c.meet_way.new.entries) c.in_ok-meet_way.field-0 c.loop-i.invariant.root_tree
      c.in_ok-meet_way.ensures.met
      (tree_in (g.S.Source.told c.loop-i.source)) (tree_in (g.R.Source.told c.meet_way.new.root)) c.in_ok-path.path c.in_ok-from.from
      c.loop-i.invariant.source_tree (c.in_ok-meet_way.ensures.root.1 ∙ c.loop-i.invariant.root_tree) (c.in_ok-path.ensures ∙ ap in_content c.names.ensures)
      c.in_ok-from.ensures (marks_of c.meet_stored.new.entries) c.in_ok-meet_stored.field-0 c.in_ok-meet_stored.ensures.met;
}

pub returns-clause-met : goal.returns-clause-met
returns-clause-met g c =
    contents_ended (tree_in (g.S.Source.told c.args.source.now)) (tree_in (g.R.Source.told c.args.root.now)) c.args.object.now.to.now c.args.object.now.from.now
    c.args.object.now.contents.now c.loop-i.i c.loop-i.last (marks_of c.args.entries.now) (marks_of c.loop-i.entries) _ refl
    (ended_at c.loop-i.i c.args.object.now.contents.now (omega (arith, c.loop-i-test.false, c.len-i-end.ensures.len))) c.loop-i.invariant.goes

pub returns-in_err-meet_way-clause-root : goal.returns-in_err-meet_way-clause-root
returns-in_err-meet_way-clause-root g c = (
  g.met.R.Source.keeps_on _ _ _ c.loop-i.invariant.root_keeps c.meet_way.ensures.root.0,
  c.meet_way.ensures.root.1
      ∙ c.loop-i.invariant.root_tree,
)

pub returns-in_err-path-clause-root : goal.returns-in_err-path-clause-root
returns-in_err-path-clause-root g c = (
  g.met.R.Source.keeps_on _ _ _ c.loop-i.invariant.root_keeps c.meet_way.ensures.root.0,
  c.meet_way.ensures.root.1
      ∙ c.loop-i.invariant.root_tree,
)

pub returns-in_err-from-clause-root : goal.returns-in_err-from-clause-root
returns-in_err-from-clause-root g c = (
  g.met.R.Source.keeps_on _ _ _ c.loop-i.invariant.root_keeps c.meet_way.ensures.root.0,
  c.meet_way.ensures.root.1
      ∙ c.loop-i.invariant.root_tree,
)

pub returns-in_err-meet_stored-clause-source : goal.returns-in_err-meet_stored-clause-source
returns-in_err-meet_stored-clause-source g c = (
  g.met.S.Source.keeps_on _ _ _ c.loop-i.invariant.source_keeps c.meet_stored.ensures.source.0,
  c.meet_stored.ensures.source.1 ∙ c.loop-i.invariant.source_tree,
)

pub returns-in_err-meet_stored-clause-root : goal.returns-in_err-meet_stored-clause-root
returns-in_err-meet_stored-clause-root g c = (
  g.met.R.Source.keeps_on _ _ _ c.loop-i.invariant.root_keeps
      (g.met.R.Source.keeps_on _ _ _ c.in_ok-meet_way.ensures.root.0 c.meet_stored.ensures.root.0),
  c.meet_stored.ensures.root.1 ∙ c.in_ok-meet_way.ensures.root.1
      ∙ c.loop-i.invariant.root_tree,
)
