use Rattle.std.proofs.Common.{◌≡◌, arith, refl, rules, ap, sym, take, ◌∙◌, ◌∷◌, []}
use Rattle.std.proofs.lemmas.Bool.{le-ltb, lt-ltb}
use Rattle.pt_compare.specs.Marks.{marks_of}
use Rattle.pt_compare.specs.Parts.{fronts, leads_to_last, way_items}
use Rattle.pt_tree.specs.Source.{tree_in}
use Rattle.pt_object.specs.Object.{in_content}
use Rattle.pt_object.specs.Script.{MakeFolder}
use Rattle.pt_plan.specs.declared.fault.Fault.TheVariants as fault
use Rattle.pt_compare.proofs.Going.{goes_from, halts_in}
use Rattle.pt_compare.proofs.OnWay.{way_ended, way_met, way_passed, way_stops}
use Rattle.pt_compare.proofs.Steps.{noted_items}
use Rattle.pt_compare.proofs.Ways.{on_way}
use Rattle.pt_compare.proofs.comparing.meet_way.Goals as goal

pub returns-clause-met : goal.returns-clause-met
returns-clause-met g c =
    way_ended (tree_in (g.R.Source.told c.args.root.now)) c.args.place.now c.args.way.now.last.now c.args.way.now.path.now c.loop-names.names
    (marks_of c.args.entries.now) (marks_of c.loop-names.entries) _ refl (omega (arith, c.loop-names-test.false, c.len-names-end.ensures))
    c.loop-names.invariant.goes

pub loop-names-init : goal.loop-names-init
loop-names-init g c = record {
  keeps = g.met.R.Source.is_kept c.args.root.now;
  tree = refl;
  failed = refl;
  noted = c.requires;
  goes = goes_from (tree_in (g.R.Source.told c.args.root.now)) c.args.place.now (way_items c.args.way.now.last.now (fronts c.args.way.now.path.now))
      (marks_of c.args.entries.now);
}

pub returns-in_err-folder-clause-met : goal.returns-in_err-folder-clause-met
returns-in_err-folder-clause-met g c = halts_in _ _ _ _ _ c.from_residual-in_err-folder.result fault.Memory c.from_residual-in_err-folder.ensures.1

pub returns-in_err-whole-clause-met : goal.returns-in_err-whole-clause-met
returns-in_err-whole-clause-met g c = halts_in _ _ _ _ _ c.from_residual.result fault.Memory c.from_residual.ensures.1

pub loop-names-preserved-then-is_met : goal.loop-names-preserved-then-is_met
loop-names-preserved-then-is_met g c = record {
  keeps = c.loop-names.invariant.keeps;
  tree = c.loop-names.invariant.tree;
  failed = c.loop-names.invariant.failed;
  noted = c.loop-names.invariant.noted;
  goes = way_passed (tree_in (g.R.Source.told c.args.root.now)) c.args.place.now c.args.way.now.last.now c.args.way.now.path.now c.loop-names.names
      (omega (arith, c.loop-names-test.true, c.len-names-end.ensures)) (marks_of c.args.entries.now) (marks_of c.loop-names.entries) c.loop-names.invariant.goes
      (sym (lt-ltb _ _ c.if-is_met.true) ∙ sym (on_way c.args.way.now.last.now c.in_ok-whole.whole _ c.args.way.now.path.now c.folders_met-met.result
      c.loop-names.names c.in_ok-whole.ensures c.names.ensures c.folders_met-met.ensures (omega (arith, c.loop-names-test.true, c.len-names-end.ensures))));
}

pub returns-in_err-meet_folder-clause-met : goal.returns-in_err-meet_folder-clause-met
returns-in_err-meet_folder-clause-met g c =
    let folder_is : c.in_ok-folder.folder ≡ in_content (take c.loop-names.names c.args.way.now.path.now) = search rules in
    way_stops (tree_in (g.R.Source.told c.args.root.now)) c.args.place.now c.args.way.now.last.now c.args.way.now.path.now c.loop-names.names
    (omega (arith, c.loop-names-test.true, c.len-names-end.ensures)) (marks_of c.args.entries.now) (marks_of c.loop-names.entries)
    c.loop-names.invariant.goes
    c.in_ok-folder.folder folder_is (tree_in (g.R.Source.told c.loop-names.root)) c.loop-names.invariant.tree (sym (le-ltb _ _ c.if-is_met.false)
    ∙ sym (on_way c.args.way.now.last.now c.in_ok-whole.whole _ c.args.way.now.path.now c.folders_met-met.result c.loop-names.names c.in_ok-whole.ensures
    c.names.ensures c.folders_met-met.ensures (omega (arith, c.loop-names-test.true, c.len-names-end.ensures)))
    ∙ ap (leads_to_last c.args.way.now.last.now) (sym folder_is)) (marks_of c.meet_folder.new.entries) (marks_of c.meet_folder.new.entries)
    c.in_err-meet_folder.field-0.0 c.from_residual-in_err-meet_folder.result c.from_residual-in_err-meet_folder.ensures.1 c.in_err-meet_folder.ensures.met

pub loop-names-preserved : goal.loop-names-preserved
loop-names-preserved g c =
    let folder_is : c.in_ok-folder.folder ≡ in_content (take c.loop-names.names c.args.way.now.path.now) = search rules in record {
      keeps = g.met.R.Source.keeps_on _ _ _ c.loop-names.invariant.keeps c.in_ok-meet_folder.ensures.root.0;
      tree = c.in_ok-meet_folder.ensures.root.1 ∙ c.loop-names.invariant.tree;
      failed = c.in_ok-meet_folder.ensures.failures ∙ c.loop-names.invariant.failed;
      noted = noted_items (tree_in (g.R.Source.told c.loop-names.root)) (tree_in (g.R.Source.told c.meet_folder.new.root)) c.args.place.now
          (MakeFolder c.in_ok-folder.folder ∷ []) (marks_of c.loop-names.entries) (marks_of c.meet_folder.new.entries) c.in_ok-meet_folder.field-0
          c.in_ok-meet_folder.ensures.root.1 c.loop-names.invariant.noted c.in_ok-meet_folder.ensures.met;
      goes = way_met (tree_in (g.R.Source.told c.args.root.now)) c.args.place.now c.args.way.now.last.now c.args.way.now.path.now c.loop-names.names
          (omega (arith, c.loop-names-test.true, c.len-names-end.ensures)) (marks_of c.args.entries.now) (marks_of c.loop-names.entries)
          c.loop-names.invariant.goes
          c.in_ok-folder.folder folder_is (tree_in (g.R.Source.told c.loop-names.root)) c.loop-names.invariant.tree (sym (le-ltb _ _ c.if-is_met.false)
          ∙ sym (on_way c.args.way.now.last.now c.in_ok-whole.whole _ c.args.way.now.path.now c.folders_met-met.result c.loop-names.names
          c.in_ok-whole.ensures c.names.ensures c.folders_met-met.ensures (omega (arith, c.loop-names-test.true, c.len-names-end.ensures)))
          ∙ ap (leads_to_last c.args.way.now.last.now) (sym folder_is)) (marks_of c.meet_folder.new.entries) c.in_ok-meet_folder.field-0
          c.in_ok-meet_folder.ensures.met;
    }

pub returns-in_err-meet_folder-clause-root : goal.returns-in_err-meet_folder-clause-root
returns-in_err-meet_folder-clause-root g c = (
  g.met.R.Source.keeps_on _ _ _ c.loop-names.invariant.keeps c.meet_folder.ensures.root.0,
  c.meet_folder.ensures.root.1 ∙ c.loop-names.invariant.tree,
)
