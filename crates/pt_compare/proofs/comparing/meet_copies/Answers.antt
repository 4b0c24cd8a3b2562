use Rattle.std.proofs.Common.{ℕ, List, [], ◌∷◌, ◌++◌, ap, refl, ◌∙◌}
use Rattle.std.specs.Prelude.{codes}
use Rattle.pt_compare.specs.Marks.{marks_of}
use Rattle.pt_compare.specs.Parts.{last_items}
use Rattle.pt_tree.specs.Source.{tree_in}
use Rattle.pt_object.specs.Files.{sidecar_text}
use Rattle.pt_object.specs.Object.{inventory_name, sidecar_name, version_folder}
use Rattle.pt_object.specs.Script.{MakeFile}
use Rattle.pt_plan.specs.declared.fault.Fault.TheVariants as fault
use Rattle.pt_compare.proofs.Going.{goes_from, halts_in}
use Rattle.pt_compare.proofs.Steps.{goes_items, last_items_met, noted_items, stop_items}
use Rattle.pt_compare.proofs.comparing.meet_copies.Goals as goal

pub returns-in_err-meet_bytes-clause-met : goal.returns-in_err-meet_bytes-clause-met
returns-in_err-meet_bytes-clause-met g c =
    stop_items (tree_in (g.R.Source.told c.args.root.now)) (tree_in (g.R.Source.told c.args.root.now)) c.args.object.now.to.now
    (MakeFile c.in_ok-path.path c.as_bytes.result.now ∷ []) (MakeFile (version_folder ++ sidecar_name c.args.object.now.algorithm ∷ [])
    (sidecar_text c.args.object.now.algorithm c.args.text.now) ∷ []) (MakeFile (inventory_name ∷ []) c.args.text.now
    ∷ MakeFile (sidecar_name c.args.object.now.algorithm ∷ []) (sidecar_text c.args.object.now.algorithm c.args.text.now) ∷ [])
    (last_items c.args.object.now.algorithm c.args.text.now) (marks_of c.args.entries.now) (marks_of c.args.entries.now) (marks_of c.meet_bytes.new.entries)
    (marks_of c.meet_bytes.new.entries) c.in_err-meet_bytes.field-0.0 c.from_residual-in_err-meet_bytes.result c.from_residual-in_err-meet_bytes.ensures.1
    (λ i. MakeFile ((c.in_ok-path.ensures ∙ ap (λ (n : List ℕ). codes "v1" ∷ n ∷ []) c.sidecar_name-name.ensures) i)
    ((c.as_bytes.ensures.value ∙ c.in_ok-line.ensures) i) ∷ []) refl
    (goes_from (tree_in (g.R.Source.told c.args.root.now)) c.args.object.now.to.now (last_items c.args.object.now.algorithm c.args.text.now)
    (marks_of c.args.entries.now)) c.in_err-meet_bytes.ensures.met

pub meet_bytes-requires-2 : goal.meet_bytes-requires-2
meet_bytes-requires-2 g c = noted_items (tree_in (g.R.Source.told c.args.root.now)) (tree_in (g.R.Source.told c.meet_bytes.new.root)) c.args.object.now.to.now
    (MakeFile c.in_ok-path.path c.as_bytes.result.now ∷ []) (marks_of c.args.entries.now) (marks_of c.meet_bytes.new.entries) c.in_ok-meet_bytes.field-0
    c.in_ok-meet_bytes.ensures.root.1 c.requires c.in_ok-meet_bytes.ensures.met

pub returns-in_err-meet_bytes-2-clause-met : goal.returns-in_err-meet_bytes-2-clause-met
returns-in_err-meet_bytes-2-clause-met g c =
    stop_items (tree_in (g.R.Source.told c.args.root.now)) (tree_in (g.R.Source.told c.meet_bytes.new.root)) c.args.object.now.to.now
    (MakeFile c.in_ok-path-2.path c.as_bytes-2.result.now ∷ []) (MakeFile (inventory_name ∷ []) c.args.text.now ∷ [])
    (MakeFile (sidecar_name c.args.object.now.algorithm ∷ []) (sidecar_text c.args.object.now.algorithm c.args.text.now) ∷ [])
    (last_items c.args.object.now.algorithm c.args.text.now) (marks_of c.args.entries.now) (marks_of c.meet_bytes.new.entries)
    (marks_of c.meet_bytes-2.new.entries) (marks_of c.meet_bytes-2.new.entries) c.in_err-meet_bytes-2.field-0.0 c.from_residual-in_err-meet_bytes-2.result
    c.from_residual-in_err-meet_bytes-2.ensures.1 (λ i. MakeFile (c.in_ok-path-2.ensures i) (c.as_bytes-2.ensures.value i) ∷ [])
    c.in_ok-meet_bytes.ensures.root.1
    (goes_items (tree_in (g.R.Source.told c.args.root.now)) (tree_in (g.R.Source.told c.args.root.now)) c.args.object.now.to.now
    (MakeFile c.in_ok-path.path c.as_bytes.result.now ∷ []) (MakeFile (version_folder ++ sidecar_name c.args.object.now.algorithm ∷ [])
    (sidecar_text c.args.object.now.algorithm c.args.text.now) ∷ []) (MakeFile (inventory_name ∷ []) c.args.text.now
    ∷ MakeFile (sidecar_name c.args.object.now.algorithm ∷ []) (sidecar_text c.args.object.now.algorithm c.args.text.now) ∷ [])
    (last_items c.args.object.now.algorithm c.args.text.now) (marks_of c.args.entries.now) (marks_of c.args.entries.now) (marks_of c.meet_bytes.new.entries)
    c.in_ok-meet_bytes.field-0 (λ i. MakeFile ((c.in_ok-path.ensures ∙ ap (λ (n : List ℕ). codes "v1" ∷ n ∷ []) c.sidecar_name-name.ensures) i)
    ((c.as_bytes.ensures.value ∙ c.in_ok-line.ensures) i) ∷ []) refl
    (goes_from (tree_in (g.R.Source.told c.args.root.now)) c.args.object.now.to.now (last_items c.args.object.now.algorithm c.args.text.now)
    (marks_of c.args.entries.now)) c.in_ok-meet_bytes.ensures.met) c.in_err-meet_bytes-2.ensures.met

pub meet_bytes-requires-3 : goal.meet_bytes-requires-3
meet_bytes-requires-3 g c = noted_items (tree_in (g.R.Source.told c.meet_bytes.new.root)) (tree_in (g.R.Source.told c.meet_bytes-2.new.root))
    c.args.object.now.to.now (MakeFile c.in_ok-path-2.path c.as_bytes-2.result.now ∷ []) (marks_of c.meet_bytes.new.entries)
    (marks_of c.meet_bytes-2.new.entries) c.in_ok-meet_bytes-2.field-0 c.in_ok-meet_bytes-2.ensures.root.1
    (noted_items (tree_in (g.R.Source.told c.args.root.now)) (tree_in (g.R.Source.told c.meet_bytes.new.root)) c.args.object.now.to.now
    (MakeFile c.in_ok-path.path c.as_bytes.result.now ∷ []) (marks_of c.args.entries.now) (marks_of c.meet_bytes.new.entries) c.in_ok-meet_bytes.field-0
    c.in_ok-meet_bytes.ensures.root.1 c.requires c.in_ok-meet_bytes.ensures.met) c.in_ok-meet_bytes-2.ensures.met

pub returns-clause-met : goal.returns-clause-met
returns-clause-met g c =
    last_items_met (tree_in (g.R.Source.told c.args.root.now)) (tree_in (g.R.Source.told c.meet_bytes-2.new.root)) c.args.object.now.to.now
    (MakeFile c.in_ok-path-3.path c.as_bytes-3.result.now ∷ []) (MakeFile (sidecar_name c.args.object.now.algorithm ∷ [])
    (sidecar_text c.args.object.now.algorithm c.args.text.now) ∷ []) (last_items c.args.object.now.algorithm c.args.text.now) (marks_of c.args.entries.now)
    (marks_of c.meet_bytes-2.new.entries) (marks_of c.meet_bytes-3.new.entries) c.meet_bytes-3.result
    (λ i. MakeFile ((c.in_ok-path-3.ensures ∙ ap (λ (n : List ℕ). n ∷ []) c.sidecar_name-name.ensures) i)
    ((c.as_bytes-3.ensures.value ∙ c.in_ok-line.ensures) i) ∷ []) (c.in_ok-meet_bytes-2.ensures.root.1 ∙ c.in_ok-meet_bytes.ensures.root.1)
    (goes_items (tree_in (g.R.Source.told c.args.root.now)) (tree_in (g.R.Source.told c.meet_bytes.new.root)) c.args.object.now.to.now
    (MakeFile c.in_ok-path-2.path c.as_bytes-2.result.now ∷ []) (MakeFile (inventory_name ∷ []) c.args.text.now ∷ [])
    (MakeFile (sidecar_name c.args.object.now.algorithm ∷ []) (sidecar_text c.args.object.now.algorithm c.args.text.now) ∷ [])
    (last_items c.args.object.now.algorithm c.args.text.now) (marks_of c.args.entries.now) (marks_of c.meet_bytes.new.entries)
    (marks_of c.meet_bytes-2.new.entries) c.in_ok-meet_bytes-2.field-0 (λ i. MakeFile (c.in_ok-path-2.ensures i) (c.as_bytes-2.ensures.value i) ∷ [])
    c.in_ok-meet_bytes.ensures.root.1
    (goes_items (tree_in (g.R.Source.told c.args.root.now)) (tree_in (g.R.Source.told c.args.root.now)) c.args.object.now.to.now
    (MakeFile c.in_ok-path.path c.as_bytes.result.now ∷ []) (MakeFile (version_folder ++ sidecar_name c.args.object.now.algorithm ∷ [])
    (sidecar_text c.args.object.now.algorithm c.args.text.now) ∷ []) (MakeFile (inventory_name ∷ []) c.args.text.now
    ∷ MakeFile (sidecar_name c.args.object.now.algorithm ∷ []) (sidecar_text c.args.object.now.algorithm c.args.text.now) ∷ [])
    (last_items c.args.object.now.algorithm c.args.text.now) (marks_of c.args.entries.now) (marks_of c.args.entries.now) (marks_of c.meet_bytes.new.entries)
    c.in_ok-meet_bytes.field-0 (λ i. MakeFile ((c.in_ok-path.ensures ∙ ap (λ (n : List ℕ). codes "v1" ∷ n ∷ []) c.sidecar_name-name.ensures) i)
    ((c.as_bytes.ensures.value ∙ c.in_ok-line.ensures) i) ∷ []) refl
    (goes_from (tree_in (g.R.Source.told c.args.root.now)) c.args.object.now.to.now (last_items c.args.object.now.algorithm c.args.text.now)
    (marks_of c.args.entries.now)) c.in_ok-meet_bytes.ensures.met) c.in_ok-meet_bytes-2.ensures.met) c.meet_bytes-3.ensures.met

pub returns-in_err-line-clause-met : goal.returns-in_err-line-clause-met
returns-in_err-line-clause-met g c = halts_in _ _ _ _ _ c.from_residual.result fault.Memory c.from_residual.ensures.1

pub returns-in_err-path-clause-met : goal.returns-in_err-path-clause-met
returns-in_err-path-clause-met g c = halts_in _ _ _ _ _ c.from_residual-in_err-path.result fault.Memory c.from_residual-in_err-path.ensures.1

pub returns-in_err-path-2-clause-met : goal.returns-in_err-path-2-clause-met
returns-in_err-path-2-clause-met g c = halts_in _ _ _ _ _ c.from_residual-in_err-path-2.result fault.Memory c.from_residual-in_err-path-2.ensures.1

pub returns-in_err-path-3-clause-met : goal.returns-in_err-path-3-clause-met
returns-in_err-path-3-clause-met g c = halts_in _ _ _ _ _ c.from_residual-in_err-path-3.result fault.Memory c.from_residual-in_err-path-3.ensures.1

pub returns-in_err-meet_bytes-2-clause-root : goal.returns-in_err-meet_bytes-2-clause-root
returns-in_err-meet_bytes-2-clause-root g c = (
  g.met.R.Source.keeps_on _ _ _ c.in_ok-meet_bytes.ensures.root.0 c.meet_bytes-2.ensures.root.0,
  c.meet_bytes-2.ensures.root.1 ∙ c.in_ok-meet_bytes.ensures.root.1,
)

pub returns-in_err-path-3-clause-root : goal.returns-in_err-path-3-clause-root
returns-in_err-path-3-clause-root g c = (
  g.met.R.Source.keeps_on _ _ _ c.in_ok-meet_bytes.ensures.root.0 c.in_ok-meet_bytes-2.ensures.root.0,
  c.in_ok-meet_bytes-2.ensures.root.1 ∙ c.in_ok-meet_bytes.ensures.root.1,
)

pub returns-clause-root : goal.returns-clause-root
returns-clause-root g c = (
  g.met.R.Source.keeps_on _ _ _ c.in_ok-meet_bytes.ensures.root.0
      (g.met.R.Source.keeps_on _ _ _ c.in_ok-meet_bytes-2.ensures.root.0 c.meet_bytes-3.ensures.root.0),
  c.meet_bytes-3.ensures.root.1
      ∙ c.in_ok-meet_bytes-2.ensures.root.1 ∙ c.in_ok-meet_bytes.ensures.root.1,
)
