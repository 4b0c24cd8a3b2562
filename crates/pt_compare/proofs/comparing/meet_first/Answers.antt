use Rattle.std.proofs.Common.{[], ◌∷◌, refl, ◌∙◌}
use Rattle.pt_compare.specs.Marks.{marks_of}
use Rattle.pt_compare.specs.Parts.{first_items}
use Rattle.pt_tree.specs.Source.{tree_in}
use Rattle.pt_object.specs.Files.{object_declaration_bytes}
use Rattle.pt_object.specs.Object.{object_declaration_name, version_folder}
use Rattle.pt_object.specs.Script.{MakeFile, MakeFolder}
use Rattle.pt_plan.specs.declared.fault.Fault.TheVariants as fault
use Rattle.pt_compare.proofs.Going.{goes_from, halts_in}
use Rattle.pt_compare.proofs.Steps.{goes_items, last_items_met, noted_items, stop_items}
use Rattle.pt_compare.proofs.comparing.meet_first.Goals as goal

pub returns-in_err-meet_folder-clause-met : goal.returns-in_err-meet_folder-clause-met
returns-in_err-meet_folder-clause-met g c =
    stop_items (tree_in (g.R.Source.told c.args.root.now)) (tree_in (g.R.Source.told c.args.root.now)) c.args.place.now (MakeFolder c.new.result ∷ [])
    (MakeFolder [] ∷ []) (MakeFile (object_declaration_name ∷ []) object_declaration_bytes ∷ MakeFolder version_folder ∷ []) first_items
    (marks_of c.args.entries.now) (marks_of c.args.entries.now) (marks_of c.meet_folder.new.entries) (marks_of c.meet_folder.new.entries)
    c.in_err-meet_folder.field-0.0 c.from_residual.result c.from_residual.ensures.1 (λ i. MakeFolder (c.new.ensures i) ∷ []) refl
    (goes_from (tree_in (g.R.Source.told c.args.root.now)) c.args.place.now first_items (marks_of c.args.entries.now)) c.in_err-meet_folder.ensures.met

pub meet_bytes-requires : goal.meet_bytes-requires
meet_bytes-requires g c = noted_items (tree_in (g.R.Source.told c.args.root.now)) (tree_in (g.R.Source.told c.meet_folder.new.root)) c.args.place.now
    (MakeFolder c.new.result ∷ []) (marks_of c.args.entries.now) (marks_of c.meet_folder.new.entries) c.in_ok-meet_folder.field-0
    c.in_ok-meet_folder.ensures.root.1 c.requires c.in_ok-meet_folder.ensures.met

pub returns-in_err-meet_bytes-clause-met : goal.returns-in_err-meet_bytes-clause-met
returns-in_err-meet_bytes-clause-met g c =
    stop_items (tree_in (g.R.Source.told c.args.root.now)) (tree_in (g.R.Source.told c.meet_folder.new.root)) c.args.place.now
    (MakeFile c.in_ok-declaration.declaration c.object_declaration.result.now ∷ []) (MakeFile (object_declaration_name ∷ []) object_declaration_bytes ∷ [])
    (MakeFolder version_folder ∷ []) first_items (marks_of c.args.entries.now) (marks_of c.meet_folder.new.entries) (marks_of c.meet_bytes.new.entries)
    (marks_of c.meet_bytes.new.entries) c.in_err-meet_bytes.field-0.0 c.from_residual-in_err-meet_bytes.result c.from_residual-in_err-meet_bytes.ensures.1
    (λ i. MakeFile (c.in_ok-declaration.ensures i) (c.object_declaration.ensures i) ∷ []) c.in_ok-meet_folder.ensures.root.1
    (goes_items (tree_in (g.R.Source.told c.args.root.now)) (tree_in (g.R.Source.told c.args.root.now)) c.args.place.now (MakeFolder c.new.result ∷ [])
    (MakeFolder [] ∷ []) (MakeFile (object_declaration_name ∷ []) object_declaration_bytes ∷ MakeFolder version_folder ∷ []) first_items
    (marks_of c.args.entries.now) (marks_of c.args.entries.now) (marks_of c.meet_folder.new.entries) c.in_ok-meet_folder.field-0
    (λ i. MakeFolder (c.new.ensures i) ∷ []) refl
    (goes_from (tree_in (g.R.Source.told c.args.root.now)) c.args.place.now first_items (marks_of c.args.entries.now)) c.in_ok-meet_folder.ensures.met)
    c.in_err-meet_bytes.ensures.met

pub meet_folder-requires-2 : goal.meet_folder-requires-2
meet_folder-requires-2 g c = noted_items (tree_in (g.R.Source.told c.meet_folder.new.root)) (tree_in (g.R.Source.told c.meet_bytes.new.root)) c.args.place.now
    (MakeFile c.in_ok-declaration.declaration c.object_declaration.result.now ∷ []) (marks_of c.meet_folder.new.entries) (marks_of c.meet_bytes.new.entries)
    c.in_ok-meet_bytes.field-0 c.in_ok-meet_bytes.ensures.root.1 (noted_items (tree_in (g.R.Source.told c.args.root.now))
    (tree_in (g.R.Source.told c.meet_folder.new.root)) c.args.place.now (MakeFolder c.new.result ∷ []) (marks_of c.args.entries.now)
    (marks_of c.meet_folder.new.entries) c.in_ok-meet_folder.field-0 c.in_ok-meet_folder.ensures.root.1 c.requires c.in_ok-meet_folder.ensures.met)
    c.in_ok-meet_bytes.ensures.met

pub returns-clause-met : goal.returns-clause-met
returns-clause-met g c =
    last_items_met (tree_in (g.R.Source.told c.args.root.now)) (tree_in (g.R.Source.told c.meet_bytes.new.root)) c.args.place.now
    (MakeFolder c.in_ok-version.version ∷ []) (MakeFolder version_folder ∷ []) first_items (marks_of c.args.entries.now) (marks_of c.meet_bytes.new.entries)
    (marks_of c.meet_folder-2.new.entries) c.meet_folder-2.result (λ i. MakeFolder (c.in_ok-version.ensures i) ∷ []) (c.in_ok-meet_bytes.ensures.root.1
    ∙ c.in_ok-meet_folder.ensures.root.1)
    (goes_items (tree_in (g.R.Source.told c.args.root.now)) (tree_in (g.R.Source.told c.meet_folder.new.root)) c.args.place.now
    (MakeFile c.in_ok-declaration.declaration c.object_declaration.result.now ∷ []) (MakeFile (object_declaration_name ∷ []) object_declaration_bytes ∷ [])
    (MakeFolder version_folder ∷ []) first_items (marks_of c.args.entries.now) (marks_of c.meet_folder.new.entries) (marks_of c.meet_bytes.new.entries)
    c.in_ok-meet_bytes.field-0 (λ i. MakeFile (c.in_ok-declaration.ensures i) (c.object_declaration.ensures i) ∷ []) c.in_ok-meet_folder.ensures.root.1
    (goes_items (tree_in (g.R.Source.told c.args.root.now)) (tree_in (g.R.Source.told c.args.root.now)) c.args.place.now (MakeFolder c.new.result ∷ [])
    (MakeFolder [] ∷ []) (MakeFile (object_declaration_name ∷ []) object_declaration_bytes ∷ MakeFolder version_folder ∷ []) first_items
    (marks_of c.args.entries.now) (marks_of c.args.entries.now) (marks_of c.meet_folder.new.entries) c.in_ok-meet_folder.field-0
    (λ i. MakeFolder (c.new.ensures i) ∷ []) refl
    (goes_from (tree_in (g.R.Source.told c.args.root.now)) c.args.place.now first_items (marks_of c.args.entries.now)) c.in_ok-meet_folder.ensures.met)
    c.in_ok-meet_bytes.ensures.met) c.meet_folder-2.ensures.met

pub returns-in_err-declaration-clause-met : goal.returns-in_err-declaration-clause-met
returns-in_err-declaration-clause-met g c = halts_in _ _ _ _ _ c.from_residual-in_err-declaration.result fault.Memory
    c.from_residual-in_err-declaration.ensures.1

pub returns-in_err-version-clause-met : goal.returns-in_err-version-clause-met
returns-in_err-version-clause-met g c = halts_in _ _ _ _ _ c.from_residual-in_err-version.result fault.Memory c.from_residual-in_err-version.ensures.1

pub returns-in_err-meet_bytes-clause-root : goal.returns-in_err-meet_bytes-clause-root
returns-in_err-meet_bytes-clause-root g c = (
  g.met.R.Source.keeps_on _ _ _ c.in_ok-meet_folder.ensures.root.0 c.meet_bytes.ensures.root.0,
  c.meet_bytes.ensures.root.1 ∙ c.in_ok-meet_folder.ensures.root.1,
)

pub returns-in_err-version-clause-root : goal.returns-in_err-version-clause-root
returns-in_err-version-clause-root g c = (
  g.met.R.Source.keeps_on _ _ _ c.in_ok-meet_folder.ensures.root.0 c.in_ok-meet_bytes.ensures.root.0,
  c.in_ok-meet_bytes.ensures.root.1 ∙ c.in_ok-meet_folder.ensures.root.1,
)

pub returns-clause-root : goal.returns-clause-root
returns-clause-root g c = (
  g.met.R.Source.keeps_on _ _ _ c.in_ok-meet_folder.ensures.root.0
      (g.met.R.Source.keeps_on _ _ _ c.in_ok-meet_bytes.ensures.root.0 c.meet_folder-2.ensures.root.0),
  c.meet_folder-2.ensures.root.1
      ∙ c.in_ok-meet_bytes.ensures.root.1 ∙ c.in_ok-meet_folder.ensures.root.1,
)
