-- The script of a root makes the root.
use Rattle.std.proofs.Common.{◌≡◌, List, [], ◌∷◌, Bool, true, false, refl, sym, ◌∙◌}
use Rattle.std.specs.Prelude.{cond, ◌||◌, codes, None, Some}
use Rattle.pt_name.specs.Tuples.{Tuples}
use Rattle.pt_tree.specs.Path.{Path, same_path}
use Rattle.pt_tree.specs.Tree.{Tree}
use Rattle.pt_object.specs.FilePaths.{File}
use Rattle.pt_object.specs.Files.{root_declaration_bytes}
use Rattle.pt_object.specs.Holding.{file_or_folder, holding, placed}
use Rattle.pt_object.specs.ObjectLaws.{RootScriptCanBeMade, RootScriptMakesTheRoot}
use Rattle.pt_object.specs.RootFiles.{config_text, extension_name, layout_text}
use Rattle.pt_object.specs.Root.{root_of}
use Rattle.pt_object.specs.Script.{MakeFile, MakeFolder}
use Rattle.pt_object.specs.Scripts.{IsFresh, root_script, staging}
use Rattle.pt_object.proofs.Ways.{leads, is_same, clear_of_none, clear_before}
use Rattle.pt_object.proofs.Making.{Carries, carries_none, carries_from, in_turn, on_way}
use Rattle.pt_object.proofs.MakingObjects.{file_then, folder_then, at_end}
use Rattle.pt_object.proofs.Staged.{staged_first}

abbrev declaration_path : Path
declaration_path = codes "0=ocfl_1.1" ∷ []

abbrev layout_path : Path
layout_path = codes "ocfl_layout.json" ∷ []

abbrev config_path : Path
config_path = codes "extensions" ∷ extension_name ∷ codes "config.json" ∷ []

-- the files in the order in which they are made
abbrev as_made : Tuples → List File
as_made tuples = (config_path, config_text tuples) ∷ (layout_path, layout_text) ∷ (declaration_path, root_declaration_bytes) ∷ []

-- three files at different paths hold the same in either order
turned : {A : Type 0} (c l d : Bool) (x y z : A) → (c ≡ true → l ≡ true → ⊥) → (c ≡ true → d ≡ true → ⊥) → (l ≡ true → d ≡ true → ⊥)
    → cond c (Some x) (cond l (Some y) (cond d (Some z) None)) ≡ cond d (Some z) (cond l (Some y) (cond c (Some x) None))
turned true true d x y z cl cd ld = absurd (cl refl refl)
turned true false true x y z cl cd ld = absurd (cd refl refl)
turned true false false x y z cl cd ld = refl
turned false true true x y z cl cd ld = absurd (ld refl refl)
turned false true false x y z cl cd ld = refl
turned false false true x y z cl cd ld = refl
turned false false false x y z cl cd ld = refl

some_of_three : (c l d : Bool) → (c || (l || (d || false))) ≡ (d || (l || (c || false)))
some_of_three true true true = refl
some_of_three true true false = refl
some_of_three true false true = refl
some_of_three true false false = refl
some_of_three false true true = refl
some_of_three false true false = refl
some_of_three false false true = refl
some_of_three false false false = refl

one_path : (q p r : Path) → (p ≡ r → ⊥) → same_path q p ≡ true → same_path q r ≡ true → ⊥
one_path q p r apart a b = apart (sym (is_same q p a) ∙ is_same q r b)

same_root : (tuples : Tuples) → holding (as_made tuples) ≡ root_of tuples
same_root tuples i q =
    file_or_folder
    (turned (same_path q config_path) (same_path q layout_path) (same_path q declaration_path) (config_text tuples) layout_text root_declaration_bytes
    (one_path q config_path layout_path (λ h. cc)) (one_path q config_path declaration_path (λ h. cc)) (one_path q layout_path declaration_path (λ h. cc)) i)
    (some_of_three (leads q config_path) (leads q layout_path) (leads q declaration_path) i)

root_carries : (tuples : Tuples) → Carries (MakeFolder (codes "extensions" ∷ [])
    ∷ MakeFolder (codes "extensions" ∷ extension_name ∷ [])
    ∷ MakeFile config_path (config_text tuples)
    ∷ MakeFile layout_path layout_text
    ∷ MakeFile declaration_path root_declaration_bytes
    ∷ []) (on_way [] []) (root_of tuples)
root_carries tuples =
    let files : List File = as_made tuples in
    folder_then [] [] (codes "extensions") _ (root_of tuples) refl refl
    (folder_then [] (codes "extensions" ∷ []) extension_name _ (root_of tuples) refl refl
    (file_then [] (codes "extensions" ∷ extension_name ∷ []) (codes "config.json") (config_text tuples) _ (root_of tuples) (clear_of_none config_path)
    (file_then ((config_path, config_text tuples) ∷ []) [] (codes "ocfl_layout.json") layout_text _ (root_of tuples)
    (clear_before ((config_path, config_text tuples) ∷ []) (layout_path, layout_text) [] refl)
    (file_then ((config_path, config_text tuples) ∷ (layout_path, layout_text) ∷ []) [] (codes "0=ocfl_1.1") root_declaration_bytes [] (root_of tuples)
    (clear_before ((config_path, config_text tuples) ∷ (layout_path, layout_text) ∷ []) (declaration_path, root_declaration_bytes) [] refl)
    (carries_from [] (on_way files []) (root_of tuples) (root_of tuples) (at_end files refl refl ∙ same_root tuples) (carries_none (root_of tuples)))))))

pub root_script_carries : (tuples : Tuples) (start : Tree) → IsFresh start → Carries (root_script tuples) start (placed start staging (root_of tuples))
root_script_carries tuples start fresh = staged_first start _ fresh.top fresh.free _ _ (root_carries tuples)

pub root_script_can_be_made : RootScriptCanBeMade
root_script_can_be_made tuples start fresh = in_turn _ start (root_script_carries tuples start fresh).can

pub root_script_makes_the_root : RootScriptMakesTheRoot
root_script_makes_the_root tuples start fresh = (root_script_carries tuples start fresh).leaves
