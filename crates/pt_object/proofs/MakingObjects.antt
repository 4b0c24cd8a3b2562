-- The script of an object makes the object.
use Rattle.std.proofs.Common.{◌≡◌, ℕ, List, [], ◌∷◌, ◌++◌, true, false, refl, sym, ◌∙◌, ap, append_assoc}
use Rattle.std.specs.Prelude.{codes, map, None}
use Rattle.std.specs.List.{list_all}
use Rattle.std.proofs.lemmas.Bool.{and_parts, and_from}
use Rattle.pt_tree.specs.Path.{Path}
use Rattle.pt_tree.specs.Tree.{Tree}
use Rattle.pt_object.specs.FilePaths.{File, are_apart, is_apart, paths_of}
use Rattle.pt_object.specs.Files.{object_declaration_bytes, sidecar_text}
use Rattle.pt_object.specs.Holding.{held_at, leads_to, file_or_folder, holding}
use Rattle.pt_object.specs.Object.{content_file, file_in, inventory_files, inventory_name, object_declaration_name, object_files, sidecar_name, version_folder}
use Rattle.pt_object.specs.Script.{Item, MakeFolder, MakeFile, files_items, item_in}
use Rattle.pt_object.specs.declared.algorithm.Algorithm.{Algorithm}
use Rattle.pt_object.proofs.Ways.{leads-itself, IsClear, clear_before, clear_of_none}
use Rattle.pt_object.proofs.Making.{Carries, carries_none, carries_item, carries_both, carries_from, on_way, can_make, after_folder, after_file, all_stand}
use Rattle.pt_object.proofs.MakingFiles.{AreBelowTop, files_carry, stand_above}

-- a file in the last of the folders, and then more
pub file_then : (E : List File) (b : Path) (x bytes : List ℕ) (more : List Item) (u : Tree) → IsClear E (b ++ x ∷ [])
    → Carries more (on_way (E ++ (b ++ x ∷ [], bytes) ∷ []) []) u
    → Carries (MakeFile (b ++ x ∷ []) bytes ∷ more) (on_way E b) u
file_then E b x bytes more u clear later =
    carries_item _ more (on_way E b) _ u (can_make E b x (clear.way (b ++ x ∷ []) (leads-itself (b ++ x ∷ []))) clear.free) (after_file E b x bytes clear) later

-- a folder in the last of the folders, and then more
pub folder_then : (E : List File) (b : Path) (x : List ℕ) (more : List Item) (u : Tree) → held_at E (b ++ x ∷ []) ≡ None → leads_to E (b ++ x ∷ []) ≡ false
    → Carries more (on_way E (b ++ x ∷ [])) u
    → Carries (MakeFolder (b ++ x ∷ []) ∷ more) (on_way E b) u
folder_then E b x more u held free later = carries_item _ more (on_way E b) _ u (can_make E b x held free) (after_folder E b x) later

-- without further folders on the way
at_end_at : (E : List File) → held_at E [] ≡ None → leads_to E [] ≡ true → (q : Path) → on_way E [] q ≡ holding E q
at_end_at E held needed [] = λ i. file_or_folder (sym held i) (sym needed i)
at_end_at E held needed (n ∷ q) = refl

pub at_end : (E : List File) → held_at E [] ≡ None → leads_to E [] ≡ true → on_way E [] ≡ holding E
at_end E held needed i q = at_end_at E held needed q i

-- the paths that stored files have in an object
abbrev contents : List File → List File
contents stored = map (file_in version_folder) (map content_file stored)

contents_below : (stored : List File) → AreBelowTop (map content_file stored)
contents_below [] = tt
contents_below (f ∷ stored) = contents_below stored

abbrev texts : Algorithm → List ℕ → List File
texts algorithm text = inventory_files version_folder algorithm text ++ inventory_files [] algorithm text

declaration_apart : (algorithm : Algorithm) (text : List ℕ) (stored : List File)
    → list_all (is_apart (object_declaration_name ∷ [])) (paths_of (contents stored ++ texts algorithm text)) ≡ true
declaration_apart algorithm text [] = refl
declaration_apart algorithm text (f ∷ stored) = declaration_apart algorithm text stored

content_apart : (algorithm : Algorithm) (text : List ℕ) (p : Path) (stored : List File) → list_all (is_apart p) (paths_of stored) ≡ true
    → list_all (is_apart (version_folder ++ (content_file (p, [])).0)) (paths_of (contents stored ++ texts algorithm text)) ≡ true
content_apart algorithm text p [] h = refl
content_apart algorithm text p (f ∷ stored) h = let parts = and_parts _ _ h in and_from _ _ parts.0 (content_apart algorithm text p stored parts.1)

contents_apart : (algorithm : Algorithm) (text : List ℕ) (stored : List File) → are_apart (paths_of stored) ≡ true
    → are_apart (paths_of (contents stored ++ texts algorithm text)) ≡ true
contents_apart algorithm text [] h = refl
contents_apart algorithm text (f ∷ stored) h =
    let parts = and_parts _ _ h in
    and_from _ _ (content_apart algorithm text f.0 stored parts.0) (contents_apart algorithm text stored parts.1)

pub object_apart : (algorithm : Algorithm) (text : List ℕ) (stored : List File) → are_apart (paths_of stored) ≡ true
    → are_apart (paths_of (object_files algorithm text stored)) ≡ true
object_apart algorithm text stored h = and_from _ _ (declaration_apart algorithm text stored) (contents_apart algorithm text stored h)

front : (p : Path) (xs ys : List File) → list_all (is_apart p) (paths_of (xs ++ ys)) ≡ true → list_all (is_apart p) (paths_of xs) ≡ true
front p [] ys h = refl
front p (x ∷ xs) ys h = let parts = and_parts _ _ h in and_from _ _ parts.0 (front p xs ys parts.1)

apart_front : (xs ys : List File) → are_apart (paths_of (xs ++ ys)) ≡ true → are_apart (paths_of xs) ≡ true
apart_front [] ys h = refl
apart_front (x ∷ xs) ys h = let parts = and_parts _ _ h in and_from _ _ (front x.0 xs ys parts.0) (apart_front xs ys parts.1)

top_of_object : (algorithm : Algorithm) (text : List ℕ) (stored : List File) → held_at (contents stored ++ texts algorithm text) [] ≡ None
top_of_object algorithm text [] = refl
top_of_object algorithm text (f ∷ stored) = top_of_object algorithm text stored

-- the files before a place of a list
clear_at : (before after all : List File) (f : File) → before ++ f ∷ after ≡ all → are_apart (paths_of all) ≡ true → IsClear before f.0
clear_at before after all f is apart = clear_before before f after (ap (λ (l : List File). are_apart (paths_of l)) is ∙ apart)

object_texts_carry : (algorithm : Algorithm) (text : List ℕ) (E : List File) → are_apart (paths_of (E ++ texts algorithm text)) ≡ true
    → held_at (E ++ texts algorithm text) [] ≡ None → leads_to (E ++ texts algorithm text) [] ≡ true
    → Carries (MakeFile (version_folder ++ inventory_name ∷ []) text
    ∷ MakeFile (version_folder ++ sidecar_name algorithm ∷ []) (sidecar_text algorithm text)
    ∷ MakeFile (inventory_name ∷ []) text
    ∷ MakeFile (sidecar_name algorithm ∷ []) (sidecar_text algorithm text)
    ∷ []) (on_way E version_folder) (holding (E ++ texts algorithm text))
object_texts_carry algorithm text E apart held needed =
    let side : List ℕ = sidecar_text algorithm text in
    let a : File = (version_folder ++ inventory_name ∷ [], text) in
    let b : File = (version_folder ++ sidecar_name algorithm ∷ [], side) in
    let c : File = (inventory_name ∷ [], text) in
    let d : File = (sidecar_name algorithm ∷ [], side) in
    let E1 : List File = E ++ a ∷ [] in
    let E2 : List File = E1 ++ b ∷ [] in
    let E3 : List File = E2 ++ c ∷ [] in
    let E4 : List File = E3 ++ d ∷ [] in
    let all : List File = E ++ a ∷ b ∷ c ∷ d ∷ [] in
    let one : E1 ++ b ∷ c ∷ d ∷ [] ≡ all = append_assoc E (a ∷ []) (b ∷ c ∷ d ∷ []) in
    let two : E2 ++ c ∷ d ∷ [] ≡ all = append_assoc E1 (b ∷ []) (c ∷ d ∷ []) ∙ one in
    let three : E3 ++ d ∷ [] ≡ all = append_assoc E2 (c ∷ []) (d ∷ []) ∙ two in
    let clear : IsClear E a.0 = clear_before E a (b ∷ c ∷ d ∷ []) apart in
    let end : on_way E4 [] ≡ holding all = ap (λ (l : List File). on_way l []) three ∙ at_end all held needed in
    file_then E version_folder inventory_name text _ (holding all) clear
    (carries_from _ (on_way E1 []) (on_way E1 version_folder) (holding all)
    (sym (all_stand E1 version_folder (stand_above E version_folder [] inventory_name text clear)))
    (file_then E1 version_folder (sidecar_name algorithm) side _ (holding all) (clear_at E1 (c ∷ d ∷ []) all b one apart)
    (file_then E2 [] inventory_name text _ (holding all) (clear_at E2 (d ∷ []) all c two apart)
    (file_then E3 [] (sidecar_name algorithm) side _ (holding all) (clear_at E3 [] all d three apart)
    (carries_from [] (on_way E4 []) (holding all) (holding all) end (carries_none (holding all)))))))

-- the items after the first one
pub object_carries : (algorithm : Algorithm) (text : List ℕ) (stored : List File) → are_apart (paths_of stored) ≡ true
    → Carries (MakeFile (object_declaration_name ∷ []) object_declaration_bytes
    ∷ MakeFolder version_folder
    ∷ (map (item_in version_folder) (files_items [] (map content_file stored))
    ++ MakeFile (version_folder ++ inventory_name ∷ []) text
    ∷ MakeFile (version_folder ++ sidecar_name algorithm ∷ []) (sidecar_text algorithm text)
    ∷ MakeFile (inventory_name ∷ []) text
    ∷ MakeFile (sidecar_name algorithm ∷ []) (sidecar_text algorithm text)
    ∷ [])) (on_way [] []) (holding (object_files algorithm text stored))
object_carries algorithm text stored apart =
    let declaration : File = (object_declaration_name ∷ [], object_declaration_bytes) in
    let all = object_apart algorithm text stored apart in
    file_then [] [] object_declaration_name object_declaration_bytes _ _ (clear_of_none (object_declaration_name ∷ []))
    (folder_then (declaration ∷ []) [] (codes "v1") _ _ refl refl
    (carries_both _ _ (on_way (declaration ∷ []) version_folder) (on_way (declaration ∷ contents stored) version_folder)
    (holding (object_files algorithm text stored))
    (files_carry version_folder (declaration ∷ []) [] (map content_file stored) (contents_below stored) (λ n q. refl)
    (apart_front (declaration ∷ contents stored) (texts algorithm text) all))
    (object_texts_carry algorithm text (declaration ∷ contents stored) all (top_of_object algorithm text stored) refl)))
