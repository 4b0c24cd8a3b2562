-- The items of an object as a comparison goes over them are those that a run makes.
use Rattle.std.proofs.Common.{◌≡◌, ◌∙◌, ℕ, List, [], ◌∷◌, ◌++◌, Bool, true, false, refl, sym, ap, cond, not, append_assoc}
use Rattle.std.specs.Prelude.{◌&&◌, All, codes, filter, is_some, map, Option, None, Some}
use Rattle.std.specs.List.{list_all}
use Rattle.std.specs.Str.{bytes_eq}
use Rattle.std.proofs.lemmas.Bool.{and_from, and_parts}
use Rattle.std.proofs.lemmas.List.{map-append}
use Rattle.std.proofs.lemmas.List.Elements.{All-cons, All-head, All-map, All-nil, All-tail}
use Rattle.pt_compare.specs.Parts.{content_items, early_items, first_items, fronts, last_items, leads_to_last, way_items}
use Rattle.pt_object.proofs.Moved.{last_file_tells_folders}
use Rattle.pt_object.proofs.Ways.{leads-below, name_itself}
use Rattle.pt_object.specs.FilePaths.{File, paths_of}
use Rattle.pt_tree.specs.PathOrder.{part_in_order, parts_before}
use Rattle.pt_object.specs.Holding.{leads_to}
use Rattle.pt_object.specs.Object.{content_file, in_content, inventory_name, version_folder}
use Rattle.pt_object.specs.Script.{Item, MakeFolder, MakeFile, file_items, files_items, folders_above, item_in}
use Rattle.pt_object.specs.Scripts.{object_items}
use Rattle.pt_object.specs.declared.algorithm.Algorithm.{Algorithm}
use Rattle.pt_tree.specs.Path.{Path, rest_below}

-- ---- folders on the way

above_is : (c : List ℕ) (p : Path) → folders_above (c ∷ p) ≡ map (λ front. c ∷ front) (fronts p)
above_is c [] = refl
above_is c (y ∷ p) = ap (λ (l : List Path). (c ∷ []) ∷ map (λ folder. c ∷ folder) l) (above_is y p)

front_leads : (p : Path) → All (λ x. is_some (rest_below x p) ≡ true) (fronts p)
front_leads [] = All-nil (λ x. is_some (rest_below x []) ≡ true)
front_leads (n ∷ p) =
    All-cons (λ x. is_some (rest_below x (n ∷ p)) ≡ true) [] (map (λ front. n ∷ front) (fronts p)) refl
    (All-map (λ x. is_some (rest_below x (n ∷ p)) ≡ true) (λ front. n ∷ front) (fronts p) (each (fronts p) (front_leads p)))
  where
    each : (xs : List Path) → All (λ x. is_some (rest_below x p) ≡ true) xs → All (λ x. is_some (cond (bytes_eq n n) (rest_below x p) None) ≡ true) xs
    each [] all = All-nil (λ x. is_some (cond (bytes_eq n n) (rest_below x p) None) ≡ true)
    each (x ∷ xs) all =
        All-cons (λ x. is_some (cond (bytes_eq n n) (rest_below x p) None) ≡ true) x xs
        (ap (λ b. is_some (cond b (rest_below x p) None)) (name_itself n) ∙ All-head (λ x. is_some (rest_below x p) ≡ true) x xs all)
        (each xs (All-tail (λ x. is_some (rest_below x p) ≡ true) x xs all))

-- the folders of two tests that agree, of which one is of the path in the object
module _ (f g : Path → Bool) (c : List ℕ) where
  folders_same : (xs : List Path) → All (λ x. f (c ∷ x) ≡ g (version_folder ++ c ∷ x)) xs
      → map (item_in version_folder) (map MakeFolder (filter (λ folder. not (f folder)) (map (λ front. c ∷ front) xs)))
      ≡ map MakeFolder (filter (λ folder. not (g folder)) (map (λ x. version_folder ++ c ∷ x) xs))
  folders_same [] all = refl
  folders_same (x ∷ xs) all =
      by (f (c ∷ x)) (g (version_folder ++ c ∷ x)) (All-head (λ x. f (c ∷ x) ≡ g (version_folder ++ c ∷ x)) x xs all)
      (folders_same xs (All-tail (λ x. f (c ∷ x) ≡ g (version_folder ++ c ∷ x)) x xs all))
    where
      by : (a b : Bool) → a ≡ b
          → map (item_in version_folder) (map MakeFolder (filter (λ folder. not (f folder)) (map (λ front. c ∷ front) xs)))
          ≡ map MakeFolder (filter (λ folder. not (g folder)) (map (λ x. version_folder ++ c ∷ x) xs))
          → map (item_in version_folder) (map MakeFolder (cond (not a) ((c ∷ x) ∷ filter (λ folder. not (f folder)) (map (λ front. c ∷ front) xs))
          (filter (λ folder. not (f folder)) (map (λ front. c ∷ front) xs))))
          ≡ map MakeFolder (cond (not b) ((version_folder ++ c ∷ x) ∷ filter (λ folder. not (g folder)) (map (λ x. version_folder ++ c ∷ x) xs))
          (filter (λ folder. not (g folder)) (map (λ x. version_folder ++ c ∷ x) xs)))
      by true true same later = later
      by true false same later = absurd (cc)
      by false true same later = absurd (cc)
      by false false same later = ap (λ (l : List Item). MakeFolder (version_folder ++ c ∷ x) ∷ l) later

-- ---- one file

one_file : (earlier : List File) (last : Option Path) (file : File) → All (λ x. leads_to earlier (codes "content" ∷ x) ≡ leads_to_last last (in_content x))
    (fronts file.0)
    → map (item_in version_folder) (file_items earlier (content_file file)) ≡ way_items last (fronts file.0) ++ MakeFile (in_content file.0) file.1 ∷ []
one_file earlier last file agrees =
    map-append (item_in version_folder) (map MakeFolder (filter (λ folder. not (leads_to earlier folder)) (folders_above (codes "content" ∷ file.0))))
    (MakeFile (codes "content" ∷ file.0) file.1 ∷ [])
    ∙ ap (λ (l : List Item). l ++ MakeFile (in_content file.0) file.1 ∷ [])
    (ap (λ (l : List Path). map (item_in version_folder) (map MakeFolder (filter (λ folder. not (leads_to earlier folder)) l)))
    (above_is (codes "content") file.0)
    ∙ folders_same (leads_to earlier) (leads_to_last last) (codes "content") (fronts file.0) agrees)

agrees_first : (p : Path) → All (λ x. leads_to [] (codes "content" ∷ x) ≡ leads_to_last None (in_content x)) (fronts p)
agrees_first p = each (fronts p)
  where
    each : (xs : List Path) → All (λ x. leads_to [] (codes "content" ∷ x) ≡ leads_to_last None (in_content x)) xs
    each [] = All-nil (λ x. leads_to [] (codes "content" ∷ x) ≡ leads_to_last None (in_content x))
    each (x ∷ xs) = All-cons (λ x. leads_to [] (codes "content" ∷ x) ≡ leads_to_last None (in_content x)) x xs refl (each xs)

-- ---- files in order

all_front : (test : Path → Bool) (xs ys : List Path) → list_all test (xs ++ ys) ≡ true → list_all test xs ≡ true
all_front test [] ys h = refl
all_front test (x ∷ xs) ys h = let parts = and_parts _ _ h in and_from _ _ parts.0 (all_front test xs ys parts.1)

order_front : (xs ys : List Path) → part_in_order (xs ++ ys) ≡ true → part_in_order xs ≡ true
order_front [] ys h = refl
order_front (x ∷ xs) ys h = let parts = and_parts _ _ h in and_from _ _ (all_front (parts_before x) xs ys parts.0) (order_front xs ys parts.1)

all_below : (p : Path) (files : List File) → list_all (parts_before (codes "content" ∷ p)) (paths_of (map content_file files))
    ≡ list_all (parts_before p) (paths_of files)
all_below p [] = refl
all_below p (f ∷ files) = ap (λ b. parts_before p f.0 && b) (all_below p files)

order_below : (files : List File) → part_in_order (paths_of (map content_file files)) ≡ part_in_order (paths_of files)
order_below [] = refl
order_below (f ∷ files) = λ i. all_below f.0 files i && order_below files i

-- up to a file and the one after it
two_more : (e : List File) (l f : File) (files : List File) → part_in_order (paths_of (e ++ l ∷ f ∷ files)) ≡ true
    → part_in_order (paths_of (map content_file e ++ content_file l ∷ content_file f ∷ [])) ≡ true
two_more e l f files h =
    let whole : paths_of (e ++ l ∷ f ∷ files) ≡ paths_of (e ++ l ∷ f ∷ []) ++ paths_of files =
    ap paths_of (sym (append_assoc e (l ∷ f ∷ []) files)) ∙ map-append (λ (file : File). file.0) (e ++ l ∷ f ∷ []) files in
    let first : part_in_order (paths_of (e ++ l ∷ f ∷ [])) ≡ true = order_front (paths_of (e ++ l ∷ f ∷ [])) (paths_of files) (ap part_in_order (sym whole) ∙ h)
    in
    ap (λ (l : List File). part_in_order (paths_of l)) (sym (map-append content_file e (l ∷ f ∷ []))) ∙ order_below (e ++ l ∷ f ∷ []) ∙ first

agrees_later : (e : List File) (l f : File) (files : List File) → part_in_order (paths_of (e ++ l ∷ f ∷ files)) ≡ true
    → All (λ x. leads_to (map content_file (e ++ l ∷ [])) (codes "content" ∷ x) ≡ leads_to_last (Some (in_content l.0)) (in_content x)) (fronts f.0)
agrees_later e l f files h = each (fronts f.0) (front_leads f.0)
  where
    one : (x : Path) → is_some (rest_below x f.0) ≡ true → leads_to (map content_file (e ++ l ∷ [])) (codes "content" ∷ x)
        ≡ leads_to_last (Some (in_content l.0)) (in_content x)
    one x leads =
        ap (λ (l : List File). leads_to l (codes "content" ∷ x)) (map-append content_file e (l ∷ []))
        ∙ last_file_tells_folders (map content_file e) (content_file l) (content_file f) (codes "content" ∷ x) (two_more e l f files h) leads
        ∙ sym (leads-below version_folder (codes "content" ∷ x) (codes "content" ∷ l.0))

    each : (xs : List Path) → All (λ x. is_some (rest_below x f.0) ≡ true) xs
        → All (λ x. leads_to (map content_file (e ++ l ∷ [])) (codes "content" ∷ x) ≡ leads_to_last (Some (in_content l.0)) (in_content x)) xs
    each [] all = All-nil (λ x. leads_to (map content_file (e ++ l ∷ [])) (codes "content" ∷ x) ≡ leads_to_last (Some (in_content l.0)) (in_content x))
    each (x ∷ xs) all =
        All-cons (λ x. leads_to (map content_file (e ++ l ∷ [])) (codes "content" ∷ x) ≡ leads_to_last (Some (in_content l.0)) (in_content x)) x xs
        (one x (All-head (λ x. is_some (rest_below x f.0) ≡ true) x xs all)) (each xs (All-tail (λ x. is_some (rest_below x f.0) ≡ true) x xs all))

-- one more file, before the others
then_files : (earlier : List File) (last : Option Path) (file : File) (files : List File)
    → All (λ x. leads_to earlier (codes "content" ∷ x) ≡ leads_to_last last (in_content x)) (fronts file.0)
    → map (item_in version_folder) (files_items (earlier ++ content_file file ∷ []) (map content_file files)) ≡ content_items (Some (in_content file.0)) files
    → map (item_in version_folder) (files_items earlier (map content_file (file ∷ files))) ≡ content_items last (file ∷ files)
then_files earlier last file files agrees later =
    map-append (item_in version_folder) (file_items earlier (content_file file)) (files_items (earlier ++ content_file file ∷ []) (map content_file files))
    ∙ (λ i. one_file earlier last file agrees i ++ later i)
    ∙ append_assoc (way_items last (fronts file.0)) (MakeFile (in_content file.0) file.1 ∷ []) (content_items (Some (in_content file.0)) files)

files_later : (e : List File) (l : File) (files : List File) → part_in_order (paths_of (e ++ l ∷ files)) ≡ true
    → map (item_in version_folder) (files_items (map content_file (e ++ l ∷ [])) (map content_file files)) ≡ content_items (Some (in_content l.0)) files
files_later e l [] h = refl
files_later e l (f ∷ files) h =
    then_files (map content_file (e ++ l ∷ [])) (Some (in_content l.0)) f files (agrees_later e l f files h)
    (ap (λ (l : List File). map (item_in version_folder) (files_items l (map content_file files))) (sym (map-append content_file (e ++ l ∷ []) (f ∷ [])))
    ∙ files_later (e ++ l ∷ []) f files (ap (λ (l : List File). part_in_order (paths_of l)) (append_assoc e (l ∷ []) (f ∷ files)) ∙ h))

-- the contents of an object are its stored files, each with the new folders on the way
pub contents_are : (files : List File) → part_in_order (paths_of files) ≡ true → map (item_in version_folder) (files_items [] (map content_file files))
    ≡ content_items None files
contents_are [] h = refl
contents_are (f ∷ files) h = then_files [] None f files (agrees_first f.0) (files_later [] f files h)

-- all items of an object
pub items_are : (algorithm : Algorithm) (text : List ℕ) (files : List File) → part_in_order (paths_of files) ≡ true
    → object_items algorithm text files ≡ early_items files ++ MakeFile (version_folder ++ inventory_name ∷ []) text ∷ last_items algorithm text
items_are algorithm text files h = ap (λ (l : List Item). first_items ++ (l ++ MakeFile (version_folder ++ inventory_name ∷ []) text
    ∷ last_items algorithm text)) (contents_are files h)
