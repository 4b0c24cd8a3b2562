-- Objects and folders in a root, path by path.
use Rattle.std.proofs.Common.{◌≡◌, ℕ, ◌+◌, ◌<◌, List, [], ◌∷◌, ◌++◌, Bool, true, false, length, refl, sym, ◌∙◌, ap, arith, map, length-append}
use Rattle.std.specs.Prelude.{◌||◌, Option, None, Some, is_some}
use Rattle.std.specs.Option.{option_and_then, option_or}
use Rattle.std.proofs.lemmas.Bool.{false≢true, true≢false}
use Rattle.std.proofs.lemmas.List.Folds.{list_any-append}
use Rattle.pt_name.specs.Place.{place_of}
use Rattle.pt_object.specs.FilePaths.{File}
use Rattle.pt_object.specs.Holding.{held_at, file_or_folder, leads_to}
use Rattle.pt_object.specs.Inventory.{inventory_text}
use Rattle.pt_object.specs.Object.{bytes_in, content_file, file_in, inventory_files, object_files, object_of, rows_of, stored_files, version_folder}
use Rattle.pt_object.specs.Root.{base, base_where}
use Rattle.pt_object.specs.declared.algorithm.Algorithm.{Algorithm}
use Rattle.pt_object.proofs.Ways.{leads}
use Rattle.pt_tree.specs.Path.{Path, rest_below}
use Rattle.pt_tree.specs.Tree.{Entry, Folder, Tree}
use Rattle.pt_tree.proofs.Below.{whole_of}
use Rattle.pt_plan.specs.Carried.{Carried, entry_of_object, entry_of_objects, folder_where, is_on_the_way, place_of_carried, with_objects}
use Rattle.pt_plan.specs.Job.{Job}
use Rattle.pt_plan.specs.Roots.{with_folders}
use Rattle.pt_plan.proofs.Folders.{is_one}
use Rattle.pt_plan.proofs.Levels.{longer}
use Rattle.pt_plan.proofs.PlaceShapes.{as_long}

-- ---- an object's own folder

held_below : (files later : List File) → held_at (map (file_in version_folder) files ++ later) [] ≡ held_at later []
held_below [] _ = refl
held_below (_ ∷ files) later = held_below files later

top_of_files : (algorithm : Algorithm) (text : List ℕ) (stored : List File) → held_at (object_files algorithm text stored) [] ≡ None
top_of_files algorithm text stored = held_below (map content_file stored) (inventory_files version_folder algorithm text ++ inventory_files [] algorithm text)

pub top_of_object : (job : Job) (object : Carried) → object_of object.id object.files job.meta job.algorithm [] ≡ Some Folder
top_of_object job object =
    let rows = rows_of job.algorithm object.files in
    let all = object_files job.algorithm (inventory_text object.id rows job.meta job.algorithm) (stored_files rows (bytes_in object.files)) in
    ap (λ (o : Option (List ℕ)). file_or_folder o (leads_to all [])) (top_of_files job.algorithm (inventory_text object.id rows job.meta job.algorithm)
    (stored_files rows (bytes_in object.files)))

-- ---- the top of a base

pub base_top : (job : Job) (root : Tree) → is_some (base job.tuples root []) ≡ true
base_top job root = by (root []) refl
  where
    by : (o : Option Entry) → root [] ≡ o → is_some (base_where job.tuples root o []) ≡ true
    by None e = refl
    by (Some entry) e = ap is_some e

-- a base is its own base
pub base_stays : (job : Job) (root : Tree) → is_some (root []) ≡ true → base job.tuples root ≡ root
base_stays job root h = by (root []) refl h
  where
    by : (o : Option Entry) → root [] ≡ o → is_some o ≡ true → base_where job.tuples root o ≡ root
    by None e h = absurd (false≢true h)
    by (Some entry) e h = refl

-- ---- what objects have

pub no_rest : (p q : Path) → leads p q ≡ false → rest_below p q ≡ None
no_rest p q h = by (rest_below p q) refl h
  where
    by : (o : Option Path) → rest_below p q ≡ o → is_some o ≡ false → o ≡ None
    by None e h = refl
    by (Some rest) e h = absurd (true≢false h)

-- an object has nothing at a path that its place doesn't lead to
pub none_of_object : (job : Job) (object : Carried) (path : Path) → leads (place_of_carried job object) path ≡ false → entry_of_object job path object ≡ None
none_of_object job object path h = ap (option_and_then (object_of object.id object.files job.meta job.algorithm)) (no_rest (place_of_carried job object) path h)

-- no place is so short
abbrev pub IsShort : Job → Path → Type 0
IsShort job path = (id : List ℕ) → length path < length (place_of job.tuples id)

pub short_as : (job : Job) (id : List ℕ) (path : Path) → length path < length (place_of job.tuples id) → IsShort job path
short_as job id path h other = let same = as_long job.tuples id other in omega (arith, same, h)

pub none_of_objects : (job : Job) (path : Path) (objects : List Carried) → IsShort job path → entry_of_objects job objects path ≡ None
none_of_objects _ _ [] _ = refl
none_of_objects job path (object ∷ objects) short =
    ap (λ (o : Option Entry). option_or o (entry_of_objects job objects path))
    (none_of_object job object path (longer (place_of_carried job object) path (short object.id)))
    ∙ none_of_objects job path objects short

pub entries-append : (job : Job) (path : Path) (first later : List Carried)
    → entry_of_objects job (first ++ later) path ≡ option_or (entry_of_objects job first path) (entry_of_objects job later path)
entries-append _ _ [] _ = refl
entries-append job path (object ∷ first) later = ap (option_or (entry_of_object job path object)) (entries-append job path first later)
    ∙ by (entry_of_object job path object)
  where
    by : (o : Option Entry) → option_or o (option_or (entry_of_objects job first path) (entry_of_objects job later path))
        ≡ option_or (option_or o (entry_of_objects job first path)) (entry_of_objects job later path)
    by None = refl
    by (Some entry) = refl

pub way-append : (job : Job) (path : Path) (first later : List Carried)
    → is_on_the_way job (first ++ later) path ≡ (is_on_the_way job first path || is_on_the_way job later path)
way-append job path first later = list_any-append (λ (object : Carried). is_some (rest_below path (place_of_carried job object))) first later

-- a path on the way to objects leads to one of their places
pub record LeadsToOne (job : Job) (path : Path) : Type 0 where
  pub id : List ℕ
  pub on : leads path (place_of job.tuples id) ≡ true

pub leads_to_one : {job : Job} {path : Path} (objects : List Carried) → is_on_the_way job objects path ≡ true → LeadsToOne job path
leads_to_one [] h = absurd (false≢true h)
leads_to_one {job} {path} (object ∷ objects) h = by (leads path (place_of_carried job object)) refl (λ k. leads_to_one objects k) h
  where
    by : (t : Bool) → leads path (place_of_carried job object) ≡ t → (is_on_the_way job objects path ≡ true → LeadsToOne job path)
        → (t || is_on_the_way job objects path) ≡ true → LeadsToOne job path
    by true e later h = record { id = object.id; on = e }
    by false e later h = later h

-- on the way to a place objects have folders alone
folder_on_the_way : (job : Job) (path : Path) (id : List ℕ) (object : Carried) (here : Option Entry) → leads path (place_of job.tuples id) ≡ true
    → option_or here (Some Folder) ≡ Some Folder
    → option_or (option_or (entry_of_object job path object) here) (Some Folder) ≡ Some Folder
folder_on_the_way job path id object here on later = by (rest_below (place_of_carried job object) path) refl
  where
    at : (rest : Path) → path ≡ place_of_carried job object ++ rest → option_or (option_or (object_of object.id object.files job.meta job.algorithm rest) here)
        (Some Folder) ≡ Some Folder
    at [] is = ap (λ (o : Option Entry). option_or (option_or o here) (Some Folder)) (top_of_object job object)
    at (name ∷ rest) is =
        let long : length path ≡ length (place_of_carried job object) + length (name ∷ rest) = ap length is
        ∙ length-append (place_of_carried job object) (name ∷ rest) in
        let same : length (place_of_carried job object) ≡ length (place_of job.tuples id) = as_long job.tuples object.id id in
        absurd (true≢false (sym on ∙ longer path (place_of job.tuples id) (omega (arith, long, same))))

    by : (o : Option Path) → rest_below (place_of_carried job object) path ≡ o
        → option_or (option_or (option_and_then (object_of object.id object.files job.meta job.algorithm) o) here) (Some Folder) ≡ Some Folder
    by None e = later
    by (Some rest) e = at rest (whole_of _ path rest e)

pub folders_on_the_way : (job : Job) (path : Path) (id : List ℕ) (objects : List Carried) → leads path (place_of job.tuples id) ≡ true
    → option_or (entry_of_objects job objects path) (Some Folder) ≡ Some Folder
folders_on_the_way _ _ _ [] _ = refl
folders_on_the_way job path id (object ∷ objects) on = folder_on_the_way job path id object _ on (folders_on_the_way job path id objects on)

-- ---- objects in two lots

-- at each of these folders no place is so short, and it is on the way to one of the objects
abbrev pub AreFoldersTo : Job → List Carried → List Path → Type 0
AreFoldersTo job objects folders = (path : Path) → is_one path folders ≡ true → IsShort job path × (is_on_the_way job objects path ≡ true)

-- objects in a root with others, and with some folders to the first of them, are all of them in the root
in_two_lots_at : (job : Job) (first later : List Carried) (folders : List Path) (t : Tree) → AreFoldersTo job later folders
    → (path : Path) → with_objects job later (with_folders folders (with_objects job first t)) path ≡ with_objects job (first ++ later) t path
in_two_lots_at job first later folders t to path =
    by (t path) (entry_of_objects job first path) (is_on_the_way job first path) (is_one path folders) refl refl
    ∙ sym (ap (λ o. option_or (t path) (option_or o (folder_where (is_on_the_way job (first ++ later) path)))) (entries-append job path first later)
    ∙ ap (λ b. option_or (t path) (option_or (option_or (entry_of_objects job first path) (entry_of_objects job later path)) (folder_where b)))
    (way-append job path first later))
  where
    by : (here inside : Option Entry) (way one : Bool) → is_on_the_way job first path ≡ way → is_one path folders ≡ one
        → option_or (option_or (option_or here (option_or inside (folder_where way))) (folder_where one))
        (option_or (entry_of_objects job later path) (folder_where (is_on_the_way job later path)))
        ≡ option_or here (option_or (option_or inside (entry_of_objects job later path)) (folder_where (way || is_on_the_way job later path)))
    by (Some entry) inside way one w o = refl
    by None (Some entry) way one w o = refl
    by None None true one w o = let place = leads_to_one {job = job} first w in sym (folders_on_the_way job path place.id later place.on)
    by None None false true w o =
        let parts = to path o in
        sym (ap (λ (e : Option Entry). option_or e (folder_where (is_on_the_way job later path))) (none_of_objects job path later parts.0)
        ∙ ap folder_where parts.1)
    by None None false false w o = refl

pub in_two_lots : (job : Job) (first later : List Carried) (folders : List Path) (t : Tree) → AreFoldersTo job later folders
    → with_objects job later (with_folders folders (with_objects job first t)) ≡ with_objects job (first ++ later) t
in_two_lots job first later folders t to i path = in_two_lots_at job first later folders t to path i

-- folders that are no places
pub stands_with_folders : (folders : List Path) (t : Tree) {path : Path} → is_one path folders ≡ false → with_folders folders t path ≡ t path
stands_with_folders _ t {path} h = ap (λ b. option_or (t path) (folder_where b)) h ∙ by (t path)
  where
    by : (o : Option Entry) → option_or o None ≡ o
    by None = refl
    by (Some entry) = refl
