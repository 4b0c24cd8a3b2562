-- How many records a run holds at most: entries of listings on the way, rows of files, and contents.
use Rattle.std.specs.Prelude.{ℕ, ◌+◌, max, List, [], ◌∷◌, ◌++◌, cond, flat_map, fold, length, map}
use Rattle.pt_object.specs.Distinct.{distinct}
use Rattle.pt_object.specs.FilePaths.{File}
use Rattle.pt_object.specs.Object.{rows_of}
use Rattle.pt_tree.specs.Forest.{Forest, Node, File as a_file, Dir, Other}
use Rattle.pt_tree.specs.Path.{Path}
use Rattle.pt_walk.specs.Left.{listed}
use Rattle.pt_walk.specs.Limits.{Bounds}
use Rattle.pt_walk.specs.Object.{Entry, before_bad, entries, files}
use Rattle.pt_walk.specs.Sites.{Visit, Listed, Past, Deep, Elsewhere}
use Rattle.pt_plan.specs.Items.{Interior, Item, Named, PairtreeObject, Skip, Verdict, is_too_deep, items}
use Rattle.pt_plan.specs.Job.{Job}
use Rattle.pt_plan.specs.Store.{pairtree_of}

-- the path, if a directory stands there
abbrev pub path_of_dir : Path → Node → List Path
path_of_dir path (a_file bytes) = []
path_of_dir path (Dir inside) = path ∷ []
path_of_dir path Other = []

-- the paths of the directories among these entries
abbrev pub dirs : List Entry → List Path
dirs = flat_map (λ entry. path_of_dir entry.0 entry.1)

-- the entries of an object that are scanned without a cause
abbrev pub scanned : Bounds → PairtreeObject → List Entry
scanned limits object = before_bad limits (length object.at) 0 (entries object.inside)

-- files, and how many contents they have
abbrev pub records_of : Job → List File → ℕ
records_of job held = length held + length (distinct (rows_of job.algorithm held))

-- at each directory of the object that is scanned, its own included: what is listed on the way, with all its scanned files and their contents
abbrev pub held_in_object : Job → Forest → PairtreeObject → List ℕ
held_in_object job top object =
    map (λ path. listed top (object.at ++ path)
    + records_of job (files (scanned job.limits object))) ([] ∷ dirs (scanned job.limits object))

-- at the directories of the item's object, unless its own directory is too deep
abbrev pub held_by_verdict : Job → Forest → Verdict → List ℕ
held_by_verdict job top Interior = []
held_by_verdict job top (Skip why) = []
held_by_verdict job top (Named id object) =
    cond (is_too_deep job.limits object) [] (held_in_object job top object)

-- at a site: what is listed on the way
abbrev pub held_by_visit : Forest → Path → Visit → List ℕ
held_by_visit top path (Listed inside) = listed top path ∷ []
held_by_visit top path Past = []
held_by_visit top path Deep = []
held_by_visit top path Elsewhere = []

-- at an item: at its site, and in its object
abbrev pub held_at_item : Job → Forest → Item → List ℕ
held_at_item job top item = held_by_visit top item.path item.visit ++ held_by_verdict job top item.verdict

-- the greatest of these numbers; 0 if there are none
abbrev pub greatest : List ℕ → ℕ
greatest = fold max 0

-- the greatest of these numbers over all items; 0 where there is no pairtree. At each listed site the entries listed down to it; in each object, at
-- each directory before the first bad entry, the entries listed down to it, the files before that entry and their distinct contents
abbrev pub bound : Job → Forest → ℕ
bound job source = greatest (flat_map (held_at_item job (pairtree_of source)) (items job source))
