-- How many turns a run makes at most.
use Rattle.std.specs.Prelude.{ℕ, ◌+◌, ◌-◌, ◌/◌, Bool, List, [], ◌++◌, cond, length, option_to_list, sum_by}
use Rattle.std.specs.Option.{option_map}
use Rattle.pt_object.specs.Distinct.{distinct}
use Rattle.pt_object.specs.FilePaths.{File}
use Rattle.pt_object.specs.Object.{rows_of}
use Rattle.pt_object.specs.Scripts.{script_of}
use Rattle.pt_object.specs.declared.rows.Row.{Row}
use Rattle.pt_tree.specs.Forest.{Forest, Node, File as a_file, Dir, Other, listing_of}
use Rattle.pt_tree.specs.Tree.{Tree}
use Rattle.pt_walk.specs.Limits.{Bounds}
use Rattle.pt_walk.specs.Object.{Entry}
use Rattle.pt_walk.specs.Sites.{Visit, Listed, Past, Deep, Elsewhere}
use Rattle.pt_plan.specs.Bound.{scanned}
use Rattle.pt_plan.specs.Carried.{Marked, marked}
use Rattle.pt_plan.specs.Items.{Interior, Named, Outcome, Fails, Holds, PairtreeObject, Skip, Verdict, bad_entry, is_too_deep, outcome}
use Rattle.pt_plan.specs.Job.{Job}

-- how many blocks of 8192 bytes a file of this length is read in, and one more at its end
abbrev pub reads : ℕ → ℕ
reads length = (length + 8191) / 8192 + 1

-- ---- scanning

-- a directory is entered and left; a file is opened and read; anything else is met
abbrev pub work_at : Node → ℕ
work_at (a_file bytes) = 1 + reads (length bytes)
work_at (Dir inside) = 2
work_at Other = 1

-- the entries up to the first bad one, and that one
abbrev pub met : Bounds → PairtreeObject → List Entry
met limits object =
    cond (is_too_deep limits object) []
    (scanned limits object ++ option_to_list (option_map (λ bad. bad.0) (bad_entry limits object)))

-- the shorties of a site that is gathered are passed, one by one
abbrev pub site_entries : PairtreeObject → Visit → ℕ
site_entries object (Listed inside) = cond object.gathered (length (listing_of inside)) 0
site_entries object Past = 0
site_entries object Deep = 0
site_entries object Elsewhere = 0

-- to judge the object's place, enter its directory, and meet its entries
abbrev pub work_to_scan : Job → Visit → PairtreeObject → ℕ
work_to_scan job visit object =
    2 + sum_by (λ entry. work_at entry.1) (met job.limits object) + site_entries object visit

-- ---- making

-- each content is read again, and each other file passed
abbrev pub work_to_copy : List Row → ℕ
work_to_copy rows = sum_by (λ row. reads row.length) (distinct rows) + (length rows - length (distinct rows))

-- the items of the script, the copies, the tuple directories, the renaming and the line
abbrev pub work_to_make : Job → List ℕ → List File → ℕ
work_to_make job id held =
    length (script_of id held job.meta job.algorithm) + work_to_copy (rows_of job.algorithm held)
    + job.tuples.count + 2

-- nothing is made of an object that fails
abbrev pub work_by_outcome : Job → List ℕ → Outcome → ℕ
work_by_outcome job id (Fails why) = 0
work_by_outcome job id (Holds held) = work_to_make job id held

-- ---- a whole run

-- on the item's object, unless its place is taken
abbrev pub work_on_object : Job → Visit → Bool → Verdict → ℕ
work_on_object job visit taken Interior = 0
work_on_object job visit taken (Skip why) = 0
work_on_object job visit taken (Named id object) =
    cond taken 0
    (work_to_scan job visit object + work_by_outcome job id (outcome job.limits object))

-- a site that is listed is judged, walked entry by entry, and left
abbrev pub work_on_site : Visit → ℕ
work_on_site (Listed inside) = 2 + length (listing_of inside)
work_on_site Past = 0
work_on_site Deep = 0
work_on_site Elsewhere = 0

-- on an item: on its site, and on its object
abbrev pub work_on_item : Job → Marked → ℕ
work_on_item job m = work_on_site m.0.visit + work_on_object job m.0.visit m.1 m.0.verdict

-- the start, a new root and the end take 13 turns at most; then each item its own: a listed site 2 and its entries; a named object whose place is
-- free the turns to meet its entries, and, where none is bad, its script, the second reading of each content, its tuples and its line
abbrev pub work : Job → Forest → Tree → ℕ
work job source root = 13 + sum_by (work_on_item job) (marked job source root)
