-- The most turns that are still to be made, where the source tells: each item has its mark, whether its place is taken.
use Rattle.std.specs.Prelude.{ℕ, suc, ◌+◌, ◌-◌, cond, drop, is_none, length, sum_by, take, List, [], ◌∷◌, ◌++◌}
use Rattle.std.specs.List.{list_any}
use Rattle.pt_object.specs.Distinct.{row_has_digest}
use Rattle.pt_object.specs.declared.rows.Row.{Row}
use Rattle.pt_tree.specs.Forest.{Forest}
use Rattle.pt_tree.specs.Path.{Path}
use Rattle.pt_walk.specs.Left.{bytes_at, inside_at}
use Rattle.pt_walk.specs.Limits.{Bounds}
use Rattle.pt_walk.specs.Object.{Entry, entry_cause, files_with}
use Rattle.pt_walk.specs.Sites.{Listed}
use Rattle.pt_walk.specs.Trail.{names_to, parent, sought, trail_path}
use Rattle.pt_walk.specs.declared.frame.Frame.{Frame}
use Rattle.pt_plan.specs.Carried.{Marked}
use Rattle.pt_plan.specs.Items.{outcome}
use Rattle.pt_plan.specs.Job.{Job}
use Rattle.pt_plan.specs.Run.{Held}
use Rattle.pt_plan.specs.Store.{pairtree_of}
use Rattle.pt_plan.specs.TurnMake.{path_of_source}
use Rattle.pt_plan.specs.TurnScan.{own_listings, to_site}
use Rattle.pt_plan.specs.Work.{reads, work_at, work_by_outcome, work_on_item, work_to_scan}
use Rattle.pt_plan.specs.declared.object.Object.{Object}
use Rattle.pt_plan.specs.declared.phase.Part.{Part}
use Rattle.pt_plan.specs.declared.phase.Part.TheVariants as part
use Rattle.pt_plan.specs.declared.phase.Phase.{Phase}
use Rattle.pt_plan.specs.declared.phase.Opening.TheVariants as opening
use Rattle.pt_plan.specs.declared.phase.Phase.TheVariants as phase
use Rattle.pt_plan.specs.declared.phase.Stage.TheVariants as stage
use Rattle.pt_invariant.specs.SourceInvariant.{left_of, object_at}
use Rattle.pt_invariant.specs.PartsMade.{made_before, script_of_object}

-- ---- the walk

-- the entries of these listings from their places on
abbrev pub still_listed : List Frame → ℕ
still_listed [] = 0
still_listed (frame ∷ frames) = (length frame.listing - frame.place) + still_listed frames

-- on the items from this one on
abbrev pub items_left : Job → List Marked → ℕ → ℕ
items_left job marks count = sum_by (work_on_item job) (drop count marks)

-- to walk on behind an object that is done, at the start of its site, and to tell the end
abbrev pub after_object : Job → List Marked → ℕ → List Frame → ℕ
after_object job marks count site =
    still_listed (sought 0 site) + items_left job marks (suc count) + 2

-- ---- the scan

-- to meet these entries of an object up to the first bad one, if its directory has this depth and so many files came before them
abbrev pub to_meet : Bounds → ℕ → ℕ → List Entry → ℕ
to_meet limits depth held [] = 0
to_meet limits depth held (entry ∷ others) =
    work_at entry.1
    + cond (is_none (entry_cause limits depth held entry))
    (to_meet limits depth (files_with held entry) others) 0

-- to meet those behind the first, unless that is the bad one
abbrev pub to_meet_behind : Bounds → ℕ → ℕ → List Entry → ℕ
to_meet_behind limits depth held [] = 0
to_meet_behind limits depth held (entry ∷ others) =
    cond (is_none (entry_cause limits depth held entry))
    (to_meet limits depth (files_with held entry) others) 0

-- the entries of the innermost listing from its place on
abbrev pub still_here : List Frame → ℕ
still_here [] = 0
still_here (frame ∷ frames) = length frame.listing - frame.place

-- to leave the object's own listings, and to pass what of its site isn't of it
abbrev pub to_leave : Object → List Frame → ℕ
to_leave object trail = own_listings object trail + cond object.gathered (still_here (to_site object trail)) 0

-- after its last entry: to make the object, if there is no cause against it, and what comes behind it
abbrev pub after_scan : Job → Forest → List Marked → ℕ → Object → List Frame → ℕ
after_scan job source marks count object site =
    work_by_outcome job object.id (outcome job.limits (object_at source object site))
    + after_object job marks count site

-- before it is entered
abbrev pub before_scan : Job → Forest → List Marked → ℕ → Object → List Frame → ℕ
before_scan job source marks count object site =
    work_to_scan job (Listed (inside_at (pairtree_of source) (trail_path site)))
    (object_at source object site) + after_scan job source marks count object site

-- to meet what is left of it, and after it
abbrev pub in_scan : Job → Forest → List Marked → ℕ → Object → Held → ℕ
in_scan job source marks count object held =
    to_meet job.limits (length (object_at source object (to_site object held.trail)).at)
    (length held.rows) (left_of source object held.trail) + to_leave object held.trail
    + after_scan job source marks count object (to_site object held.trail)

-- to read on in the file at the innermost place, of which so many bytes were read, and to meet what is behind it
abbrev pub in_file : Job → Forest → List Marked → ℕ → Object → Held → ℕ → ℕ
in_file job source marks count object held bytes =
    reads (length (bytes_at (pairtree_of source) (names_to held.trail)) - bytes)
    + to_meet_behind job.limits (length (object_at source object (to_site object held.trail)).at)
    (length held.rows) (left_of source object held.trail) + to_leave object held.trail
    + after_scan job source marks count object (to_site object held.trail)

-- ---- making

-- what the source holds at the logical paths of an object
abbrev pub bytes_there : Forest → Object → List Frame → Path → List ℕ
bytes_there source object site path = bytes_at (pairtree_of source) (path_of_source object site ++ path)

-- the items of the object's script from this part on
abbrev pub items_to_make : Job → Forest → Object → List Frame → List Row → Part → ℕ
items_to_make job source object site rows here =
    length (script_of_object job object rows (bytes_there source object site))
    - length (made_before job object rows (bytes_there source object site) here)

-- to copy these rows where they are the first of their digests, and to pass the others, if those came before them
abbrev pub to_copy : List Row → List Row → ℕ
to_copy earlier [] = 0
to_copy earlier (row ∷ rows) =
    cond (list_any (row_has_digest row.digest) earlier) 1 (reads row.length)
    + to_copy (earlier ++ row ∷ []) rows

-- the rows from this one on
abbrev pub to_copy_from : List Row → ℕ → ℕ
to_copy_from rows number = to_copy (take number rows) (drop number rows)

-- those that aren't passed or copied before a part
abbrev pub to_copy_at : List Row → Part → ℕ
to_copy_at rows part.Staging = to_copy_from rows 0
to_copy_at rows part.Declaration = to_copy_from rows 0
to_copy_at rows part.Version = to_copy_from rows 0
to_copy_at rows (part.Content position) = to_copy_from rows position.row
to_copy_at rows _ = 0

-- ---- by the phase

-- the most turns that are left at a phase, where so many items are done and this is held: each turn lowers it
abbrev pub rank : Job → Forest → List Marked → ℕ → Phase → Held → ℕ
rank job source marks count (phase.Opening opening.Begin) held = 13 + items_left job marks count
rank job source marks count (phase.Opening (opening.Prefix here)) held = 12 + items_left job marks count
rank job source marks count (phase.Opening opening.Staging) held = 11 + items_left job marks count
rank job source marks count (phase.Opening opening.Root) held = 10 + items_left job marks count
rank job source marks count (phase.Opening (opening.RootMake number)) held = (6 - number) + 3 + items_left job marks count
rank job source marks count (phase.Opening opening.RootRename) held = 3 + items_left job marks count
rank job source marks count (phase.Opening (opening.RootCheck number)) held = (3 - number) + 2 + items_left job marks count
rank job source marks count (phase.Opening opening.OpenRoot) held = 2 + items_left job marks count
rank job source marks count phase.Judge held =
    still_listed (parent held.trail) + items_left job marks count + 1
rank job source marks count (phase.Carrying object stage.Open) held =
    before_scan job source marks count object (to_site object held.trail)
rank job source marks count (phase.Carrying object stage.Scan) held = in_scan job source marks count object held
rank job source marks count (phase.Carrying object (stage.Read bytes)) held = in_file job source marks count object held bytes
rank job source marks count (phase.Carrying object (stage.Make here)) held =
    items_to_make job source object (to_site object held.trail) held.rows here
    + to_copy_at held.rows here + job.tuples.count + 2
    + after_object job marks count (to_site object held.trail)
rank job source marks count (phase.Carrying object (stage.Copy position bytes)) held =
    (items_to_make job source object (to_site object held.trail) held.rows (part.Content position)
    - 1) + reads bytes + to_copy_from held.rows (position.row + 1) + job.tuples.count + 2
    + after_object job marks count (to_site object held.trail)
rank job source marks count (phase.Carrying object (stage.Tuples number)) held = (job.tuples.count - number) + 2
    + after_object job marks count (to_site object held.trail)
rank job source marks count (phase.Carrying object stage.Rename) held =
    2 + after_object job marks count (to_site object held.trail)
rank job source marks count (phase.Carrying object stage.Line) held =
    1 + after_object job marks count (to_site object held.trail)
rank job source marks count phase.Walk held = still_listed held.trail + items_left job marks count + 2
rank job source marks count phase.End held = 1
rank job source marks count phase.Ended held = 0
