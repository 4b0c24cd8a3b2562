-- What holds of a run in progress where the source tells, whatever the destination and the log do. So many items are done.
use Rattle.std.specs.Prelude.{◌≡◌, ◌<◌, ◌≤◌, All, ℕ, suc, ◌+◌, ◌-◌, true, false, cond, List, [], ◌++◌, drop, length, take, Option, None, Some, slice_get, ⊤}
use Rattle.std.specs.Option.{option_map}
use Rattle.pt_name.specs.Place.{place_of}
use Rattle.pt_object.specs.Object.{rows_of}
use Rattle.pt_object.specs.declared.rows.Row.{Row}
use Rattle.pt_tree.specs.Forest.{Forest, kind_of, find, is_proper}
use Rattle.pt_tree.specs.Path.{Path}
use Rattle.pt_tree.specs.Source.{Reading}
use Rattle.pt_tree.specs.declared.kind.Kind.TheVariants as kind
use Rattle.pt_walk.specs.Left.{Fits, bytes_at, entries_left, inside_at, sites_left}
use Rattle.pt_walk.specs.Object.{Entry, emptiness, empties, entries, files, first_bad, without_shorties}
use Rattle.pt_walk.specs.Sites.{Listed}
use Rattle.pt_walk.specs.Trail.{current_entry, entries_held, is_dir_entry, names_to, sought, trail_path}
use Rattle.pt_walk.specs.declared.frame.Frame.{Frame}
use Rattle.pt_plan.specs.Bound.{bound, records_of, scanned}
use Rattle.pt_plan.specs.Items.{Named, PairtreeObject, is_too_deep, verdict_of}
use Rattle.pt_plan.specs.Job.{Job, reach_of}
use Rattle.pt_plan.specs.Run.{Held}
use Rattle.pt_plan.specs.Store.{has_prefix, is_store, pairtree_of, prefix_file, prefix_of, sites_of}
use Rattle.pt_plan.specs.TurnMake.{path_of_source}
use Rattle.pt_plan.specs.TurnScan.{is_beyond, logical_path, own_listings, to_site}
use Rattle.pt_plan.specs.declared.object.Object.{Object}
use Rattle.pt_plan.specs.declared.phase.Phase.{Phase}
use Rattle.pt_plan.specs.declared.phase.Opening.TheVariants as opening
use Rattle.pt_plan.specs.declared.phase.Phase.TheVariants as phase
use Rattle.pt_plan.specs.declared.phase.Stage.TheVariants as stage
use Rattle.pt_plan.specs.declared.phase.Position.{Position}
use Rattle.pt_invariant.specs.HeldInvariant.{HoldsNoObject}
use Rattle.pt_invariant.specs.History.{History}

-- ---- the start

-- nothing is held
pub record HoldsNothing (held : Held) : Type 0 where
  pub trail : held.trail ≡ []
  pub rows : held.rows ≡ []
  pub contents : held.contents ≡ []

-- the source is a store, and its prefix was read
pub record HasStarted (source : Forest) (prefix : List ℕ) : Type 0 where
  pub store : is_store source ≡ true
  pub good : has_prefix source ≡ true
  pub read : prefix ≡ prefix_of source

-- ---- the walk

-- the trail leads through the pairtree, and the sites still to come are those behind the ones done
pub record IsOnWay (job : Job) (source : Forest) (trail : List Frame) (count : ℕ) : Type 0 where
  pub entered : 0 < length trail
  pub fits : Fits (pairtree_of source) trail
  pub left : sites_left (reach_of job) (pairtree_of source) trail
      ≡ drop count (sites_of (reach_of job) source)

-- the next site is that of the innermost listing
pub record IsAtSite (job : Job) (source : Forest) (trail : List Frame) (count : ℕ) : Type 0 where
  pub site : slice_get (sites_of (reach_of job) source) count
      ≡ Some (trail_path trail, Listed (inside_at (pairtree_of source) (trail_path trail)))

-- a site that was entered, to be judged
pub record IsToJudge (job : Job) (source : Forest) (trail : List Frame) (count : ℕ) : Type 0 where
  pub here : IsAtSite job source trail count
  pub first : trail ≡ sought 0 trail
  pub way : IsOnWay job source trail (suc count)

-- ---- an object

-- what the source holds of the object
abbrev pub inside_object : Forest → Object → List Frame → Forest
inside_object source object trail =
    cond object.gathered (without_shorties (inside_at (pairtree_of source) (trail_path trail)))
    (inside_at (pairtree_of source) (names_to trail))

-- the object of the site where this trail ends
abbrev pub object_at : Forest → Object → List Frame → PairtreeObject
object_at source object trail =
    record {
      at = path_of_source object trail;
      gathered = object.gathered;
      inside = inside_object source object trail;
    }

-- the trail ends at the site of the next item, at the directory that encapsulates its object, or in whatever place if the object is gathered; the
-- item is named so
pub record IsSiteOf (job : Job) (source : Forest) (prefix : List ℕ) (object : Object)
    (trail : List Frame) (count : ℕ) : Type 0 where
  pub here : IsAtSite job source trail count
  pub way : IsOnWay job source (sought 0 trail) (suc count)
  pub named : verdict_of job prefix (trail_path trail)
      (Listed (inside_at (pairtree_of source) (trail_path trail)))
      ≡ Named object.id (object_at source object trail)
  pub leads : object.gathered ≡ false → is_dir_entry (current_entry trail) ≡ true
  pub filled : object.gathered ≡ true → emptiness (inside_object source object trail) ≡ 0

-- the trail leads through the pairtree to the object's site, or on from there
pub record IsInObject (job : Job) (source : Forest) (prefix : List ℕ) (object : Object)
    (trail : List Frame) (count : ℕ) : Type 0 where
  pub some : 0 < object.site
  pub within : object.site ≤ length trail
  pub fits : Fits (pairtree_of source) trail
  pub site : IsSiteOf job source prefix object (to_site object trail) count
  pub place : object.place ≡ place_of job.tuples object.id

-- of the object's entries all but these were scanned, there is no cause against any of them, and the rows are their files
pub record HasScanned (job : Job) (object : PairtreeObject) (rows : List Row) (empty : ℕ)
    (left : List Entry) : Type 0 where
  pub shallow : is_too_deep job.limits object ≡ false
  pub front : List Entry
  pub all : entries object.inside ≡ front ++ left
  pub good : first_bad job.limits (length object.at) 0 front ≡ None
  pub rows_are : rows ≡ rows_of job.algorithm (files front)
  pub empty_is : empty ≡ emptiness object.inside + empties front

-- the object's entries that are still to come
abbrev pub left_of : Forest → Object → List Frame → List Entry
left_of source object trail =
    entries_left object.gathered (pairtree_of source) (own_listings object trail) trail

-- the scan stands in the object
pub record IsScanning (job : Job) (source : Forest) (prefix : List ℕ) (object : Object)
    (held : Held) (count : ℕ) : Type 0 where
  pub stands : IsInObject job source prefix object held.trail count
  pub inside : 0 < own_listings object held.trail
  pub scanned : HasScanned job
      (object_at source object (to_site object held.trail)) held.rows object.empty
      (left_of source object held.trail)

-- all of the object was scanned, and the trail ends at its site
pub record IsScanned (job : Job) (source : Forest) (prefix : List ℕ) (object : Object) (held : Held)
    (count : ℕ) : Type 0 where
  pub stands : IsInObject job source prefix object held.trail count
  pub at_site : length held.trail ≡ object.site
  pub scanned : HasScanned job (object_at source object (to_site object held.trail)) held.rows object.empty []

-- ---- the open file

-- these are its bytes, of which so many were read, all since it was opened
pub record IsReading (bytes : List ℕ) (count : ℕ) (fed : List ℕ) (unread : Option (List ℕ)) : Type 0 where
  pub within : count ≤ length bytes
  pub fed_is : fed ≡ take count bytes
  pub left : unread ≡ Some (drop count bytes)

-- the file at the innermost place is the open one, and may have a row
pub record IsReadingFile (job : Job) (source : Forest) (object : Object) (held : Held)
    (unread : Option (List ℕ)) (count : ℕ) : Type 0 where
  pub name : List ℕ
  pub file : current_entry held.trail ≡ Some (name, kind.File)
  pub room : is_beyond job held (logical_path object held.trail) ≡ false
  pub short : count ≤ job.limits.file_bytes
  pub read : IsReading (bytes_at (pairtree_of source) (names_to held.trail)) count held.fed unread

-- the file of the row at the position is the open one, and so many bytes of it are left
pub record IsCopyingFile (source : Forest) (object : Object) (held : Held) (position : Position)
    (unread : Option (List ℕ)) (left : ℕ) : Type 0 where
  pub row : Row
  pub is_row : slice_get held.rows position.row ≡ Some row
  pub within : left ≤ row.length
  pub read : IsReading
      (bytes_at (pairtree_of source) (path_of_source object held.trail ++ row.path))
      (row.length - left) held.fed unread

-- ---- by the phase

-- what holds at a phase where the source tells this, has this prefix and so many items are done
abbrev pub SourceAt : Job → Reading → List ℕ → ℕ → Phase → Held → Type 0
SourceAt job s prefix count (phase.Opening opening.Begin) held = HoldsNothing held × (count ≡ 0) × (prefix ≡ [])
SourceAt job s prefix count (phase.Opening (opening.Prefix here)) held =
    HoldsNothing held × (count ≡ 0) × (is_store s.tree ≡ true)
    × (here ≡ option_map kind_of (find s.tree prefix_file)) × (prefix ≡ [])
SourceAt job s prefix count (phase.Opening _) held = HoldsNothing held × (count ≡ 0) × HasStarted s.tree prefix
SourceAt job s prefix count phase.Judge held =
    HoldsNoObject held × HasStarted s.tree prefix × IsToJudge job s.tree held.trail count
SourceAt job s prefix count (phase.Carrying object stage.Open) held =
    HoldsNoObject held × HasStarted s.tree prefix
    × IsInObject job s.tree prefix object held.trail count × (length held.trail ≡ object.site)
    × (object.empty ≡ 0)
SourceAt job s prefix count (phase.Carrying object stage.Scan) held =
    HasStarted s.tree prefix × IsScanning job s.tree prefix object held count
SourceAt job s prefix count (phase.Carrying object (stage.Read bytes)) held =
    HasStarted s.tree prefix × IsScanning job s.tree prefix object held count
    × IsReadingFile job s.tree object held s.unread bytes
SourceAt job s prefix count (phase.Carrying object (stage.Copy position left)) held =
    HasStarted s.tree prefix × IsScanned job s.tree prefix object held count
    × IsCopyingFile s.tree object held position s.unread left
SourceAt job s prefix count (phase.Carrying object _) held =
    HasStarted s.tree prefix × IsScanned job s.tree prefix object held count
SourceAt job s prefix count phase.Walk held =
    HoldsNoObject held × HasStarted s.tree prefix × IsOnWay job s.tree held.trail count
SourceAt job s prefix count phase.End held =
    HoldsNoObject held × HasStarted s.tree prefix
    × (drop count (sites_of (reach_of job) s.tree) ≡ [])
SourceAt job s prefix count phase.Ended held = ⊤

-- ---- the bytes of the files

-- the file of each row holds this
abbrev pub AreHeldThere : Forest → Object → List Frame → (Path → List ℕ) → List Row → Type 0
AreHeldThere source object site bytes rows =
    All (λ row. bytes row.path
    ≡ bytes_at (pairtree_of source) (path_of_source object site ++ row.path)) rows

-- while an object is under way, the bytes of its rows are those that its files hold
abbrev pub BytesAt : Forest → (Path → List ℕ) → Phase → Held → Type 0
BytesAt source bytes (phase.Carrying object stage.Open) held = ⊤
BytesAt source bytes (phase.Carrying object _) held =
    AreHeldThere source object (to_site object held.trail) bytes held.rows
BytesAt source bytes _ held = ⊤

-- ---- how much is held

-- what is held is within the bound
abbrev pub IsWithinBound : Job → Forest → Held → Type 0
IsWithinBound job source held =
    entries_held held.trail + length held.rows + length held.contents ≤ bound job source

-- and stays so with all files of the object before its first bad entry
abbrev pub HasRoom : Job → Forest → Object → Held → Type 0
HasRoom job source object held =
    entries_held held.trail
    + records_of job
    (files (scanned job.limits (object_at source object (to_site object held.trail))))
    ≤ bound job source

-- while an object is scanned there is room for its files; of a run that has ended nothing is said
abbrev pub FewAt : Job → Forest → Phase → Held → Type 0
FewAt job source (phase.Carrying object stage.Scan) held = HasRoom job source object held
FewAt job source (phase.Carrying object (stage.Read count)) held = HasRoom job source object held
FewAt job source phase.Ended held = ⊤
FewAt job source _ held = IsWithinBound job source held

-- ---- all of it

-- where the source tells: the names rise, where the run stands, what the files of the rows hold, and that no more is held than the bound allows
pub record SourcePart (job : Job) (past : History) (here : Phase) (prefix : List ℕ) (held : Held)
    (s : Reading) : Type 0 where
  pub proper : is_proper s.tree ≡ true
  pub at : SourceAt job s prefix past.count here held
  pub bytes : BytesAt s.tree past.bytes here held
  pub few : FewAt job s.tree here held
