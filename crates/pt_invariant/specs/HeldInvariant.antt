-- What holds of what a run in progress holds, whatever its devices tell.
use Rattle.std.specs.Prelude.{◌≡◌, ◌<◌, ◌≤◌, ◌&&◌, ℕ, ◌+◌, Bool, true, false, All, List, [], ◌∷◌, ◌++◌, drop, length, map, take, Some, ⊤}
use Rattle.std.specs.List.{list_all}
use Rattle.pt_name.specs.Place.{place_of}
use Rattle.pt_object.specs.Algorithm.{digest_of}
use Rattle.pt_object.specs.Distinct.{content_of_row, distinct}
use Rattle.pt_object.specs.FilePaths.{row_paths}
use Rattle.pt_tree.specs.PathOrder.{part_in_order, parts_before}
use Rattle.pt_tree.specs.Listing.{Item}
use Rattle.pt_tree.specs.Path.{Path}
use Rattle.pt_walk.specs.Trail.{current_entry, is_dir_entry, is_trail, names_to}
use Rattle.pt_walk.specs.declared.frame.Frame.{Frame}
use Rattle.pt_plan.specs.Job.{Job}
use Rattle.pt_plan.specs.RootNumbers.{root_file_count, root_item_count}
use Rattle.pt_plan.specs.Run.{Held}
use Rattle.pt_plan.specs.TurnMake.{text_of_inventory}
use Rattle.pt_plan.specs.TurnScan.{own_listings}
use Rattle.pt_plan.specs.declared.object.Object.{Object}
use Rattle.pt_plan.specs.declared.phase.Part.{Part}
use Rattle.pt_plan.specs.declared.phase.Part.TheVariants as part
use Rattle.pt_plan.specs.declared.phase.Phase.{Phase}
use Rattle.pt_plan.specs.declared.phase.Opening.TheVariants as opening
use Rattle.pt_plan.specs.declared.phase.Phase.TheVariants as phase
use Rattle.pt_plan.specs.declared.phase.Stage.TheVariants as stage
use Rattle.pt_invariant.specs.PartsMade.{IsAtRow, IsAtStoredRow}
use Rattle.pt_invariant.specs.History.{History}

-- ---- the trail

-- before the pairtree's directory is listed there is no trail
abbrev pub StartsWithNone : Phase → List Frame → Type 0
StartsWithNone (phase.Opening _) trail = trail ≡ []
StartsWithNone _ trail = ⊤

-- an object that is encapsulated is entered from its directory's entry, and a file is read at its own
abbrev pub StandsAtEntry : Phase → List Frame → Type 0
StandsAtEntry (phase.Carrying object stage.Open) trail =
    object.gathered ≡ false → is_dir_entry (current_entry trail) ≡ true
StandsAtEntry (phase.Carrying object (stage.Read bytes)) trail = (item : Item) × (current_entry trail ≡ Some item)
StandsAtEntry _ trail = ⊤

-- the listings' names rise, and all but the innermost were left for a directory
pub record TrailAt (here : Phase) (held : Held) : Type 0 where
  pub is_one : is_trail held.trail ≡ true
  pub none : StartsWithNone here held.trail
  pub entry : StandsAtEntry here held.trail

-- ---- the object under way

-- the object has a site, and the place of its identifier
pub record IsObject (job : Job) (object : Object) : Type 0 where
  pub some : 0 < object.site
  pub place : object.place ≡ place_of job.tuples object.id

-- the trail ends in a listing of the object
pub record EndsInObject (object : Object) (trail : List Frame) : Type 0 where
  pub within : object.site ≤ length trail
  pub own : 0 < own_listings object trail

-- the trail ends at the object's site, but while the object is scanned: then in a listing of the object
abbrev pub EndsAt : Job → Phase → List Frame → Type 0
EndsAt job (phase.Carrying object stage.Scan) trail = IsObject job object × EndsInObject object trail
EndsAt job (phase.Carrying object (stage.Read bytes)) trail = IsObject job object × EndsInObject object trail
EndsAt job (phase.Carrying object _) trail = IsObject job object × (length trail ≡ object.site)
EndsAt job _ trail = ⊤

-- ---- the rows

-- the rows' paths come in order, none leading to another, the bytes at each have the row's digest, and the contents are those of the distinct rows
pub record AreRows (job : Job) (bytes : Path → List ℕ) (held : Held) : Type 0 where
  pub order : part_in_order (row_paths held.rows) ≡ true
  pub digests : All (λ row. digest_of job.algorithm (bytes row.path) ≡ row.digest) held.rows
  pub contents : held.contents ≡ map content_of_row (distinct held.rows)

-- nothing is held of an object
pub record HoldsNoObject (held : Held) : Type 0 where
  pub rows : held.rows ≡ []
  pub contents : held.contents ≡ []

-- while an object is under way the rows are those of its files, before it is entered and between objects there are none, and of a run that has
-- ended nothing is said
abbrev pub RowsAt : Job → (Path → List ℕ) → Phase → Held → Type 0
RowsAt job bytes (phase.Carrying object stage.Open) held = HoldsNoObject held
RowsAt job bytes (phase.Carrying object _) held = AreRows job bytes held
RowsAt job bytes phase.Ended held = ⊤
RowsAt job bytes _ held = HoldsNoObject held

-- ---- what is behind the rows

-- each of these paths comes before each of these entries of the directory at this path
abbrev pub come_behind : List Path → Path → List Item → Bool
come_behind earlier directory items =
    list_all (λ item. list_all (λ path. parts_before path (directory ++ item.0 ∷ [])) earlier) items

-- in these listings, the innermost first, the entries behind the places come behind
abbrev pub outer_behind : List Path → List Frame → Bool
outer_behind earlier [] = true
outer_behind earlier (frame ∷ frames) =
    come_behind earlier (names_to frames) (drop (frame.place + 1) frame.listing)
    && outer_behind earlier frames

-- and in the innermost the one at the place too
abbrev pub all_behind : List Path → List Frame → Bool
all_behind earlier [] = true
all_behind earlier (frame ∷ frames) =
    come_behind earlier (names_to frames) (drop frame.place frame.listing)
    && outer_behind earlier frames

-- in the object's own listings all entries still to come are behind its rows
abbrev pub IsBehindRows : Object → Held → Type 0
IsBehindRows object held =
    all_behind (row_paths held.rows) (take (own_listings object held.trail) held.trail) ≡ true

-- while an object is scanned
abbrev pub ScansInOrder : Phase → Held → Type 0
ScansInOrder (phase.Carrying object stage.Scan) held = IsBehindRows object held
ScansInOrder (phase.Carrying object (stage.Read bytes)) held = IsBehindRows object held
ScansInOrder _ held = ⊤

-- ---- the phase's own numbers

-- each is one of those that there are: items of the root's script, files of the layout, tuples, rows
abbrev pub NumbersAt : Job → Phase → Held → Type 0
NumbersAt job (phase.Opening (opening.RootMake number)) held = number < root_item_count
NumbersAt job (phase.Opening (opening.RootCheck number)) held = number < root_file_count
NumbersAt job (phase.Carrying object (stage.Make (part.Content position))) held = IsAtRow held.rows position
NumbersAt job (phase.Carrying object (stage.Copy position left)) held = IsAtStoredRow held position
NumbersAt job (phase.Carrying object (stage.Tuples number)) held = number < job.tuples.count
NumbersAt job _ held = ⊤

-- ---- the hasher

-- from the inventory in the version's folder on, its text was fed
abbrev pub IsFedBefore : Job → Object → Part → Held → Type 0
IsFedBefore job object part.VersionSidecar held = held.fed ≡ text_of_inventory job object held.rows
IsFedBefore job object part.Inventory held = held.fed ≡ text_of_inventory job object held.rows
IsFedBefore job object part.Sidecar held = held.fed ≡ text_of_inventory job object held.rows
IsFedBefore job object _ held = ⊤

-- at a part of an object, what the hasher was fed before it: before a sidecar the inventory's text
abbrev pub FedAt : Job → Phase → Held → Type 0
FedAt job (phase.Carrying object (stage.Make here)) held = IsFedBefore job object here held
FedAt job _ held = ⊤

-- ---- all of it

-- what is held fits the phase: the trail ends where the phase has it, the rows are in order with the digests of their bytes and the contents are
-- theirs, all entries still to come are behind them, the phase's numbers are of those that there are, and the hasher was fed what a sidecar is made
-- of
pub record HeldAt (job : Job) (past : History) (here : Phase) (held : Held) : Type 0 where
  pub trail : TrailAt here held
  pub ends : EndsAt job here held.trail
  pub rows : RowsAt job past.bytes here held
  pub behind : ScansInOrder here held
  pub numbers : NumbersAt job here held
  pub fed : FedAt job here held
