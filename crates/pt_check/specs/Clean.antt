-- A store of which a check has nothing to tell.
use Rattle.std.specs.Prelude.{◌≡◌, ◌≢◌, ◌≤◌, ◌+◌, ◌==◌, ◌||◌, ◌⊎◌, ⊤, ℕ, suc, Bool, true, false, cond, length, take, List, [], ◌∷◌, ◌++◌, Option, None, Some}
use Rattle.pt_check.specs.Prefix.{prefix_trouble}
use Rattle.pt_check.specs.Visits.{
  Checks,
  Folder,
  GoesAt,
  Says,
  CheckState,
  entry_trouble,
  finding_of,
  folder_in,
  folder_trouble,
  holder_in,
  prefix_path,
  reserved_trouble,
  room_trouble,
  root_folder,
  size_trouble,
}
use Rattle.pt_check.specs.Width.{width_trouble}
use Rattle.pt_check.specs.Within.{starts_object}
use Rattle.pt_check.specs.declared.numbers.Numbers.{Numbers}
use Rattle.pt_check.specs.declared.wants.Wants.{Wants}
use Rattle.pt_check.specs.declared.within.Within.{Within}
use Rattle.pt_plan.specs.Items.{Item as WalkItem, Named, PairtreeObject, Skip, cause_of, items}
use Rattle.pt_plan.specs.Job.{Job, form_of}
use Rattle.pt_plan.specs.Store.{pairtree_root, prefix_file, prefix_of, version_file}
use Rattle.pt_plan.specs.SourceFailures.{FailsAtOpen, FailsOnlyWhereAsked, IsAskedFor, SourceView, StandsAt}
use Rattle.pt_plan.specs.TurnStart.{is_dir_kind, is_file_kind, kind_in}
use Rattle.pt_tree.specs.Failing.{failing_paths}
use Rattle.pt_tree.specs.Forest.{Forest, none, file, other, dir, listing_of}
use Rattle.pt_tree.specs.Listing.{Item}
use Rattle.pt_tree.specs.Path.{Path, joined}
use Rattle.pt_tree.specs.Source.{tree_in}
use Rattle.pt_tree.specs.declared.kind.Kind.{Kind}
use Rattle.pt_tree.specs.declared.kind.Kind.TheVariants as kind
use Rattle.pt_walk.specs.Left.{bytes_at, inside_at}
use Rattle.pt_walk.specs.Limits.{greatest_limits}
use Rattle.pt_walk.specs.Object.{without_shorties}
use Rattle.pt_walk.specs.declared.cause.Cause.TheVariants as cause
use Rattle.pt_walk.specs.declared.site.Finding.{Finding}
use Rattle.pt_walk.specs.declared.site.Finding.TheVariants as finding
use Rattle.pt_walk.specs.declared.site.Form.TheVariants as form

-- there is nothing to tell of an entry of this name and kind in a folder, which is found to be this, of which that is wanted
abbrev pub IsCleanEntry : Wants → Folder → Finding → List ℕ → Kind → Type 0
IsCleanEntry wants folder seen name what = let bytes = length (joined (folder.path ++ name ∷ [])) in
    (entry_trouble (holder_in folder seen) name what bytes ≡ None)
    × (room_trouble wants.room (holder_in folder seen) what bytes ≡ None)

-- nor of a folder that lists these entries: it isn't too deep either
abbrev pub IsCleanFolder : Wants → Folder → List Item → Type 0
IsCleanFolder wants folder items = let what = finding_of wants.form folder.here items in
    ((folder.left == 0) ≡ false) × (folder_trouble folder.here what folder.path ≡ None)
    × (reserved_trouble wants.layout folder.prefix what folder.path ≡ None)
    × (width_trouble folder.path items ≡ None)

-- nor of the bytes of a file, if they are read
abbrev pub AreCleanBytes : Bool → List ℕ → Type 0
AreCleanBytes reads bytes = size_trouble (cond reads (length bytes) 0) ≡ None

-- how many files it has, at any depth
abbrev pub file_count : Forest → ℕ
file_count none = 0
file_count (file name bytes after) = suc (file_count after)
file_count (other name after) = file_count after
file_count (dir name inside after) = file_count inside + file_count after

-- where an object begins with this folder, in what is that, a run has room for its files
abbrev pub HasRoom : Folder → Within → Forest → Type 0
HasRoom folder above inside =
    starts_object folder.here above ≡ true → file_count inside ≤ greatest_limits.files

-- and so it has where a site that is found to be this is an object itself
abbrev pub HasRoomFor : Finding → Forest → Type 0
HasRoomFor finding.Interior inside = ⊤
HasRoomFor (finding.Skip why) inside = ⊤
HasRoomFor (finding.Candidate i) inside = ⊤
HasRoomFor finding.Gathered inside = file_count (without_shorties inside) ≤ greatest_limits.files

-- nor of the entries of a folder, which is found to be this, and of all that stands in them
abbrev pub IsClean : Wants → Folder → Finding → Forest → Type 0
IsClean wants folder what none = ⊤
IsClean wants folder what (file name bytes after) =
    IsCleanEntry wants folder what name kind.File × AreCleanBytes wants.reads bytes
    × IsClean wants folder what after
IsClean wants folder what (other name after) =
    IsCleanEntry wants folder what name kind.Other × IsClean wants folder what after
IsClean wants folder what (dir name inside after) =
    let it = folder_in folder what name in
    let seen = finding_of wants.form it.here (listing_of inside) in
    IsCleanEntry wants folder what name kind.Dir × IsCleanFolder wants it (listing_of inside)
    × (HasRoom it (holder_in folder what) inside × HasRoomFor seen inside) × IsClean wants it seen inside
    × IsClean wants folder what after

-- nor of what stands at the name of the prefix, with these bytes
abbrev pub IsCleanPrefix : Option Kind → List ℕ → Type 0
IsCleanPrefix None bytes = ⊤
IsCleanPrefix (Some kind.File) bytes = prefix_trouble (take 8192 bytes) ≡ None
IsCleanPrefix (Some kind.Dir) bytes = ⊥
IsCleanPrefix (Some kind.Other) bytes = ⊥

-- what stands below `pairtree_root`
abbrev pub below_root : Forest → Forest
below_root tree = inside_at tree (pairtree_root ∷ [])

-- the folder `pairtree_root` of a store
abbrev pub root_of : Forest → Folder
root_of tree = root_folder (prefix_of tree)

-- nor of a store: its top has all that it must have
pub record IsCleanStore (wants : Wants) (tree : Forest) : Type 0 where
  pub prefix : IsCleanPrefix (kind_in (listing_of tree) prefix_file) (bytes_at tree prefix_path)
  pub version : is_file_kind (kind_in (listing_of tree) version_file) ≡ true
  pub root : is_dir_kind (kind_in (listing_of tree) pairtree_root) ≡ true
  pub top : IsCleanFolder wants (root_of tree) (listing_of (below_root tree))
  pub inside : IsClean wants (root_of tree) (finding_of wants.form (root_of tree).here (listing_of (below_root tree)))
      (below_root tree)

-- a check of a store that ended well and told nothing met one of which there is nothing to tell, and its source failed at nothing
abbrev pub QuietCheckMeansCleanStore : Type 0
QuietCheckMeansCleanStore =
    (says : Says) (wants : Wants) (tree : Forest) (numbers : Numbers) (a b : CheckState) → Checks says wants tree numbers a b
    → numbers.told ≡ 0 → IsCleanStore wants tree × (b.failed ≡ a.failed)

-- and where it read files whole, that source, if it tells where it fails, fails at nothing that a run asks it for
abbrev pub QuietCheckMeansReadableStore : Type 0
QuietCheckMeansReadableStore =
    (says : Says) (wants : Wants) (tree : Forest) (numbers : Numbers) (a b : CheckState) → Checks says wants tree numbers a b
    → numbers.told ≡ 0 → wants.reads ≡ true → (p : Path) → IsAskedFor p → StandsAt tree p → GoesAt p a

-- ---- what follows for a run

-- so the count of failures of a source that tells that tree, and that it fails at those paths, isn't raised by what fails only where a run
-- asks, if no file is open at which it fails
abbrev pub NoRunFailsForSource : Type 0
NoRunFailsForSource =
    (says : Says) (wants : Wants) (tree : Forest) (numbers : Numbers) (a b : CheckState) → Checks says wants tree numbers a b
    → numbers.told ≡ 0 → wants.reads ≡ true → (old new : SourceView) → tree_in old.told ≡ Some tree
    → failing_paths old.failing ≡ a.failing → (FailsAtOpen old → ⊥) → FailsOnlyWhereAsked old new → new.failed ≡ old.failed

-- something in it, at any depth, is neither file nor directory
abbrev pub has_other : Forest → Bool
has_other none = false
has_other (file name bytes after) = has_other after
has_other (other name after) = true
has_other (dir name inside after) = has_other inside || has_other after

-- P of each of these
abbrev pub Each : {X : Type 0} → (X → Type 0) → List X → Type 0
Each P [] = ⊤
Each P (x ∷ xs) = P x × Each P xs

-- the object of an item, if it has one with an identifier, isn't passed over for an entry that is neither file nor directory
abbrev pub IsNotSkippedForOther : Job → WalkItem → Type 0
IsNotSkippedForOther job item =
    (id : List ℕ) (object : PairtreeObject) → item.verdict ≡ Named id object
    → cause_of job.limits object ≢ Some cause.Other

-- no run over a store of which there is nothing to tell passes an object over for that cause, whatever its job
abbrev pub NoRunSkipsForOther : Type 0
NoRunSkipsForOther =
    (wants : Wants) (job : Job) (tree : Forest) → IsCleanStore wants tree
    → Each (IsNotSkippedForOther job) (items job tree)

-- an item isn't passed over for a limit, and neither is its object, if it has one with an identifier
abbrev pub IsNotSkippedForLimit : Job → WalkItem → Type 0
IsNotSkippedForLimit job item = (item.verdict ≢ Skip cause.Limit)
    × ((id : List ℕ) (object : PairtreeObject) → item.verdict ≡ Named id object
    → cause_of job.limits object ≢ Some cause.Limit)

-- what is wanted is of the form of that run, or of the one that gathers nothing: a store of which there is nothing to tell without gathering
-- has nothing that a run would gather
abbrev pub CoversForm : Wants → Job → Type 0
CoversForm wants job = (wants.form ≡ form.Plain) ⊎ (wants.form ≡ form_of job)

-- no run with the limits of a check passes anything over for a limit in a store of which there is nothing to tell where its files
-- are read whole
abbrev pub NoRunSkipsForLimit : Type 0
NoRunSkipsForLimit =
    (wants : Wants) (job : Job) (tree : Forest) → CoversForm wants job → wants.reads ≡ true
    → job.limits ≡ greatest_limits
    → IsCleanStore wants tree → Each (IsNotSkippedForLimit job) (items job tree)

-- an item isn't passed over since the place of its identifier is the storage root's own
abbrev pub IsNotSkippedForReserved : WalkItem → Type 0
IsNotSkippedForReserved item = item.verdict ≢ Skip cause.Reserved

-- no run with the tuples that a check was told passes anything over for that cause in a store of which there is nothing to tell
abbrev pub NoRunSkipsForReserved : Type 0
NoRunSkipsForReserved =
    (wants : Wants) (job : Job) (tree : Forest) → CoversForm wants job → wants.layout ≡ job.tuples
    → IsCleanStore wants tree
    → Each IsNotSkippedForReserved (items job tree)
