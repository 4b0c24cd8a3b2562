-- Which storage root an audit goes on with: none, or one of the job's layout.
use Rattle.std.specs.Prelude.{◌≡◌, ◌≢◌, ◌⊎◌, ℕ, Bool, true, false, List, [], Some, Result, Ok, Err, ⊤}
use Rattle.pt_invariant.specs.DestInvariant.{HasRootFiles}
use Rattle.pt_invariant.specs.RefusalLaws.{IsBadTarget}
use Rattle.pt_object.specs.Holding.{IsFree}
use Rattle.pt_plan.specs.Job.{Job}
use Rattle.pt_plan.specs.Roots.{root_in}
use Rattle.pt_plan.specs.declared.fault.Fault.{Fault}
use Rattle.pt_plan.specs.declared.fault.Fault.TheVariants as fault
use Rattle.pt_tree.specs.Forest.{Forest}
use Rattle.pt_tree.specs.Path.{Path}
use Rattle.pt_tree.specs.Tree.{Bytes, Folder, Tree, tree_of}

-- the storage root of what stands, seen from its own top on
abbrev pub root_of : Forest → Tree
root_of standing = root_in (tree_of standing)

-- a folder stands at `ocfl`
abbrev pub IsFolder : Forest → Type 0
IsFolder standing = root_of standing [] ≡ Some Folder

-- nothing stands there; or a directory, with all three
abbrev pub IsOfLayout : Job → Forest → Type 0
IsOfLayout job standing = IsFree (root_of standing) [] ⊎ (IsFolder standing × HasRootFiles job (root_of standing) 3)

-- something else does
abbrev pub IsOfAnother : Job → Forest → Type 0
IsOfAnother job standing = IsBadTarget job (root_of standing) (λ object. ⊥)

-- which of them it is
abbrev pub IsSo : Job → Bool → Forest → Type 0
IsSo job true standing = IsOfLayout job standing
IsSo job false standing = IsOfAnother job standing

-- by the answer the root is of this layout, or of another
abbrev pub TellsLayout : {T : Type 0} → Job → Result T Fault → Forest → Type 0
TellsLayout job (Ok x) standing = IsOfLayout job standing
TellsLayout job (Err fault.Target) standing = IsOfAnother job standing
TellsLayout job (Err why) standing = ⊤

-- whether a file of these bytes stands there
abbrev pub TellsFile : Path → List ℕ → Bool → Forest → Type 0
TellsFile path bytes true standing = root_of standing path ≡ Some (Bytes bytes)
TellsFile path bytes false standing = root_of standing path ≢ Some (Bytes bytes)
