-- What the turns that make an object ask of what is held, beside what their calls need of the devices.
use Rattle.std.specs.Prelude.{◌≡◌, ◌<◌, ◌==◌, ◌&&◌, ◌++◌, ◌-◌, ◌^◌, ℕ, List, None, Option, Some, false, length, map, nat_lt, slice_get, take, true, ⊤}
use Rattle.std.specs.Option.{option_map_or}
use Rattle.std.specs.Str.{bytes_eq}
use Rattle.pt_object.specs.declared.algorithm.Algorithm.{Algorithm}
use Rattle.pt_object.specs.declared.table.contents.Content.{Content}
use Rattle.pt_object.specs.declared.hasher.Hasher.{Hasher}
use Rattle.pt_object.specs.Contents.{has_digest}
use Rattle.pt_object.specs.Distinct.{content_of_row, distinct}
use Rattle.pt_object.specs.Hasher.{HasBeenFed}
use Rattle.pt_object.specs.Script.{MakeFile}
use Rattle.pt_object.specs.Scripts.{staging}
use Rattle.pt_plan.specs.TurnMake.{behind, behind_stored, content_at, staged_content, in_version, is_stored, path_of_source, text_of_inventory}
use Rattle.pt_plan.specs.TurnPlace.{bytes_in_rows}
use Rattle.pt_plan.specs.TurnWalk.{in_pairtree}
use Rattle.pt_object.specs.declared.rows.Row.{Row}
use Rattle.pt_tree.specs.Path.{Path}
use Rattle.pt_plan.specs.declared.object.Object.{Object}
use Rattle.pt_plan.specs.declared.phase.Part.{Part}
use Rattle.pt_plan.specs.declared.phase.Part.TheVariants as part
use Rattle.pt_plan.specs.declared.phase.Position.{Position}
use Rattle.pt_plan.specs.DeviceStates.{Calls, Makes, does}
use Rattle.pt_plan.specs.declared.phase.Phase.{Phase}
use Rattle.pt_plan.specs.declared.phase.Phase.TheVariants as phase
use Rattle.pt_plan.specs.declared.phase.Stage.TheVariants as stage
use Rattle.pt_make.specs.declared.contents.FileCopy.{FileCopy}
use Rattle.pt_make.specs.declared.contents.ObjectContent.{ObjectContent}
use Rattle.pt_make.specs.declared.contents.Step.{Step}
use Rattle.pt_make.specs.declared.contents.Step.TheVariants as step
use Rattle.pt_make.specs.declared.inventories.InventoryFolder.{InventoryFolder}
use Rattle.pt_make.specs.declared.inventories.InventoryFolder.TheVariants as folder
use Rattle.pt_state.specs.States.{job_of}
use Rattle.pt_state.specs.declared.state.State.{State}

-- the phase that makes an object's content
abbrev pub content_phase : ObjectContent → Phase
content_phase content = phase.Carrying content.object (stage.Make (part.Content content.position))

-- and the one that copies it, of whose file so many bytes are left
abbrev pub copy_phase : ObjectContent → ℕ → Phase
copy_phase content left = phase.Carrying content.object (stage.Copy content.position left)

-- the row and the content of the position are there
pub record IsAt (position : Position) (rows : List Row) (contents : List Content) : Type 0 where
  pub row : position.row < length rows
  pub stored : position.stored < length contents

-- whether the row at the position is stored is told by the digest of its content as by the path
unfoldable pub DigestTells : List Row → List Content → Position → Type 0
DigestTells rows contents position =
    (row : Row) → slice_get rows position.row ≡ Some row
    → option_map_or (has_digest row.digest) (slice_get contents position.stored) false
    ≡ is_stored contents position.stored row.path

-- the row at the position is there, and its digest tells whether it is stored
pub record IsAtContent (rows : List Row) (contents : List Content) (position : Position) : Type 0 where
  pub row : position.row < length rows
  pub tells : DigestTells rows contents position

-- the row at the position is passed, and this is next
unfoldable pub IsPassed : State → Position → Part → Type 0
IsPassed s position next =
    (row : Row) × ((slice_get s.rows position.row ≡ Some row)
    × (is_stored s.contents position.stored row.path ≡ false)
    × (next ≡ content_at s.rows (behind position)))

-- a folder of the content at the position is next, at this path
unfoldable pub IsNextFolder : State → Position → Path → Type 0
IsNextFolder s position path =
    (row : Row) × ((slice_get s.rows position.row ≡ Some row)
    × (is_stored s.contents position.stored row.path ≡ true)
    × (nat_lt position.directories (length row.path) ≡ true) × (position.directories < 2 ^ 64 - 1)
    × (path ≡ staged_content (take position.directories row.path)))

-- its file is next
unfoldable pub IsNextCopy : State → ObjectContent → FileCopy → Type 0
IsNextCopy s content copy =
    (row : Row) × ((slice_get s.rows content.position.row ≡ Some row)
    × (is_stored s.contents content.position.stored row.path ≡ true)
    × (nat_lt content.position.directories (length row.path) ≡ false)
    × (copy.to ≡ staged_content row.path)
    × (copy.from ≡ in_pairtree (path_of_source content.object s.trail ++ row.path))
    × (copy.length ≡ row.length))

-- this is next of the content
abbrev pub IsStep : State → ObjectContent → Step → Type 0
IsStep s content (step.Pass next) = IsPassed s content.position next
IsStep s content (step.Folder path) = IsNextFolder s content.position path
IsStep s content (step.File copy) = IsNextCopy s content copy

-- what was read is as the row at the position says, and this is next
unfoldable pub IsAsRead : List Row → List Content → Position → ℕ → List ℕ → Part → Type 0
IsAsRead rows contents position left digest next =
    (row : Row) × ((slice_get rows position.row ≡ Some row)
    × (((left == 0) && bytes_eq digest row.digest) ≡ true)
    × (next ≡ content_at rows (behind_stored contents position row.path)))

-- it is not
unfoldable pub IsOther : List Row → Position → ℕ → List ℕ → Type 0
IsOther rows position left digest =
    (row : Row) × ((slice_get rows position.row ≡ Some row)
    × (((left == 0) && bytes_eq digest row.digest) ≡ false))

-- so the end of a file is answered
abbrev pub EndsAs : List Row → List Content → Position → ℕ → List ℕ → Option Part → Type 0
EndsAs rows contents position left digest (Some next) = IsAsRead rows contents position left digest next
EndsAs rows contents position left digest None = IsOther rows position left digest

-- the contents are those of the rows
unfoldable pub HasContentsOfRows : State → Type 0
HasContentsOfRows s = s.contents ≡ map content_of_row (distinct s.rows)

-- a done line of the object can be counted, with the lengths of its files, and its site is on the trail
pub record CanTellDone (s : State) : Type 0 where
  pub few : s.counts.done < 2 ^ 40
  pub small : bytes_in_rows s.rows < 2 ^ 64
  pub site : 0 < length s.trail

-- ---- inventories

-- the text of the inventory of an object whose rows are held
abbrev pub inventory_held : State → Object → List ℕ
inventory_held s object = text_of_inventory (job_of s.job) object s.rows

-- a file is made with these bytes
abbrev pub makes_file : Path → List ℕ → Calls
makes_file path bytes = does (Makes (MakeFile path bytes))

-- below a folder, in `staging`
abbrev pub in_folder : InventoryFolder → Path → Path
in_folder folder.Version names = in_version names
in_folder folder.Top names = staging ++ names

-- the part that makes its inventory
abbrev pub inventory_part : InventoryFolder → Part
inventory_part folder.Version = part.VersionInventory
inventory_part folder.Top = part.Inventory

-- the part that makes its sidecar
abbrev pub sidecar_part : InventoryFolder → Part
sidecar_part folder.Version = part.VersionSidecar
sidecar_part folder.Top = part.Sidecar

-- the hasher has been fed the text of the object's inventory
unfoldable pub HasFedInventory : State → Object → Type 0
HasFedInventory s object = HasBeenFed s.job.algorithm s.hasher (inventory_held s object)

-- so it has where the one at the top is to be made
abbrev pub IsFedFor : InventoryFolder → State → Object → Type 0
IsFedFor folder.Version s object = ⊤
IsFedFor folder.Top s object = HasFedInventory s object

-- in the version's folder there is a hasher, which has been fed these bytes; at the top there is none
unfoldable pub HasFedAt : InventoryFolder → Algorithm → Option Hasher → List ℕ → Type 0
HasFedAt folder.Version algorithm (Some hasher) fed = HasBeenFed algorithm hasher fed
HasFedAt folder.Version algorithm None fed = ⊥
HasFedAt folder.Top algorithm (Some hasher) fed = ⊥
HasFedAt folder.Top algorithm None fed = ⊤

-- what has been fed is these bytes more
unfoldable pub IsFedMore : Option Hasher → Option Hasher → List ℕ → Type 0
IsFedMore old new bytes =
    (folder : InventoryFolder) (algorithm : Algorithm) (fed : List ℕ) → HasFedAt folder algorithm old fed
    → HasFedAt folder algorithm new (fed ++ bytes)

-- what the turn of a part needs of what is held
abbrev pub IsReadyFor : Part → Object → State → Type 0
IsReadyFor part.Staging object s = ⊤
IsReadyFor part.Declaration object s = ⊤
IsReadyFor part.Version object s = ⊤
IsReadyFor (part.Content position) object s = IsAtContent s.rows s.contents position
IsReadyFor part.VersionInventory object s = HasContentsOfRows s
IsReadyFor part.VersionSidecar object s = HasFedInventory s object
IsReadyFor part.Inventory object s = HasContentsOfRows s × HasFedInventory s object
IsReadyFor part.Sidecar object s = HasFedInventory s object
