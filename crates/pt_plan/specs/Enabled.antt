-- What the calls of a phase's turn need of the devices, where they tell. A run in progress gives it, and the turn asks for nothing else of them.
use Rattle.std.specs.Prelude.{◌≡◌, ℕ, true, false, nat_lt, List, [], ◌∷◌, ◌++◌, length, take, Option, Some, slice_get, ⊤}
use Rattle.std.specs.Option.{ForSome}
use Rattle.pt_name.specs.Tuples.{Tuples}
use Rattle.pt_object.specs.Object.{inventory_name, object_declaration_name, sidecar_name}
use Rattle.pt_object.specs.Script.{Item, item_path}
use Rattle.pt_object.specs.Scripts.{root_script, staging}
use Rattle.pt_object.specs.declared.rows.Row.{Row}
use Rattle.pt_tree.specs.Dest.{Writing, CanWrite, MayMake, MayMove}
use Rattle.pt_tree.specs.Path.{Path, parent}
use Rattle.pt_tree.specs.Source.{Reading, CanList, CanOpen, CanRead}
use Rattle.pt_tree.specs.Tree.{Folder}
use Rattle.pt_tree.specs.declared.kind.Kind.{Kind}
use Rattle.pt_tree.specs.declared.kind.Kind.TheVariants as kind
use Rattle.pt_walk.specs.Trail.{current_entry, names_to}
use Rattle.pt_walk.specs.declared.frame.Frame.{Frame}
use Rattle.pt_plan.specs.Job.{Job}
use Rattle.pt_plan.specs.Roots.{storage_root}
use Rattle.pt_plan.specs.Run.{Held}
use Rattle.pt_plan.specs.Store.{prefix_file}
use Rattle.pt_plan.specs.TurnMake.{staged_content, in_version, is_stored, path_of_source}
use Rattle.pt_plan.specs.TurnPlace.{tuple_folder}
use Rattle.pt_plan.specs.TurnWalk.{in_pairtree, in_root}
use Rattle.pt_plan.specs.declared.object.Object.{Object}
use Rattle.pt_plan.specs.declared.phase.Part.{Part}
use Rattle.pt_plan.specs.declared.phase.Part.TheVariants as part
use Rattle.pt_plan.specs.declared.phase.Phase.{Phase}
use Rattle.pt_plan.specs.declared.phase.Opening.TheVariants as opening
use Rattle.pt_plan.specs.declared.phase.Phase.TheVariants as phase
use Rattle.pt_plan.specs.declared.phase.Stage.TheVariants as stage
use Rattle.pt_plan.specs.declared.phase.Position.{Position}

-- ---- the source

-- the prefix, if its entry is a file, may be opened
unfoldable pub MayOpenPrefix : Option Reading → Option Kind → Type 0
MayOpenPrefix told here = here ≡ Some kind.File → CanOpen told (prefix_file ∷ [])

-- the entry at the innermost place, if it is a directory, may be listed
unfoldable pub MayEnter : Option Reading → List Frame → Type 0
MayEnter told trail = (name : List ℕ) → current_entry trail ≡ Some (name, kind.Dir)
    → CanList told (in_pairtree (names_to trail))

-- and if it is a file, it may be opened
unfoldable pub MayOpen : Option Reading → List Frame → Type 0
MayOpen told trail = (name : List ℕ) → current_entry trail ≡ Some (name, kind.File)
    → CanOpen told (in_pairtree (names_to trail))

-- the file of a row of the object may be opened
unfoldable pub MayOpenRow : Option Reading → Object → List Frame → Path → Type 0
MayOpenRow told object trail path = CanOpen told (in_pairtree (path_of_source object trail ++ path))

-- ---- the destination

-- the item of this number of the root's script may be made
unfoldable pub MayMakeRootItem : Option Writing → Tuples → ℕ → Type 0
MayMakeRootItem told tuples number = (item : Item)
    → slice_get (root_script tuples) number ≡ Some item → MayMake told (item_path item)

-- a folder is above the path
unfoldable pub HasParent : Option Writing → Path → Type 0
HasParent told path = ForSome told (λ s. s.tree (parent path) ≡ Some Folder)

-- of the content of a row that is to be stored the next folder may be made, or, where all stand, its file, and the source's file may be opened
abbrev pub MayMakeStored : Option Reading → Option Writing → Object → List Frame → Position → Path → Type 0
MayMakeStored reading writing object trail position path =
    (nat_lt position.directories (length path) ≡ true
    → MayMake writing (staged_content (take position.directories path)))
    × (nat_lt position.directories (length path) ≡ false → MayMake writing (staged_content path)
    × MayOpenRow reading object trail path)

-- of the row at a position the content may be made, if it is to be stored
unfoldable pub MayMakeContent : Option Reading → Option Writing → Object → Held → Position → Type 0
MayMakeContent reading writing object held position =
    (row : Row) → slice_get held.rows position.row ≡ Some row
    → is_stored held.contents position.stored row.path ≡ true
    → MayMakeStored reading writing object held.trail position row.path

-- a part of an object may be made
abbrev pub MayMakePart : Job → Object → Part → Held → Option Reading → Option Writing → Type 0
MayMakePart job object part.Staging held reading writing = MayMake writing staging
MayMakePart job object part.Declaration held reading writing =
    MayMake writing (staging ++ object_declaration_name ∷ [])
MayMakePart job object part.Version held reading writing = MayMake writing (in_version [])
MayMakePart job object (part.Content position) held reading writing =
    MayMakeContent reading writing object held position
MayMakePart job object part.VersionInventory held reading writing =
    MayMake writing (in_version (inventory_name ∷ []))
MayMakePart job object part.VersionSidecar held reading writing =
    MayMake writing (in_version (sidecar_name job.algorithm ∷ []))
MayMakePart job object part.Inventory held reading writing = MayMake writing (staging ++ inventory_name ∷ [])
MayMakePart job object part.Sidecar held reading writing =
    MayMake writing (staging ++ sidecar_name job.algorithm ∷ [])

-- ---- by the phase

-- the calls of the turn of this phase may be made
abbrev pub Enabled : Job → Phase → Held → Option Reading → Option Writing → Type 0
Enabled job (phase.Opening opening.Begin) held reading writing = ⊤
Enabled job (phase.Opening (opening.Prefix here)) held reading writing = MayOpenPrefix reading here
Enabled job (phase.Opening opening.Staging) held reading writing = ⊤
Enabled job (phase.Opening opening.Root) held reading writing = ⊤
Enabled job (phase.Opening (opening.RootMake item)) held reading writing = MayMakeRootItem writing job.tuples item
Enabled job (phase.Opening opening.RootRename) held reading writing = MayMove writing staging storage_root
Enabled job (phase.Opening (opening.RootCheck file)) held reading writing = ⊤
Enabled job (phase.Opening opening.OpenRoot) held reading writing = CanList reading (in_pairtree [])
Enabled job phase.Judge held reading writing = ⊤
Enabled job (phase.Carrying object stage.Open) held reading writing =
    object.gathered ≡ false → MayEnter reading held.trail
Enabled job (phase.Carrying object stage.Scan) held reading writing =
    MayEnter reading held.trail × MayOpen reading held.trail
Enabled job (phase.Carrying object (stage.Read bytes)) held reading writing = CanRead reading
Enabled job (phase.Carrying object (stage.Make here)) held reading writing = MayMakePart job object here held reading writing
Enabled job (phase.Carrying object (stage.Copy position left)) held reading writing = CanRead reading × CanWrite writing
Enabled job (phase.Carrying object (stage.Tuples number)) held reading writing = HasParent writing (tuple_folder object number)
Enabled job (phase.Carrying object stage.Rename) held reading writing = MayMove writing staging (in_root object.place)
Enabled job (phase.Carrying object stage.Line) held reading writing = ⊤
Enabled job phase.Walk held reading writing = MayEnter reading held.trail
Enabled job phase.End held reading writing = ⊤
Enabled job phase.Ended held reading writing = ⊤
