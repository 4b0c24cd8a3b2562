-- The turns that make an object in `staging`: one part of it each, and one block of a file that is copied.
use Rattle.std.specs.Prelude.{
  ◌≡◌,
  ℕ,
  suc,
  ◌+◌,
  ◌-◌,
  ◌==◌,
  ◌&&◌,
  Bool,
  true,
  false,
  cond,
  codes,
  nat_lt,
  List,
  [],
  ◌∷◌,
  ◌++◌,
  length,
  take,
  Option,
  None,
  Some,
  slice_get,
  Ok,
  Err,
}
use Rattle.std.specs.Option.{option_map_or}
use Rattle.std.specs.Str.{bytes_eq}
use Rattle.pt_object.specs.Algorithm.{digest_of}
use Rattle.pt_object.specs.Files.{object_declaration_bytes, sidecar_text}
use Rattle.pt_object.specs.Inventory.{inventory_text}
use Rattle.pt_object.specs.Object.{inventory_name, object_declaration_name, sidecar_name, version_folder}
use Rattle.pt_object.specs.Script.{Item, MakeFolder, MakeFile}
use Rattle.pt_object.specs.Scripts.{staging}
use Rattle.pt_object.specs.declared.table.contents.Content.{Content}
use Rattle.pt_object.specs.declared.rows.Row.{Row}
use Rattle.pt_tree.specs.Path.{Path, parent as folder_of, same_path}
use Rattle.pt_walk.specs.Trail.{names_to, trail_path}
use Rattle.pt_walk.specs.declared.frame.Frame.{Frame}
use Rattle.pt_plan.specs.Answer.{Answer}
use Rattle.pt_plan.specs.declared.fault.Fault.TheVariants as fault
use Rattle.pt_plan.specs.Job.{Job}
use Rattle.pt_plan.specs.Run.{Held, with_fed}
use Rattle.pt_plan.specs.TurnWalk.{in_pairtree}
use Rattle.pt_plan.specs.DeviceStates.{Adds, Calls, Creates, Finishes, Makes, Opens, Reads, asks, does, no_calls}
use Rattle.pt_plan.specs.declared.object.Object.{Object}
use Rattle.pt_plan.specs.declared.phase.Part.{Part}
use Rattle.pt_plan.specs.declared.phase.Part.TheVariants as part
use Rattle.pt_plan.specs.declared.phase.Phase.{Phase}
use Rattle.pt_plan.specs.declared.phase.Phase.TheVariants as phase
use Rattle.pt_plan.specs.declared.phase.Stage.TheVariants as stage
use Rattle.pt_plan.specs.declared.phase.Position.{Position}

-- ---- where the run stands in the contents

-- the content of this number has this path, so that the row is the first with its digest
abbrev pub is_stored : List Content → ℕ → Path → Bool
is_stored contents number path =
    option_map_or (λ (content : Content). same_path content.path path)
    (slice_get contents number) false

-- the part at a position: the content there, or what follows the contents
abbrev pub content_at : List Row → Position → Part
content_at rows position =
    cond (nat_lt position.row (length rows)) (part.Content position) part.VersionInventory

-- how many names two paths begin with alike
abbrev pub common_names : Path → Path → ℕ
common_names [] q = 0
common_names (a ∷ p) [] = 0
common_names (a ∷ p) (b ∷ q) = cond (bytes_eq a b) (suc (common_names p q)) 0

-- how many folders on the way to the next content stand, `content` among them, after the content at this path
abbrev pub standing : Path → Option Content → ℕ
standing last None = 0
standing last (Some next) = suc (common_names (folder_of last) (folder_of next.path))

-- the position behind a row whose content is stored already
abbrev pub behind : Position → Position
behind position = record position { row = position.row + 1 }

-- the position behind a row whose content has just been stored
abbrev pub behind_stored : List Content → Position → Path → Position
behind_stored contents position path =
    record {
      row = position.row + 1;
      stored = position.stored + 1;
      directories = standing path (slice_get contents (position.stored + 1));
    }

-- with one more folder of the next content's path
abbrev pub with_folder : Position → Position
with_folder position = record position { directories = position.directories + 1 }

-- ---- paths

-- in the version's folder in `staging`
abbrev pub in_version : Path → Path
in_version path = staging ++ (version_folder ++ path)

-- the stored content of a logical path, or a folder on the way to it (OCFL 1.1, "Content Directory")
abbrev pub staged_content : Path → Path
staged_content path = in_version (codes "content" ∷ path)

-- of the object, from below the pairtree's directory
abbrev pub path_of_source : Object → List Frame → Path
path_of_source object trail = cond object.gathered (trail_path trail) (names_to trail)

-- ---- texts

-- the text of the inventory of an object with these rows
abbrev pub text_of_inventory : Job → Object → List Row → List ℕ
text_of_inventory job object rows = inventory_text object.id rows job.meta job.algorithm

-- the inventory in a folder of `staging` (OCFL 1.1, "Inventory")
abbrev pub inventory_file : Job → Object → List Row → Path → Item
inventory_file job object rows folder =
    MakeFile (folder ++ inventory_name ∷ []) (text_of_inventory job object rows)

-- its sidecar (OCFL 1.1, "Inventory Digest")
abbrev pub sidecar_file : Job → Object → List Row → Path → Item
sidecar_file job object rows folder =
    MakeFile (folder ++ sidecar_name job.algorithm ∷ [])
    (sidecar_text job.algorithm (text_of_inventory job object rows))

-- after the last sidecar: the tuple directories, if the layout has any, else the renaming
abbrev pub after_last : Job → Object → Phase
after_last job object = cond (job.tuples.count == 0) (phase.Carrying object stage.Rename) (phase.Carrying object (stage.Tuples 0))

-- what was read a second time, to its end, is what the row says
abbrev pub is_as_read : Job → Row → ℕ → List ℕ → Bool
is_as_read job row left fed = (left == 0) && bytes_eq (digest_of job.algorithm fed) row.digest

-- ---- the turns

-- from the phase and what is held to what is held after, with the calls and the answer
pub data MakeStep (job : Job) : Phase → Held → Held → Calls → Answer → Type 0 where
  MakesStaging : (held : Held) (object : Object)
      → MakeStep job (phase.Carrying object (stage.Make part.Staging)) held held (does (Makes (MakeFolder staging)))
      (Ok (phase.Carrying object (stage.Make part.Declaration)))
  MakesDeclaration : (held : Held) (object : Object)
      → MakeStep job (phase.Carrying object (stage.Make part.Declaration)) held held
      (does (Makes (MakeFile (staging ++ object_declaration_name ∷ []) object_declaration_bytes)))
      (Ok (phase.Carrying object (stage.Make part.Version)))
  MakesVersion : (held : Held) (object : Object)
      → MakeStep job (phase.Carrying object (stage.Make part.Version)) held held
      (does (Makes (MakeFolder (in_version []))))
      (Ok (phase.Carrying object (stage.Make (content_at held.rows (record { row = 0; stored = 0; directories = 0 })))))
  -- a row whose content is stored already is passed
  PassesRow : (held : Held) (object : Object) (position : Position) (row : Row)
      → slice_get held.rows position.row ≡ Some row
      → is_stored held.contents position.stored row.path ≡ false
      → MakeStep job (phase.Carrying object (stage.Make (part.Content position))) held held no_calls
      (Ok (phase.Carrying object (stage.Make (content_at held.rows (behind position)))))
  -- of any other the folders on the way are made
  MakesFolder : (held : Held) (object : Object) (position : Position) (row : Row)
      → slice_get held.rows position.row ≡ Some row
      → is_stored held.contents position.stored row.path ≡ true
      → nat_lt position.directories (length row.path) ≡ true
      → MakeStep job (phase.Carrying object (stage.Make (part.Content position))) held held
      (does (Makes (MakeFolder (staged_content (take position.directories row.path)))))
      (Ok (phase.Carrying object (stage.Make (part.Content (with_folder position)))))
  -- then its file is made, and the source's is opened
  OpensCopy : (held : Held) (object : Object) (position : Position) (row : Row)
      → slice_get held.rows position.row ≡ Some row
      → is_stored held.contents position.stored row.path ≡ true
      → nat_lt position.directories (length row.path) ≡ false
      → MakeStep job (phase.Carrying object (stage.Make (part.Content position))) held (with_fed held [])
      (record {
        asked = Opens (in_pairtree (path_of_source object held.trail ++ row.path));
        change = Creates (staged_content row.path);
        line = None;
      }) (Ok (phase.Carrying object (stage.Copy position row.length)))
  -- a block is copied
  CopiesOn : (held : Held) (object : Object) (position : Position) (left byte : ℕ) (block : List ℕ)
      → nat_lt left (length (byte ∷ block)) ≡ false
      → MakeStep job (phase.Carrying object (stage.Copy position left)) held (with_fed held (held.fed ++ byte ∷ block))
      (record { asked = Reads (byte ∷ block); change = Adds (byte ∷ block); line = None })
      (Ok (phase.Carrying object (stage.Copy position (left - length (byte ∷ block)))))
  -- unless there are more bytes than the row says
  ReadsMore : (held : Held) (object : Object) (position : Position) (left byte : ℕ) (block : List ℕ)
      → nat_lt left (length (byte ∷ block)) ≡ true
      → MakeStep job (phase.Carrying object (stage.Copy position left)) held held (asks (Reads (byte ∷ block)))
      (Err fault.Changed)
  -- at the end the file is closed
  EndsCopy : (held : Held) (object : Object) (position : Position) (row : Row) (left : ℕ)
      → slice_get held.rows position.row ≡ Some row → is_as_read job row left held.fed ≡ true
      → MakeStep job (phase.Carrying object (stage.Copy position left)) held (with_fed held [])
      (record { asked = Reads []; change = Finishes; line = None })
      (Ok (phase.Carrying object (stage.Make (content_at held.rows (behind_stored held.contents position row.path)))))
  -- unless the bytes are fewer, or others
  ReadsOther : (held : Held) (object : Object) (position : Position) (row : Row) (left : ℕ)
      → slice_get held.rows position.row ≡ Some row → is_as_read job row left held.fed ≡ false
      → MakeStep job (phase.Carrying object (stage.Copy position left)) held held (asks (Reads [])) (Err fault.Changed)
  -- an inventory's text is fed to the hasher as well
  MakesVersionInventory : (held : Held) (object : Object)
      → MakeStep job (phase.Carrying object (stage.Make part.VersionInventory)) held
      (with_fed held (text_of_inventory job object held.rows))
      (does (Makes (inventory_file job object held.rows (in_version []))))
      (Ok (phase.Carrying object (stage.Make part.VersionSidecar)))
  -- and the hasher's digest is taken for its sidecar; the inventory at the top has the same text, which isn't fed again
  MakesVersionSidecar : (held : Held) (object : Object)
      → MakeStep job (phase.Carrying object (stage.Make part.VersionSidecar)) held
      (with_fed held (text_of_inventory job object held.rows))
      (does (Makes (sidecar_file job object held.rows (in_version []))))
      (Ok (phase.Carrying object (stage.Make part.Inventory)))
  MakesInventory : (held : Held) (object : Object)
      → MakeStep job (phase.Carrying object (stage.Make part.Inventory)) held
      (with_fed held (text_of_inventory job object held.rows))
      (does (Makes (inventory_file job object held.rows staging)))
      (Ok (phase.Carrying object (stage.Make part.Sidecar)))
  MakesSidecar : (held : Held) (object : Object)
      → MakeStep job (phase.Carrying object (stage.Make part.Sidecar)) held (with_fed held [])
      (does (Makes (sidecar_file job object held.rows staging))) (Ok (after_last job object))
