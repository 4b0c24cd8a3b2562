-- What a run may leave in its destination, whatever its source gives and however it ends: objects whole and at their places, and nothing else.
use Rattle.std.specs.Prelude.{◌≡◌, ◌⊎◌, ℕ, Bool, true, ◌&&◌, List, [], ◌∷◌, ◌++◌, Some, codes, is_none, is_some, slice_get, take}
use Rattle.pt_object.specs.FilePaths.{are_apart, paths_of}
use Rattle.pt_object.specs.Holding.{IsFree}
use Rattle.pt_object.specs.Root.{base}
use Rattle.pt_object.specs.Script.{Item, MakeFile, StandsAtPrefix, done, made}
use Rattle.pt_object.specs.Scripts.{root_script, script_of, staging}
use Rattle.pt_tree.specs.Path.{Path, rest_below}
use Rattle.pt_tree.specs.Tree.{Tree}
use Rattle.pt_plan.specs.Carried.{Carried, place_of_carried, with_objects}
use Rattle.pt_plan.specs.Job.{Job}
use Rattle.pt_plan.specs.Roots.{root_in, tuple_folders, with_folders, with_root}

-- an object of files of which none leads to another; from rows, it is that of the files with the bytes stored for them
abbrev pub is_whole : Carried → Bool
is_whole object = are_apart (paths_of object.files)

-- nothing stands at the object's place
abbrev pub is_place_free : Job → Tree → Carried → Bool
is_place_free job root object = is_none (root (place_of_carried job object))

-- where contents are made in `staging`
abbrev pub content_folder : Path
content_folder = staging ++ codes "v1" ∷ codes "content" ∷ []

-- t is what the first items of the script make of the start, and the next one, a content, with any bytes
pub record StandsAtContent (script : List Item) (start t : Tree) : Type 0 where
  pub items : ℕ
  pub path : Path
  pub bytes : List ℕ
  pub held : List ℕ
  pub next : slice_get script items ≡ Some (MakeFile path bytes)
  pub content : is_some (rest_below content_folder path) ≡ true
  pub stands : t ≡ done (MakeFile path held) (made (take items script) start)

-- the objects come to places where nothing stands, one after another
abbrev pub come_to_free_places : Job → Tree → List Carried → Bool
come_to_free_places job root [] = true
come_to_free_places job root (object ∷ objects) =
    is_whole object
    && (is_place_free job root object
    && come_to_free_places job (with_objects job (object ∷ []) root) objects)

-- what is left of a start whatever the source gives: all as it was; a part of a new root in `staging`; the root, or a new one, with objects that came
-- one after another to free places; or that and some tuple directories of one more object, and a part of it in `staging`, whose last item, if it is a
-- content, may hold any bytes
pub data DestFaultState (job : Job) (start : Tree) : Tree → Type 0 where
  AsItWas : DestFaultState job start start
  MakingRoot : (now : Tree) → IsFree (root_in start) []
      → StandsAtPrefix (root_script job.tuples) start now → DestFaultState job start now
  Holding : (objects : List Carried)
      → come_to_free_places job (base job.tuples (root_in start)) objects ≡ true
      → DestFaultState job start (with_root start (with_objects job objects (base job.tuples (root_in start))))
  Making : (objects : List Carried) (next : Carried) (tuples : ℕ) (now : Tree)
      → come_to_free_places job (base job.tuples (root_in start)) (objects ++ next ∷ []) ≡ true
      → StandsAtPrefix (script_of next.id next.files job.meta job.algorithm)
      (with_root start
      (with_folders (take tuples (tuple_folders job next))
      (with_objects job objects (base job.tuples (root_in start))))) now
      ⊎ StandsAtContent (script_of next.id next.files job.meta job.algorithm)
      (with_root start
      (with_folders (take tuples (tuple_folders job next))
      (with_objects job objects (base job.tuples (root_in start))))) now
      → DestFaultState job start now
