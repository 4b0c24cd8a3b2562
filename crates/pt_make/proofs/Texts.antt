-- The turns that make an inventory and its sidecar, from their calls.
use Rattle.std.proofs.Common.{◌≡◌, ℕ, List, [], ◌∷◌, refl, ap, ◌∙◌}
use Rattle.std.specs.Prelude.{None, Ok, Option, Some, IsErrAnd, map}
use Rattle.pt_state.proofs.Words.{
  digest_of,
  HasBeenFed,
  Algorithm,
  Hasher,
  Path,
  Answer,
  Did,
  FailsPartway,
  Make,
  DeviceStates,
  Fault,
  Object,
  Phase,
  KeepsAll,
  job_of,
  Turned,
}
use Rattle.pt_state.proofs.Words.part
use Rattle.pt_state.proofs.Words.phase
use Rattle.pt_state.proofs.Words.stage
use Rattle.pt_state.specs.declared.state.State.{State}
use Rattle.pt_object.specs.Distinct.{content_of_row, distinct}
use Rattle.pt_object.specs.Files.{sidecar_line, sidecar_text}
use Rattle.pt_object.specs.Object.{inventory_name, sidecar_name}
use Rattle.pt_plan.specs.TurnMake.{MakesInventory, MakesSidecar, MakesVersionInventory, MakesVersionSidecar, after_last}
use Rattle.pt_make.proofs.Parts.{may_make_at}
use Rattle.pt_state.proofs.Together.{leaves_short}
use Rattle.pt_state.proofs.Turns.{keeps_same, left_some, went}
use Rattle.pt_make.specs.Making.{
  HasContentsOfRows,
  HasFedAt,
  HasFedInventory,
  IsFedFor,
  IsFedMore,
  in_folder,
  inventory_held,
  inventory_part,
  makes_file,
  sidecar_part,
}
use Rattle.pt_make.specs.declared.inventories.InventoryFolder.{InventoryFolder}
use Rattle.pt_make.specs.declared.inventories.InventoryFolder.TheVariants as folder

-- ---- texts

pub contents_of_rows : (s : State) → HasContentsOfRows s → s.contents ≡ map content_of_row (distinct s.rows)
unfolding HasContentsOfRows
contents_of_rows s is = is

-- fed nothing and then a text, the hasher was fed the text
pub fed_text : (here : InventoryFolder) (a : Algorithm) (start hasher : Option Hasher) (text : List ℕ) → HasFedAt here a start [] → IsFedMore start hasher text
    → HasFedAt here a hasher text
unfolding IsFedMore
fed_text here a start hasher text started feeds = feeds here a [] started

-- the digest of what a hasher was fed, of which this is a copy
pub digest_is : (s : State) (object : Object) (hasher : Hasher) (digest : List ℕ) → HasFedInventory s object
    → ((algorithm : Algorithm) (fed : List ℕ) → HasBeenFed algorithm s.hasher fed → HasBeenFed algorithm hasher fed)
    → ((algorithm : Algorithm) (fed : List ℕ) → HasBeenFed algorithm hasher fed → digest ≡ digest_of algorithm fed)
    → digest ≡ digest_of s.job.algorithm (inventory_held s object)
unfolding HasFedInventory
digest_is s object hasher digest was copies ends = ends s.job.algorithm (inventory_held s object) (copies s.job.algorithm (inventory_held s object) was)

pub sidecar_is : (a : Algorithm) (digest fed line : List ℕ) → digest ≡ digest_of a fed → line ≡ sidecar_line digest → line ≡ sidecar_text a fed
sidecar_is a digest fed line same is = is ∙ ap sidecar_line same

pub ruleset files = (digest_is, contents_of_rows, fed_text, leaves_short, sidecar_is)

-- ---- inventories

pub made_version_inventory : (s s' : State) (a b : DeviceStates) (object : Object) (here : InventoryFolder) (path : Path) (bytes : List ℕ)
    → here ≡ folder.Version → Did (makes_file path bytes) a b → path ≡ in_folder here (inventory_name ∷ []) → bytes ≡ inventory_held s object
    → HasBeenFed s.job.algorithm s'.hasher bytes → KeepsAll s s'
    → Turned (phase.Carrying object (stage.Make (inventory_part here))) s s' a b (Ok (phase.Carrying object (stage.Make part.VersionSidecar)))
made_version_inventory s s' a b object here path bytes which did is same fed keeps =
    rw which
    (went a b (λ _. inventory_held s object) (λ fed _. Make (MakesVersionInventory _ object)) (rw (same, is, which) at did) refl (λ _ _. rw same at fed) keeps)

pub made_top_inventory : (s s' : State) (a b : DeviceStates) (object : Object) (here : InventoryFolder) (path : Path) (bytes : List ℕ) → here ≡ folder.Top
    → IsFedFor here s object → Did (makes_file path bytes) a b → path ≡ in_folder here (inventory_name ∷ []) → bytes ≡ inventory_held s object
    → s'.hasher ≡ s.hasher → KeepsAll s s'
    → Turned (phase.Carrying object (stage.Make (inventory_part here))) s s' a b (Ok (phase.Carrying object (stage.Make part.Sidecar)))
unfolding HasFedInventory
made_top_inventory s s' a b object here path bytes which fed did is same hasher keeps =
    rw which
    (went a b (λ _. inventory_held s object) (λ fed _. Make (MakesInventory _ object)) (rw (same, is, which) at did) refl (λ _ _. rw hasher was) keeps)
  where
    was : HasFedInventory s object
    was = rw which at fed

-- where there is a hasher it is the version's folder, and where there is none it is the top
pub in_version : (here : InventoryFolder) (a : Algorithm) (hasher : Hasher) (text : List ℕ) → HasFedAt here a (Some hasher) text
    → (here ≡ folder.Version) × HasBeenFed a hasher text
unfolding HasFedAt
in_version folder.Version a hasher text fed = (refl, fed)
in_version folder.Top a hasher text fed = absurd fed

pub at_top : (here : InventoryFolder) (a : Algorithm) (text : List ℕ) → HasFedAt here a None text → here ≡ folder.Top
unfolding HasFedAt
at_top folder.Version a text fed = absurd fed
at_top folder.Top a text fed = refl

pub left_inventory : (s s' : State) (a b : DeviceStates) (object : Object) (here : InventoryFolder) (path : Path) (bytes : List ℕ) (f : Fault) (result : Answer)
    → IsErrAnd result (λ h. h ≡ f) → FailsPartway (makes_file path bytes) f a b → path ≡ in_folder here (inventory_name ∷ []) → bytes ≡ inventory_held s object
    → KeepsAll s s'
    → Turned (phase.Carrying object (stage.Make (inventory_part here))) s s' a b result
left_inventory s s' a b object folder.Version path bytes f result is some at same keeps =
    left_some a b f result is (λ fed. Make (MakesVersionInventory _ object)) (rw (same, (at)) at some) keeps
left_inventory s s' a b object folder.Top path bytes f result is some at same keeps =
    left_some a b f result is (λ fed. Make (MakesInventory _ object)) (rw (same, (at)) at some) keeps

-- ---- sidecars

-- the text of the inventory's sidecar
abbrev sidecar_held : State → Object → List ℕ
sidecar_held s object = sidecar_text s.job.algorithm (inventory_held s object)

pub made_version_sidecar : (s : State) (a b : DeviceStates) (object : Object) (here : InventoryFolder) (path : Path) → here ≡ folder.Version
    → HasFedInventory s object → Did (makes_file path (sidecar_held s object)) a b → path ≡ in_folder here (sidecar_name s.job.algorithm ∷ [])
    → Turned (phase.Carrying object (stage.Make (sidecar_part here))) s s a b (Ok (phase.Carrying object (stage.Make part.Inventory)))
unfolding HasFedInventory
made_version_sidecar s a b object here path which fed did is =
    rw which
    (went a b (λ _. inventory_held s object) (λ fed _. Make (MakesVersionSidecar _ object)) (rw (is, which) at did) refl (λ _ _. fed) keeps_same)

pub made_top_sidecar : (s s' : State) (a b : DeviceStates) (object : Object) (here : InventoryFolder) (path : Path) (next : Phase) → here ≡ folder.Top
    → Did (makes_file path (sidecar_held s object)) a b → path ≡ in_folder here (sidecar_name s.job.algorithm ∷ []) → next ≡ after_last (job_of s.job) object
    → HasBeenFed s.job.algorithm s'.hasher [] → KeepsAll s s'
    → Turned (phase.Carrying object (stage.Make (sidecar_part here))) s s' a b (Ok next)
made_top_sidecar s s' a b object here path next which did is then started keeps =
    rw (then, which)
    (went a b (λ _. []) (λ fed _. Make (MakesSidecar _ object)) (rw (is, which) at did) refl (λ _ _. started) keeps)

pub left_sidecar : (s s' : State) (a b : DeviceStates) (object : Object) (here : InventoryFolder) (path : Path) (f : Fault) (result : Answer)
    → IsErrAnd result (λ h. h ≡ f) → FailsPartway (makes_file path (sidecar_held s object)) f a b → path ≡ in_folder here (sidecar_name s.job.algorithm ∷ [])
    → KeepsAll s s'
    → Turned (phase.Carrying object (stage.Make (sidecar_part here))) s s' a b result
left_sidecar s s' a b object folder.Version path f result is left at keeps =
    left_some a b f result is (λ fed. Make (MakesVersionSidecar _ object)) (rw (at) at left) keeps
left_sidecar s s' a b object folder.Top path f result is left at keeps =
    left_some a b f result is (λ fed. Make (MakesSidecar _ object)) (rw (at) at left) keeps

pub ruleset inventories = (
  may_make_at,
  contents_of_rows,
  made_version_inventory,
  made_top_inventory,
  left_inventory,
  made_version_sidecar,
  made_top_sidecar,
  left_sidecar,
)
