-- What an audit by bytes that found nothing wrong says of a root.
use Rattle.std.specs.Prelude.{◌≡◌, ◌≢◌, ℕ, true, false, List, Some, slice_get}
use Rattle.pt_audit.specs.Auditing.{IsAuditLog, IsFoundOf, sought}
use Rattle.pt_audit.specs.declared.counts.Counts.{Counts}
use Rattle.pt_audit.specs.declared.compare_by.CompareBy.TheVariants.{Bytes}
use Rattle.pt_compare.specs.Described.{IsGiven}
use Rattle.pt_compare.specs.Found.{IsObject}
use Rattle.pt_compare.specs.Marks.{inside}
use Rattle.pt_compare.specs.declared.difference.Comparison.{Comparison}
use Rattle.pt_compare.specs.declared.difference.Comparison.TheVariants.{Same}
use Rattle.pt_name.specs.Place.{place_of}
use Rattle.pt_object.specs.FilePaths.{File}
use Rattle.pt_object.specs.MetaParts.{AreTexts}
use Rattle.pt_plan.specs.Carried.{after_all, marked}
use Rattle.pt_plan.specs.Items.{Holds, Item, Named, PairtreeObject, items, outcome}
use Rattle.pt_plan.specs.Job.{Job}
use Rattle.pt_plan.specs.Roots.{root_in}
use Rattle.pt_plan.specs.TurnWalk.{in_root}
use Rattle.pt_tree.specs.Forest.{Forest, is_proper}
use Rattle.pt_tree.specs.Path.{Path}
use Rattle.pt_tree.specs.Tree.{IsTree, Tree, tree_of}

-- of each of these items that has an object with no cause against it, just that object stands at its place
abbrev pub StandAmong : Job → Forest → Forest → (ℕ → Type 0) → Type 0
StandAmong job source root Among =
    (k : ℕ) (item : Item) (id : List ℕ) (object : PairtreeObject) (files : List File) → Among k
    → slice_get (items job source) k ≡ Some item → item.verdict ≡ Named id object
    → outcome job.limits object ≡ Holds files
    → IsObject (sought job id files) (inside root (in_root (place_of job.tuples id)))

-- where an audit's log has no object that is absent or differs, each object of the store stands, and at its place nothing else
abbrev pub SoundAuditMeansAllStand : Type 0
SoundAuditMeansAllStand =
    (job : Job) (source root : Forest) (text : List ℕ) (counts : Counts)
    → IsAuditLog Bytes job source root text counts → counts.absent ≡ 0 → counts.differs ≡ 0
    → StandAmong job source root (λ k. Unit {0})

-- the storage root is as a run left it that ended well, and that began with this destination
abbrev pub IsLeftBy : Job → Forest → Tree → Forest → Type 0
IsLeftBy job source start root =
    (q : Path) → tree_of root (in_root q) ≡ after_all job source (root_in start) q

-- a run began with a description of its version that it could be given, from a proper source, with this destination; the storage root is as it left
-- it when it ended well
pub record HasRun (job : Job) (source : Forest) (start : Tree) (root : Forest) : Type 0 where
  pub source_is : is_proper source ≡ true
  pub start_is : IsTree start
  pub given : IsGiven job.meta
  pub texts : AreTexts job.meta
  pub left : IsLeftBy job source start root

-- of an object that the run carried nothing is found but that it stands
abbrev pub WhatWasCarriedIsTheSame : Type 0
WhatWasCarriedIsTheSame =
    (job : Job) (source root : Forest) (start : Tree) (k : ℕ) (item : Item) (finding : Comparison)
    → HasRun job source start root
    → slice_get (marked job source (root_in start)) k ≡ Some (item, false)
    → IsFoundOf Bytes job source root item finding → finding ≡ Same

-- no place was taken: neither by what stood in the root before nor by an earlier object
abbrev pub NoneIsTaken : Job → Forest → Tree → Type 0
NoneIsTaken job source root = (k : ℕ) (item : Item) → slice_get (marked job source root) k ≢ Some (item, true)

-- so an audit after a run that found no place taken tells only of objects that stand, and of what is passed over
abbrev pub AuditAfterRunIsSound : Type 0
AuditAfterRunIsSound =
    (job : Job) (source root : Forest) (start : Tree) (text : List ℕ) (counts : Counts)
    → HasRun job source start root → NoneIsTaken job source (root_in start)
    → IsAuditLog Bytes job source root text counts → (counts.absent ≡ 0) × (counts.differs ≡ 0)
