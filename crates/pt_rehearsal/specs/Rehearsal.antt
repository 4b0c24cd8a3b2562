-- What a rehearsal tells, and what its calls ask of the system and leave.
use Rattle.std.specs.Prelude.{◌≡◌, ◌⊎◌, ⊤, ℕ, List, Option, Some, Result, Ok, Err}
use Rattle.pt_tree.specs.Dest.{Writing}
use Rattle.pt_tree.specs.Failures.{IsCounted}
use Rattle.pt_tree.specs.Path.{Path}
use Rattle.pt_tree.specs.declared.faults.TreeFault.{TreeFault}
use Rattle.pt_tree.specs.declared.faults.TreeFault.TheVariants.{Device, Memory}
use Rattle.pt_tree.specs.declared.kind.Kind.{Kind}
use Rattle.pt_tree.specs.declared.kind.Kind.TheVariants.{Dir}
use Rattle.pt_folder.specs.Calls.{LeadsToKind}
use Rattle.pt_folder.specs.HostDest.{Looks, Peeks, failures_of, system_of, told as told_by}
use Rattle.pt_folder.specs.declared.system.Handle.{Ghosts as OfHandle}
use Rattle.pt_folder.specs.declared.system.Input.{Ghosts as OfInput}
use Rattle.pt_folder.specs.declared.system.System.{Ghosts as OfSystem}
use Rattle.pt_rehearsal.specs.Fitting.{told_over}
use Rattle.pt_rehearsal.specs.Seeing.{recall_at, view}
use Rattle.pt_rehearsal.specs.SameFolder.{SameFolder}
use Rattle.pt_rehearsal.specs.declared.rehearsal.Rehearsal.{Rehearsal}
use Rattle.pt_rehearsal.specs.declared.remembered.Recall.{Recall}
use Rattle.pt_rehearsal.specs.declared.remembered.Recall.TheVariants as recall

-- the answer to a look, where the system isn't asked: a directory that is remembered, and a refusal of what isn't; memory
-- may be wanting for the path's text
abbrev pub IsFromMemory : Recall → Result (Option Kind) TreeFault → Type 0
IsFromMemory recall.Folder (Ok kind) = kind ≡ Some Dir
IsFromMemory recall.Hidden (Ok kind) = ⊥
IsFromMemory recall.Standing (Ok kind) = ⊥
IsFromMemory recall.Folder (Err Device) = ⊥
IsFromMemory recall.Hidden (Err Device) = ⊤
IsFromMemory recall.Standing (Err Device) = ⊥
IsFromMemory _ (Err Memory) = ⊤

-- the answer to a wish for first bytes, where the system isn't asked: a refusal of what is remembered or hidden
abbrev pub IsNotPeeked : Recall → Result (Unit {0}) TreeFault → Type 0
IsNotPeeked _ (Ok x) = ⊥
IsNotPeeked recall.Standing (Err Device) = ⊥
IsNotPeeked recall.Folder (Err Device) = ⊤
IsNotPeeked recall.Hidden (Err Device) = ⊤
IsNotPeeked _ (Err Memory) = ⊤

module _ {S F D : Type 0} {sys : OfSystem S F D} {handle : OfHandle F} {file : OfInput F}
    {dir : OfInput D} where
  -- the tree that the folder tells, with what would have been made and moved
  abbrev pub told : Rehearsal S F D sys handle file dir → Option Writing
  told r = told_over (told_by r.dest) r.played.steps

  -- its destination stays as it was, and the system keeps of its folder what it kept
  abbrev pub IsSame : (old new : Rehearsal S F D sys handle file dir) → Type 0
  IsSame old new = SameFolder old.dest new.dest

  -- a call changes nothing of that, and its failure is counted
  pub record IsCall {T : Type 0} (old new : Rehearsal S F D sys handle file dir)
      (result : Result T TreeFault) : Type 0 where
    pub keeps : IsSame old new
    pub failures : IsCounted (failures_of old.dest) (failures_of new.dest) result

  -- the answer is from memory; or what stands there stands in the folder, and the system is asked once to look
  abbrev pub LooksUnlessKnown : (old new : Rehearsal S F D sys handle file dir) → Path
      → Result (Option Kind) TreeFault → Type 0
  LooksUnlessKnown old new p result =
      ((system_of new.dest ≡ system_of old.dest) × IsFromMemory (recall_at (view old.remembered) p) result)
      ⊎ ((recall_at (view old.remembered) p ≡ recall.Standing) × Looks LeadsToKind old.dest new.dest p result)

  -- the same of first bytes
  abbrev pub PeeksUnlessKnown : (old new : Rehearsal S F D sys handle file dir) → Path → List ℕ
      → Result (Unit {0}) TreeFault → Type 0
  PeeksUnlessKnown old new p block result =
      ((system_of new.dest ≡ system_of old.dest) × IsNotPeeked (recall_at (view old.remembered) p) result)
      ⊎ ((recall_at (view old.remembered) p ≡ recall.Standing) × Peeks old.dest new.dest p block result)
