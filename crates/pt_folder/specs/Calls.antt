-- What folders ask of the system, and what becomes of the answers.
use Rattle.std.specs.Prelude.{◌≡◌, ◌≢◌, ◌⊎◌, ◌<◌, ◌≤◌, ⊤, ℕ, List, length, Option, None, Some, Result, Ok, Err}
use Rattle.std.specs.IoError.{error_kind}
use Rattle.std.specs.declared.io.Error.{Error}
use Rattle.pt_tree.specs.declared.faults.TreeFault.{TreeFault}
use Rattle.pt_tree.specs.declared.faults.TreeFault.TheVariants.{Device, Memory}
use Rattle.pt_tree.specs.declared.kind.Kind.{Kind}
use Rattle.pt_tree.specs.Path.{Path}
use Rattle.pt_folder.specs.Folder.{FolderEntry, entry_text, IsAbsent, fault_of_kind}
use Rattle.pt_folder.specs.Laws.{IsPath}

-- an error of the system, as a folder answers it
abbrev pub fault_of : Error → TreeFault
fault_of e = fault_of_kind (error_kind e)

-- the system's answer, as a folder gives it
abbrev pub IsAnswer : {T : Type 0} → Result T Error → Result T TreeFault → Type 0
IsAnswer (Ok x) result = result ≡ Ok x
IsAnswer (Err e) result = result ≡ Err (fault_of e)

-- an answer to a sync, as a folder gives it: whatever the error, the device failed
abbrev pub IsSyncAnswer : Result (Unit {0}) Error → Result (Unit {0}) TreeFault → Type 0
IsSyncAnswer (Ok x) result = result ≡ Ok x
IsSyncAnswer (Err e) result = result ≡ Err Device

-- a failure of the device has this cause; memory may be wanting at any growth
abbrev pub IsDueTo : TreeFault → Type 0 → Type 0
IsDueTo Device cause = cause
IsDueTo Memory cause = ⊤

-- why a path is not asked for: the folder's path is empty, or a growth was refused
abbrev pub IsRefused : {T : Type 0} → List ℕ → Result T TreeFault → Type 0
IsRefused folder (Ok x) = ⊥
IsRefused folder (Err Device) = length folder ≡ 0
IsRefused folder (Err Memory) = ⊤

-- something before a call, and after it
pub record Change (A : Type 0) : Type 0 where
  pub old : A
  pub new : A

-- from this to that
abbrev pub change_of : {A : Type 0} → A → A → Change A
change_of old new = record { old = old; new = new }

-- one call is made, for an entry's path, and its reply leads to this result
pub record IsAsked {S A T : Type 0} (call : S → List ℕ → A → S → Type 0)
    (leads : A → Result T TreeFault → Type 0) (at : FolderEntry) (system : Change S)
    (result : Result T TreeFault) : Type 0 where
  pub reply : A
  pub filled : length at.folder ≢ 0
  pub named : IsPath at.path
  pub made : call system.old (entry_text at.folder at.path) reply system.new
  pub gives : leads reply result

-- nothing is asked of the system, and the path was refused; or the one call is made
abbrev pub AsksOnce : {S A T : Type 0} → (S → List ℕ → A → S → Type 0)
    → (A → Result T TreeFault → Type 0) → FolderEntry → Change S → Result T TreeFault → Type 0
AsksOnce call leads at system result = ((system.new ≡ system.old) × IsRefused at.folder result)
    ⊎ IsAsked call leads at system result

-- what is at a path, by the system's reply: its kind, nothing, or a fault
abbrev pub LeadsToKind : Result Kind Error → Result (Option Kind) TreeFault → Type 0
LeadsToKind (Ok kind) result = result ≡ Ok (Some kind)
LeadsToKind (Err e) (Ok None) = IsAbsent (error_kind e)
LeadsToKind (Err e) (Ok (Some kind)) = ⊥
LeadsToKind (Err e) (Err fault) = (¬ (IsAbsent (error_kind e))) × (fault ≡ fault_of e)

-- why an entry can't be made: the folder's path is empty, or the entry's is longer than any that may be made
abbrev pub CannotMake : ℕ → List ℕ → Path → Type 0
CannotMake longest folder p = (length folder ≡ 0) ⊎ (longest < length (entry_text folder p))

-- why making an entry isn't asked for: it can't be made, or a growth was refused
abbrev pub IsNotMade : {T : Type 0} → ℕ → List ℕ → Path → Result T TreeFault → Type 0
IsNotMade longest folder p (Ok x) = ⊥
IsNotMade longest folder p (Err Device) = CannotMake longest folder p
IsNotMade longest folder p (Err Memory) = ⊤

-- one call is made, for the path of an entry that isn't too long, and its reply leads to this result
pub record IsAskedToMake {S A T : Type 0} (longest : ℕ) (call : S → List ℕ → A → S → Type 0)
    (leads : A → Result T TreeFault → Type 0) (at : FolderEntry) (system : Change S)
    (result : Result T TreeFault) : Type 0 where
  pub reply : A
  pub filled : length at.folder ≢ 0
  pub named : IsPath at.path
  pub fits : length (entry_text at.folder at.path) ≤ longest
  pub made : call system.old (entry_text at.folder at.path) reply system.new
  pub gives : leads reply result

-- nothing is asked of the system, and the entry can't be made; or the one call is made
abbrev pub MakesOnce : {S A T : Type 0} → ℕ → (S → List ℕ → A → S → Type 0)
    → (A → Result T TreeFault → Type 0) → FolderEntry → Change S → Result T TreeFault → Type 0
MakesOnce longest call leads at system result =
    ((system.new ≡ system.old) × IsNotMade longest at.folder at.path result)
    ⊎ IsAskedToMake longest call leads at system result

-- something is at a path, by the system's reply, or that failed
abbrev pub IsThere : Result Kind Error → Result (Unit {0}) TreeFault → Type 0
IsThere (Ok kind) result = result ≡ Ok tt
IsThere (Err e) result = result ≡ Err (fault_of e)
