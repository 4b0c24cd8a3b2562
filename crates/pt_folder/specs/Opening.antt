-- How a file of a folder is opened for reading.
use Rattle.std.specs.Prelude.{◌≡◌, ◌≢◌, ◌⊎◌, ℕ, List, length, Option, IsSomeAnd, Result, Ok, Err, MatchResult}
use Rattle.std.specs.declared.io.Error.{Error}
use Rattle.pt_tree.specs.declared.faults.TreeFault.{TreeFault}
use Rattle.pt_tree.specs.declared.faults.TreeFault.TheVariants.{Device}
use Rattle.pt_folder.specs.declared.reading.FileInReading.{FileInReading}
use Rattle.pt_folder.specs.Calls.{Change, IsRefused, fault_of}
use Rattle.pt_folder.specs.Failure.{IsAt, IsOfCall, IsUnasked}
use Rattle.pt_folder.specs.Folder.{FolderEntry, entry_text}
use Rattle.pt_folder.specs.Laws.{IsPath}
use Rattle.pt_folder.specs.Reading.{OpensAt}
use Rattle.pt_folder.specs.declared.failure.Failure.{Failure}
use Rattle.pt_folder.specs.declared.failure.FailureReason.TheVariants as cause
use Rattle.pt_folder.specs.declared.system.System.{Ghosts as OfSystem}
use Rattle.pt_tree.specs.declared.kind.Kind.{Kind}
use Rattle.pt_tree.specs.declared.kind.Kind.TheVariants.{File}

-- a file stands there, by the system's reply to a look; or that failed, or it is none
abbrev pub LeadsToFile : {T : Type 0} → Result Kind Error → Result T TreeFault → Type 0
LeadsToFile (Ok kind) (Ok done) = kind ≡ File
LeadsToFile (Ok kind) (Err fault) = (kind ≢ File) × (fault ≡ Device)
LeadsToFile (Err e) result = result ≡ Err (fault_of e)

-- What stands at the path was looked at, links not followed. Where it is a file, it was opened, and the reply leads to this
-- open file and this result; else nothing more is asked, and the open file is the one that was.
pub record IsOpenedBy {S F D : Type 0} (sys : OfSystem S F D) (at : FolderEntry)
    (opened : Change (Option (FileInReading F))) (system : Change S) (result : Result (Unit {0}) TreeFault)
    : Type 0 where
  pub reply : Result Kind Error
  pub found : Result (Unit {0}) TreeFault
  pub mid : S
  pub filled : length at.folder ≢ 0
  pub named : IsPath at.path
  pub looked : sys.looks system.old (entry_text at.folder at.path) reply mid
  pub leads : LeadsToFile reply found
  pub gives : MatchResult found
      (λ _. (answer : Result F Error) × sys.opens mid
      (entry_text at.folder at.path) answer system.new × OpensAt opened.old opened.new answer result)
      (λ fault. (system.new ≡ mid) × (opened.new ≡ opened.old) × (result ≡ Err fault))

-- nothing is asked of the system, and the path was refused; or it is looked at, and opened where it is a file
abbrev pub OpensOnce : {S F D : Type 0} → OfSystem S F D → FolderEntry → Change (Option (FileInReading F))
    → Change S → Result (Unit {0}) TreeFault → Type 0
OpensOnce sys at opened system result = ((system.new ≡ system.old) × IsRefused at.folder result)
    ⊎ IsOpenedBy sys at opened system result

-- of a look at a path that should be a file's: it failed, or no file stands there now
abbrev pub IsOfFile : {S : Type 0} → (S → List ℕ → Result Kind Error → S → Type 0) → List ℕ → S
    → S → Failure → Type 0
IsOfFile looks text old new f = IsAt text cause.NotFile f ⊎ IsOfCall text (λ e. looks old text (Err e) new) f

-- what is kept of a file that isn't opened: of no call, of the look, or of the opening
abbrev pub KeepsOpening : {S F D : Type 0} → OfSystem S F D → FolderEntry → Change S → Option Failure → Type 0
KeepsOpening {S} sys at system last =
    IsSomeAnd last (λ f. (IsUnasked at.folder f
    ⊎ IsOfFile sys.looks (entry_text at.folder at.path) system.old system.new f)
    ⊎ IsOfCall (entry_text at.folder at.path)
    (λ e. (mid : S) × sys.opens mid (entry_text at.folder at.path) (Err e) system.new) f)
