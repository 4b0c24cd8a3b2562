-- Where a system that tells it fails below a folder that is only read.
use Rattle.std.specs.Prelude.{◌≡◌, ◌≢◌, ◌<◌, ◌≤◌, ◌^◌, ◌-◌, ⊤, ℕ, Bool, true, false, List, length, map, IsPermutation, IsSome}
use Rattle.std.specs.Prelude.{Option, Result, Ok, Err}
use Rattle.std.specs.IoError.{error_kind}
use Rattle.std.specs.List.{FoldsTo}
use Rattle.std.specs.List.Sorted.{IsSorted}
use Rattle.std.specs.Cmp.Lexicographic.{slice_cmp}
use Rattle.std.specs.Option.{ForSome}
use Rattle.std.specs.Ordering.{nat_cmp}
use Rattle.std.specs.declared.io.Error.{Error}
use Rattle.pt_tree.specs.declared.faults.TreeFault.TheVariants.{Device}
use Rattle.pt_tree.specs.declared.kind.Kind.{Kind}
use Rattle.pt_tree.specs.Forest.{Forest, dir_at, file_at}
use Rattle.pt_tree.specs.Listing.{Item}
use Rattle.pt_tree.specs.Path.{Path, parent}
use Rattle.pt_folder.specs.Calls.{fault_of}
use Rattle.pt_folder.specs.Folder.{IsAbsent, entry_text}
use Rattle.pt_folder.specs.Laws.{IsPath}
use Rattle.pt_folder.specs.Listing.{FailsToGet, FailsToLook, GetsNames, LooksAt, dir_front, most_entries}
use Rattle.pt_folder.specs.Names.{IsRefusedName}

-- ---- an open file

-- the greatest length of a file: places in it are counted by a number of 64 bits with a sign
abbrev pub longest_file : ℕ
longest_file = 2 ^ 63 - 1

-- a read gives nothing only at the end of a file that doesn't fail, and fails only at one that does
abbrev pub ReadsUnless : Bool → List ℕ → Result ℕ Error → Type 0
ReadsUnless fails buffer (Ok n) = n ≡ 0 → 0 < length buffer → fails ≡ false
ReadsUnless fails buffer (Err e) = fault_of e ≡ Device → fails ≡ true

-- so does going to a place
abbrev pub GoesUnless : Bool → Result ℕ Error → Type 0
GoesUnless fails (Ok n) = ⊤
GoesUnless fails (Err e) = fault_of e ≡ Device → fails ≡ true

-- of files that tell whether one can't be read to its end: no call changes that, and each goes so; and one that can is no longer than a
-- file may be
pub record FileFails {F : Type 0} (fails : F → Bool) (bytes : F → Option (List ℕ))
    (reads : F → List ℕ → Result ℕ Error → F → Type 0) (goes : F → ℕ → Result ℕ Error → F → Type 0) : Type 0 where
  pub read : (old new : F) (buffer : List ℕ) (reply : Result ℕ Error) → reads old buffer reply new
      → (fails new ≡ fails old) × ReadsUnless (fails old) buffer reply
  pub gone : (old new : F) (place : ℕ) (reply : Result ℕ Error) → goes old place reply new
      → (fails new ≡ fails old) × GoesUnless (fails old) reply
  pub short : (file : F) → fails file ≡ false → ForSome (bytes file) (λ xs. length xs ≤ longest_file)

-- the law of it
abbrev pub FileFailsLaw : {F : Type 0} → Option (F → Bool) → (F → Option (List ℕ))
    → (F → List ℕ → Result ℕ Error → F → Type 0) → (F → ℕ → Result ℕ Error → F → Type 0) → Type 0
FileFailsLaw fails bytes reads goes = ForSome fails (λ fails. FileFails fails bytes reads goes)

-- ---- a system

-- at which paths below a folder it fails, where it tells that
abbrev pub FailingBelow : Type 0 → Type 0
FailingBelow S = S → List ℕ → Option (Path → Bool)

-- it fails at the same paths still, below each folder
abbrev pub FailsStill : {S : Type 0} → FailingBelow S → S → S → Type 0
FailsStill failing old new = (folder : List ℕ) → failing new folder ≡ failing old folder

-- who tells where it fails below a folder tells its tree, and which files fail; and the folder's path isn't empty
abbrev pub FailsToldLaw : {S F : Type 0} → (S → List ℕ → Option Forest) → FailingBelow S → Option (F → Bool)
    → Type 0
FailsToldLaw {S} forest failing fails = (s : S) (folder : List ℕ) → IsSome (failing s folder)
    → IsSome (forest s folder) × IsSome fails × (length folder ≢ 0)

-- no call of reading, whatever its answer, changes where it fails
pub record FailsStillLaw {S F D : Type 0} (failing : FailingBelow S) (looks : S → List ℕ → Result Kind Error → S → Type 0)
    (opens : S → List ℕ → Result F Error → S → Type 0) (opens_dir : S → List ℕ → Result D Error → S → Type 0)
    : Type 0 where
  pub looked : (old new : S) (text : List ℕ) (reply : Result Kind Error) → looks old text reply new
      → FailsStill failing old new
  pub opened : (old new : S) (text : List ℕ) (reply : Result F Error) → opens old text reply new
      → FailsStill failing old new
  pub listed : (old new : S) (text : List ℕ) (reply : Result D Error) → opens_dir old text reply new
      → FailsStill failing old new

-- where a directory stands above, a look fails only where neither that can be listed nor what is looked at be listed or read; that nothing
-- is there is an answer
abbrev pub LookFailsLaw : {S : Type 0} → (S → List ℕ → Option Forest) → FailingBelow S
    → (S → List ℕ → Result Kind Error → S → Type 0) → Type 0
LookFailsLaw {S} forest failing looks =
    (old new : S) (folder : List ℕ) (p : Path) (e : Error) → IsPath p
    → ForSome (forest old folder) (λ f. IsSome (dir_at f (parent p)))
    → looks old (entry_text folder p) (Err e) new → fault_of e ≡ Device → (¬ (IsAbsent (error_kind e)))
    → ForSome (failing old folder) (λ at. (at (parent p) ≡ true) × (at p ≡ true))

-- a file that is opened fails as its path says; one isn't only where its path fails
abbrev pub OpensUnless : {F : Type 0} → Option (F → Bool) → Bool → Result F Error → Type 0
OpensUnless told at (Ok file) = ForSome told (λ fails. fails file ≡ at)
OpensUnless told at (Err e) = fault_of e ≡ Device → at ≡ true

-- where a file stands, it is opened so
abbrev pub OpenFailsLaw : {S F : Type 0} → (S → List ℕ → Option Forest) → FailingBelow S → Option (F → Bool)
    → (S → List ℕ → Result F Error → S → Type 0) → Type 0
OpenFailsLaw {S} {F} forest failing fails opens =
    (old new : S) (folder : List ℕ) (p : Path) (reply : Result F Error) → IsPath p
    → ForSome (forest old folder) (λ f. IsSome (file_at f p))
    → opens old (entry_text folder p) reply new → ForSome (failing old folder) (λ at. OpensUnless fails (at p) reply)

-- what is asked to list a directory, after its opening was answered so: where that failed, where reading its names to their end does, or a
-- name is none that is taken, and where a look at an entry fails or a name comes twice, its path fails; and where all goes well, it doesn't
pub record ListsUnless {S D : Type 0} (looks : S → List ℕ → Result Kind Error → S → Type 0)
    (reads : D → List ℕ → Result ℕ Error → D → Type 0) (front : List ℕ) (at : Bool) (mid : S) (dir after : D) : Type 0 where
  pub unread : FailsToGet reads (IsRefusedName most_entries) dir after → at ≡ true
  pub unseen : (names order : List (List ℕ)) (new : S) → GetsNames reads dir names after → IsPermutation names order
      → IsSorted (slice_cmp nat_cmp) order → FailsToLook looks front order mid new → at ≡ true
  pub listed : (names : List (List ℕ)) (listing : List Item) (new : S) → GetsNames reads dir names after
      → IsPermutation names (map (λ item. item.0) listing) → FoldsTo (LooksAt looks front) mid listing new
      → at ≡ false

-- the same by the answer to its opening
abbrev pub ListsBy : {S D : Type 0} → (S → List ℕ → Result Kind Error → S → Type 0)
    → (D → List ℕ → Result ℕ Error → D → Type 0) → List ℕ → Bool → S → Result D Error → Type 0
ListsBy {S} {D} looks reads front at mid (Ok dir) = (after : D) → ListsUnless looks reads front at mid dir after
ListsBy looks reads front at mid (Err e) = fault_of e ≡ Device → at ≡ true

-- where a directory stands, it is listed just where its path doesn't fail
abbrev pub ListFailsLaw : {S D : Type 0} → (S → List ℕ → Option Forest) → FailingBelow S
    → (S → List ℕ → Result Kind Error → S → Type 0) → (S → List ℕ → Result D Error → S → Type 0)
    → (D → List ℕ → Result ℕ Error → D → Type 0) → Type 0
ListFailsLaw {S} {D} forest failing looks opens_dir reads =
    (old mid : S) (folder : List ℕ) (p : Path) (reply : Result D Error)
    → ForSome (forest old folder) (λ f. IsSome (dir_at f p))
    → opens_dir old (entry_text folder p) reply mid
    → ForSome (failing old folder) (λ at. ListsBy looks reads (dir_front folder p) (at p) mid reply)
