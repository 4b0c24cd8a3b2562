-- The failure that a folder keeps.
use Rattle.std.specs.Prelude.{
  ◌≡◌,
  ◌⊎◌,
  ℕ,
  ◌<◌,
  ◌≤◌,
  ◌++◌,
  ⊤,
  false,
  [],
  List,
  length,
  Option,
  None,
  Some,
  IfSome,
  IsSomeAnd,
  Result,
  Ok,
  Err,
  String,
  Vec,
  string_bytes,
}
use Rattle.std.specs.Option.{option_map}
use Rattle.std.specs.Global.{Global}
use Rattle.std.specs.declared.io.Error.{Error}
use Rattle.pt_tree.specs.declared.faults.TreeFault.{TreeFault}
use Rattle.pt_tree.specs.declared.faults.TreeFault.TheVariants.{Device, Memory}
use Rattle.pt_tree.specs.Name.{is_name}
use Rattle.pt_tree.specs.Path.{Path}
use Rattle.pt_folder.specs.declared.failure.Failure.{Failure}
use Rattle.pt_folder.specs.declared.failure.FailureReason.{FailureReason}
use Rattle.pt_folder.specs.declared.failure.FailureReason.TheVariants as cause
use Rattle.pt_folder.specs.Folder.{entry_text}
use Rattle.pt_folder.specs.Listing.{dir_front}
use Rattle.pt_folder.specs.Runs.{FailsToRead}
use Rattle.pt_tree.specs.declared.kind.Kind.{Kind}

-- the failure of a call on this path, for this cause
abbrev pub failure_at : String Global → FailureReason → Failure
failure_at path why = record { path = path; cause = why; name = None }

-- it was at this path, for this cause, and of no name
abbrev pub IsAt : List ℕ → FailureReason → Failure → Type 0
IsAt path why f = (string_bytes f.path ≡ path) × (f.cause ≡ why) × (f.name ≡ None)

-- the failure of a listing of the directory at this path, for these bytes, which are no name
abbrev pub failure_for_name : String Global → Vec ℕ Global → Failure
failure_for_name path name = record { path = path; cause = cause.Name; name = Some name }

-- the bytes for which it was, if they are no name
abbrev pub name_of : Failure → Option (List ℕ)
name_of f = option_map (λ name. name.items) f.name

-- it was for these bytes, which the directory at this path gave
abbrev pub IsForName : List ℕ → List ℕ → Failure → Type 0
IsForName path name f = (string_bytes f.path ≡ path) × (f.cause ≡ cause.Name) × (name_of f ≡ Some name)

-- where the device failed, this holds
abbrev pub OnDevice : {T : Type 0} → Result T TreeFault → Type 0 → Type 0
OnDevice (Ok x) P = ⊤
OnDevice (Err Device) P = P
OnDevice (Err Memory) P = ⊤

-- the cause is an error of the system, of which this holds
abbrev pub HasError : (Error → Type 0) → FailureReason → Type 0
HasError P (cause.System e) = P e
HasError P _ = ⊥

-- nothing was asked, since the folder's path is empty
abbrev pub IsUnasked : List ℕ → Failure → Type 0
IsUnasked folder f = (length folder ≡ 0) × IsAt [] cause.Empty f

-- nothing was asked, since no path that is made may be so long
abbrev pub IsTooLong : ℕ → List ℕ → Failure → Type 0
IsTooLong longest path f = (longest < length path) × IsAt path cause.Long f

-- a call on this path answered with an error of which this holds
abbrev pub IsOfCall : List ℕ → (Error → Type 0) → Failure → Type 0
IsOfCall path P f = (string_bytes f.path ≡ path) × HasError P f.cause

-- what is kept of a failed call on an entry's path
abbrev pub KeepsCall : List ℕ → Path → (Error → Type 0) → Option Failure → Type 0
KeepsCall folder p P last = IsSomeAnd last (λ f. IsUnasked folder f ⊎ IsOfCall (entry_text folder p) P f)

-- what is kept where making an entry isn't asked for
abbrev pub KeepsUnmade : ℕ → List ℕ → Path → Option Failure → Type 0
KeepsUnmade longest folder p last =
    IsSomeAnd last (λ f. IsUnasked folder f ⊎ IsTooLong longest (entry_text folder p) f)

-- the same of a failed call that makes the entry
abbrev pub KeepsMaking : ℕ → List ℕ → Path → (Error → Type 0) → Option Failure → Type 0
KeepsMaking longest folder p P last =
    IsSomeAnd last (λ f. (IsUnasked folder f ⊎ IsTooLong longest (entry_text folder p) f)
    ⊎ IsOfCall (entry_text folder p) P f)

-- why looking at the first bytes of a file failed: it could not be opened, or a read failed
abbrev pub FailsToPeek : {S F : Type 0} → (S → List ℕ → Result F Error → S → Type 0)
    → (F → List ℕ → Result ℕ Error → F → Type 0) → List ℕ → S → S → Error → Type 0
FailsToPeek {S} {F} opens reads text old new e = opens old text (Err e) new
    ⊎ ((file : F) × (after : F) × opens old text (Ok file) new
    × FailsToRead reads 8192 file e after)

-- looking at something answered with this error
abbrev pub FailsLook : {S : Type 0} → (S → List ℕ → Result Kind Error → S → Type 0) → List ℕ
    → Error → Type 0
FailsLook {S} looks text e = (old : S) × (new : S) × looks old text (Err e) new

-- why a name isn't added to these: it would be one too many, or no entry may have it
abbrev pub IsOfName : ℕ → List (List ℕ) → List ℕ → FailureReason → Type 0
IsOfName most names name cause.Entries = most ≤ length names
IsOfName most names name cause.Name = is_name name ≡ false
IsOfName most names name _ = ⊥

-- why the names of a directory aren't had: the system said so, or one isn't added, or there is no end
abbrev pub IsNamesCause : FailureReason → Type 0
IsNamesCause (cause.System e) = ⊤
IsNamesCause cause.Name = ⊤
IsNamesCause cause.Entries = ⊤
IsNamesCause cause.Endless = ⊤
IsNamesCause _ = ⊥

-- of a directory: its names aren't had; what is kept of one that isn't added is no name
abbrev pub IsOfNames : List ℕ → Failure → Type 0
IsOfNames text f = (string_bytes f.path ≡ text) × IsNamesCause f.cause
    × IfSome (name_of f) (λ name. is_name name ≡ false)

-- of an entry in a directory: looking at it failed; or its name comes twice
abbrev pub IsOfEntry : {S : Type 0} → (S → List ℕ → Result Kind Error → S → Type 0) → List ℕ
    → Failure → Type 0
IsOfEntry looks front f =
    ((name : List ℕ) × IsOfCall (front ++ name) (FailsLook looks (front ++ name)) f)
    ⊎ IsAt front cause.Twice f

-- what is kept, where memory allowed it, of a listing
abbrev pub KeepsListing : {S : Type 0} → (S → List ℕ → Result Kind Error → S → Type 0) → List ℕ
    → Path → Option Failure → Type 0
KeepsListing looks folder p last =
    IfSome last (λ f. (IsUnasked folder f ⊎ IsOfNames (entry_text folder p) f)
    ⊎ IsOfEntry looks (dir_front folder p) f)
