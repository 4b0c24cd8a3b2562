-- How a directory is listed: its names are read, and each entry is looked at.
use Rattle.std.specs.Prelude.{◌≡◌, ◌⊎◌, ◌-◌, ◌^◌, ℕ, false, length, List, [], ◌∷◌, ◌++◌, ◌≤◌, map, IsSome}
use Rattle.std.specs.Prelude.{Option, Result, Ok, Err, Some, Vec}
use Rattle.std.specs.Option.{ForSome}
use Rattle.std.specs.Global.{Global}
use Rattle.std.specs.List.{FoldsTo}
use Rattle.std.specs.declared.io.Error.{Error}
use Rattle.pt_tree.specs.declared.faults.TreeFault.{TreeFault}
use Rattle.pt_tree.specs.declared.faults.TreeFault.TheVariants.{Device, Memory}
use Rattle.pt_tree.specs.declared.kind.Kind.{Kind}
use Rattle.pt_tree.specs.Forest.{Forest, dir_at, listing_at}
use Rattle.pt_tree.specs.Listing.{Item, can_follow}
use Rattle.pt_tree.specs.Path.{Path}
use Rattle.pt_folder.specs.Folder.{entry_text}
use Rattle.pt_folder.specs.Calls.{fault_of}
use Rattle.pt_folder.specs.Names.{AddsNames, RefusesBytes}
use Rattle.pt_folder.specs.Runs.{GivesPiece, Reads}

-- the greatest number of a directory's entries
abbrev pub most_entries : ℕ
most_entries = 16777216

-- a directory stands at this path of a tree, where that is told
abbrev pub HasDir : Option Forest → Path → Type 0
HasDir tree path = ForSome tree (λ f. IsSome (dir_at f path))

-- and this is what is listed there
abbrev pub IsListingOf : Option Forest → Path → List Item → Type 0
IsListingOf tree path listing = ForSome tree (λ f. listing_at f path ≡ Some listing)

-- these are all that was given, and no more than a directory may have
pub record AreAll (names : Vec (List ℕ) Global) (all : List (List ℕ)) : Type 0 where
  pub same : names.items ≡ all
  pub few : length all ≤ most_entries

-- what the path of each entry in a directory begins with
abbrev pub dir_front : List ℕ → Path → List ℕ
dir_front folder [] = entry_text folder []
dir_front folder (x ∷ p) = entry_text folder (x ∷ p) ++ 47 ∷ []

-- the kind of an entry that stands, by the system's reply
abbrev pub LeadsToOwnKind : Result Kind Error → Result Kind TreeFault → Type 0
LeadsToOwnKind (Ok kind) result = result ≡ Ok kind
LeadsToOwnKind (Err e) (Ok kind) = ⊥
LeadsToOwnKind (Err e) (Err fault) = fault ≡ fault_of e

-- an entry is looked at once, links not followed, and this is its kind
abbrev pub LooksAt : {S : Type 0} → (S → List ℕ → Result Kind Error → S → Type 0) → List ℕ → S
    → Item → S → Type 0
LooksAt looks front old item new = looks old (front ++ item.0) (Ok item.1) new

-- the same, whatever its kind or the answer; nothing is asked where memory for its path was wanting
abbrev pub LooksIn : {S : Type 0} → (S → List ℕ → Result Kind Error → S → Type 0) → List ℕ
    → List ℕ → S → S → Result Kind TreeFault → Type 0
LooksIn looks front name old new result = ((new ≡ old) × (result ≡ Err Memory))
    ⊎ ((reply : Result Kind Error) × looks old (front ++ name) reply new
    × LeadsToOwnKind reply result)

-- a read gave a piece, whose names stand behind those before
abbrev pub ReadsNames : {D : Type 0} → (D → List ℕ → Result ℕ Error → D → Type 0)
    → D × List (List ℕ) → List ℕ → D × List (List ℕ) → Type 0
ReadsNames reads old piece new = GivesPiece reads 8192 old.0 piece new.0 × AddsNames piece old.1 new.1

-- a directory was read piece by piece until a read gave nothing, and gave these names
pub record GetsNames {D : Type 0} (reads : D → List ℕ → Result ℕ Error → D → Type 0) (old : D)
    (names : List (List ℕ)) (new : D) : Type 0 where
  pub pieces : List (List ℕ)
  pub last : D
  pub read : FoldsTo (ReadsNames reads) (old, []) pieces (last, names)
  pub ends : Reads reads 8192 last (Ok 0) new

-- why reading ends before that, after so many pieces: a read failed; a piece has what isn't added; it was the last read
-- that a count of 64 bits has room for
abbrev pub IsGivenUp : {D : Type 0} → (D → List ℕ → Result ℕ Error → D → Type 0)
    → (List (List ℕ) → List ℕ → Type 0) → List (List ℕ) → ℕ → D → D → Type 0
IsGivenUp reads refuses names count last new = ((e : Error) × Reads reads 8192 last (Err e) new
    × (fault_of e ≡ Device))
    ⊎ (((piece : List ℕ) × GivesPiece reads 8192 last piece new × RefusesBytes refuses names piece)
    ⊎ ((count ≡ 2 ^ 64 - 1) × (new ≡ last)))

-- a directory was read piece by piece, and was given up
pub record FailsToGet {D : Type 0} (reads : D → List ℕ → Result ℕ Error → D → Type 0)
    (refuses : List (List ℕ) → List ℕ → Type 0) (old new : D) : Type 0 where
  pub pieces : List (List ℕ)
  pub names : List (List ℕ)
  pub last : D
  pub read : FoldsTo (ReadsNames reads) (old, []) pieces (last, names)
  pub failed : IsGivenUp reads refuses names (length pieces) last new

-- entries were looked at one after another; then looking at the next failed, or its name doesn't come after the last
pub record FailsToLook {S : Type 0} (looks : S → List ℕ → Result Kind Error → S → Type 0)
    (front : List ℕ) (names : List (List ℕ)) (old new : S) : Type 0 where
  pub listing : List Item
  pub name : List ℕ
  pub rest : List (List ℕ)
  pub mid : S
  pub here : names ≡ map (λ item. item.0) listing ++ name ∷ rest
  pub looked : FoldsTo (LooksAt looks front) old listing mid
  pub failed : ((e : Error) × looks mid (front ++ name) (Err e) new × (fault_of e ≡ Device))
      ⊎ ((kind : Kind) × LooksAt looks front mid (name, kind) new × (can_follow listing name ≡ false))
