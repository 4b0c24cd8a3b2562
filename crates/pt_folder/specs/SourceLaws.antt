-- What a system keeps to that keeps the tree of a folder that nobody writes, as POSIX says of its calls.
use Rattle.std.specs.Prelude.{◌≡◌, ℕ, true, List, length, map, Option, None, Some, IsSome, IfOk, IsPermutation, Result}
use Rattle.std.specs.Option.{option_map, ForSome}
use Rattle.std.specs.declared.io.Error.{Error}
use Rattle.pt_tree.specs.Forest.{Forest, Dir, dir_at, file_at, is_proper, kind_of, listing_of, node_at}
use Rattle.pt_tree.specs.Listing.{Item}
use Rattle.pt_tree.specs.Path.{Path, parent}
use Rattle.pt_folder.specs.Folder.{entry_text}
use Rattle.pt_folder.specs.Laws.{IsPath, LooksRight}
use Rattle.pt_folder.specs.Names.{GivesNames}
use Rattle.pt_tree.specs.declared.kind.Kind.{Kind}

-- a look changes nothing and shows what stands there
pub record Looked (old new : Option Forest) (p : Path) (reply : Result Kind Error) : Type 0 where
  pub same : new ≡ old
  pub shown : ForSome old (λ f. LooksRight (option_map kind_of (node_at (Dir f) p)) reply)

-- an answer is the length of a file with these bytes
abbrev pub IsLengthOf : Option (List ℕ) → Result ℕ Error → Type 0
IsLengthOf bytes reply = IfOk reply (λ count. option_map length bytes ≡ Some count)

-- the length of a file is told, and nothing changes
pub record Measured (old new : Option Forest) (p : Path) (reply : Result ℕ Error) : Type 0 where
  pub same : new ≡ old
  pub told : ForSome old (λ f. IsLengthOf (file_at f p) reply)

-- a file is opened at its start, and changes nothing
pub record Opened {F : Type 0} (bytes left : F → Option (List ℕ)) (old new : Option Forest)
    (p : Path) (reply : Result F Error) : Type 0 where
  pub same : new ≡ old
  pub start : IfOk reply (λ file. left file ≡ bytes file)
  pub given : ForSome old (λ f. IfOk reply (λ file. bytes file ≡ file_at f p))

-- the names of a directory's entries
abbrev pub names_of : Forest → List (List ℕ)
names_of d = map (λ (item : Item). item.0) (listing_of d)

-- it gives the names of a directory, each once, in any order
abbrev pub GivesAll : Option (List ℕ) → Option Forest → Type 0
GivesAll (Some bytes) (Some d) = (names : List (List ℕ)) → GivesNames bytes names
    → IsPermutation names (names_of d)
GivesAll None (Some d) = ⊥
GivesAll left None = Unit {0}

-- a directory is opened at its start, and changes nothing
pub record Listed {D : Type 0} (left : D → Option (List ℕ)) (old new : Option Forest) (p : Path)
    (reply : Result D Error) : Type 0 where
  pub same : new ≡ old
  pub given : ForSome old (λ f. IfOk reply (λ dir. GivesAll (left dir) (dir_at f p)))

-- the laws, one for each call; the conditions are those under which a source is called, and for a look that a directory
-- stands above
abbrev pub LookLaw : {S : Type 0} → (S → List ℕ → Option Forest)
    → (S → List ℕ → Result Kind Error → S → Type 0) → Type 0
LookLaw {S} forest looks =
    (old new : S) (folder : List ℕ) (p : Path) (reply : Result Kind Error) → IsPath p
    → ForSome (forest old folder) (λ f. IsSome (dir_at f (parent p)))
    → looks old (entry_text folder p) reply new → Looked (forest old folder) (forest new folder) p reply

-- where a file stands, the answer is its length, and nothing changes
abbrev pub LengthLaw : {S : Type 0} → (S → List ℕ → Option Forest)
    → (S → List ℕ → Result ℕ Error → S → Type 0) → Type 0
LengthLaw {S} forest measures =
    (old new : S) (folder : List ℕ) (p : Path) (reply : Result ℕ Error) → IsPath p
    → ForSome (forest old folder) (λ f. IsSome (file_at f p))
    → measures old (entry_text folder p) reply new
    → Measured (forest old folder) (forest new folder) p reply

-- where a file stands, opening it changes nothing; it stands at its start, with the tree's bytes
abbrev pub OpenLaw : {S F : Type 0} → (S → List ℕ → Option Forest) → (F → Option (List ℕ))
    → (F → Option (List ℕ)) → (S → List ℕ → Result F Error → S → Type 0) → Type 0
OpenLaw {S} {F} forest bytes left opens =
    (old new : S) (folder : List ℕ) (p : Path) (reply : Result F Error) → IsPath p
    → ForSome (forest old folder) (λ f. IsSome (file_at f p))
    → opens old (entry_text folder p) reply new
    → Opened bytes left (forest old folder) (forest new folder) p reply

-- where a directory stands, opening it changes nothing, and it gives the name of each entry once
abbrev pub NamesLaw : {S D : Type 0} → (S → List ℕ → Option Forest) → (D → Option (List ℕ))
    → (S → List ℕ → Result D Error → S → Type 0) → Type 0
NamesLaw {S} {D} forest left opens =
    (old new : S) (folder : List ℕ) (p : Path) (reply : Result D Error) → IsPath p
    → ForSome (forest old folder) (λ f. IsSome (dir_at f p))
    → opens old (entry_text folder p) reply new → Listed left (forest old folder) (forest new folder) p reply

-- in each directory that is kept the names rise
abbrev pub ProperLaw : {S : Type 0} → (S → List ℕ → Option Forest) → Type 0
ProperLaw {S} forest = (s : S) (folder : List ℕ) (f : Forest) → forest s folder ≡ Some f → is_proper f ≡ true
