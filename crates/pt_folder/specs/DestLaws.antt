-- What a system keeps to that keeps the tree of a folder that one run writes, as POSIX says of its calls.
use Rattle.std.specs.Prelude.{◌≡◌, ℕ, take, List, [], Option, None, Some, IsSome, IfOk, Result, Ok, Err}
use Rattle.std.specs.Option.{option_map, ForSome}
use Rattle.std.specs.declared.io.Error.{Error}
use Rattle.pt_tree.specs.Path.{Path, rest_below}
use Rattle.pt_tree.specs.Tree.{Tree, Bytes, Folder, kind_of_entry, put, added, moved, bytes_of, IsTree, CanMake, CanMove}
use Rattle.pt_folder.specs.Folder.{entry_text}
use Rattle.pt_folder.specs.Laws.{IsPath, LooksRight}
use Rattle.pt_tree.specs.declared.kind.Kind.{Kind}

-- A folder as a system keeps it: its tree, if it tells one, and where in it an open file stands.
pub record Kept (F : Type 0) : Type 0 where
  pub tree : Option Tree
  pub place : F → Option Path

-- a look changes nothing and shows what stands there
pub record Looked {F : Type 0} (old new : Kept F) (p : Path) (reply : Result Kind Error) : Type 0 where
  pub same : new ≡ old
  pub shown : ForSome old.tree (λ t. LooksRight (option_map kind_of_entry (t p)) reply)

-- the tree becomes this, and open files stay where they are
abbrev pub Becomes : {F : Type 0} → (Tree → Tree) → Kept F → Kept F → Type 0
Becomes change old new = new ≡ record { tree = option_map change old.tree; place = old.place }

-- a folder is made, or nothing changes
abbrev pub MakesDir : {F : Type 0} → Kept F → Kept F → Path → Result (Unit {0}) Error → Type 0
MakesDir old new p (Ok done) = Becomes (λ t. put t p Folder) old new
MakesDir old new p (Err e) = new ≡ old

-- an open file that is not at or below p stays where it is
abbrev pub StaysApart : {F : Type 0} → Kept F → Kept F → Path → Type 0
StaysApart {F} old new p = (f : F) (q : Path) → old.place f ≡ Some q → rest_below p q ≡ None
    → new.place f ≡ Some q

-- all at and below `from` is moved, or nothing changes
abbrev pub Moves : {F : Type 0} → Kept F → Kept F → Path → Path → Result (Unit {0}) Error → Type 0
Moves old new from to (Ok done) = (new.tree ≡ option_map (λ t. moved t from to) old.tree)
    × StaysApart old new from
Moves old new from to (Err e) = new ≡ old

-- an empty file is made and open, or nothing changes
abbrev pub MakesFile : {F : Type 0} → Kept F → Kept F → Path → Result F Error → Type 0
MakesFile old new p (Ok file) = (new.tree ≡ option_map (λ t. put t p (Bytes [])) old.tree)
    × ForSome old.tree (λ _. new.place file ≡ Some p)
MakesFile old new p (Err e) = new ≡ old

-- so many bytes of a piece, from its start, stand behind the file's, which is open where it was
pub record AddsPart {F : Type 0} (old new : Kept F) (q : Path) (file : F) (piece : List ℕ)
    (count : ℕ) : Type 0 where
  pub tree : new.tree ≡ option_map (λ t. added t q (take count piece)) old.tree
  pub place : ForSome old.tree (λ _. new.place file ≡ Some q)

-- a write adds what it says, and a failed one any part
abbrev pub Adds : {F : Type 0} → Kept F → Kept F → Path → F → List ℕ → Result ℕ Error → Type 0
Adds old new q file piece (Ok count) = AddsPart old new q file piece count
Adds old new q file piece (Err e) = (count : ℕ) × AddsPart old new q file piece count

-- something is opened for reading: nothing changes, and where it is a file its bytes are left to read
pub record Opened {F R : Type 0} (left : R → Option (List ℕ)) (old new : Kept F) (p : Path)
    (reply : Result R Error) : Type 0 where
  pub same : new ≡ old
  pub bytes : ForSome old.tree (λ t. IsSome (bytes_of (t p)) → IfOk reply (λ r. left r ≡ bytes_of (t p)))

-- the laws, one for each call; the conditions are those under which a destination is called
abbrev pub KindLaw : {S F : Type 0} → (S → List ℕ → Kept F)
    → (S → List ℕ → Result Kind Error → S → Type 0) → Type 0
KindLaw {S} {F} kept looks =
    (old new : S) (folder : List ℕ) (p : Path) (reply : Result Kind Error) → IsPath p
    → looks old (entry_text folder p) reply new → Looked (kept old folder) (kept new folder) p reply

-- where nothing stands, in a directory: an empty directory is made, or after an error nothing is changed
abbrev pub DirLaw : {S F : Type 0} → (S → List ℕ → Kept F)
    → (S → List ℕ → Result (Unit {0}) Error → S → Type 0) → Type 0
DirLaw {S} {F} kept makes =
    (old new : S) (folder : List ℕ) (p : Path) (reply : Result (Unit {0}) Error) → IsPath p
    → ForSome (kept old folder).tree (λ t. CanMake t p)
    → makes old (entry_text folder p) reply new → MakesDir (kept old folder) (kept new folder) p reply

-- what stands comes, with all below, to a path where nothing stands, in a directory; or after an error nothing is changed
abbrev pub MoveLaw : {S F : Type 0} → (S → List ℕ → Kept F)
    → (S → List ℕ → List ℕ → Result (Unit {0}) Error → S → Type 0) → Type 0
MoveLaw {S} {F} kept renames =
    (old new : S) (folder : List ℕ) (from to : Path) (reply : Result (Unit {0}) Error) → IsPath from
    → IsPath to → ForSome (kept old folder).tree (λ t. CanMove t from to)
    → renames old (entry_text folder from) (entry_text folder to) reply new
    → Moves (kept old folder) (kept new folder) from to reply

-- where nothing stands, in a directory: an empty file is made and is open, or after an error nothing is changed
abbrev pub FileLaw : {S F : Type 0} → (S → List ℕ → Kept F)
    → (S → List ℕ → Result F Error → S → Type 0) → Type 0
FileLaw {S} {F} kept makes = (old new : S) (folder : List ℕ) (p : Path) (reply : Result F Error)
    → IsPath p → ForSome (kept old folder).tree (λ t. CanMake t p)
    → makes old (entry_text folder p) reply new → MakesFile (kept old folder) (kept new folder) p reply

-- a write adds as many bytes as it says to the open file; after an error none or some of them
abbrev pub WriteLaw : {S F : Type 0} → (S → List ℕ → Kept F)
    → (S → F → List ℕ → Result ℕ Error → S → F → Type 0) → Type 0
WriteLaw {S} {F} kept writes = (old new : S) (folder : List ℕ) (q : Path) (file after : F)
    (piece : List ℕ) (reply : Result ℕ Error)
    → ForSome (kept old folder).tree (λ _. (kept old folder).place file ≡ Some q)
    → writes old file piece reply new after → Adds (kept old folder) (kept new folder) q after piece reply

-- opening for reading changes nothing; where a file stands its bytes are left to read
abbrev pub PeekLaw : {S F R : Type 0} → (S → List ℕ → Kept F) → (R → Option (List ℕ))
    → (S → List ℕ → Result R Error → S → Type 0) → Type 0
PeekLaw {S} {F} {R} kept left opens =
    (old new : S) (folder : List ℕ) (p : Path) (reply : Result R Error) → IsPath p
    → opens old (entry_text folder p) reply new
    → Opened left (kept old folder) (kept new folder) p reply

-- what is opened for reading, by any path at all, changes nothing
abbrev pub StillLaw : {S F R : Type 0} → (S → List ℕ → Kept F)
    → (S → List ℕ → Result R Error → S → Type 0) → Type 0
StillLaw {S} {F} {R} kept opens =
    (old new : S) (folder text : List ℕ) (reply : Result R Error)
    → opens old text reply new → kept new folder ≡ kept old folder

-- what is kept is a tree
abbrev pub TreeLaw : {S F : Type 0} → (S → List ℕ → Kept F) → Type 0
TreeLaw {S} {F} kept = (s : S) (folder : List ℕ) (t : Tree) → (kept s folder).tree ≡ Some t → IsTree t
