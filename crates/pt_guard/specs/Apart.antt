-- Folders that lie in one another.
use Rattle.std.specs.Prelude.{◌≡◌, ◌↔◌, ℕ, zero, suc, Bool, IsTrue, List, ◌++◌, codes, length, string_bytes, Result, MatchResult, MatchBool, IsSome, unwrap_or}
use Rattle.std.specs.Path.{PathStartsWith, path_buf_bytes, path_parent}
use Rattle.std.specs.IoError.{error_kind}
use Rattle.std.specs.declared.io.Error.{Error}
use Rattle.std.specs.declared.io.ErrorKind.{ErrorKind}
use Rattle.std.specs.declared.io.ErrorKind.TheVariants.{OutOfMemory}
use Rattle.pt_guard.specs.Paths.{Place}
use Rattle.pt_guard.specs.PlaceCall.{PlaceCall, Identify, Resolve}
use Rattle.pt_guard.specs.declared.apart.AncestorSearch.{AncestorSearch}
use Rattle.pt_guard.specs.declared.apart.InnerPaths.{InnerPaths}
use Rattle.pt_guard.specs.declared.apart.Nesting.{Nesting}
use Rattle.pt_guard.specs.declared.apart.RunPaths.{RunPaths}
use Rattle.pt_guard.specs.Wanting.{IsWanting}
use Rattle.pt_guard.specs.declared.apart.Nesting.TheVariants.{Apart, Inside, Unknown, Wanting}
use Rattle.pt_guard.specs.declared.places.FileId.{FileId}

-- nothing more is asked, and this is the answer
abbrev pub Ends : {S : Type 0} → Nesting → S → S → Nesting → Type 0
Ends answer mid new lie = (lie ≡ answer) × (new ≡ mid)

-- what an error of this kind says: that memory was wanting, or else this
abbrev pub lie_of : Nesting → ErrorKind → Nesting
lie_of otherwise OutOfMemory = Wanting
lie_of otherwise _ = otherwise

-- an answer that isn't `Apart` stays, and else the next is asked
abbrev pub GoesOn : {S : Type 0} → (S → S → Nesting → Type 0) → Nesting → S → S → Nesting → Type 0
GoesOn second Apart mid new lie = second mid new lie
GoesOn second Inside mid new lie = Ends Inside mid new lie
GoesOn second Unknown mid new lie = Ends Unknown mid new lie
GoesOn second Wanting mid new lie = Ends Wanting mid new lie

-- one is asked, and the next where that is apart
abbrev pub OrElse : {S : Type 0} → (S → S → Nesting → Type 0) → (S → S → Nesting → Type 0) → S → S → Nesting → Type 0
OrElse {S} first second old new lie = (one : Nesting) × (mid : S) × first old mid one
    × GoesOn second one mid new lie

-- the paths of a store and its `pairtree_root`, and of a destination and what it is to hold
pub record Folders : Type 0 where
  pub source : List ℕ
  pub tree : List ℕ
  pub dest : List ℕ
  pub root : List ℕ
  pub staging : List ℕ

-- those that a run is asked for
abbrev pub folders_in : RunPaths → Folders
folders_in paths = record {
  source = paths.source.now;
  tree = paths.tree.now;
  dest = paths.dest.now;
  root = paths.root.now;
  staging = paths.staging.now;
}

-- the paths below a store and a destination: of its `pairtree_root`, and of `ocfl` and `staging`, which it is to hold
pub record AreInnerPaths (source dest : List ℕ) (inner : InnerPaths) : Type 0 where
  pub tree : string_bytes inner.tree ≡ source ++ codes "/pairtree_root"
  pub root : string_bytes inner.root ≡ dest ++ codes "/ocfl"
  pub staging : string_bytes inner.staging ≡ dest ++ codes "/staging"

-- the path of a store's `pairtree_root`
abbrev pub tree_of : List ℕ → List ℕ
tree_of source = source ++ codes "/pairtree_root"

-- those of a store and a destination, which is to hold `ocfl` and `staging`
abbrev pub folders_of : List ℕ → List ℕ → Folders
folders_of source dest = record {
  source = source;
  tree = tree_of source;
  dest = dest;
  root = dest ++ codes "/ocfl";
  staging = dest ++ codes "/staging";
}

module _ {S L : Type 0} (does : S → PlaceCall L → S → Type 0) where
  -- what a path leads to and each folder above it is asked for, at most so many, until one is this folder; where one can't be told it is unknown
  abbrev pub SearchesFor : FileId → ℕ → List ℕ → S → S → Nesting → Type 0
  SearchesFor target zero path old new lie = Ends Unknown old new lie
  SearchesFor target (suc left) path old new lie = (a : Result FileId Error) × (mid : S)
      × does old (Identify path a) mid
      × MatchResult a (λ found. (same : Bool) × (IsTrue same ↔ (found ≡ target))
      × MatchBool same (Ends Inside mid new lie)
      ((more : Bool) × (IsTrue more ↔ IsSome (path_parent path))
      × MatchBool more (SearchesFor target left (unwrap_or (path_parent path) path) mid new lie)
      (Ends Apart mid new lie)))
      (λ error. Ends (lie_of Unknown (error_kind error)) mid new lie)

  -- the same of a folder that is looked for, with how many are asked for at most
  abbrev pub SearchesAncestors : AncestorSearch → List ℕ → S → S → Nesting → Type 0
  SearchesAncestors search = SearchesFor search.target search.left

  -- the folder at a path is asked for, and it and those above the resolved path are compared
  abbrev pub IsHeld : List ℕ → List ℕ → S → S → Nesting → Type 0
  IsHeld outer place old new lie = (a : Result FileId Error) × (mid : S) × does old (Identify outer a) mid
      × MatchResult a (λ target. SearchesFor target (length place) place mid new lie)
      (λ error. Ends (lie_of Unknown (error_kind error)) mid new lie)

  -- of a path that leads nowhere: it is unknown where something stands at it, and apart where nothing does
  abbrev pub Stands : List ℕ → S → S → Nesting → Type 0
  Stands path old new lie = (a : Result FileId Error) × does old (Identify path a) new
      × MatchResult a (λ _. lie ≡ Unknown) (λ error. lie ≡ lie_of Apart (error_kind error))

  -- the same of a path that can't be resolved for this error; want of memory is told at once
  abbrev pub IsUnresolved : List ℕ → Error → S → S → Nesting → Type 0
  IsUnresolved path error old new lie = (wanting : Bool) × (IsTrue wanting ↔ IsWanting error)
      × MatchBool wanting (Ends Wanting old new lie) (Stands path old new lie)

  -- both paths were resolved, and the first is the second or goes on from it, name by name, or its folder or one above it, asked for one after
  -- another, is the second's; or that can't be known
  abbrev pub LiesIn : List ℕ → List ℕ → S → S → Nesting → Type 0
  LiesIn inner outer old new lie = (a : Result Place Error) × (mid : S) × does old (Resolve inner a) mid
      × MatchResult a (λ p. (b : Result Place Error) × (next : S) × does mid (Resolve outer b) next
      × MatchResult b (λ q. (within : Bool)
      × (IsTrue within ↔ PathStartsWith (path_buf_bytes p) (path_buf_bytes q))
      × MatchBool within (Ends Inside next new lie) (IsHeld outer (path_buf_bytes p) next new lie))
      (λ error. IsUnresolved outer error next new lie))
      (λ error. IsUnresolved inner error mid new lie)

  -- how a path lies to the first of two folders, and else to the second
  abbrev pub InEither : List ℕ → List ℕ × List ℕ → S → S → Nesting → Type 0
  InEither inner outers = OrElse (LiesIn inner outers.0) (LiesIn inner outers.1)

  -- asked one after another, until one isn't apart: the destination in the store or its `pairtree_root`; the store in one of what the
  -- destination is to hold; the store's `pairtree_root` in one of that
  abbrev pub Finds : Folders → S → S → Nesting → Type 0
  Finds at = OrElse (InEither at.dest (at.source, at.tree))
      (OrElse (InEither at.source (at.root, at.staging))
      (InEither at.tree (at.root, at.staging)))

  -- the same of a store and a destination
  abbrev pub Overlaps : List ℕ → List ℕ → S → S → Nesting → Type 0
  Overlaps source dest = Finds (folders_of source dest)
