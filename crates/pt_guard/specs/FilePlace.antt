-- Whether a file may be made at a path.
use Rattle.std.specs.Prelude.{◌≡◌, ◌⊎◌, ◌==◌, ◌||◌, ℕ, Bool, false, List, Option, Some, None, MatchBool, Result, Ok, Err, length, codes, if◌then◌else◌}
use Rattle.std.specs.Path.{path_file_name, path_parent}
use Rattle.std.specs.Str.{bytes_eq}
use Rattle.pt_guard.specs.Apart.{Ends, Folders, InEither, LiesIn, OrElse, folders_of, tree_of}
use Rattle.pt_guard.specs.PlaceCall.{PlaceCall}
use Rattle.pt_guard.specs.declared.apart.FilePlace as own
use Rattle.pt_guard.specs.declared.apart.Nesting.{Nesting}
use Rattle.pt_guard.specs.declared.apart.Nesting.TheVariants.{Apart, Inside, Unknown, Wanting}
use Rattle.pt_guard.specs.declared.file.FileFault.{FileFault}
use Rattle.pt_guard.specs.declared.file.FileFault.TheVariants as fault

-- the folder that a path names before its last name; the one at hand where it names none
abbrev pub folder_in : Option (List ℕ) → List ℕ
folder_in None = codes "."
folder_in (Some folder) = if length folder == 0 then codes "." else folder

-- the last name of a path is that of what a destination is to hold
abbrev pub is_named_so : Option (List ℕ) → Bool
is_named_so None = false
is_named_so (Some name) = bytes_eq name (codes "ocfl") || bytes_eq name (codes "staging")

-- where a file is to be made: its folder, and whether it has the name of what a destination is to hold
pub record FilePlace : Type 0 where
  pub folder : List ℕ
  pub is_named : Bool

-- that of a file that is asked about
abbrev pub place_of : own.FilePlace → FilePlace
place_of place = record { folder = place.folder.now; is_named = place.is_named }

-- that of a file at a path
abbrev pub place_at : List ℕ → FilePlace
place_at file = record {
  folder = folder_in (path_parent file);
  is_named = is_named_so (path_file_name file);
}

module _ {S L : Type 0} (does : S → PlaceCall L → S → Type 0) where
  -- a file of such a name is asked for in the destination too
  abbrev pub FindsNamed : FilePlace → List ℕ → S → S → Nesting → Type 0
  FindsNamed place dest old new lie =
      MatchBool place.is_named (LiesIn does place.folder dest old new lie) (Ends Apart old new lie)

  -- asked one after another, until one isn't apart: the folder of a file in the store or its `pairtree_root`, in one of what the destination
  -- is to hold, and, where the file has the name of one of these, in the destination
  abbrev pub FindsFile : Folders → FilePlace → S → S → Nesting → Type 0
  FindsFile at place = OrElse (InEither does place.folder (at.source, at.tree))
      (OrElse (InEither does place.folder (at.root, at.staging)) (FindsNamed place at.dest))

  -- the same of a file at a path, beside a store and a destination; where there is none it is asked in the store or its `pairtree_root` alone
  abbrev pub FileLies : List ℕ × Option (List ℕ) → List ℕ → S → S → Nesting → Type 0
  FileLies (source, None) file = InEither does (place_at file).folder (source, tree_of source)
  FileLies (source, Some dest) file = FindsFile (folders_of source dest) (place_at file)

  -- a file may be made there where it lies apart of all; memory was wanting for a text before anything was asked, or for an answer of the system
  abbrev pub JudgesFile : List ℕ × Option (List ℕ) → List ℕ → S → S → Result (Unit {0}) FileFault → Type 0
  JudgesFile folders file old new (Ok done) = FileLies folders file old new Apart
  JudgesFile folders file old new (Err fault.Inside) = FileLies folders file old new Inside
  JudgesFile folders file old new (Err fault.Hidden) = FileLies folders file old new Unknown
  JudgesFile folders file old new (Err fault.Memory) = (new ≡ old) ⊎ FileLies folders file old new Wanting
