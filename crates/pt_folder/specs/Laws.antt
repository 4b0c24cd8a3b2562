-- What the laws of a system speak of.
use Rattle.std.specs.Prelude.{◌≡◌, ◌<◌, ℕ, true, List, length, take, drop, Option, None, Some, Result, Ok, Err}
use Rattle.std.specs.IoError.{error_kind}
use Rattle.std.specs.Option.{option_map}
use Rattle.std.specs.List.{All}
use Rattle.std.specs.Io.KnownBytes.{Consumes, IsAtEnd}
use Rattle.std.specs.declared.io.Error.{Error}
use Rattle.pt_tree.specs.declared.kind.Kind.{Kind}
use Rattle.pt_tree.specs.Name.{is_name}
use Rattle.pt_tree.specs.Path.{Path}
use Rattle.pt_folder.specs.Folder.{IsAbsent}

-- names that entries may have
abbrev pub IsPath : Path → Type 0
IsPath p = All (λ n. is_name n ≡ true) p

-- so many of the next bytes are in the buffer; none only at the end, or where the buffer has no room
abbrev pub Gives : Option (List ℕ) → Option (List ℕ) → ℕ → List ℕ → Type 0
Gives old new n buffer = Consumes old new (take n buffer) × (n ≡ 0 → 0 < length buffer → IsAtEnd new)

-- it stands behind so many of its bytes
abbrev pub GoesRight : Option (List ℕ) → Option (List ℕ) → ℕ → Type 0
GoesRight bytes left place = left ≡ option_map (drop place) bytes

-- what a look may answer where an entry of this kind stands, or none does; that nothing is there it says only where nothing stands
abbrev pub LooksRight : Option Kind → Result Kind Error → Type 0
LooksRight here (Ok kind) = here ≡ Some kind
LooksRight here (Err e) = IsAbsent (error_kind e) → here ≡ None
