-- What `names` writes.
use Rattle.std.specs.Prelude.{ℕ, List, [], ◌∷◌, ◌++◌, Option}
use Rattle.std.specs.Io.KnownBytes.{Keeps}
use Rattle.pt_tree.specs.Path.{joined}
use Rattle.pt_name.specs.Clean.{pairpath_of}
use Rattle.pt_name.specs.Place.{place_of}
use Rattle.pt_name.specs.Tuples.{Tuples}
use Rattle.pt_tree.specs.Log.{AppendsFront}
use Rattle.pt_cli.specs.declared.names.NamesFault.{NamesFault}
use Rattle.pt_cli.specs.declared.names.NamesFault.TheVariants as fault

-- the pairpath of an identifier, and the place in a layout of a prefix with it behind, a line each
abbrev pub names_text : Tuples → List ℕ → List ℕ → List ℕ
names_text layout prefix id = pairpath_of id ++ 10 ∷ joined (place_of layout (prefix ++ id)) ++ 10 ∷ []

-- what a refusal leaves written: after Write a front of the text, else nothing
abbrev pub LeavesWritten : NamesFault → Option (List ℕ) → Option (List ℕ) → List ℕ → Type 0
LeavesWritten fault.Empty old new text = Keeps old new
LeavesWritten fault.Write old new text = AppendsFront old new text
LeavesWritten fault.Memory old new text = Keeps old new

-- the number of a refusal
abbrev pub names_number : NamesFault → ℕ
names_number fault.Empty = 1
names_number fault.Write = 2
names_number fault.Memory = 3
