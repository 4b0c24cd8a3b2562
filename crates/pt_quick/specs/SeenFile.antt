-- An open file of a system that is seen by lengths: the system's own, or the text of a length.
use Rattle.std.specs.Prelude.{◌≡◌, ℕ, List, Option, Some, Result, Ok}
use Rattle.std.specs.declared.io.Error.{Error}
use Rattle.pt_quick.specs.LengthText.{GoesInText, ReadsText, rest_in, text_in}
use Rattle.pt_quick.specs.declared.seen_file.SeenFile.{SeenFile}
use Rattle.pt_quick.specs.declared.seen_file.SeenFile.TheVariants.{Own, Text}

-- all its bytes, where it tells them
abbrev pub bytes_seen : {F : Type 0} → (F → Option (List ℕ)) → SeenFile F → Option (List ℕ)
bytes_seen bytes (Own f) = bytes f
bytes_seen bytes (Text t) = Some (text_in t)

-- those that are left
abbrev pub left_seen : {F : Type 0} → (F → Option (List ℕ)) → SeenFile F → Option (List ℕ)
left_seen left (Own f) = left f
left_seen left (Text t) = Some (rest_in t)

-- a read: the file's own, or of the text
abbrev pub reads_seen : {F : Type 0} → (F → List ℕ → Result ℕ Error → F → Type 0)
    → SeenFile F → List ℕ → Result ℕ Error → SeenFile F → Type 0
reads_seen reads (Own f) room reply (Own g) = reads f room reply g
reads_seen reads (Own f) room reply (Text u) = ⊥
reads_seen reads (Text t) room reply (Own g) = ⊥
reads_seen reads (Text t) room reply (Text u) = ReadsText t room reply u

-- going to a place
abbrev pub goes_seen : {F : Type 0} → (F → ℕ → Result ℕ Error → F → Type 0)
    → SeenFile F → ℕ → Result ℕ Error → SeenFile F → Type 0
goes_seen goes (Own f) place reply (Own g) = goes f place reply g
goes_seen goes (Own f) place reply (Text u) = ⊥
goes_seen goes (Text t) place reply (Own g) = ⊥
goes_seen goes (Text t) place reply (Text u) = GoesInText t place reply u

-- a sync, of which a text has no need
abbrev pub syncs_seen : {F : Type 0} → (F → Result (Unit {0}) Error → F → Type 0)
    → SeenFile F → Result (Unit {0}) Error → SeenFile F → Type 0
syncs_seen syncs (Own f) reply (Own g) = syncs f reply g
syncs_seen syncs (Own f) reply (Text u) = ⊥
syncs_seen syncs (Text t) reply new = (new ≡ Text t) × (reply ≡ Ok tt)
