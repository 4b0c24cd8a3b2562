-- The calls of a system that is seen by lengths: each is one call of the system within.
use Rattle.std.specs.Prelude.{◌≡◌, ℕ, true, false, length, List, Option, Result, Ok, Err}
use Rattle.std.specs.Option.{option_map}
use Rattle.std.specs.Result.{IsErr}
use Rattle.std.specs.declared.io.Error.{Error}
use Rattle.pt_tree.specs.Forest.{Forest}
use Rattle.pt_quick.specs.ByDepth.{measured}
use Rattle.pt_quick.specs.Measured.{text_of_length}
use Rattle.pt_quick.specs.Slashes.{depth_below, is_past}
use Rattle.pt_quick.specs.LengthText.{IsTextOf}
use Rattle.pt_quick.specs.declared.by_lengths.ByLengths.{ByLengths}
use Rattle.pt_quick.specs.declared.seen_file.SeenFile.{SeenFile}
use Rattle.pt_quick.specs.declared.seen_file.SeenFile.TheVariants.{Own, Text}

-- nothing changes beside the system within
abbrev pub KeepsLimits : {S : Type 0} → ByLengths S → ByLengths S → Type 0
KeepsLimits old new = new ≡ record old { system = new.system }

-- one call of the system within is made, and its answer leads to this one
pub record Asks {S A T : Type 0} (call : S → List ℕ → A → S → Type 0) (gives : A → T → Type 0)
    (old : ByLengths S) (text : List ℕ) (reply : T) (new : ByLengths S) : Type 0 where
  pub answer : A
  pub made : call old.system text answer new.system
  pub leads : gives answer reply
  pub limits : KeepsLimits old new

-- the same answer
abbrev pub IsSame : {A : Type 0} → A → A → Type 0
IsSame answer reply = reply ≡ answer

-- the system's own file
abbrev pub LeadsToOwn : {F : Type 0} → Result F Error → Result (SeenFile F) Error → Type 0
LeadsToOwn (Ok file) reply = reply ≡ Ok (Own file)
LeadsToOwn (Err e) reply = reply ≡ Err e

-- the text of the length that is told
abbrev pub LeadsToText : {F : Type 0} → ℕ → Result ℕ Error → Result (SeenFile F) Error → Type 0
LeadsToText longest (Ok count) (Ok (Own file)) = ⊥
LeadsToText longest (Ok count) (Ok (Text text)) = IsTextOf longest count text
LeadsToText longest (Ok count) (Err e) = ⊥
LeadsToText longest (Err e) reply = reply ≡ Err e

-- the length of that text
abbrev pub LeadsToLength : ℕ → Result ℕ Error → Result ℕ Error → Type 0
LeadsToLength longest (Ok count) reply = reply ≡ Ok (length (text_of_length longest count))
LeadsToLength longest (Err e) reply = reply ≡ Err e

-- what is kept below a folder
abbrev pub forest_by : {S : Type 0} → (S → List ℕ → Option Forest) → ByLengths S → List ℕ → Option Forest
forest_by forest s folder = option_map (measured s.longest (depth_below s.slashes folder)) (forest s.system folder)

-- a file is opened: of one whose path is past the limit the length is asked for, and it isn't opened
pub record Opens {S F : Type 0} (measures : S → List ℕ → Result ℕ Error → S → Type 0)
    (opens : S → List ℕ → Result F Error → S → Type 0) (old : ByLengths S) (text : List ℕ)
    (reply : Result (SeenFile F) Error) (new : ByLengths S) : Type 0 where
  pub measured : is_past old.slashes text ≡ true → Asks measures (LeadsToText old.longest) old text reply new
  pub own : is_past old.slashes text ≡ false → Asks opens LeadsToOwn old text reply new

-- the length of a file is told: of one whose path is past the limit, that of the text of its length
pub record Measures {S : Type 0} (measures : S → List ℕ → Result ℕ Error → S → Type 0)
    (old : ByLengths S) (text : List ℕ) (reply : Result ℕ Error) (new : ByLengths S) : Type 0 where
  pub measured : is_past old.slashes text ≡ true → Asks measures (LeadsToLength old.longest) old text reply new
  pub own : is_past old.slashes text ≡ false → Asks measures IsSame old text reply new

-- something is moved
abbrev pub Renames : {S : Type 0} → (S → List ℕ → List ℕ → Result (Unit {0}) Error → S → Type 0)
    → ByLengths S → List ℕ → List ℕ → Result (Unit {0}) Error → ByLengths S → Type 0
Renames renames old from = Asks (λ s to reply after. renames s from to reply after) IsSame old

-- a write to the system's own file; to a text nothing is written
abbrev pub Writes : {S F : Type 0} → (S → F → List ℕ → Result ℕ Error → S → F → Type 0)
    → ByLengths S → SeenFile F → List ℕ → Result ℕ Error → ByLengths S → SeenFile F → Type 0
Writes writes old (Own f) piece reply new (Own g) = writes old.system f piece reply new.system g × KeepsLimits old new
Writes writes old (Own f) piece reply new (Text u) = ⊥
Writes writes old (Text t) piece reply new after = (new ≡ old) × (after ≡ Text t) × IsErr reply
