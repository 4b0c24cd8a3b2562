-- What takes the names that a directory gives.
use Rattle.std.specs.Prelude.{ℕ, List, [], ◌∷◌, ◌++◌, if◌then◌else◌, IfSome}
use Rattle.pt_folder.specs.declared.system.Input.{Ghosts as OfInput}
use Rattle.pt_folder.specs.Listing.{GetsNames}
use Rattle.pt_folder.specs.Names.{AddsNames, GivesNames, is_entry}

-- besides all that it has it has this name, unless that is `.` or `..`
abbrev pub HasOneMore : {A : Type 0} → (A → List (List ℕ) → Type 0) → A → A → List ℕ → Type 0
HasOneMore has old new name = (all : List (List ℕ)) → has old all
    → has new (if is_entry name then all ++ name ∷ [] else all)

-- besides all that it has it has the names that the bytes give
abbrev pub HasMore : {A : Type 0} → (A → List (List ℕ) → Type 0) → A → A → List ℕ → Type 0
HasMore has old new bytes = (all : List (List ℕ)) → has old all
    → (after : List (List ℕ)) × AddsNames bytes all after × has new after

-- a directory was read to its end, and all that it gave was taken
pub record GetsAll {D A : Type 0} (input : OfInput D) (has : A → List (List ℕ) → Type 0) (old : D)
    (taken : A) (new : D) : Type 0 where
  pub all : List (List ℕ)
  pub read : GetsNames input.reads old all new
  pub given : IfSome (input.left old) (λ bytes. GivesNames bytes all)
  pub had : has taken all
