-- The name of a list's file, where it is recorded.
use Rattle.std.proofs.Common.{◌≡◌, ◌∙◌, ℕ, List, [], ap, refl}
use Rattle.std.specs.Prelude.{Option, Some, None, is_some}
use Rattle.std.specs.Option.{option_map}
use Rattle.pt_messages.specs.Members.{JsonMembers}
use Rattle.pt_host.specs.RecordedOptions.{AreRecorded}

-- a name that is given just where there is a list is one of that list
named : {A : Type 0} (name_of : A → List ℕ) (list : Option (List (List ℕ))) (file : Option A) → is_some file ≡ is_some list
    → (name : List ℕ) × (option_map name_of file ≡ option_map (λ ids. name) list)
named name_of None None is = ([], refl)
named name_of None (Some file) is = absurd (cc)
named name_of (Some ids) None is = absurd (cc)
named name_of (Some ids) (Some file) is = (name_of file, refl)

-- members that were put with such a name are recorded
pub recorded_with : {A : Type 0} (name_of : A → List ℕ) (list : Option (List (List ℕ))) (file : Option A)
    (members : Option (List ℕ) → JsonMembers) (made : JsonMembers) → is_some file ≡ is_some list → made ≡ members (option_map name_of file)
    → AreRecorded (λ name. members (option_map (λ ids. name) list)) made
recorded_with name_of list file members made is put = let p = named name_of list file is in (p.0, put ∙ ap members p.1)
