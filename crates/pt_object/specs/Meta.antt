-- The description of a version.
use Rattle.std.specs.Prelude.{ℕ, ◌==◌, cond, List, [], ◌∷◌, length, Option, None, Some}
use Rattle.pt_object.specs.MetaParts.{MetaParts}
use Rattle.pt_object.specs.Moment.{is_moment}
use Rattle.pt_object.specs.declared.meta.MetaFault.{MetaFault}
use Rattle.pt_object.specs.declared.meta.MetaFault.TheVariants as fault

-- why there is no description with these two
abbrev pub meta_refusal : List ℕ → List ℕ → Option MetaFault
meta_refusal created name =
    cond (is_moment created) (cond (length name == 0) (Some fault.EmptyName) None)
    (Some fault.Created)

-- an empty address is none
abbrev pub given_address : Option (List ℕ) → Option (List ℕ)
given_address None = None
given_address (Some []) = None
given_address (Some (x ∷ xs)) = Some (x ∷ xs)

-- the description of these parts
abbrev pub parts_of : List ℕ → List ℕ → Option (List ℕ) → List ℕ → MetaParts
parts_of created name address message =
    record { created = created; name = name; address = address; message = message }

-- the number of a refusal
abbrev pub meta_number : MetaFault → ℕ
meta_number fault.Created = 1
meta_number fault.EmptyName = 2
meta_number fault.Memory = 3
