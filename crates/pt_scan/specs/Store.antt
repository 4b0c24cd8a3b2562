-- What the functions of the store's top give.
use Rattle.std.specs.Prelude.{◌≡◌, ℕ, ⊤, List, Some}
use Rattle.pt_name.specs.Prefix.{prefix_refusal}
use Rattle.pt_name.specs.declared.prefix.PrefixFault.{PrefixFault}
use Rattle.pt_plan.specs.declared.fault.Fault.{Fault}
use Rattle.pt_plan.specs.declared.fault.Fault.TheVariants as fault

-- why reading the prefix failed
abbrev pub PrefixFails : List ℕ → Fault → Type 0
PrefixFails block fault.Prefix = (why : PrefixFault) × (prefix_refusal block ≡ Some why)
PrefixFails block fault.Memory = ⊤
PrefixFails block _ = ⊥
