-- What a share and a list of identifiers are made of, field by field.
-- No clause sees these fields: a further one, which might hold content or text, would have to stand here.
use Rattle.std.specs.Prelude.{ℕ, List, Option, String}
use Rattle.std.specs.Global.{Global, Vec}
use Rattle.std.specs.declared.rc.Rc.{Rc}
use Rattle.pt_name.specs.declared.division.Division.{Division}
use Rattle.pt_name.specs.declared.identifier_list.IdentifierList.TheInside as list
use Rattle.pt_name.specs.declared.share.Share.TheInside as share

-- two numbers, how the store is divided, the texts that what is chosen begins with, and a list of what is chosen, and nothing else
abbrev pub share_of_all : ℕ → ℕ → Division → Option (Vec (String Global)) → Option (Rc (List (List ℕ)) Global) → share.Inside
share_of_all index count division only all =
    record { index = index; count = count; division = division; only = only; list = all }

-- the name of a file and identifiers, and nothing else
abbrev pub list_of_all : String Global → Vec (String Global) → list.Inside
list_of_all name ids = record { name = name; ids = ids }
