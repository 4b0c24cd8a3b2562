-- A name is a text.
use Rattle.std.proofs.Common.{◌≡◌, ℕ, List, Bool, true, false, arith, refl}
use Rattle.std.proofs.lemmas.Str.{IsUtf8-from_is_utf8}
use Rattle.std.specs.Str.{IsUtf8, is_utf8}
use Rattle.pt_tree.specs.Name.{is_name}

-- its bytes are UTF-8
pub name_is_text : (name : List ℕ) → is_name name ≡ true → IsUtf8 name
name_is_text name is = by (is_utf8 name) refl
  where
    by : (t : Bool) → is_utf8 name ≡ t → IsUtf8 name
    by true e = IsUtf8-from_is_utf8 name e
    by false e = absurd (grind (arith, e, is))
