-- What a version's description holds.
use Rattle.std.specs.Prelude.{ℕ, IfSome, List, Option}
use Rattle.std.specs.Str.{IsUtf8}

-- the moment, the name and address of the user, and the message
pub record MetaParts : Type 0 where
  pub created : List ℕ
  pub name : List ℕ
  pub address : Option (List ℕ)
  pub message : List ℕ

-- each of them is a text
pub record AreTexts (meta : MetaParts) : Type 0 where
  pub created : IsUtf8 meta.created
  pub name : IsUtf8 meta.name
  pub address : IfSome meta.address IsUtf8
  pub message : IsUtf8 meta.message
