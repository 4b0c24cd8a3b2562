-- What an identifier is made of. No clause sees its field: a further one, which might hold content or text, would have to stand here.
use Rattle.std.specs.Prelude.{String}
use Rattle.std.specs.Global.{Global}
use Rattle.pt_name.specs.declared.identifier.Identifier.TheInside.{Inside}

-- a text, and nothing else
abbrev pub identifier_of_text : String Global → Inside
identifier_of_text text = record { text = text }
