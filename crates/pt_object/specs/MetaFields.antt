-- What an inventory's description of its version is made of, field by field.
-- No clause sees these fields: a further one, which might hold content, would have to stand here.
use Rattle.std.specs.Prelude.{Option, String}
use Rattle.std.specs.Global.{Global}
use Rattle.pt_object.specs.declared.meta.Meta.TheInside as meta

-- four texts, one of which may be lacking, and nothing else
abbrev pub meta_of_all : String Global → String Global → Option (String Global) → String Global → meta.Inside
meta_of_all created name address message = record { created = created; name = name; address = address; message = message }
