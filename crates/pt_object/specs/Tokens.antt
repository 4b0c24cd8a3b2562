-- The tokens of a tree of JSON.
use Rattle.std.specs.Prelude.{List}
use Rattle.json.specs.Token.{Token}
use Rattle.json.specs.Tree.{json_tokens}
use Rattle.serde_json.specs.Data.{Data}
use Rattle.serde_json.specs.Written.{outline}

-- the tokens of a tree, in their order
abbrev pub tokens_of : Data → List Token
tokens_of d = json_tokens (outline d)
