-- How a name's text is held: it is short and held in each copy, or shared by all copies of the name.
use Rattle.std.specs.Prelude.{ℕ, List}
use Rattle.pt_tree.specs.Short.{short_bytes}
use Rattle.pt_tree.specs.declared.name.Text.{Text}
use Rattle.pt_tree.specs.declared.name.Text.TheVariants as text

-- the bytes of a name's text, however it is held
abbrev pub text_bytes : Text → List ℕ
text_bytes (text.Short short) = short_bytes short
text_bytes (text.Shared bytes) = bytes.value.items
