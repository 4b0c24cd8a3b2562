use Rattle.std.proofs.Common.{ap, ◌∙◌}
use Rattle.std.specs.Str.{is_utf8}
use Rattle.std.proofs.lemmas.Str.{IsUtf8-from_is_utf8}
use Rattle.pt_tree.proofs.Texts.{is_utf8-name}
use Rattle.pt_folder.proofs.folder.name_text.Goals as goal

pub from_utf8_unchecked-requires : goal.from_utf8_unchecked-requires
from_utf8_unchecked-requires c = IsUtf8-from_is_utf8 _ (ap is_utf8 c.bytes-bytes.ensures.bytes ∙ is_utf8-name _ c.bytes-bytes.ensures.name)
